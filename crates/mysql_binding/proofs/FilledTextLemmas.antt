-- A text of a fixed length that is filled as far as an index.
use Rattle.mysql_value_core.specs.declared.value.ValueRef.{ValueRef}
use Rattle.std.proofs.Common.{◌≡◌, ℕ, ◌+◌, ◌<◌, ◌≤◌, false, List, ◌++◌, length, map, take, drop, get_or, Some, sym, ap, ◌∙◌, subst, arith, take_all}
use Rattle.std.proofs.lemmas.List.{get_or_default, get_or-map, length-map, length-take-le}
use Rattle.mysql_values.specs.declared.value.Value.{Value}
use Rattle.mysql_values.specs.Literal.{is_float}
use Rattle.mysql_named_params.specs.Places.{place_count}
use Rattle.mysql_named_params.specs.FirstPlace.{IsFirstPlace}
use Rattle.mysql_named_params.specs.declared.places.FoundPlace.{FoundPlace}
use Rattle.mysql_named_params.specs.Reading.{OnTokensIn}
use Rattle.mysql_named_params.specs.declared.places.Reading.{Reading}
use Rattle.mysql_values.specs.BorrowedValue.{owned, owned_values}
use Rattle.mysql_binding.specs.LiteralForm.{Literals, LiteralFacts, literal_len, written_literal}
use Rattle.mysql_binding.specs.WrittenText.{IsWrittenText}
use Rattle.mysql_binding.proofs.TextLengthLemmas.{len_at}
use Rattle.mysql_binding.proofs.WrittenTextLemmas.{WrittenSoFar, place_left, value_is_no_float, next_fits, written_more, rest_fits, written_all}

-- the value that is read at an index
pub value_read : (values : List Value) (i : ℕ) (v d : Value) → i < length values → v ≡ get_or values i d → v ≡ get_or values i v
value_read values i v d below is = is ∙ get_or_default values i d v below

-- the owned value of a borrowed one that is read at an index
pub owned_read : (xs : List ValueRef) (i : ℕ) (d : ValueRef) → i < length xs → owned (get_or xs i d) ≡ get_or (owned_values xs) i (owned (get_or xs i d))
owned_read xs i d below =
    ap owned (get_or_default xs i d (get_or xs i d) below) ∙ sym (get_or-map owned xs i (get_or xs i d) (owned (get_or xs i d)) below)

pub owned_below : (xs : List ValueRef) (i : ℕ) → i < length xs → i < length (owned_values xs)
owned_below xs i below = omega (arith, below, length-map xs owned)

pub owned_all : (xs : List ValueRef) (i : ℕ) → length xs ≤ i → length (owned_values xs) ≤ i
owned_all xs i all = omega (arith, all, length-map xs owned)

-- there is a value for each length
pub below_lens : (literal : Literals) (values : List Value) (lens : List ℕ) (i : ℕ) → lens ≡ map (literal_len literal) values → i < length lens → i < length values
below_lens literal values lens i are below = omega (arith, below, ap length are, length-map values (literal_len literal))

pub after_lens : (literal : Literals) (values : List Value) (lens : List ℕ) (i : ℕ) → lens ≡ map (literal_len literal) values → length lens ≤ i → length values ≤ i
after_lens literal values lens i are after = omega (arith, after, ap length are, length-map values (literal_len literal))

-- the text is written up to the index, and has room for the rest
pub record FilledSoFar (reading : Reading) (literal : Literals) (IsKnown : LiteralFacts) (query rest : List ℕ) (values : List Value) (i : ℕ) (text : List ℕ) (at : ℕ) : Type 0 where
  pub so_far : WrittenSoFar reading literal IsKnown query rest values i (take at text) (length text)
  pub in_range : at ≤ length text

module _ (reading : Reading) (literal : Literals) (IsKnown : LiteralFacts) (query rest : List ℕ) (values : List Value) (i : ℕ) (text : List ℕ) (at : ℕ) (s : FilledSoFar reading literal IsKnown query rest values i text at) where
  filled : length (take at text) ≡ at
  filled = length-take-le at text s.in_range

  module _ (below : i < length values) where
    -- as long as values are left, a place is found
    pub fill_place_left : OnTokensIn reading rest (λ us. place_count us ≡ 0) → ⊥
    fill_place_left o = place_left reading literal IsKnown query rest values i (take at text) (length text) s.so_far below o

    module _ (v : Value) (v_is : v ≡ get_or values i v) where
      pub fill_no_float : is_float v ≡ false
      fill_no_float = value_is_no_float reading literal IsKnown query rest values i (take at text) (length text) s.so_far v below v_is

      pub fill_len : (lens : List ℕ) → lens ≡ map (literal_len literal) values →
          get_or lens i 0 ≡ literal_len literal v
      fill_len lens lens_are = len_at literal values lens i 0 v below v_is lens_are

      module _ (found : FoundPlace) (o : OnTokensIn reading rest (λ us. IsFirstPlace us found)) (run : List ℕ) (run_is : run ≡ take found.before rest) where
        both_fit : at + (length run + literal_len literal v) ≤ length text
        both_fit = omega (arith, filled, next_fits reading literal IsKnown query rest values i (take at text) (length text) s.so_far run v found below v_is o run_is)

        pub piece_fits : at + length run ≤ length text
        piece_fits = omega (arith, both_fit)

        module _ (text' : List ℕ) (at' : ℕ) (at'_is : at' ≡ at + length run) (same : length text' ≡ length text) (piece : take at' text' ≡ take at text ++ run) where
          pub literal_fits : (len : ℕ) → len ≡ literal_len literal v → at' + len ≤ length text'
          literal_fits len len_is = omega (arith, both_fit, at'_is, same, len_is)

          pub filled_more : (after text'' : List ℕ) (len at'' : ℕ) →
              after ≡ drop (found.before + found.len) rest → len ≡ literal_len literal v → at'' ≡ at' + len →
              length text'' ≡ length text' → literal v ≡ Some (written_literal literal v) →
              IsKnown v (written_literal literal v) →
              take at'' text'' ≡ take at' text' ++ written_literal literal v →
              FilledSoFar reading literal IsKnown query after values (i + 1) text'' at''
          filled_more after text'' len at'' after_is len_is at''_is same' literal_is known written = record {
            so_far = subst (λ n. WrittenSoFar reading literal IsKnown query after values (i + 1) (take at'' text'') n) (sym (same' ∙ same))
                (written_more reading literal IsKnown query rest values i (take at text) (length text) s.so_far run after (written_literal literal v)
                (take at' text') (take at'' text'') v found below v_is o run_is after_is literal_is known piece written);
            in_range = omega (arith, literal_fits len len_is, at''_is, same');
          }

  -- once all values are written, the rest has exactly its room
  pub last_fits : length values ≤ i → at + length rest ≡ length text
  last_fits done =
      omega (arith, filled, rest_fits reading literal IsKnown query rest values i (take at text) (length text) s.so_far done)

  pub filled_all : length values ≤ i → (text' : List ℕ) (at' : ℕ) → at' ≡ at + length rest →
      length text' ≡ length text → take at' text' ≡ take at text ++ rest →
      OnTokensIn reading query (λ ts. IsWrittenText literal IsKnown ts values text')
  filled_all done text' at' at'_is same written =
      written_all reading literal IsKnown query rest values i (take at text) (length text) s.so_far text' done
      (sym (take_all at' text' (omega (arith, last_fits done, at'_is, same))) ∙ written)
