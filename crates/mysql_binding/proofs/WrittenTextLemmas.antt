-- A text that is written as far as a rest of the query.
use Rattle.std.specs.List.{sum, sum_by}
use Rattle.std.proofs.Common.{◌≡◌, ℕ, ◌+◌, ◌<◌, ◌≤◌, false, List, [], ◌∷◌, ◌++◌, length, length-append, map, take, drop, get_or, Some, None, refl, sym, ap, ◌∙◌, subst, arith, append_assoc, append-nil, take_all}
use Rattle.std.proofs.lemmas.List.{take_more, drop_all}
use Rattle.std.proofs.lemmas.List.Sums.{sum-map}
use Rattle.mysql_values.specs.declared.value.Value.{Value}
use Rattle.mysql_values.specs.Literal.{is_float}
use Rattle.mysql_named_params.specs.Tokens.{Token, bytes_of, text_of, Name, Mark}
use Rattle.mysql_named_params.specs.Places.{place_count}
use Rattle.mysql_named_params.specs.FirstPlace.{place_kind, IsFirstPlace}
use Rattle.mysql_named_params.specs.declared.places.FoundPlace.{FoundPlace}
use Rattle.mysql_named_params.specs.declared.places.PlaceKind.{PlaceKind}
use Rattle.mysql_named_params.proofs.TokenRowLemmas.{place_count-append}
use Rattle.mysql_named_params.proofs.FoundPlaceLemmas.{parted_in}
use Rattle.mysql_named_params.specs.Reading.{IsTokensIn, OnTokensIn}
use Rattle.mysql_named_params.specs.declared.places.Reading.{Reading}
use Rattle.mysql_named_params.proofs.ReadingLemmas.{one_reading, reading_text}
use Rattle.mysql_binding.specs.FirstCause.{first_float_from, first_float}
use Rattle.mysql_binding.specs.LiteralForm.{Literals, LiteralFacts, AreWrittenAs, literal_len}
use Rattle.mysql_binding.specs.TextLength.{pieces_len}
use Rattle.mysql_binding.specs.WrittenText.{IsWrittenText}
use Rattle.mysql_binding.proofs.BoundText.{bound}
use Rattle.mysql_binding.proofs.PieceLemmas.{bound_none, joined_text-pieces_from}
use Rattle.mysql_binding.proofs.TextLengthLemmas.{plain_len, plain_len-place, plain_len-no_place, pieces_len-plain_len, lens_left, literal_len-literal}
use Rattle.mysql_binding.proofs.ValueLiteralLemmas.{AreWrittenAs-push, as_many_texts, no_float}

-- The literals of the first `i` values are in the text. Whatever literals are put in the places
-- that are left, they will follow.
pub record WrittenSoFar (reading : Reading) (literal : Literals) (IsKnown : LiteralFacts) (query rest : List ℕ) (values : List Value) (i : ℕ) (text : List ℕ) (len : ℕ) : Type 0 where
  pub all : List Token
  pub tokens : IsTokensIn reading query all
  pub left : List Token
  pub rest_tokens : IsTokensIn reading rest left
  pub places_left : i + place_count left ≡ length values
  pub room : length values ≡ place_count all
  pub literals : List (List ℕ)
  pub written : AreWrittenAs literal IsKnown (take i values) literals
  pub no_float_left : first_float_from i (drop i values) ≡ None
  pub text_is : (more : List (List ℕ)) → text ++ bound left more ≡ bound all (literals ++ more)
  -- the whole text, with the rest, has this length
  pub len_is : length text + (plain_len left + sum_by (literal_len literal) (drop i values)) ≡ len

pub written_none : (reading : Reading) (literal : Literals) (IsKnown : LiteralFacts) (query : List ℕ) (values : List Value) (lens text : List ℕ) (len : ℕ) →
    OnTokensIn reading query (λ ts. length values ≡ place_count ts) → first_float values ≡ None →
    lens ≡ map (literal_len literal) values → OnTokensIn reading query (λ ts. len ≡ pieces_len ts + sum lens) →
    text ≡ [] → WrittenSoFar reading literal IsKnown query query values 0 text len
written_none reading literal IsKnown query values lens text len o no_floats lens_are whole nil = record {
  all = o.0;
  tokens = o.1;
  left = o.0;
  rest_tokens = o.1;
  places_left = omega (arith, o.2);
  room = o.2;
  literals = [];
  written = tt;
  no_float_left = no_floats;
  text_is = λ more. ap (λ x. x ++ bound o.0 more) nil;
  len_is =
      let same : whole.0 ≡ o.0 = one_reading reading query whole.0 o.0 whole.1 o.1 in
      let all : len ≡ pieces_len o.0 + sum lens = subst (λ ts. len ≡ pieces_len ts + sum lens) same whole.2 in
      let pieces : pieces_len o.0 ≡ plain_len o.0 = pieces_len-plain_len o.0 in
      let sums : sum lens ≡ sum_by (literal_len literal) values = ap sum lens_are ∙ sum-map (literal_len literal) values in
      omega (arith, all, pieces, sums, ap length nil);
}

-- ---- the first place of tokens that are parted_in there

pub bound-place : (front : List Token) (t : Token) (k : PlaceKind) (back : List Token) (l : List ℕ) (ls : List (List ℕ)) →
    place_count front ≡ 0 → place_kind t ≡ Some k →
    bound (front ++ t ∷ back) (l ∷ ls) ≡ text_of front ++ (l ++ bound back ls)
bound-place [] (Name name) k back l ls e is = refl
bound-place [] Mark k back l ls e is = refl
bound-place [] t k back l ls e is = cc
bound-place (Name name ∷ front) t k back l ls e is = absurd (omega arith)
bound-place (Mark ∷ front) t k back l ls e is = absurd (omega arith)
bound-place (u ∷ front) t k back l ls e is = ap (λ x. bytes_of u ++ x) (bound-place front t k back l ls e is) ∙ sym (append_assoc (bytes_of u) (text_of front) _)

pub place_count-place : (t : Token) (k : PlaceKind) (back : List Token) → place_kind t ≡ Some k →
    place_count (t ∷ back) ≡ place_count back + 1
place_count-place (Name name) k back e = refl
place_count-place Mark k back e = refl
place_count-place t k back e = cc

module _ (reading : Reading) (literal : Literals) (IsKnown : LiteralFacts) (query rest : List ℕ) (values : List Value) (i : ℕ) (text : List ℕ) (len : ℕ) (s : WrittenSoFar reading literal IsKnown query rest values i text len) where
  -- as long as values are left, a place is found
  pub place_left : i < length values → OnTokensIn reading rest (λ us. place_count us ≡ 0) → ⊥
  place_left below o =
      let same : o.0 ≡ s.left = one_reading reading rest o.0 s.left o.1 s.rest_tokens in
      omega (arith, below, s.places_left, ap place_count same, o.2)

  pub value_is_no_float : (v : Value) → i < length values → v ≡ get_or values i v → is_float v ≡ false
  value_is_no_float v below v_is = (no_float values i v below v_is s.no_float_left).0

  -- the piece before the next place, and the literal of its value, are within the whole text
  pub next_fits : (run : List ℕ) (v : Value) (found : FoundPlace) → i < length values → v ≡ get_or values i v →
      OnTokensIn reading rest (λ us. IsFirstPlace us found) → run ≡ take found.before rest →
      length text + (length run + literal_len literal v) ≤ len
  next_fits run v found below v_is o run_is =
      let p = parted_in reading rest s.left found s.rest_tokens o in
      let front : length (text_of p.front) ≡ length run = ap length p.front_text ∙ sym (ap length run_is) in
      let plain : plain_len s.left ≡ length (text_of p.front) + plain_len p.back = ap plain_len p.tokens_are ∙ plain_len-place p.front p.place found.kind p.back p.no_place p.kind_is in
      omega (arith, s.len_is, front, plain, lens_left literal values i v below v_is)

  -- one value more: the bytes before its place, and its literal
  pub written_more : (run after sql text' text'' : List ℕ) (v : Value) (found : FoundPlace) →
      i < length values → v ≡ get_or values i v → OnTokensIn reading rest (λ us. IsFirstPlace us found) →
      run ≡ take found.before rest → after ≡ drop (found.before + found.len) rest → literal v ≡ Some sql → IsKnown v sql →
      text' ≡ text ++ run → text'' ≡ text' ++ sql →
      WrittenSoFar reading literal IsKnown query after values (i + 1) text'' len
  written_more run after sql text' text'' v found below v_is o run_is after_is literal_is known text_more text_more' =
      let p = parted_in reading rest s.left found s.rest_tokens o in
      let taken : take (i + 1) values ≡ take i values ++ v ∷ [] = take_more values i v below ∙ ap (λ x. take i values ++ x ∷ []) (sym v_is) in
      let run_text : text_of p.front ≡ run = p.front_text ∙ sym run_is in
      let places : place_count s.left ≡ place_count p.back + 1 = ap place_count p.tokens_are ∙ (place_count-append p.front (p.place ∷ p.back) ∙ omega (arith, p.no_place, place_count-place p.place found.kind p.back p.kind_is)) in
      record {
        all = s.all;
        tokens = s.tokens;
        left = p.back;
        rest_tokens = subst (λ x. IsTokensIn reading x p.back) (sym after_is) p.rest_tokens;
        places_left = omega (arith, s.places_left, places);
        room = s.room;
        literals = s.literals ++ sql ∷ [];
        written = subst (λ x. AreWrittenAs literal IsKnown x (s.literals ++ sql ∷ [])) (sym taken) (AreWrittenAs-push literal IsKnown (take i values) s.literals v sql s.written literal_is known);
        no_float_left = (no_float values i v below v_is s.no_float_left).1;
        text_is = λ more.
            ap (λ x. x ++ bound p.back more) (text_more' ∙ ap (λ x. x ++ sql) text_more)
            ∙ (append_assoc (text ++ run) sql (bound p.back more)
            ∙ (append_assoc text run (sql ++ bound p.back more)
            ∙ (ap (λ x. text ++ (x ++ (sql ++ bound p.back more))) (sym run_text)
            ∙ (ap (λ x. text ++ x) (sym (ap (λ x. bound x (sql ∷ more)) p.tokens_are ∙ bound-place p.front p.place found.kind p.back sql more p.no_place p.kind_is))
            ∙ (s.text_is (sql ∷ more) ∙ ap (bound s.all) (sym (append_assoc s.literals (sql ∷ []) more)))))));
        len_is =
            let plain : plain_len s.left ≡ length (text_of p.front) + plain_len p.back = ap plain_len p.tokens_are ∙ plain_len-place p.front p.place found.kind p.back p.no_place p.kind_is in
            omega (
              arith,
              s.len_is,
              plain,
              ap length run_text,
              lens_left literal values i v below v_is,
              literal_len-literal literal v sql literal_is,
              ap length text_more,
              length-append text run,
              ap length text_more',
              length-append text' sql,
            );
      }

  -- once all values are written, the rest of the query is the missing part of the text
  pub rest_fits : length values ≤ i → length text + length rest ≡ len
  rest_fits done =
      let none : place_count s.left ≡ 0 = omega (arith, s.places_left, done) in
      let plain : plain_len s.left ≡ length rest = plain_len-no_place s.left none ∙ ap length (reading_text reading rest s.left s.rest_tokens) in
      let no_lens : sum_by (literal_len literal) (drop i values) ≡ 0 = ap (sum_by (literal_len literal)) (drop_all i values done) in
      omega (arith, s.len_is, plain, no_lens)

  -- once all values are written, the rest follows as it is
  pub written_all : (text' : List ℕ) → length values ≤ i → text' ≡ text ++ rest →
      OnTokensIn reading query (λ ts. IsWrittenText literal IsKnown ts values text')
  written_all text' done text_more =
      let all_taken : take i values ≡ values = take_all i values done in
      let none : place_count s.left ≡ 0 = omega (arith, s.places_left, done) in
      let rest_is : rest ≡ bound s.left [] = sym (reading_text reading rest s.left s.rest_tokens) ∙ sym (bound_none s.left none) in
      let text_is : text' ≡ bound s.all s.literals = text_more ∙ (ap (λ x. text ++ x) rest_is ∙ (s.text_is [] ∙ ap (bound s.all) (append-nil s.literals))) in
      let written : AreWrittenAs literal IsKnown values s.literals = subst (λ x. AreWrittenAs literal IsKnown x s.literals) all_taken s.written in (
        s.all,
        s.tokens,
        record {
          literals = s.literals;
          written = written;
          text_is = joined_text-pieces_from [] s.all s.literals (as_many_texts literal IsKnown values s.literals written ∙ s.room) ∙ ap Some (sym text_is);
        },
      )
