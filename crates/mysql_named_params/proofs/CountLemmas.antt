-- The places that are counted before a rest.
use Rattle.std.specs.Prelude.{Bool}
use Rattle.std.proofs.Common.{◌≡◌, ℕ, ◌+◌, ◌≤◌, List, length, Some, sym, ap, ◌∙◌, arith, length-drop}
use Rattle.std.proofs.lemmas.List.{take_rest}
use Rattle.mysql_named_params.specs.Tokens.{Token, IsTokens, OnTokens}
use Rattle.mysql_named_params.specs.Places.{names, marks, place_count}
use Rattle.mysql_named_params.specs.FirstPlace.{IsFirstPlace}
use Rattle.mysql_named_params.specs.declared.places.FoundPlace.{FoundPlace}
use Rattle.mysql_named_params.specs.declared.places.PlaceKind.TheVariants as kind
use Rattle.mysql_named_params.proofs.TokenEndLemmas.{slice_from}
use Rattle.mysql_named_params.proofs.TokenListLemmas.{one_token_list}
use Rattle.mysql_named_params.proofs.TokensExistLemmas.{tokens_exist}
use Rattle.mysql_named_params.proofs.TokenRowLemmas.{place_count-sum}
use Rattle.mysql_named_params.proofs.FoundPlaceLemmas.{parted, names_at_name, marks_at_name, names_at_mark, marks_at_mark}

-- the names and marks so far, with those that are left, are those of the query
pub record CountedSoFar (mode : Bool) (query rest : List ℕ) (name_count mark_count : ℕ) : Type 0 where
  pub all : List Token
  pub tokens : IsTokens mode query all
  pub left : List Token
  pub rest_tokens : IsTokens mode rest left
  pub names_are : name_count + length (names left) ≡ length (names all)
  pub marks_are : mark_count + marks left ≡ marks all
  -- each place has a byte
  pub room : name_count + mark_count + length rest ≤ length query

pub counted_none : (mode : Bool) (query : List ℕ) → CountedSoFar mode query query 0 0
counted_none mode query =
    let ts = tokens_exist mode query in
    record { all = ts.0; tokens = ts.1; left = ts.0; rest_tokens = ts.1; names_are = omega arith; marks_are = omega arith; room = omega arith }

module _ (mode : Bool) (query rest : List ℕ) (i j k l : ℕ) (found : FoundPlace) (c : CountedSoFar mode query rest i j) (o : OnTokens mode rest (λ us. IsFirstPlace us found)) where
  pub counted_name : found.kind ≡ kind.Name → k ≡ i + 1 → l ≡ j →
      CountedSoFar mode query (slice_from (found.before + found.len) rest) k l
  counted_name e ek el =
      let p = parted mode rest c.left found c.rest_tokens o in
      let is = p.kind_is ∙ ap Some e in
      rw take_rest (record {
        all = c.all;
        tokens = c.tokens;
        left = p.back;
        rest_tokens = p.rest_tokens;
        names_are = omega (arith, c.names_are, ek, ap (λ x. length (names x)) p.tokens_are, ap length (names_at_name p.front p.place p.back p.no_place is));
        marks_are = omega (arith, c.marks_are, el, ap marks p.tokens_are, marks_at_name p.front p.place p.back p.no_place is);
        room = omega (arith, c.room, ek, el, p.has_length, p.in_range, length-drop (found.before + found.len) rest);
      })

  pub counted_mark : found.kind ≡ kind.Mark → k ≡ i → l ≡ j + 1 →
      CountedSoFar mode query (slice_from (found.before + found.len) rest) k l
  counted_mark e ek el =
      let p = parted mode rest c.left found c.rest_tokens o in
      let is = p.kind_is ∙ ap Some e in
      rw take_rest (record {
        all = c.all;
        tokens = c.tokens;
        left = p.back;
        rest_tokens = p.rest_tokens;
        names_are = omega (arith, c.names_are, ek, ap (λ x. length (names x)) p.tokens_are, ap length (names_at_mark p.front p.place p.back p.no_place is));
        marks_are = omega (arith, c.marks_are, el, ap marks p.tokens_are, marks_at_mark p.front p.place p.back p.no_place is);
        room = omega (arith, c.room, ek, el, p.has_length, p.in_range, length-drop (found.before + found.len) rest);
      })

-- if no place is left, all are counted
pub counted_all : (mode : Bool) (query rest : List ℕ) (i j : ℕ) → CountedSoFar mode query rest i j →
    OnTokens mode rest (λ us. place_count us ≡ 0) →
    OnTokens mode query (λ ts. (i ≡ length (names ts)) × (j ≡ marks ts))
counted_all mode query rest i j c o =
    let same : o.0 ≡ c.left = one_token_list mode rest o.0 c.left o.1 c.rest_tokens in
    let none : place_count c.left ≡ 0 = sym (ap place_count same) ∙ o.2 in
    (c.all, c.tokens, (omega (arith, c.names_are, none, place_count-sum c.left), omega (arith, c.marks_are, none, place_count-sum c.left)))
