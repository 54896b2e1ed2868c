-- The tokens of a text around its first place: those before it, the place itself, and those after
-- it.
use Rattle.std.specs.Prelude.{Bool}
use Rattle.std.proofs.Common.{◌≡◌, ℕ, ◌+◌, ◌<◌, ◌≤◌, List, [], ◌∷◌, ◌++◌, length, take, drop, Some, refl, sym, ap, ◌∙◌, subst, arith, take_at, drop_at, length-append}
use Rattle.std.proofs.lemmas.List.{nil_from_length, drop-drop}
use Rattle.mysql_named_params.specs.Tokens.{Token, IsTokens, OnTokens, bytes_of, text_of, Name, Mark}
use Rattle.mysql_named_params.specs.Places.{names, marks, place_count}
use Rattle.mysql_named_params.specs.FirstPlace.{place_kind, IsFirstPlace}
use Rattle.mysql_named_params.specs.Reading.{IsTokensWith, IsTokensIn, OnTokensIn, grammar_reading}
use Rattle.mysql_named_params.specs.declared.places.FoundPlace.{FoundPlace}
use Rattle.mysql_named_params.specs.declared.places.PlaceKind.TheVariants as kind
use Rattle.mysql_named_params.specs.declared.places.Reading.{Reading}
use Rattle.mysql_named_params.proofs.ReadingLemmas.{one_reading, reading_text, tokens_after_others, tokens_after_first}
use Rattle.mysql_named_params.proofs.TokenRowLemmas.{text_of-append, names-append, marks-append, place_count-sum}
use Rattle.mysql_named_params.proofs.CutLemmas.{token_length}

-- the tokens of the text in a reading, parted at the place
pub record IsPartedIn (reading : Reading) (text : List ℕ) (ts : List Token) (found : FoundPlace) : Type 0 where
  pub front : List Token
  pub place : Token
  pub back : List Token
  pub tokens_are : ts ≡ front ++ place ∷ back
  pub no_place : place_count front ≡ 0
  pub kind_is : place_kind place ≡ Some found.kind
  pub front_text : text_of front ≡ take found.before text
  pub place_bytes : bytes_of place ≡ take found.len (drop found.before text)
  -- itself and the tokens after it are those of the text from it on
  pub place_tokens : IsTokensIn reading (drop found.before text) (place ∷ back)
  -- the tokens after it are those of the rest
  pub rest_tokens : IsTokensIn reading (drop (found.before + found.len) text) back
  pub in_range : found.before + found.len ≤ length text
  pub has_length : 0 < found.len

pub parted_in : (reading : Reading) (text : List ℕ) (ts : List Token) (found : FoundPlace) →
    IsTokensIn reading text ts → OnTokensIn reading text (λ us. IsFirstPlace us found) →
    IsPartedIn reading text ts found
parted_in reading text ts found is o =
    let mode = reading.no_backslash_escape in
    let wide = reading.wide_names in
    let p = o.2 in
    let same : o.0 ≡ ts = one_reading reading text o.0 ts o.1 is in
    let tokens_are : ts ≡ p.front ++ p.place ∷ p.back = sym same ∙ sym p.split in
    let whole : text ≡ text_of p.front ++ (bytes_of p.place ++ text_of p.back) = sym (reading_text reading text ts is) ∙ (ap text_of tokens_are ∙ text_of-append p.front (p.place ∷ p.back)) in
    let from_place : drop found.before text ≡ bytes_of p.place ++ text_of p.back = ap (drop found.before) whole ∙ drop_at (text_of p.front) _ found.before p.before_is in
    let from_place_tokens : IsTokensWith wide mode (text_of (p.place ∷ p.back)) (p.place ∷ p.back) = tokens_after_others wide mode text p.front (p.place ∷ p.back) p.is_first (subst (IsTokensWith wide mode text) tokens_are is) in
    let from_back : drop (found.before + found.len) text ≡ text_of p.back = sym (drop-drop found.len found.before text) ∙ (ap (drop found.len) from_place ∙ drop_at (bytes_of p.place) _ found.len p.len_is) in
    record {
      front = p.front;
      place = p.place;
      back = p.back;
      tokens_are = tokens_are;
      no_place = p.is_first;
      kind_is = p.kind_is;
      front_text = sym (ap (take found.before) whole ∙ take_at (text_of p.front) _ found.before p.before_is);
      place_bytes = sym (ap (take found.len) from_place ∙ take_at (bytes_of p.place) _ found.len p.len_is);
      place_tokens = subst (λ x. IsTokensWith wide mode x (p.place ∷ p.back)) (sym from_place) from_place_tokens;
      rest_tokens = subst (λ x. IsTokensWith wide mode x p.back) (sym from_back) (tokens_after_first wide mode _ p.place p.back from_place_tokens);
      in_range = omega (arith, ap length whole, length-append (text_of p.front) (bytes_of p.place ++ text_of p.back), length-append (bytes_of p.place) (text_of p.back), p.before_is, p.len_is);
      has_length = omega (arith, p.len_is, token_length p.place);
    }

-- the place has a byte, and ends in the text
pub found_in_range_in : (reading : Reading) (text : List ℕ) (found : FoundPlace) →
    OnTokensIn reading text (λ us. IsFirstPlace us found) →
    (0 < found.len) × (found.before + found.len ≤ length text)
found_in_range_in reading text found o =
    let p = parted_in reading text o.0 found o.1 o in
    (p.has_length, p.in_range)

-- the same of the tokens of the grammar
abbrev pub IsPartedAt : Bool → List ℕ → List Token → FoundPlace → Type 0
IsPartedAt mode = IsPartedIn (grammar_reading mode)

pub parted : (mode : Bool) (text : List ℕ) (ts : List Token) (found : FoundPlace) →
    IsTokens mode text ts → OnTokens mode text (λ us. IsFirstPlace us found) →
    IsPartedAt mode text ts found
parted mode = parted_in (grammar_reading mode)

-- ---- the names and marks of tokens that are parted at their first place

pub names-no_place : (front : List Token) → place_count front ≡ 0 → names front ≡ []
names-no_place front e = nil_from_length (names front) (omega (arith, place_count-sum front, e))

module _ (front : List Token) (place : Token) (back : List Token) (no_place : place_count front ≡ 0) where
  pub names_after : names (front ++ place ∷ back) ≡ names (place ∷ back)
  names_after = names-append front (place ∷ back) ∙ ap (λ x. x ++ names (place ∷ back)) (names-no_place front no_place)

  pub marks_after : marks (front ++ place ∷ back) ≡ marks (place ∷ back)
  marks_after = omega (arith, marks-append front (place ∷ back), place_count-sum front, no_place)

  pub names_at_name : place_kind place ≡ Some kind.Name →
      names (front ++ place ∷ back) ≡ drop 1 (bytes_of place) ∷ names back
  names_at_name e = names_after ∙ one place e
    where
      one : (t : Token) → place_kind t ≡ Some kind.Name →
          names (t ∷ back) ≡ drop 1 (bytes_of t) ∷ names back
      one (Name name) e = refl
      one Mark e = cc
      one t e = cc

  pub marks_at_name : place_kind place ≡ Some kind.Name →
      marks (front ++ place ∷ back) ≡ marks back
  marks_at_name e = marks_after ∙ one place e
    where
      one : (t : Token) → place_kind t ≡ Some kind.Name → marks (t ∷ back) ≡ marks back
      one (Name name) e = refl
      one Mark e = cc
      one t e = cc

  pub names_at_mark : place_kind place ≡ Some kind.Mark →
      names (front ++ place ∷ back) ≡ names back
  names_at_mark e = names_after ∙ one place e
    where
      one : (t : Token) → place_kind t ≡ Some kind.Mark → names (t ∷ back) ≡ names back
      one (Name name) e = cc
      one Mark e = refl
      one t e = cc

  pub marks_at_mark : place_kind place ≡ Some kind.Mark →
      marks (front ++ place ∷ back) ≡ marks back + 1
  marks_at_mark e = marks_after ∙ one place e
    where
      one : (t : Token) → place_kind t ≡ Some kind.Mark → marks (t ∷ back) ≡ marks back + 1
      one (Name name) e = cc
      one Mark e = refl
      one t e = cc
