-- The places of a query that are searched for a name, and those that are left.
use Rattle.std.specs.List.{Contains}
use Rattle.std.proofs.Common.{◌≡◌, inl, inr, ℕ, zero, suc, ◌+◌, ◌-◌, ◌≤◌, List, [], ◌∷◌, ◌++◌, length, take, drop, Some, refl, sym, ap, ◌∙◌, subst, arith, append_assoc, append-nil, length-drop, length-append}
use Rattle.std.proofs.lemmas.List.{length-take-le}
use Rattle.std.proofs.lemmas.List.Elements.{Contains-append_cases}
use Rattle.mysql_named_params.specs.Tokens.{Token, bytes_of, text_of, Name, Mark}
use Rattle.mysql_named_params.specs.Places.{names, place_count}
use Rattle.mysql_named_params.specs.FirstPlace.{place_kind, IsFirstPlace}
use Rattle.mysql_named_params.specs.declared.places.FoundPlace.{FoundPlace}
use Rattle.mysql_named_params.specs.declared.places.PlaceKind.{PlaceKind}
use Rattle.mysql_named_params.specs.declared.places.PlaceKind.TheVariants as kind
use Rattle.mysql_named_params.proofs.TokenRowLemmas.{text_of-append, names-append, place_count-append}
use Rattle.mysql_named_params.proofs.FoundPlaceLemmas.{IsPartedIn, parted_in, names-no_place}
use Rattle.mysql_named_params.specs.Reading.{IsTokensIn, OnTokensIn}
use Rattle.mysql_named_params.specs.declared.places.Reading.{Reading}
use Rattle.mysql_named_params.proofs.ReadingLemmas.{one_reading, reading_exists}
use Rattle.mysql_flat_params.specs.NamePlace.{IsFirstOfName}

-- the tokens before the bytes that are left don't have the name
pub record SearchedSoFar (reading : Reading) (query rest name : List ℕ) (place : ℕ) : Type 0 where
  pub all : List Token
  pub tokens : IsTokensIn reading query all
  pub front : List Token
  pub left : List Token
  pub split : front ++ left ≡ all
  pub rest_tokens : IsTokensIn reading rest left
  pub without : Contains (names front) name → ⊥
  pub number : place_count front ≡ place
  pub text : length (text_of front) + length rest ≡ length query
  -- each place has a byte
  pub room : place + length rest ≤ length query

nothing_in : {X : Type 0} (x : X) → Contains [] x → ⊥
nothing_in x c = omega (arith, c.1)

pub searched_none : (reading : Reading) (query name : List ℕ) → SearchedSoFar reading query query name 0
searched_none reading query name =
    let ts = reading_exists reading query in
    record { all = ts.0; tokens = ts.1; front = []; left = ts.0; split = refl; rest_tokens = ts.1; without = nothing_in name; number = refl; text = omega arith; room = omega arith }

one_place : (t : Token) (k : PlaceKind) → place_kind t ≡ Some k → place_count (t ∷ []) ≡ 1
one_place (Name name) k e = refl
one_place Mark k e = refl
one_place t k e = cc

some_same : {a b : PlaceKind} → Some a ≡ Some b → a ≡ b
some_same e = cc

-- a name is its bytes without the colon
name_is : (t : Token) → place_kind t ≡ Some kind.Name → t ≡ Name (drop 1 (bytes_of t))
name_is (Name name) e = refl
name_is Mark e = cc
name_is t e = cc

one_element : {X : Type 0} (x y : X) → Contains (x ∷ []) y → x ≡ y
one_element x y (zero, h, e) = e
one_element x y (suc k, h, e) = absurd (omega (arith, h))

-- a place that is not this name adds none
other_name : (t : Token) (name : List ℕ) → ((place_kind t ≡ Some kind.Name) × (drop 1 (bytes_of t) ≡ name) → ⊥) → Contains (names (t ∷ [])) name → ⊥
other_name (Name n) name other c = other (refl, one_element n name c)
other_name t name other c = nothing_in name c

-- an element of a sum of lists is one of either
neither : (xs ys : List (List ℕ)) (name : List ℕ) → (Contains xs name → ⊥) → (Contains ys name → ⊥) → Contains (xs ++ ys) name → ⊥
neither xs ys name no_x no_y c = elim (Contains-append_cases xs ys name c) [ inl x ↦ no_x x | inr y ↦ no_y y ]

module _ (reading : Reading) (query rest name : List ℕ) (place : ℕ) (s : SearchedSoFar reading query rest name place) where
  -- if no place is left, the query doesn't have the name
  pub searched_all : OnTokensIn reading rest (λ us. place_count us ≡ 0) →
      OnTokensIn reading query (λ ts. Contains (names ts) name → ⊥)
  searched_all o =
      let same : o.0 ≡ s.left = one_reading reading rest o.0 s.left o.1 s.rest_tokens in
      let none : names s.left ≡ [] = names-no_place s.left (sym (ap place_count same) ∙ o.2) in
      let front_alone : names s.all ≡ names s.front = ap names (sym s.split) ∙ (names-append s.front s.left ∙ (ap (λ x. names s.front ++ x) none ∙ append-nil (names s.front))) in
      (s.all, s.tokens, λ c. s.without (subst (λ x. Contains x name) front_alone c))

  module _ (found : FoundPlace) (o : OnTokensIn reading rest (λ us. IsFirstPlace us found)) (bytes after : List ℕ)
      (bytes_are : bytes ≡ take found.len (drop found.before rest)) (after_is : after ≡ drop (found.before + found.len) rest) where
    abbrev p : IsPartedIn reading rest s.left found
    p = parted_in reading rest s.left found s.rest_tokens o

    abbrev before : List Token
    before = s.front ++ p.front

    place_bytes : bytes ≡ bytes_of p.place
    place_bytes = bytes_are ∙ sym p.place_bytes

    place_length : length (bytes_of p.place) ≡ found.len
    place_length = omega (arith, ap length p.place_bytes, length-take-le found.len (drop found.before rest) (omega (arith, length-drop found.before rest, p.in_range)))

    split : before ++ p.place ∷ p.back ≡ s.all
    split = append_assoc s.front p.front (p.place ∷ p.back) ∙ (ap (λ x. s.front ++ x) (sym p.tokens_are) ∙ s.split)

    after_length : length after + (found.before + found.len) ≡ length rest
    after_length = omega (arith, ap length after_is, length-drop (found.before + found.len) rest, p.in_range)

    before_text : length (text_of before) + length rest ≡ length query + found.before
    before_text = omega (arith, ap length (text_of-append s.front p.front), length-append (text_of s.front) (text_of p.front), ap length p.front_text, length-take-le found.before rest (omega (arith, p.in_range)), s.text)

    without : Contains (names before) name → ⊥
    without = subst (λ x. Contains x name → ⊥)
        (sym (names-append s.front p.front ∙ (ap (λ x. names s.front ++ x) (names-no_place p.front p.no_place) ∙ append-nil (names s.front))))
        s.without

    number : place_count before ≡ place
    number = omega (arith, place_count-append s.front p.front, p.no_place, s.number)

    -- this place is the name
    pub searched_found : (position : ℕ) → found.kind ≡ kind.Name → drop 1 bytes ≡ name → position ≡ length query - length rest + found.before + 1 →
        OnTokensIn reading query (λ ts. IsFirstOfName ts name place position)
    searched_found position is_name same position_is =
        let this : p.place ≡ Name name = name_is p.place (p.kind_is ∙ ap Some is_name) ∙ ap (λ x. Name x) (ap (drop 1) (sym place_bytes) ∙ same) in (
          s.all,
          s.tokens,
          record {
            front = before;
            back = p.back;
            split = ap (λ t. before ++ t ∷ p.back) (sym this) ∙ split;
            is_first = without;
            number = number;
            position_is = omega (arith, s.text, before_text, position_is);
          },
        )

    -- this place is not
    pub searched_more : ((found.kind ≡ kind.Name) × (drop 1 bytes ≡ name) → ⊥) → SearchedSoFar reading query after name (place + 1)
    searched_more other = record {
      all = s.all;
      tokens = s.tokens;
      front = before ++ p.place ∷ [];
      left = p.back;
      split = append_assoc before (p.place ∷ []) p.back ∙ split;
      rest_tokens = subst (λ x. IsTokensIn reading x p.back) (sym after_is) p.rest_tokens;
      without = subst (λ x. Contains x name → ⊥) (sym (names-append before (p.place ∷ [])))
          (neither (names before) (names (p.place ∷ [])) name without
          (other_name p.place name (λ h. other (some_same (sym p.kind_is ∙ h.0), ap (drop 1) place_bytes ∙ h.1))));
      number = omega (arith, place_count-append before (p.place ∷ []), number, one_place p.place found.kind p.kind_is);
      text = omega (arith, before_text, after_length, ap length (text_of-append before (p.place ∷ [])), length-append (text_of before) (text_of (p.place ∷ [])), ap length (append-nil (bytes_of p.place)), place_length);
      room = omega (arith, s.room, after_length, p.has_length);
    }
