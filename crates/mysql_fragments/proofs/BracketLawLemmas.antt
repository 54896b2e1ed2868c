-- The place that `first_unbracketed` finds, and those that it passes.
use Rattle.std.specs.Prelude.{Bool}
use Rattle.std.proofs.Common.{◌≡◌, inl, inr, ℕ, ◌+◌, true, false, List, [], ◌∷◌, ◌++◌, length, if◌then◌else◌, Option, Some, None, refl, sym, ap, ◌∙◌, arith, length-append}
use Rattle.std.proofs.lemmas.Bool.{cases_Bool}
use Rattle.mysql_named_params.specs.Places.{IsPlace, place_count}
use Rattle.mysql_named_params.specs.Tokens.{Token, bytes_of, text_of, Name, Mark}
use Rattle.mysql_fragments.specs.declared.brackets.Implicit.TheVariants.{No}
use Rattle.mysql_fragments.specs.Brackets.{Kinds, first_unbracketed, first_unbracketed_from, may_stand, onto}

-- a test that finds nothing held, and nothing came later
passed : {A : Type 0} (b : Bool) (later : Option A) (x : A) →
    (if b then later else Some x) ≡ None → (b ≡ true) × (later ≡ None)
passed true later x e = (refl, e)
passed false later x e = cc

pub record FoundFrom (kinds : Kinds) (place at : ℕ) (before ts : List Token) (p n : ℕ) : Type 0 where
  pub front : List Token
  pub found : Token
  pub back : List Token
  pub split : front ++ found ∷ back ≡ ts
  pub is_place : IsPlace found
  pub number : place + place_count front ≡ p
  pub position : at + length (text_of front) ≡ n
  pub may_not : may_stand (kinds p) (onto front before) back ≡ false

module _ (kinds : Kinds) where
  pub all_pass : (front : List Token) (t : Token) (back : List Token) (place at : ℕ) (before : List Token) →
      first_unbracketed_from kinds place at before (front ++ t ∷ back) ≡ None → IsPlace t →
      may_stand (kinds (place + place_count front)) (onto front before) back ≡ true
  all_pass [] (Name name) back place at before e is =
      let same : place + 0 ≡ place = omega arith in
      ap (λ n. may_stand (kinds n) before back) same ∙ (passed _ _ _ e).0
  all_pass [] Mark back place at before e is =
      let same : place + 0 ≡ place = omega arith in
      ap (λ n. may_stand (kinds n) before back) same ∙ (passed _ _ _ e).0
  all_pass [] t back place at before e is = absurd is
  all_pass (Name name ∷ front) t back place at before e is =
      let same : place + (place_count front + 1) ≡ place + 1 + place_count front = omega arith in
      ap (λ n. may_stand (kinds n) (onto front (Name name ∷ before)) back) same ∙ all_pass front t back (place + 1) _ (Name name ∷ before) (passed _ _ _ e).1 is
  all_pass (Mark ∷ front) t back place at before e is =
      let same : place + (place_count front + 1) ≡ place + 1 + place_count front = omega arith in
      ap (λ n. may_stand (kinds n) (onto front (Mark ∷ before)) back) same ∙ all_pass front t back (place + 1) _ (Mark ∷ before) (passed _ _ _ e).1 is
  all_pass (u ∷ front) t back place at before e is = all_pass front t back place _ (u ∷ before) e is

  -- one token more before those in which a place is found
  one_more : (t : Token) (ts : List Token) (place q at p n : ℕ) (before : List Token) →
      q ≡ place + place_count (t ∷ []) → place_count (t ∷ []) + 0 ≡ place_count (t ∷ []) →
      ((front : List Token) → place_count (t ∷ front) ≡ place_count (t ∷ []) + place_count front) →
      FoundFrom kinds q (at + length (bytes_of t)) (t ∷ before) ts p n →
      FoundFrom kinds place at before (t ∷ ts) p n
  one_more t ts place q at p n before q_is unit counts f = record {
    front = t ∷ f.front;
    found = f.found;
    back = f.back;
    split = ap (λ x. t ∷ x) f.split;
    is_place = f.is_place;
    number = omega (arith, counts f.front, q_is, f.number);
    position = omega (arith, length-append (bytes_of t) (text_of f.front), f.position);
    may_not = f.may_not;
  }

  here : (t : Token) (ts : List Token) (place at p n : ℕ) (before : List Token) → IsPlace t →
      may_stand (kinds place) before ts ≡ false → ◌≡◌ {A = Option (ℕ × ℕ)} (Some (place, at)) (Some (p, n)) →
      FoundFrom kinds place at before (t ∷ ts) p n
  here t ts place at p n before is no_stand e =
      let pair : ◌≡◌ {A = ℕ × ℕ} (place, at) (p, n) = cc in
      let place_is : place ≡ p = ap (λ x. x.0) pair in
      let at_is : at ≡ n = ap (λ x. x.1) pair in
      record {
        front = [];
        found = t;
        back = ts;
        split = refl;
        is_place = is;
        number = omega (arith, place_is);
        position = omega (arith, at_is);
        may_not = ap (λ k. may_stand (kinds k) before ts) (sym place_is) ∙ no_stand;
      }

  pub found_from : (ts : List Token) (place at p n : ℕ) (before : List Token) →
      first_unbracketed_from kinds place at before ts ≡ Some (p, n) →
      FoundFrom kinds place at before ts p n
  found_from [] place at p n before e = cc
  found_from (Name name ∷ ts) place at p n before e =
      elim (cases_Bool (may_stand (kinds place) before ts)) [
        | inl m ↦ one_more (Name name) ts place (place + 1) at p n before (omega arith) (omega arith) (λ front. omega arith)
            (found_from ts (place + 1) _ p n (Name name ∷ before) (sym (ap (λ b. if b then first_unbracketed_from kinds (place + 1) (at + length (bytes_of (Name name))) (Name name ∷ before) ts else Some (place, at)) m) ∙ e))
        | inr m ↦ here (Name name) ts place at p n before tt m (sym (ap (λ b. if b then first_unbracketed_from kinds (place + 1) (at + length (bytes_of (Name name))) (Name name ∷ before) ts else Some (place, at)) m) ∙ e)
      ]
  found_from (Mark ∷ ts) place at p n before e =
      elim (cases_Bool (may_stand (kinds place) before ts)) [
        | inl m ↦ one_more Mark ts place (place + 1) at p n before (omega arith) (omega arith) (λ front. omega arith)
            (found_from ts (place + 1) _ p n (Mark ∷ before) (sym (ap (λ b. if b then first_unbracketed_from kinds (place + 1) (at + length (bytes_of Mark)) (Mark ∷ before) ts else Some (place, at)) m) ∙ e))
        | inr m ↦ here Mark ts place at p n before tt m (sym (ap (λ b. if b then first_unbracketed_from kinds (place + 1) (at + length (bytes_of Mark)) (Mark ∷ before) ts else Some (place, at)) m) ∙ e)
      ]
  found_from (t ∷ ts) place at p n before e =
      one_more t ts place place at p n before (omega arith) (omega arith) (λ front. omega arith) (found_from ts place _ p n (t ∷ before) e)

-- ---- kinds that are the same at each place

module _ (k l : Kinds) (same : (place : ℕ) → k place ≡ l place) where
  pub same_kinds : (ts : List Token) (place at : ℕ) (before : List Token) →
      first_unbracketed_from k place at before ts ≡ first_unbracketed_from l place at before ts
  same_kinds [] place at before = refl
  same_kinds (Name name ∷ ts) place at before =
      ap (λ kind. if may_stand kind before ts then first_unbracketed_from k (place + 1) (at + length (bytes_of (Name name))) (Name name ∷ before) ts else Some (place, at)) (same place)
      ∙ ap (λ later. if may_stand (l place) before ts then later else Some (place, at)) (same_kinds ts (place + 1) (at + length (bytes_of (Name name))) (Name name ∷ before))
  same_kinds (Mark ∷ ts) place at before =
      ap (λ kind. if may_stand kind before ts then first_unbracketed_from k (place + 1) (at + length (bytes_of Mark)) (Mark ∷ before) ts else Some (place, at)) (same place)
      ∙ ap (λ later. if may_stand (l place) before ts then later else Some (place, at)) (same_kinds ts (place + 1) (at + length (bytes_of Mark)) (Mark ∷ before))
  same_kinds (t ∷ ts) place at before = same_kinds ts place (at + length (bytes_of t)) (t ∷ before)

-- without implicit lists and rows each place may have its fragment
all_said : (ts : List Token) (place at : ℕ) (before : List Token) → first_unbracketed_from (λ place. No) place at before ts ≡ None
all_said [] place at before = refl
all_said (Name name ∷ ts) place at before = all_said ts (place + 1) (at + length (bytes_of (Name name))) (Name name ∷ before)
all_said (Mark ∷ ts) place at before = all_said ts (place + 1) (at + length (bytes_of Mark)) (Mark ∷ before)
all_said (t ∷ ts) place at before = all_said ts place (at + length (bytes_of t)) (t ∷ before)

pub none_implicit : (kinds : Kinds) → ((place : ℕ) → kinds place ≡ No) → (ts : List Token) →
    first_unbracketed kinds ts ≡ None
none_implicit kinds none ts = same_kinds kinds (λ place. No) none ts 0 0 [] ∙ all_said ts 0 0 []
