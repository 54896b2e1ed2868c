-- The last byte of a text, and the position of the first place that doesn't stand alone.
use Rattle.std.proofs.Common.{◌≡◌, ◌⊎◌, inl, inr, Bool, true, false, ℕ, suc, ◌+◌, ◌-◌, ◌<◌, List, [], ◌∷◌, ◌++◌, length, refl, ap, ◌∙◌, arith, subst, Some, if◌then◌else◌, get_or, Option, add-one, length-append}
use Rattle.std.specs.Prelude.{slice_get}
use Rattle.mysql_named_params.specs.Positions.{positions, positions_from}
use Rattle.mysql_named_params.specs.Tokens.{Token, bytes_of, text_of, Name, Mark}
use Rattle.mysql_binding.specs.StandsAlone.{first_not_alone, first_not_alone_from, none_or_last, stands_alone}

-- the last byte of a text
pub last_stands : (test : ℕ → Bool) (xs : List ℕ) (b : ℕ) → b ≡ get_or xs (length xs - 1) b →
    0 < length xs → test b ≡ none_or_last test xs
last_stands test [] b e h = absurd (omega arith)
last_stands test (x ∷ []) b e h = ap test e
last_stands test (x ∷ y ∷ xs) b e h =
    let n : length (x ∷ y ∷ xs) - 1 ≡ suc (length (y ∷ xs) - 1) = omega arith in
    last_stands test (y ∷ xs) b (subst (λ i. b ≡ get_or (x ∷ y ∷ xs) i b) n e) (omega arith)

-- ---- the position of the place that is found

pub choice : {A : Type 0} (b : Bool) (x y : Option A) (r : Option A) →
    (if b then x else y) ≡ r → ((b ≡ true) × (x ≡ r)) ⊎ ((b ≡ false) × (y ≡ r))
choice true x y r e = inl (refl, e)
choice false x y r e = inr (refl, e)

-- the place of this number is one after the place before the tokens, at its position
abbrev IsAt : ℕ → List ℕ → ℕ → ℕ → Type 0
IsAt place positions number at = (n : ℕ) × (number ≡ place + n) × (slice_get positions n ≡ Some at)

found_here : (place number at : ℕ) (before : List ℕ) (rest : List ℕ) →
    ◌≡◌ {A = Option (ℕ × ℕ)} (Some (place, length before)) (Some (number, at)) →
    IsAt place (length before ∷ rest) number at
found_here place number at before rest e =
    let pair : ◌≡◌ {A = ℕ × ℕ} (place, length before) (number, at) = cc in
    let place_is : place ≡ number = ap (λ (p : ℕ × ℕ). p.0) pair in
    let at_is : length before ≡ at = ap (λ (p : ℕ × ℕ). p.1) pair in
    (0, omega (arith, place_is), ap Some at_is)

found_behind : (place number at first : ℕ) (rest : List ℕ) → IsAt (place + 1) rest number at →
    IsAt place (first ∷ rest) number at
found_behind place number at first rest h = (h.0 + 1, omega (arith, h.1), rw add-one h.2)

found_after : (place number at : ℕ) (before bytes : List ℕ) (ts : List Token) →
    IsAt place (positions_from (length (before ++ bytes)) ts) number at →
    IsAt place (positions_from (length before + length bytes) ts) number at
found_after place number at before bytes ts h =
    subst (λ n. IsAt place (positions_from n ts) number at) (length-append before bytes) h

pub found_at : (ts : List Token) (place number at : ℕ) (before : List ℕ) →
    ◌≡◌ {A = Option (ℕ × ℕ)} (first_not_alone_from place before ts) (Some (number, at)) →
    IsAt place (positions_from (length before) ts) number at
found_at [] place number at before e = cc
found_at (Name name ∷ ts) place number at before e =
    elim (choice (stands_alone before (text_of ts)) _ _ _ e) [
      | inl h ↦ found_behind place number at _ _ (found_after (place + 1) number at before (bytes_of (Name name)) ts (found_at ts (place + 1) number at (before ++ bytes_of (Name name)) h.1))
      | inr h ↦ found_here place number at before _ h.1
    ]
found_at (Mark ∷ ts) place number at before e =
    elim (choice (stands_alone before (text_of ts)) _ _ _ e) [
      | inl h ↦ found_behind place number at _ _ (found_after (place + 1) number at before (bytes_of Mark) ts (found_at ts (place + 1) number at (before ++ bytes_of Mark) h.1))
      | inr h ↦ found_here place number at before _ h.1
    ]
found_at (t ∷ ts) place number at before e =
    found_after place number at before (bytes_of t) ts (found_at ts place number at (before ++ bytes_of t) e)

pub first_position : (ts : List Token) (place at : ℕ) →
    ◌≡◌ {A = Option (ℕ × ℕ)} (first_not_alone ts) (Some (place, at)) →
    slice_get (positions ts) place ≡ Some at
first_position ts place at e =
    let h = found_at ts 0 place at [] e in
    let same : place ≡ h.0 = omega (arith, h.1) in
    ap (slice_get (positions ts)) same ∙ h.2
