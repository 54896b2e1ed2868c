-- `is_prefix` says whether the indices of the elements that pass are 0 to j - 1 for some j.
use Rattle.std.proofs.Common.{◌≡◌, ◌<◌, ◌-◌, ◌||◌, ℕ, zero, suc, Bool, true, false, not, cond, List, [], ◌∷◌, refl, sym, ap, ◌∙◌, arith}
use Rattle.std.specs.Prelude.{Some, IsTrue, slice_get}
use Rattle.std.specs.List.{list_any}
use Rattle.std.proofs.lemmas.Bool.{or_parts, not-true, false_from_ne_true}
use Rattle.mysql_params_core.specs.Names.{is_prefix, AreBelow}

module _ {X : Type 0} (p : X → Bool) where
  none_passes : (xs : List X) → list_any p xs ≡ false → (i : ℕ) (x : X) → slice_get xs i ≡ Some x → p x ≡ false
  none_passes [] none i x at = cc
  none_passes (y ∷ ys) none zero x at = let e : y ≡ x = cc in ap p (sym e) ∙ (or_parts (p y) (list_any p ys) none).0
  none_passes (y ∷ ys) none (suc i) x at = none_passes ys (or_parts (p y) (list_any p ys) none).1 i x at

  list_any-false : (xs : List X) → ((i : ℕ) (x : X) → slice_get xs i ≡ Some x → p x ≡ false) → list_any p xs ≡ false
  list_any-false [] none = refl
  list_any-false (y ∷ ys) none = ap (λ b. b || list_any p ys) (none 0 y refl) ∙ list_any-false ys (λ i x at. none (suc i) x at)

  -- one more element in front, which passes
  AreBelow-cons : (y : X) (ys : List X) (j : ℕ) → p y ≡ true → AreBelow p ys j → AreBelow p (y ∷ ys) (suc j)
  AreBelow-cons y ys j passes are zero x at = let e : y ≡ x = cc in (λ _. omega arith, λ _. ap p (sym e) ∙ passes)
  AreBelow-cons y ys j passes are (suc i) x at = (λ t. let h : i < j = (are i x at).0 t in omega arith, λ h. (are i x at).1 (omega arith))

  -- no element passes
  AreBelow-zero : (xs : List X) → list_any p xs ≡ false → AreBelow p xs 0
  AreBelow-zero xs none i x at = (λ t. let f : p x ≡ false = none_passes xs none i x at in cc, λ h. absurd (omega arith))

  pub prefix_has_count : (xs : List X) → IsTrue (is_prefix p xs) → (j : ℕ) × AreBelow p xs j
  prefix_has_count [] h = (0, AreBelow-zero [] refl)
  prefix_has_count (y ∷ ys) h = by_first (p y) (λ t. prefix_has_count ys t) refl h
    where
      by_first : (b : Bool) → (IsTrue (is_prefix p ys) → (j : ℕ) × AreBelow p ys j) → p y ≡ b → cond b (is_prefix p ys) (not (list_any p ys)) ≡ true → (j : ℕ) × AreBelow p (y ∷ ys) j
      by_first true rest e h = let r = rest h in (suc r.0, AreBelow-cons y ys r.0 e r.1)
      by_first false rest e h = (0, AreBelow-zero (y ∷ ys) (ap (λ b. b || list_any p ys) e ∙ not-true (list_any p ys) h))

  pub is_prefix-AreBelow : (xs : List X) (j : ℕ) → AreBelow p xs j → IsTrue (is_prefix p xs)
  is_prefix-AreBelow [] j are = refl
  is_prefix-AreBelow (y ∷ ys) j are = by_first (λ k r. is_prefix-AreBelow ys k r) (p y) refl
    where
      fewer : (k : ℕ) → j ≡ suc k → AreBelow p ys k
      fewer k e i x at = (λ t. let h : suc i < j = (are (suc i) x at).0 t in omega arith, λ h. (are (suc i) x at).1 (omega arith))

      below : p y ≡ true → 0 < j
      below e = (are 0 y refl).0 e

      by_first : ((k : ℕ) → AreBelow p ys k → IsTrue (is_prefix p ys)) → (b : Bool) → p y ≡ b → IsTrue (is_prefix p (y ∷ ys))
      by_first rest true e =
          let h : 0 < j = below e in
          ap (λ b. cond b (is_prefix p ys) (not (list_any p ys))) e ∙ rest (j - 1) (fewer (j - 1) (omega arith))
      by_first rest false e =
          let at_start : 0 < j → ⊥ = λ h. let t : p y ≡ true = (are 0 y refl).1 h in cc in
          ap (λ b. cond b (is_prefix p ys) (not (list_any p ys))) e
          ∙ ap not (list_any-false ys (λ i x at. false_from_ne_true (p x) (λ t. let h : suc i < j = (are (suc i) x at).0 t in at_start (omega arith))))
