-- One more argument, in a walk over arguments that ends at the first refusal.
use Rattle.std.proofs.Common.{◌≡◌, ◌<◌, ◌+◌, ℕ, List, [], ◌∷◌, ◌++◌, map, length, take, drop, get_or, refl, sym, ap, ◌∙◌, subst, arith}
use Rattle.std.specs.Prelude.{Option, Result, Ok, Err, fold, IsErrAnd, ⊤}
use Rattle.std.proofs.lemmas.List.{take_more, get_or-map, length-map, take-append-drop}
use Rattle.std.proofs.lemmas.List.Sums.{fold-append}
use Rattle.mysql_wire_part.specs.Answer.{IsAnswer, IsExpectedRefusal}
use Rattle.mysql_wire_part.proofs.AnswerLemmas.{refusal_expected_too}

-- a `?` hands on the error as it is
pub error_is_handed_on : {A Seen E Refusal : Type 0} (seen : A → Seen) (refusal_of : E → Option Refusal) (m : Result Seen Refusal)
    (r : Result A E) (e : E) → IsErrAnd r (λ t. t ≡ e) → IsExpectedRefusal m ⊤ (refusal_of e)
    → IsAnswer seen refusal_of m ⊤ r
error_is_handed_on seen refusal_of m (Ok a) e same refused = absurd same
error_is_handed_on seen refusal_of m (Err t) e same refused =
    subst (λ t. IsExpectedRefusal m ⊤ (refusal_of t)) (sym same) refused

-- a walk by g, which keeps a refusal
module _ {S A R : Type 0} (g : Result S R → A → Result S R)
    (stays : (e : R) (a : A) → g (Err e) a ≡ Err e) (start : Result S R) where
  fold-refused : (e : R) (rs : List A) → fold g (Err e) rs ≡ Err e
  fold-refused e [] = refl
  fold-refused e (r ∷ rs) = ap (λ s. fold g s rs) (stays e r) ∙ fold-refused e rs

  -- the rest of a walk keeps the refusal that it starts with
  pub refusal_stays : (refusal : Option R) (rs : List A) → IsExpectedRefusal start ⊤ refusal
      → IsExpectedRefusal (fold g start rs) ⊤ refusal
  refusal_stays refusal rs = refusal_expected_too start (fold g start rs) ⊤ ⊤ refusal
      (λ why refused. ap (λ s. fold g s rs) refused ∙ fold-refused why rs) (λ _. tt)

  -- x is the argument at i of the list xs, and f the fact about an argument
  module _ {X : Type 0} (f : X → A) (xs : List X) (i : ℕ) (x : X) (h : i < length xs) (is : x ≡ get_or xs i x) where
    within_map : i < length (map f xs)
    within_map = omega (arith, length-map xs f)

    take-map-next : take (i + 1) (map f xs) ≡ take i (map f xs) ++ f x ∷ []
    take-map-next = take_more (map f xs) i (f x) within_map
        ∙ ap (λ r. take i (map f xs) ++ r ∷ []) (get_or-map f xs i x (f x) h ∙ ap f (sym is))

    -- one more argument is one more step
    pub fold-take-next : (old : Result S R) → fold g start (take i (map f xs)) ≡ old
        → fold g start (take (i + 1) (map f xs)) ≡ g old (f x)
    fold-take-next old before = ap (fold g start) take-map-next
        ∙ fold-append g start (take i (map f xs)) (f x ∷ []) ∙ ap (λ r. g r (f x)) before

    -- an argument that is refused is the refusal of the whole
    fold-refused_at : (old : Result S R) (e : R) → fold g start (take i (map f xs)) ≡ old
        → g old (f x) ≡ Err e → fold g start (map f xs) ≡ Err e
    fold-refused_at old e before refused =
        ap (fold g start) (sym (take-append-drop (i + 1) (map f xs)))
        ∙ fold-append g start (take (i + 1) (map f xs)) (drop (i + 1) (map f xs))
        ∙ ap (λ r. fold g r (drop (i + 1) (map f xs))) (fold-take-next old before ∙ refused)
        ∙ fold-refused e (drop (i + 1) (map f xs))

    -- the refusal of that argument is expected of the walk
    pub refusal_of_walk : (old : Result S R) (refusal : Option R) → fold g start (take i (map f xs)) ≡ old
        → IsExpectedRefusal (g old (f x)) ⊤ refusal → IsExpectedRefusal (fold g start (map f xs)) ⊤ refusal
    refusal_of_walk old refusal before answer =
        refusal_expected_too (g old (f x)) (fold g start (map f xs)) ⊤ ⊤ refusal
        (λ why refused. fold-refused_at old why before refused) (λ _. tt) answer
