-- One more argument of a list, in a walk over it.
use Rattle.std.proofs.Common.{◌≡◌, ◌<◌, ◌+◌, ℕ, List, [], ◌∷◌, ◌++◌, map, length, take, drop, get_or, refl, sym, ap, ◌∙◌, subst, arith}
use Rattle.std.specs.Prelude.{Result, Ok, Err, fold, IsErrAnd, ⊤}
use Rattle.std.proofs.lemmas.List.{take_more, get_or-map, length-map, take-append-drop}
use Rattle.std.proofs.lemmas.List.Sums.{fold-append}
use Rattle.std.specs.FinMap as finite
use Rattle.mysql_wire_part.specs.Answer.{IsAnswer, IsExpectedRefusal}
use Rattle.mysql_wire_part.proofs.AnswerLemmas.{refusal_expected_too}
use Rattle.mysql_values.specs.ValueOf.{Meaning, MeansBytes, too_long_duration}
use Rattle.mysql_value_core.specs.declared.value.Value.{Value}
use Rattle.mysql_value_core.specs.declared.value.convert.ToValueError.{ToValueError}
use Rattle.mysql_value_core.specs.declared.value.convert.ToValueError.TheVariants.{DurationTooLong, Memory}
use Rattle.mysql_params_core.specs.Errors.{to_params_refusal}
use Rattle.mysql_params_core.specs.Given.{ValueMap, given}
use Rattle.mysql_params_core.specs.Made.{ToParamsRefusal, Made, values_made, by_position, list_made, with_new}
use Rattle.mysql_params_core.specs.declared.params.Params.{Params}
use Rattle.mysql_params_core.specs.declared.params.errors.ToParamsError.{ToParamsError}

pub list_made-nonempty : (ms : List Meaning) → 0 < length ms → list_made ms ≡ by_position (values_made ms)
list_made-nonempty [] h = absurd (omega arith)
list_made-nonempty (m ∷ ms) h = refl

-- a `?` passes the error on as it is
pub error_is_handed_on : {A Seen : Type 0} (seen : A → Seen) (m : Result Seen ToParamsRefusal) (r : Result A ToParamsError)
    (e : ToParamsError) → IsErrAnd r (λ t. t ≡ e) → IsExpectedRefusal m ⊤ (to_params_refusal e)
    → IsAnswer seen to_params_refusal m ⊤ r
error_is_handed_on seen m (Ok a) e same refused = absurd same
error_is_handed_on seen m (Err t) e same refused =
    subst (λ t. IsExpectedRefusal m ⊤ (to_params_refusal t)) (sym same) refused

-- a walk by g, which keeps a refusal
module _ {S A : Type 0} (g : Result S ToParamsRefusal → A → Result S ToParamsRefusal)
    (stays : (e : ToParamsRefusal) (a : A) → g (Err e) a ≡ Err e) (start : Result S ToParamsRefusal) where
  fold-refused : (e : ToParamsRefusal) (rs : List A) → fold g (Err e) rs ≡ Err e
  fold-refused e [] = refl
  fold-refused e (r ∷ rs) = ap (λ s. fold g s rs) (stays e r) ∙ fold-refused e rs

  -- the rest of a walk keeps the refusal that it starts with
  pub refusal_stays : (e : ToParamsError) (rs : List A) → IsExpectedRefusal start ⊤ (to_params_refusal e)
      → IsExpectedRefusal (fold g start rs) ⊤ (to_params_refusal e)
  refusal_stays e rs = refusal_expected_too start (fold g start rs) ⊤ ⊤ (to_params_refusal e)
      (λ why refused. ap (λ s. fold g s rs) refused ∙ fold-refused why rs) (λ _. tt)

  -- x is the argument at i of the list xs, and f the fact that is known about an argument
  module _ {X : Type 0} (f : X → A) (xs : List X) (i : ℕ) (x : X) (h : i < length xs) (is : x ≡ get_or xs i x) where
    within_map : i < length (map f xs)
    within_map = omega (arith, length-map xs f)

    take-map-next : take (i + 1) (map f xs) ≡ take i (map f xs) ++ f x ∷ []
    take-map-next = take_more (map f xs) i (f x) within_map
        ∙ ap (λ r. take i (map f xs) ++ r ∷ []) (get_or-map f xs i x (f x) h ∙ ap f (sym is))

    -- one more argument is one more step
    pub fold-take-next : (old : Result S ToParamsRefusal) → fold g start (take i (map f xs)) ≡ old
        → fold g start (take (i + 1) (map f xs)) ≡ g old (f x)
    fold-take-next old before = ap (fold g start) take-map-next
        ∙ fold-append g start (take i (map f xs)) (f x ∷ []) ∙ ap (λ r. g r (f x)) before

    -- an argument that is refused is the refusal of the whole
    pub fold-refused_at : (old : Result S ToParamsRefusal) (e : ToParamsRefusal) → fold g start (take i (map f xs)) ≡ old
        → g old (f x) ≡ Err e → fold g start (map f xs) ≡ Err e
    fold-refused_at old e before refused =
        ap (fold g start) (sym (take-append-drop (i + 1) (map f xs)))
        ∙ fold-append g start (take (i + 1) (map f xs)) (drop (i + 1) (map f xs))
        ∙ ap (λ r. fold g r (drop (i + 1) (map f xs))) (fold-take-next old before ∙ refused)
        ∙ fold-refused e (drop (i + 1) (map f xs))

    -- a `?` in the walk passes on the error of that argument
    pub refusal_is_handed_on : (by : Result S ToParamsRefusal → Made) → ((e : ToParamsRefusal) → by (Err e) ≡ Err e)
        → (old : Result S ToParamsRefusal) (e : ToParamsError) → fold g start (take i (map f xs)) ≡ old
        → IsExpectedRefusal (g old (f x)) ⊤ (to_params_refusal e)
        → (r : Result Params ToParamsError) → IsErrAnd r (λ t. t ≡ e)
        → IsAnswer given to_params_refusal (by (fold g start (map f xs))) ⊤ r
    refusal_is_handed_on by ends old e before answer r same =
        error_is_handed_on given (by (fold g start (map f xs))) r e same
        (refusal_expected_too (g old (f x)) (by (fold g start (map f xs))) ⊤ ⊤ (to_params_refusal e)
        (λ why refused. ap by (fold-refused_at old why before refused) ∙ ends why) (λ _. tt) answer)

-- the map with the value of an argument that has this value
pub with_new-value : (m : ValueMap) (name : List ℕ) (meaning : Meaning) (answer : Result Value ToValueError) (v : Value)
    → answer ≡ Ok v → IsAnswer (λ value. value) too_long_duration meaning (MeansBytes meaning) answer
    → with_new m name meaning ≡ Ok (finite.insert m name v)
with_new-value m name meaning (Ok w) v is answers =
    let same : w ≡ v = cc in
    ap (with_new m name) (answers ∙ ap (λ x. Ok x) same)
with_new-value m name meaning (Err (DurationTooLong d)) v is answers = cc
with_new-value m name meaning (Err (Memory e)) v is answers = cc
