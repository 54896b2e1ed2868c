-- A promise about an answer holds for it if the expected answer is known. An error without a cause
-- is out of memory.
use Rattle.std.specs.Prelude.{Result, Ok, IfOk, alloc_error, ⊤}
use Rattle.std.proofs.Common.{◌≡◌, inl, inr, ℕ, List, Option, Some, None, sym, subst, ◌∙◌}
use Rattle.mysql_values.specs.Answer.{IsAnswer}
use Rattle.mysql_named_params.specs.Reading.{OnTokensIn}
use Rattle.mysql_named_params.specs.declared.places.Reading.{Reading}
use Rattle.mysql_params_core.specs.declared.params.Params.{Params}
use Rattle.mysql_params_core.specs.declared.params.errors.ToParamsError.{ToParamsError}
use Rattle.mysql_params_core.specs.Errors.{to_params_refusal}
use Rattle.mysql_params_core.specs.Given.{Given, given}
use Rattle.mysql_params_core.specs.Made.{Made}
use Rattle.mysql_binding.specs.BindErrors.{IsCauseOrMemory}
use Rattle.mysql_binding.specs.FirstCause.{Cause, first_cause}
use Rattle.mysql_binding.specs.declared.bind_error.BindError.{BindError}
use Rattle.mysql_binding.specs.declared.bind_error.BindError.TheVariants.{Memory}
use Rattle.mysql_binding.proofs.CauseLemmas.{on_both}

pub answer_at : (expected known : Made) (answer : Result Params ToParamsError) → expected ≡ known →
    IsAnswer given to_params_refusal expected ⊤ answer → IsAnswer given to_params_refusal known ⊤ answer
answer_at expected known answer same = subst (λ m. IsAnswer given to_params_refusal m ⊤ answer) same

pub if_ok_at : {A E : Type 0} (P : A → Type 0) (r : Result A E) (a : A) → r ≡ Ok a → P a → IfOk r P
if_ok_at P r a is holds = subst (λ x. IfOk x P) (sym is) holds

-- the parameters that were made are the expected ones
pub made_is : (expected : Given) (params : Params) (made : Result Params ToParamsError) →
    made ≡ Ok params → IsAnswer given to_params_refusal (Ok expected) ⊤ made →
    given params ≡ expected
made_is expected params made is answer =
    let here : Ok expected ≡ Ok (given params) =
    subst (λ m. IsAnswer given to_params_refusal (Ok expected) ⊤ m) is answer in
    cc

without_cause : (cause : Option Cause) (error : BindError) → cause ≡ None →
    IsCauseOrMemory cause error → error ≡ Memory alloc_error
without_cause cause error none (inl memory) = memory
without_cause cause error none (inr why) = let never : Some why.0 ≡ None = sym why.1 ∙ none in cc

-- a refusal without a cause is out of memory
pub memory_alone : (reading : Reading) (query : List ℕ) (g : Given) (error : BindError) →
    OnTokensIn reading query (λ ts. first_cause ts g ≡ None) →
    OnTokensIn reading query (λ ts. IsCauseOrMemory (first_cause ts g) error) →
    error ≡ Memory alloc_error
memory_alone reading query g error none refused =
    let both = on_both reading query (λ ts. first_cause ts g ≡ None)
    (λ ts. IsCauseOrMemory (first_cause ts g) error) none refused in
    without_cause (first_cause both.0 g) error both.2.0 both.2.1
