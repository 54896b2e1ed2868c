-- The cause of each error of binding to a steady text.
use Rattle.std.specs.Prelude.{◌≡◌, ℕ, List, Option, Some, None}
use Rattle.mysql_portable.specs.Steady.{first_unsteady}
use Rattle.mysql_portable.specs.declared.portable.Unportable.{Unportable}
use Rattle.mysql_binding.specs.BindErrors.{IsCauseOrMemory, AreEqualBindErrors}
use Rattle.mysql_binding.specs.FirstCause.{Cause}
use Rattle.mysql_steady_text.specs.declared.steady_text_error.SteadyTextError.{SteadyTextError}
use Rattle.mysql_steady_text.specs.declared.steady_text_error.SteadyTextError.TheVariants.{Unsteady, Bind}
use Rattle.mysql_steady_text.specs.declared.steady_text_error.SteadyTextError.TheVariants as error

-- the error is one of binding: this first cause, or out of memory
abbrev pub IsBindRefusal : Option Cause → SteadyTextError → Type 0
IsBindRefusal cause (Bind error) = IsCauseOrMemory cause error
IsBindRefusal cause error = ⊥

-- The error is the first of three that a query has. These are its first byte that isn't steady; its
-- first construct that isn't portable, if one is looked for; its first cause. Out of memory may
-- come in place of the cause or of a text.
abbrev pub IsSteadyRefusal : List ℕ → Option Unportable → Option Cause → SteadyTextError → Type 0
IsSteadyRefusal query unportable cause (Unsteady at) = first_unsteady query ≡ Some at
IsSteadyRefusal query unportable cause (error.Unportable found) =
    (first_unsteady query ≡ None) × (unportable ≡ Some found)
IsSteadyRefusal query unportable cause (Bind error) =
    (first_unsteady query ≡ None) × (unportable ≡ None) × IsCauseOrMemory cause error

-- the same variant, and the same fields
abbrev pub AreEqualSteadyTextErrors : SteadyTextError → SteadyTextError → Type 0
AreEqualSteadyTextErrors (Bind a) (Bind b) = AreEqualBindErrors a b
AreEqualSteadyTextErrors (Bind a) b = ⊥
AreEqualSteadyTextErrors a b = a ≡ b
