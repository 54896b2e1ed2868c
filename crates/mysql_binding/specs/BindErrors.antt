-- The cause that each error of binding reports.
use Rattle.std.specs.Prelude.{◌≡◌, ◌⊎◌, ℕ, List, Option, Some, None, Err, option_map, alloc_error}
use Rattle.mysql_params_core.specs.LookupErrors.{lookup_refusal, AreEqualParamsErrors}
use Rattle.mysql_params_core.specs.GivenValues.{Given}
use Rattle.mysql_params_core.specs.LookupValues.{LookupRefusal, lookup}
use Rattle.mysql_binding.specs.FirstCause.{Cause, mixed_query, refused_params, mark_count, not_alone, float_value}
use Rattle.mysql_binding.specs.declared.bind_error.BindError.{BindError}
use Rattle.mysql_binding.specs.declared.bind_error.BindError.TheVariants.{Mixed, Params, MarkCount, NotAlone, Float, Memory}

-- the cause that the error reports; none for out of memory, even that of a lookup
abbrev pub cause_of : BindError → Option Cause
cause_of Mixed = Some mixed_query
cause_of (Params error) = option_map refused_params (lookup_refusal error)
cause_of (MarkCount marks values) = Some (mark_count marks values)
cause_of (NotAlone place at) = Some (not_alone place at)
cause_of (Float place) = Some (float_value place)
cause_of (Memory error) = None

-- the error reports the first cause, or it is `Memory`; out of memory in the lookup is `Memory`
-- too, and never `Params`
abbrev pub IsCauseOrMemory : Option Cause → BindError → Type 0
IsCauseOrMemory cause error = (error ≡ Memory alloc_error)
    ⊎ ((why : Cause) × (cause ≡ Some why) × (cause_of error ≡ Some why))

-- the error reports why the lookup of these names was refused, or it is `Memory`
abbrev pub IsLookupError : Given → List (List ℕ) → BindError → Type 0
IsLookupError given names error = (error ≡ Memory alloc_error)
    ⊎ ((refusal : LookupRefusal) × (lookup given names ≡ Err refusal)
    × (cause_of error ≡ Some (refused_params refusal)))

-- the same variant, and the same fields
abbrev pub AreEqualBindErrors : BindError → BindError → Type 0
AreEqualBindErrors (Params a) (Params b) = AreEqualParamsErrors a b
AreEqualBindErrors (Params a) b = ⊥
AreEqualBindErrors a b = a ≡ b
