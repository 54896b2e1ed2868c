-- The errors of parameters: the refusal that each reports, and when two are equal.
use Rattle.std.specs.Prelude.{◌≡◌, ℕ, List, Option, None, Some, ⊤}
use Rattle.mysql_value_core.specs.declared.value.convert.ToValueError.{ToValueError}
use Rattle.mysql_value_core.specs.declared.value.convert.ToValueError.TheVariants as to_value
use Rattle.mysql_params_core.specs.Made.{ToParamsRefusal, redefined, too_long}
use Rattle.mysql_params_core.specs.declared.params.errors.IntoPositionalError.{IntoPositionalError}
use Rattle.mysql_params_core.specs.declared.params.errors.IntoPositionalError.TheVariants as positional
use Rattle.mysql_params_core.specs.declared.params.errors.ToParamsError.{ToParamsError}
use Rattle.mysql_params_core.specs.declared.params.errors.ToParamsError.TheVariants as to_params
pub use Rattle.mysql_params_core.specs.LookupErrors.{lookup_refusal, IsMissing, AreEqualParamsErrors}

-- the missing name that the error reports; none for out of memory
abbrev pub absent_name : IntoPositionalError → Option (List ℕ)
absent_name (positional.Missing error) = Some error.0.items
absent_name (positional.Memory error) = None

-- the refusal of an argument without a value that the error reports; none for out of memory
abbrev pub value_refusal : ToValueError → Option ToParamsRefusal
value_refusal (to_value.DurationTooLong duration) = Some (too_long duration)
value_refusal (to_value.Memory error) = None

-- the error for an argument whose value is refused; out of memory stays out of memory
abbrev pub of_value : ToValueError → ToParamsError
of_value (to_value.DurationTooLong duration) = to_params.Value (to_value.DurationTooLong duration)
of_value (to_value.Memory error) = to_params.Memory error

-- The refusal of `to_params` that the error reports; none for out of memory. There is also none for
-- a `Value` that holds out of memory: `to_params` returns `Memory` instead, as its own clause says.
abbrev pub to_params_refusal : ToParamsError → Option ToParamsRefusal
to_params_refusal (to_params.Redefined name) = Some (redefined name.items)
to_params_refusal (to_params.Value error) = value_refusal error
to_params_refusal (to_params.Memory error) = None

-- the same variant, and the same name
abbrev pub AreEqualPositionalErrors : IntoPositionalError → IntoPositionalError → Type 0
AreEqualPositionalErrors (positional.Missing a) (positional.Missing b) = a.0.items ≡ b.0.items
AreEqualPositionalErrors (positional.Memory a) (positional.Memory b) = ⊤
AreEqualPositionalErrors _ _ = ⊥

-- the same variant, and the same name or error of the value
abbrev pub AreEqualToParamsErrors : ToParamsError → ToParamsError → Type 0
AreEqualToParamsErrors (to_params.Redefined a) (to_params.Redefined b) = a.items ≡ b.items
AreEqualToParamsErrors (to_params.Value a) (to_params.Value b) = a ≡ b
AreEqualToParamsErrors (to_params.Memory a) (to_params.Memory b) = ⊤
AreEqualToParamsErrors _ _ = ⊥
