-- The cause of each error of binding to a text for both modes.
use Rattle.std.specs.Prelude.{◌≡◌, ℕ, Option, Some, None}
use Rattle.mysql_portable.specs.declared.portable.Unportable.{Unportable}
use Rattle.mysql_binding.specs.BindErrors.{IsCauseOrMemory, AreEqualBindErrors}
use Rattle.mysql_binding.specs.FirstCause.{Cause}
use Rattle.mysql_steady_text.specs.declared.both_modes_error.BothModesError.{BothModesError}
use Rattle.mysql_steady_text.specs.declared.both_modes_error.BothModesError.TheVariants.{Backslash, Bind}
use Rattle.mysql_steady_text.specs.declared.both_modes_error.BothModesError.TheVariants as error

-- The error is the first of these that a query has: its first backslash in a string; its first
-- construct that isn't portable; its first cause. Out of memory may come in place of the cause or
-- of a text.
abbrev pub IsBothModesRefusal : Option ℕ → Option Unportable → Option Cause → BothModesError →
    Type 0
IsBothModesRefusal backslash unportable cause (Backslash at) = backslash ≡ Some at
IsBothModesRefusal backslash unportable cause (error.Unportable found) =
    (backslash ≡ None) × (unportable ≡ Some found)
IsBothModesRefusal backslash unportable cause (Bind error) =
    (backslash ≡ None) × (unportable ≡ None) × IsCauseOrMemory cause error

-- the same variant, and the same fields
abbrev pub AreEqualBothModesErrors : BothModesError → BothModesError → Type 0
AreEqualBothModesErrors (Bind a) (Bind b) = AreEqualBindErrors a b
AreEqualBothModesErrors (Bind a) b = ⊥
AreEqualBothModesErrors a b = a ≡ b
