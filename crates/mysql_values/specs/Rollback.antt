-- Conversions undone: from the result of a conversion back to a value that converts to the same.
use Rattle.std.specs.Prelude.{◌≡◌, Result, Ok, Err, Option, Some, IfOk}
use Rattle.std.specs.Option.{option_map}
use Rattle.mysql_value_core.specs.declared.value.Value.{Value}
use Rattle.mysql_value_core.specs.declared.value.Value.TheVariants.{NULL}
use Rattle.mysql_value_core.specs.declared.value.convert.FromValueError.{FromValueError}
use Rattle.mysql_value_core.specs.FromValue.{ConvertsOrHandsBack}
use Rattle.mysql_value_core.specs.ValueOf.{Meaning}
use Rattle.mysql_values.specs.Intermediate.{committed, rollback_value, RollbackTakesMemory}
use Rattle.mysql_values.specs.declared.value.convert.intermediate.ParseIrOpt.{ParseIrOpt}

-- the value to which an intermediate is rolled back converts again, and to the same result
abbrev pub RollsBack : {Ir T : Type 0} → (Value → Option Ir) → (Ir → T) → Meaning → Ir → Type 0
RollsBack conversion commit (Ok undone) ir =
    option_map commit (conversion undone) ≡ Some (commit ir)
RollsBack conversion commit (Err duration) ir = ⊥

-- an intermediate is rolled back to NULL only if it was made from NULL
abbrev pub NullFromNull : Meaning → Value → Type 0
NullFromNull undone value = undone ≡ Ok NULL → value ≡ NULL

-- The result is the intermediate of the value, which rolls back to a value that converts to the
-- same. Or the value is returned.
pub record ConvertsAndRollsBack {T Seen : Type 0} (seen : ParseIrOpt T → ParseIrOpt Seen)
    (conversion : Value → Option (ParseIrOpt Seen)) (value_of : T → Meaning) (value : Value)
    (result : Result (ParseIrOpt T) FromValueError) : Type 0 where
  -- the value converts to the intermediate, or is returned
  pub converts : ConvertsOrHandsBack seen (conversion value) value result
  -- the value to which the intermediate is rolled back converts again, and to the same result
  pub rolls_back :
      IfOk result (λ ir. RollsBack conversion committed (rollback_value value_of ir) (seen ir))
  -- it is rolled back to NULL only if it was made from NULL
  pub null : IfOk result (λ ir. NullFromNull (rollback_value value_of ir) value)
  -- rolling it back allocates nothing
  pub no_memory : IfOk result (λ ir. ¬ (RollbackTakesMemory value_of ir))

-- the value of `x` converts back to `x`, and isn't NULL
abbrev pub ConvertsBack : {Ir T : Type 0} → (Value → Option Ir) → (Ir → T) → Meaning → T → Type 0
ConvertsBack conversion commit (Ok value) x =
    (option_map commit (conversion value) ≡ Some x) × (value ≡ NULL → ⊥)
ConvertsBack conversion commit (Err duration) x = ⊥
