-- Intermediates: a `T` to which a value was converted, with that value.
use Rattle.std.specs.Prelude.{◌≡◌, Bool, IsTrue, Ok}
use Rattle.mysql_value_core.specs.ValueOf.{Meaning, MeansBytes}
use Rattle.mysql_values.specs.declared.value.convert.intermediate.ParseIrOpt.{ParseIrOpt}
use Rattle.mysql_values.specs.declared.value.convert.intermediate.ParseIrOpt.TheVariants.{Ready, Parsed}

-- the `T`
abbrev pub committed : {T : Type 0} → ParseIrOpt T → T
committed (Ready x) = x
committed (Parsed x value) = x

-- the stored value, or else the value of the `T`
abbrev pub rollback_value : {T : Type 0} → (T → Meaning) → ParseIrOpt T → Meaning
rollback_value value_of (Ready x) = value_of x
rollback_value value_of (Parsed x value) = Ok value

-- returning the value allocates only if it is made from the `T` and is bytes
abbrev pub RollbackTakesMemory : {T : Type 0} → (T → Meaning) → ParseIrOpt T → Type 0
RollbackTakesMemory value_of (Ready x) = MeansBytes (value_of x)
RollbackTakesMemory value_of (Parsed x value) = ⊥

-- the same variant, equal `T`s, and the same value
abbrev pub AreEqualParsed : {T : Type 0} → (T → T → Bool) → ParseIrOpt T → ParseIrOpt T → Type 0
AreEqualParsed eq (Ready x) (Ready y) = IsTrue (eq x y)
AreEqualParsed eq (Parsed x value) (Parsed y value') = IsTrue (eq x y) × (value ≡ value')
AreEqualParsed eq _ _ = ⊥
