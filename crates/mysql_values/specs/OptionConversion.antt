-- Conversions to an `Option<T>`: NULL is none, and other values convert like to a `T`.
use Rattle.std.specs.Prelude.{Bool, IsTrue, ⊤, Result, Ok, Option, None, Some}
use Rattle.std.specs.Option.{option_map}
use Rattle.mysql_value_core.specs.declared.value.Value.{Value}
use Rattle.mysql_value_core.specs.declared.value.Value.TheVariants.{NULL}
use Rattle.mysql_value_core.specs.declared.value.convert.FromValueError.{FromValueError}
use Rattle.mysql_value_core.specs.FromValue.{ConvertsOrHandsBack}
use Rattle.mysql_value_core.specs.ValueOf.{Meaning}
use Rattle.mysql_values.specs.declared.value.convert.option.OptionIr2.{OptionIr2}
use Rattle.mysql_values.specs.declared.value.convert.option.OptionIr2.TheVariants as option_ir

-- the view of the intermediate, by the view of the intermediate of the `T`
abbrev pub seen_option : {T Ir Seen : Type 0} → (Ir → Seen) → OptionIr2 T Ir → Option Seen
seen_option seen option_ir.None = None
seen_option seen (option_ir.Some ir) = Some (seen ir)

-- the conversion to an option, by the conversion to a `T`
abbrev pub option_conversion : {Ir : Type 0} → (Value → Option Ir) → Value → Option (Option Ir)
option_conversion conversion NULL = Some None
option_conversion conversion value = option_map Some (conversion value)

-- the value converts to the intermediate, or is returned
abbrev pub ConvertsToOption : {T Ir Seen : Type 0} → (Ir → Seen) → (Value → Option Seen) → Value
    → Result (OptionIr2 T Ir) FromValueError → Type 0
ConvertsToOption seen conversion value result =
    ConvertsOrHandsBack (seen_option seen) (option_conversion conversion value) value result

-- the value to which it is rolled back, by that of the intermediate of the `T`
abbrev pub option_undo : {T Ir : Type 0} → (Ir → Meaning) → OptionIr2 T Ir → Meaning
option_undo undo option_ir.None = Ok NULL
option_undo undo (option_ir.Some ir) = undo ir

-- rolling it back allocates if rolling back the intermediate of the `T` does
abbrev pub OptionTakesMemory : {T Ir : Type 0} → (Ir → Type 0) → OptionIr2 T Ir → Type 0
OptionTakesMemory takes_memory option_ir.None = ⊥
OptionTakesMemory takes_memory (option_ir.Some ir) = takes_memory ir

-- both are none, or both hold an intermediate of the `T`, and these are equal
abbrev pub AreEqualOptions : {T Ir : Type 0} → (Ir → Ir → Bool) → OptionIr2 T Ir → OptionIr2 T Ir
    → Type 0
AreEqualOptions eq option_ir.None option_ir.None = ⊤
AreEqualOptions eq (option_ir.Some ir) (option_ir.Some ir') = IsTrue (eq ir ir')
AreEqualOptions eq _ _ = ⊥
