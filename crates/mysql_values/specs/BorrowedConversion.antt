-- Conversions of borrowed values. They give the same as those of the owned values.
use Rattle.std.specs.Prelude.{◌≡◌, Option}
use Rattle.std.specs.Option.{option_map}
use Rattle.mysql_value_core.specs.declared.value.Value.{Value}

-- A borrowed value converts to the committed intermediate of the owned value. If one of them
-- doesn't convert, the other doesn't either.
abbrev pub ConvertsAsOwned : {Ir Seen : Type 0} → (Value → Option Seen) → (Value → Option Ir)
    → (Ir → Seen) → Type 0
ConvertsAsOwned converted conversion commit =
    (value : Value) → converted value ≡ option_map commit (conversion value)
