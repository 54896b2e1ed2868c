-- Conversions to a Boolean.
use Rattle.std.specs.Prelude.{ℕ, ◌==◌, Bool, true, false, not, if◌then◌else◌, pos, List, [], ◌∷◌, Option, None, Some}
use Rattle.std.specs.Ordering.{int_eq}
use Rattle.std.specs.Option.{option_map}
use Rattle.std.specs.Str.{byte}
use Rattle.mysql_value_core.specs.declared.value.Value.{Value}
use Rattle.mysql_value_core.specs.declared.value.Value.TheVariants.{Bytes, Int, UInt}
use Rattle.mysql_values.specs.declared.value.convert.intermediate.ParseIrOpt.{ParseIrOpt}
use Rattle.mysql_values.specs.declared.value.convert.intermediate.ParseIrOpt.TheVariants.{Ready, Parsed}

-- the Boolean of a text: `0` is false and `1` is true
abbrev pub boolean_of_text : List ℕ → Option Bool
boolean_of_text (digit ∷ []) =
    if digit == byte "0" then Some false else if digit == byte "1" then Some true else None
boolean_of_text _ = None

-- the conversion of a value: a number is true unless it is 0
abbrev pub boolean_conversion : Value → Option (ParseIrOpt Bool)
boolean_conversion (Int number) = Some (Ready (not (int_eq number (pos 0))))
boolean_conversion (UInt number) = Some (Ready (not (number == 0)))
boolean_conversion (Bytes bytes) =
    option_map (λ boolean. Parsed boolean (Bytes bytes)) (boolean_of_text bytes)
boolean_conversion _ = None
