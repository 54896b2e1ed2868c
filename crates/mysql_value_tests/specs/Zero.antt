-- The conversion of a type of the tests' own.
use Rattle.std.specs.Prelude.{pos, if◌then◌else◌, ⊤, Option, None, Some}
use Rattle.std.specs.Ordering.{int_eq}
use Rattle.mysql_value_core.specs.declared.value.Value.{Value}
use Rattle.mysql_value_core.specs.declared.value.Value.TheVariants.{NULL, Int}

-- zero is `Int(0)` or NULL; nothing more is seen of it
abbrev pub zero_conversion : Value → Option ⊤
zero_conversion NULL = Some tt
zero_conversion (Int number) = if int_eq number (pos 0) then Some tt else None
zero_conversion _ = None
