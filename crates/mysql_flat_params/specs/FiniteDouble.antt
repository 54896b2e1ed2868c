-- The content of a value of a form as a fragment and as an item: a finite float or double is a
-- double, and every other value is a value.
use Rattle.std.specs.Prelude.{Option, Some, None, from_bits, if◌then◌else◌}
use Rattle.std.specs.Float.{binary32, binary64, float_is_finite}
use Rattle.std.specs.Float.Ieee.{Float}
use Rattle.std.specs.Option.{option_map_or}
use Rattle.mysql_value_core.specs.declared.value.Value.{Value}
use Rattle.mysql_value_core.specs.declared.value.Value.TheVariants as variant
use Rattle.mysql_flat_params.specs.FragmentContent.{ItemContent, value_item, double_item, FragmentContent, value, double}

-- a floating-point number, if it is finite
abbrev pub if_finite : Float → Option Float
if_finite x = if float_is_finite x then Some x else None

-- the finite double that a value is; a float of 32 bits is the double of the same value
abbrev pub finite_double : Value → Option Float
finite_double (variant.Float bits) = if_finite (from_bits binary32 bits)
finite_double (variant.Double bits) = if_finite (from_bits binary64 bits)
finite_double said = None

-- the content of a value as an item
abbrev pub item_of_value : Value → ItemContent
item_of_value said = option_map_or double_item (finite_double said) (value_item said)

-- the content of a value as a fragment
abbrev pub fragment_of_value : Value → FragmentContent
fragment_of_value said = option_map_or double (finite_double said) (value said)
