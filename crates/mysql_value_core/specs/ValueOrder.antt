-- The order of values: by variant, as the type lists them, and then by the fields, from the first
-- on. The bits of a float are compared as a number.
use Rattle.std.specs.Prelude.{ℕ}
use Rattle.std.specs.declared.cmp.Ordering.{Ordering}
use Rattle.std.specs.Ordering.{nat_cmp, int_cmp, bool_cmp, ordering_then}
use Rattle.std.specs.Cmp.Lexicographic.{slice_cmp}
use Rattle.mysql_value_core.specs.declared.value.Value.{Value}
use Rattle.mysql_value_core.specs.declared.value.Value.TheVariants.{NULL, Bytes, Int, UInt, Float, Double, Date, Time}

-- the index of a value's variant in this list
abbrev pub variant_index : Value → ℕ
variant_index NULL = 0
variant_index (Bytes bytes) = 1
variant_index (Int number) = 2
variant_index (UInt number) = 3
variant_index (Float bits) = 4
variant_index (Double bits) = 5
variant_index (Date year month day hour minute second microseconds) = 6
variant_index (Time negative days hours minutes seconds microseconds) = 7

-- the comparison of two values
abbrev pub value_cmp : Value → Value → Ordering
value_cmp (Bytes bytes) (Bytes bytes') = slice_cmp nat_cmp bytes bytes'
value_cmp (Int number) (Int number') = int_cmp number number'
value_cmp (UInt number) (UInt number') = nat_cmp number number'
value_cmp (Float bits) (Float bits') = nat_cmp bits bits'
value_cmp (Double bits) (Double bits') = nat_cmp bits bits'
value_cmp (Date year month day hour minute second microseconds)
    (Date year' month' day' hour' minute' second' microseconds') =
    ordering_then (nat_cmp year year') (ordering_then (nat_cmp month month')
    (ordering_then (nat_cmp day day') (ordering_then (nat_cmp hour hour')
    (ordering_then (nat_cmp minute minute') (ordering_then (nat_cmp second second')
    (nat_cmp microseconds microseconds'))))))
value_cmp (Time negative days hours minutes seconds microseconds)
    (Time negative' days' hours' minutes' seconds' microseconds') =
    ordering_then (bool_cmp negative negative') (ordering_then (nat_cmp days days')
    (ordering_then (nat_cmp hours hours') (ordering_then (nat_cmp minutes minutes')
    (ordering_then (nat_cmp seconds seconds') (nat_cmp microseconds microseconds')))))
value_cmp value value' = nat_cmp (variant_index value) (variant_index value')
