use Rattle.std.proofs.Common.{ap, refl, sym}
use Rattle.std.specs.Option.{option_map}
use Rattle.mysql_values.specs.Decimal.{decimal_number}
use Rattle.mysql_values.specs.Intermediate.{committed}
use Rattle.mysql_values.proofs.WholeNumberLemmas.{whole_conversion-bytes_refused}
use Rattle.mysql_values.proofs.value.convert.from_ref.AnyFromValueRef.from_value_ref.Goals as goal

pub returns-in-None : goal.returns-in-None
returns-in-None g c =
    rw c.in-Bytes.is (sym (ap (option_map committed)
    (whole_conversion-bytes_refused g.T.WholeNumber.is_signed g.T.WholeNumber.width
    g.T.WholeNumber.width_at_most_128 g.T.WholeNumber.of_number c.in-Bytes.bytes.now
    (decimal_number c.in-Bytes.bytes.now) refl c.in-None.ensures.refused)))
