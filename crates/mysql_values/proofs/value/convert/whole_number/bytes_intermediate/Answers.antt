use Rattle.std.proofs.Common.{ap, refl, sym}
use Rattle.mysql_values.specs.Decimal.{decimal_number}
use Rattle.mysql_values.proofs.WholeNumberLemmas.{whole_conversion-bytes_refused}
use Rattle.mysql_values.proofs.value.convert.whole_number.bytes_intermediate.Goals as goal

pub returns-in-None : goal.returns-in-None
returns-in-None g c = record {
  converts_and_rolls_back = record {
    converts = (
      whole_conversion-bytes_refused g.T.WholeNumber.is_signed g.T.WholeNumber.width g.T.WholeNumber.width_at_most_128
          g.T.WholeNumber.of_number c.args.bytes (decimal_number c.as_slice.result.now)
          (ap decimal_number (sym c.as_slice.ensures.same))
          c.in-None.ensures.refused,
      refl,
    );
    rolls_back = tt;
    null = tt;
    no_memory = tt;
  };
}
