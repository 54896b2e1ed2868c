use Rattle.std.proofs.Common.{sym, subst}
use Rattle.mysql_float_literal.specs.WrittenParts.{IsLayoutOfDouble}
use Rattle.mysql_float_literal.proofs.WrittenLemmas.{zero_read, zero_shortest, zero_closest}
use Rattle.mysql_float_literal.proofs.literal.layout_of_double.Goals as goal

pub returns-then-size-eq0 : goal.returns-then-size-eq0
returns-then-size-eq0 c =
    let z = c.zero_layout in
    subst (λ n. IsLayoutOfDouble n z.result) (sym c.if-size-eq0.true)
    (record { spelled = z.ensures.spelled; power = 0; digits = 0; value = z.ensures.value; read = zero_read; shortest = zero_shortest; closest = zero_closest })

pub returns : goal.returns
returns c =
    let found = c.digits_of-power in
    record {
      spelled = c.layout_of.ensures.spelled;
      power = found.result.0;
      digits = found.result.1;
      value = c.layout_of.ensures.value;
      read = found.ensures.reading.read;
      shortest = found.ensures.shortest;
      closest = found.ensures.closest;
    }
