use Rattle.std.proofs.Common.{◌∙◌, arith, sym}
use Rattle.mysql_sql_text.proofs.ValueOfDigitsLemmas.{digits_so_far_below, digits_so_far_more, digits_so_far_value}
use Rattle.mysql_sql_text.proofs.digits.value_of_few_digits.Goals as goal

pub overflow_mul-number : goal.overflow_mul-number
overflow_mul-number c =
    let small = digits_so_far_below c.args.digits.now c.loop-byte.byte-index (omega arith) c.loop-byte.invariant.digits in
    omega (arith, small, c.loop-byte.invariant.number)

pub overflow_add-number : goal.overflow_add-number
overflow_add-number c =
    let small = digits_so_far_below c.args.digits.now c.loop-byte.byte-index (omega arith) c.loop-byte.invariant.digits in
    omega (arith, small, c.loop-byte.invariant.number)

pub loop-byte-preserved : goal.loop-byte-preserved
loop-byte-preserved c =
    let digits = c.args.digits.now in
    let at = c.loop-byte.byte-index in
    let digit = c.if-not-is_ascii_digit.ensures.cases in
    let more = digits_so_far_value digits at c.loop-byte-test.true digit in
    record {
      digits =
          digits_so_far_more digits at c.loop-byte-test.true c.loop-byte.invariant.digits
          (sym c.is_ascii_digit.ensures.value ∙ c.if-not-is_ascii_digit.false);
      number = omega (arith, more, c.loop-byte.invariant.number, c.from.ensures);
    }
