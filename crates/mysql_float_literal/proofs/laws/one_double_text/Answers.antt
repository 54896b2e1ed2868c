use Rattle.mysql_float_literal.proofs.DoubleValueLemmas.{one_of_value}
use Rattle.mysql_float_literal.proofs.OneTextLemmas.{one_text}
use Rattle.mysql_float_literal.proofs.OneWrittenLemmas.{one_written}
use Rattle.mysql_float_literal.proofs.OtherSpellingLemmas as other
use Rattle.mysql_float_literal.proofs.laws.one_double_text.Goals as goal

pub returns : goal.returns
returns c = record {
  spelled = λ double. double.spelled;
  same = one_text;
  one = one_written;
  value = one_of_value;
  two_digits = other.two_digits;
  zeros_in_front = other.zeros_in_front;
  zero_at_the_end = other.zero_at_the_end;
}
