-- The facts about every double, by those that it holds.
use Rattle.std.specs.Prelude.{Option}
use Rattle.std.proofs.Common.{◌≡◌, true, None, Some, refl, sym, ap, ◌∙◌, true≢false}
use Rattle.std.specs.Float.{binary64}
use Rattle.std.specs.Float.Ieee.{Float}
use Rattle.std.specs.Float.Parse.{parse_float}
use Rattle.mysql_float_literal.specs.DoubleShape.{IsDouble}
use Rattle.mysql_float_literal.specs.DoubleText.{double_text, double_value}
use Rattle.mysql_float_literal.specs.ReadDouble.{is_finite_number, or_nan, ReadsAs}
use Rattle.mysql_float_literal.specs.declared.double.Double.{Double}
use Rattle.mysql_float_literal.proofs.DoubleTestLemmas.{shaped}
use Rattle.mysql_float_literal.proofs.OneWrittenLemmas.{one_written}
use Rattle.mysql_float_literal.proofs.ReadBeforeLemmas.{reads_before}

was_read : (found : Option Float) → is_finite_number found ≡ true → found ≡ Some (or_nan found)
was_read None h = absurd (true≢false (sym h))
was_read (Some x) h = refl

pub double_shaped : (double : Double) → IsDouble (double_text double)
double_shaped double = shaped (double_text double) double.shaped

pub double_reads : (double : Double) → ReadsAs (double_text double) (double_value double)
double_reads double rest ends =
    reads_before binary64 (double_value double) (double_shaped double) (was_read (parse_float binary64 (double_text double)) double.finite) rest ends

-- the text of a value
pub one_of_value : (a b : Double) → double_value a ≡ double_value b → double_text a ≡ double_text b
one_of_value a b same =
    one_written (double_text a) (double_text b) (double_value a) a.spelled b.spelled (was_read (parse_float binary64 (double_text a)) a.finite)
    (was_read (parse_float binary64 (double_text b)) b.finite ∙ ap Some (sym same)) a.shortest b.shortest a.closest b.closest
