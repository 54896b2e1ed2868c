use Rattle.std.proofs.Common.{◌≡◌, ◌∙◌, sym, ap, subst, take, true}
use Rattle.std.proofs.lemmas.List.{take-take}
use Rattle.std.specs.Float.{binary64}
use Rattle.std.specs.Float.Parse.{parse_float}
use Rattle.mysql_float_literal.specs.DoubleDigits.{HasShortestDigits, HasClosestDigits}
use Rattle.mysql_float_literal.specs.DoubleSpelling.{IsSpelledDouble}
use Rattle.mysql_float_literal.specs.DoubleTest.{is_double}
use Rattle.mysql_float_literal.specs.ReadDouble.{is_finite_number, or_nan}
use Rattle.mysql_float_literal.proofs.DoubleTestLemmas.{tested}
use Rattle.mysql_float_literal.proofs.double.Double.of_finite.Goals as goal

pub invariant_of-result : goal.invariant_of-result
invariant_of-result c =
    let same : take c.put_finite-len.result c.in-Some.room.now ≡ take c.put_finite-len.result c.put_finite-len.new.out =
    ap (take c.put_finite-len.result) c.in-Some.ensures.cases.same ∙ take-take c.put_finite-len.result 27 c.put_finite-len.new.out c.put_finite-len.ensures.short in
    record {
      within = c.put_finite-len.ensures.short;
      shaped = subst (λ x. is_double x ≡ true) (sym same) (tested c.put_finite-len.ensures.shape);
      spelled = subst IsSpelledDouble (sym same) c.put_finite-len.ensures.spelled;
      shortest = subst HasShortestDigits (sym same) c.put_finite-len.ensures.shortest;
      closest = subst HasClosestDigits (sym same) c.put_finite-len.ensures.closest;
      finite = ap is_finite_number (ap (parse_float binary64) same ∙ c.put_finite-len.ensures.exact) ∙ c.requires;
    }

pub returns : goal.returns
returns c =
    let same : take c.put_finite-len.result c.in-Some.room.now ≡ take c.put_finite-len.result c.put_finite-len.new.out =
    ap (take c.put_finite-len.result) c.in-Some.ensures.cases.same ∙ take-take c.put_finite-len.result 27 c.put_finite-len.new.out c.put_finite-len.ensures.short in
    ap or_nan (ap (parse_float binary64) same ∙ c.put_finite-len.ensures.exact)
