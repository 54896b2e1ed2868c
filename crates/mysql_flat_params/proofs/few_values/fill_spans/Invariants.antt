use Rattle.mysql_values.specs.BorrowedValue.{owned_values}
use Rattle.mysql_binding.proofs.SpanTextLemmas.{SpansFilled}
use Rattle.mysql_flat_params.proofs.few_values.fill_spans.Given as goal

abbrev pub invariant-loop-i : goal.invariant-loop-i
invariant-loop-i g l =
    SpansFilled (g.F.LiteralForm.literal l.literals) (g.F.LiteralForm.IsKnown l.literals) l.spanned.query.now l.rest l.spans (owned_values l.values) l.i l.room l.at
