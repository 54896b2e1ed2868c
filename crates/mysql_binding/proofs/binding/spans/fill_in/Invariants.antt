use Rattle.mysql_binding.proofs.SpanTextLemmas.{SpansFilled}
use Rattle.mysql_binding.proofs.binding.spans.fill_in.Given as goal

abbrev pub invariant-loop-i : goal.invariant-loop-i
invariant-loop-i g l =
    SpansFilled (g.F.LiteralForm.literal l.form) (g.F.LiteralForm.IsKnown l.form) l.spanned.query.now l.rest l.spans (g.L.ValueList.values l.values) l.i l.room l.at
