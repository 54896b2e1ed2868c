use Rattle.mysql_params_core.specs.Given.{named}
use Rattle.mysql_binding.proofs.SpanValueLemmas.{FoundAt}
use Rattle.mysql_binding.proofs.binding.spans.values_in_at.Given as goal

abbrev pub invariant-loop-span : goal.invariant-loop-span
invariant-loop-span g l = FoundAt (g.M.KeptValues.value l.entries) (named (g.M.KeptValues.values l.entries)) l.spanned.query.now l.rest l.spans l.span-index l.kept.items
