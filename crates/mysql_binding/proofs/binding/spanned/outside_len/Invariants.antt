use Rattle.mysql_binding.proofs.SpanLemmas.{CountedSoFar}
use Rattle.mysql_binding.proofs.binding.spanned.outside_len.Given as goal

abbrev pub invariant-loop-span : goal.invariant-loop-span
invariant-loop-span l = CountedSoFar l.text l.rest l.spans l.span-index l.len
