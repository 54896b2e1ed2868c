use Rattle.std.proofs.Common.{take}
use Rattle.mysql_params_core.specs.Referents.{referents}
use Rattle.mysql_binding.specs.LiteralForm.{written_literal}
use Rattle.mysql_binding.specs.PushedLiteral.{AreKnownUnlessFloats}
use Rattle.mysql_fragments.specs.FragmentText.{all_values, filled_text}
use Rattle.mysql_fragments.proofs.ExpandedLemmas.{SplicedSoFar}
use Rattle.mysql_fragments.proofs.filled.spliced_text.Given as goal

abbrev pub invariant-loop-fragment : goal.invariant-loop-fragment
invariant-loop-fragment g l =
    SplicedSoFar l.reading (filled_text (written_literal (g.F.ValueForm.written l.form))) l.query l.rest (referents l.fragments) l.fragment-index l.text.items
    × AreKnownUnlessFloats (g.F.ValueForm.written l.form) (g.F.ValueForm.IsKnown l.form) (all_values (take l.fragment-index (referents l.fragments)))
