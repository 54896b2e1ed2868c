use Rattle.std.proofs.Common.{length}
use Rattle.mysql_named_params.proofs.RenameLemmas.{RenamedSoFar}
use Rattle.mysql_named_params.proofs.named_params.renamed_query.Given as goal

abbrev pub invariant-loop-found : goal.invariant-loop-found
invariant-loop-found l = RenamedSoFar l.no_backslash_escape l.query l.rest l.renamed.items l.params.items

abbrev pub decreases-loop-found : goal.decreases-loop-found
decreases-loop-found l = length l.rest
