use Rattle.std.proofs.Common.{◌≡◌, drop, map}
use Rattle.mysql_bind_core.specs.Contents.{all_of, named_content}
use Rattle.mysql_bind_core.specs.Entries.{pair_said, pair_seen}
use Rattle.mysql_bind_core.proofs.ContentLemmas.{before}
use Rattle.mysql_bind_core.proofs.assignment.fragments_of.Given as goal

-- what is found of all assignments is what was found, and before what is left to find
abbrev pub invariant-loop-assignment : goal.invariant-loop-assignment
invariant-loop-assignment l =
    all_of named_content l.assignments
    ≡ before (map (λ pair. pair_said (pair_seen pair)) l.pairs.items) (all_of named_content (drop l.assignment-index l.assignments))
