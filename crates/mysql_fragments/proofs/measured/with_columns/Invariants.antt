use Rattle.std.proofs.Common.{◌≡◌, ◌+◌, length, map, take}
use Rattle.std.specs.Prelude.{codes}
use Rattle.mysql_fragments.specs.FragmentText.{joined, qualified_text}
use Rattle.mysql_fragments.proofs.measured.with_columns.Given as goal

abbrev pub invariant-loop-i : goal.invariant-loop-i
invariant-loop-i l = l.sum ≡ l.len + length (joined (codes ", ") (map (λ names. qualified_text names.items) (take l.i l.columns)))
