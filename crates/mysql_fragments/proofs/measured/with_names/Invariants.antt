use Rattle.std.proofs.Common.{◌≡◌, ◌+◌, length, map, take}
use Rattle.std.specs.Prelude.{codes}
use Rattle.mysql_fragments.specs.FragmentText.{identifier_text, joined}
use Rattle.mysql_fragments.proofs.measured.with_names.Given as goal

abbrev pub invariant-loop-i : goal.invariant-loop-i
invariant-loop-i l = l.sum ≡ l.len + length (joined (codes ".") (map (λ name. identifier_text name.items) (take l.i l.names)))
