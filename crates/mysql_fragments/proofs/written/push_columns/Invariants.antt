use Rattle.std.proofs.Common.{◌≡◌, ◌++◌, take, map}
use Rattle.std.specs.Prelude.{codes}
use Rattle.mysql_fragments.specs.FragmentText.{joined, qualified_text}
use Rattle.mysql_fragments.proofs.written.push_columns.Given as goal

abbrev pub invariant-loop-i : goal.invariant-loop-i
invariant-loop-i l = l.text.items ≡ l.fn.text.items ++ joined (codes ", ") (map (λ names. qualified_text names.items) (take l.i l.columns))
