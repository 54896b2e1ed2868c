use Rattle.std.proofs.Common.{◌≡◌, ◌+◌, ◌++◌, length, map, take}
use Rattle.std.specs.Prelude.{codes}
use Rattle.mysql_fragments.specs.FragmentText.{joined, qualified_text}
use Rattle.mysql_fragments.proofs.names.append_columns.Given as goal

abbrev pub invariant-loop-i : goal.invariant-loop-i
invariant-loop-i l =
    (l.end ≡ l.at + length (joined (codes ", ") (map (λ names. qualified_text names.items) (take l.i l.columns))))
    × (take l.end l.text ≡ take l.at l.fn.text ++ joined (codes ", ") (map (λ names. qualified_text names.items) (take l.i l.columns)))
    × (length l.text ≡ length l.fn.text)
