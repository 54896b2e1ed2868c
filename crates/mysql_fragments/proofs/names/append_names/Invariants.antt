use Rattle.std.proofs.Common.{◌≡◌, ◌+◌, ◌++◌, length, map, take}
use Rattle.std.specs.Prelude.{codes}
use Rattle.mysql_fragments.specs.FragmentText.{identifier_text, joined}
use Rattle.mysql_fragments.proofs.names.append_names.Given as goal

abbrev pub invariant-loop-i : goal.invariant-loop-i
invariant-loop-i l =
    (l.end ≡ l.at + length (joined (codes ".") (map (λ name. identifier_text name.items) (take l.i l.names))))
    × (take l.end l.text ≡ take l.at l.fn.text ++ joined (codes ".") (map (λ name. identifier_text name.items) (take l.i l.names)))
    × (length l.text ≡ length l.fn.text)
