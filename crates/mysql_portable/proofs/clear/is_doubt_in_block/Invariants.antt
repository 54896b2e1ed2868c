use Rattle.std.proofs.Common.{◌≡◌, ◌+◌, ◌-◌, ◌≤◌}
use Rattle.mysql_sql_text.proofs.MaskLemmas.{IsMask}
use Rattle.mysql_portable.specs.Clear.{is_clear_from, may_be_in_doubt}
use Rattle.mysql_portable.proofs.clear.is_doubt_in_block.Given as goal

abbrev pub invariant-doubts : goal.invariant-doubts
invariant-doubts l =
    (l.from ≤ l.at) × (l.at ≤ l.from + 16)
    × (is_clear_from l.client l.text l.at ≡ is_clear_from l.client l.text l.from)
    × IsMask (may_be_in_doubt l.client) l.text l.at (l.from + 16) l.doubts

abbrev pub decreases-doubts : goal.decreases-doubts
decreases-doubts l = l.from + 16 - l.at
