use Rattle.std.proofs.Common.{◌≡◌}
use Rattle.mysql_portable.specs.Clear.{is_clear_from}
use Rattle.mysql_portable.proofs.clear.is_doubt_within.Given as goal

abbrev pub invariant-loop-at : goal.invariant-loop-at
invariant-loop-at l = is_clear_from l.client l.text l.at ≡ is_clear_from l.client l.text l.from
