use Rattle.std.proofs.Common.{sym, ◌∙◌, Less, Equal, Greater}
use Rattle.core.specs.Cmp.{ranked}
use Rattle.mysql_float_literal.proofs.SizeLemmas.{at_most_by_twice, above_by_twice}
use Rattle.mysql_float_literal.proofs.start.is_at_most.Goals as goal

pub returns-in-Less-clause-above : goal.returns-in-Less-clause-above
returns-in-Less-clause-above c _ = above_by_twice c.args.bits c.args.power c.args.digits (ranked _ _ Less (sym c.in-Less.is ∙ c.compare_twice.ensures))

pub returns-in-Equal-clause-at_most : goal.returns-in-Equal-clause-at_most
returns-in-Equal-clause-at_most c _ = let same = ranked _ _ Equal (sym c.in-Equal.is ∙ c.compare_twice.ensures) in at_most_by_twice c.args.bits c.args.power c.args.digits (native.Mathlib.Nat.le_of_eq (sym same))

pub returns-in-Greater-clause-at_most : goal.returns-in-Greater-clause-at_most
returns-in-Greater-clause-at_most c _ = let more = ranked _ _ Greater (sym c.in-Greater.is ∙ c.compare_twice.ensures) in at_most_by_twice c.args.bits c.args.power c.args.digits (native.Mathlib.Nat.le_of_lt more)
