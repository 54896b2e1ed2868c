use Rattle.std.proofs.Common.{arith, sym}
use Rattle.std.specs.Cmp.Lexicographic.{bytes_decides}
use Rattle.mysql_flat_params.proofs.RowNamesLemmas.{name_at}
use Rattle.mysql_flat_params.proofs.row_names.number_of.Goals as goal

pub returns-then-eq : goal.returns-then-eq
returns-then-eq c =
    name_at c.args.pairs.now c.match-sorted.number _ c.args.name.now (omega (arith, c.if-number-pairs.false))
    ((bytes_decides _ _).0 (sym c.if-eq.ensures))
