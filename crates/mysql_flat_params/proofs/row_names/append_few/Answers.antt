use Rattle.std.proofs.Common.{sym}
use Rattle.mysql_flat_params.proofs.RowNamesLemmas.{own_pushed}
use Rattle.mysql_flat_params.proofs.row_names.append_few.Goals as goal

pub returns-in-Ok : goal.returns-in-Ok
returns-in-Ok c = record {
  own = own_pushed c.args.pairs.now.items c.push.new.self.items _ c.in-Ok.ensures.items c.requires.own c.requires.some
      (sym (rw c.as_slice.ensures.value at c.if-has_name.ensures));
}
