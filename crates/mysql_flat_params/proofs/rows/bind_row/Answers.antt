use Rattle.std.proofs.Common.{arith, sym, subst, length, ◌-◌}
use Rattle.mysql_flat_params.specs.RowInRoom.{IsRowInRoom}
use Rattle.mysql_flat_params.proofs.LeavesLemmas.{lenenc_within}
use Rattle.mysql_flat_params.proofs.RowsLemmas.{row_in_room}
use Rattle.mysql_flat_params.proofs.rows.bind_row.Goals as goal

pub overflow_sub-result : goal.overflow_sub-result
overflow_sub-result c =
    omega (arith, lenenc_within c.args.forms.now c.in-Ok.form.now c.eat_lenenc_str.new.self.0.now c.in-Ok.ensures.read, c.len.ensures.count)

pub returns-clause-row : goal.returns-clause-row
returns-clause-row c =
    subst (λ n. IsRowInRoom c.args.surveyed.now.reading c.args.surveyed.now.query.now c.args.forms.now c.args.room.now c.bind_form-outcome.new.room (length c.args.forms.now - n) c.bind_form-outcome.result)
    (sym c.len.ensures.count)
    (row_in_room c.args.surveyed.now.reading c.args.surveyed.now.query.now c.args.forms.now c.in-Ok.form.now c.eat_lenenc_str.new.self.0.now c.args.room.now c.bind_form-outcome.new.room c.in-Ok.ensures.read c.bind_form-outcome.result c.bind_form-outcome.ensures.form)
