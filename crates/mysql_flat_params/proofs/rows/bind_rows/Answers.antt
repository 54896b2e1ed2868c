use Rattle.std.proofs.Common.{arith, sym, subst, ap, ◌∙◌, take, drop}
use Rattle.std.proofs.lemmas.List.{take_rest}
use Rattle.mysql_flat_params.specs.BoundRows.{AreBoundRowsIn}
use Rattle.mysql_flat_params.proofs.RowsLemmas.{no_rows, room_kept, row_more, row_told}
use Rattle.mysql_flat_params.proofs.rows.bind_rows.Goals as goal

pub loop-read-init : goal.loop-read-init
loop-read-init c = (
  no_rows c.args.surveyed.now.reading c.args.surveyed.now.query.now c.args.forms.now c.args.room.now,
  rw c.new-memory.ensures tt,
)

pub loop-read-preserved : goal.loop-read-preserved
loop-read-preserved c = (
  row_more c.args.surveyed.now.reading c.args.surveyed.now.query.now c.args.forms.now c.args.room.now c.loop-read.room c.loop-read.count c.loop-read.read c.loop-read.written c.loop-read.invariant.0
      _ _ c.bind_row-outcome.new.room (take_rest c.args.forms.now c.loop-read.read) (take_rest c.loop-read.room c.loop-read.written)
      c.bind_row-outcome.result.1 c.in-Done.len c.bind_row-outcome.result.0 c.in-Done.is c.bind_row-outcome.ensures.row c.bind_row-outcome.auto.room,
  c.bind_row-outcome.ensures.found,
)

pub returns-in_default : goal.returns-in_default
returns-in_default c =
    let told = row_told c.args.surveyed.now.reading c.args.surveyed.now.query.now c.args.forms.now c.args.room.now c.loop-read.room c.loop-read.count c.loop-read.read c.loop-read.written c.loop-read.invariant.0
    _ _ c.bind_row-outcome.new.room (take_rest c.args.forms.now c.loop-read.read) (take_rest c.loop-read.room c.loop-read.written)
    c.bind_row-outcome.result.1 c.loop-read-test.true c.bind_row-outcome.result.0 c.in_default.not-Done c.bind_row-outcome.ensures.row in
    let kept = room_kept c.args.surveyed.now.reading c.args.surveyed.now.query.now c.args.forms.now c.args.room.now c.loop-read.room c.loop-read.count c.loop-read.read c.loop-read.written c.loop-read.invariant.0
    c.bind_row-outcome.new.room told.3 in
    record {
      rows = subst (λ r. AreBoundRowsIn c.args.surveyed.now.reading c.args.surveyed.now.query.now c.args.forms.now c.loop-read.count (take c.loop-read.written r) (drop c.loop-read.read c.args.forms.now)) (sym kept) c.loop-read.invariant.0.rows;
      outcome = told.0;
      read = c.loop-read.invariant.0.read_in_range;
      done = told.1;
      too_long = told.2;
      rest = (omega (arith, c.loop-read.invariant.0.written_in_range, c.loop-read.invariant.0.same_length), ap (drop c.loop-read.written) kept ∙ c.loop-read.invariant.0.rest);
    }
