use Rattle.std.proofs.Common.{◌≡◌, ◌∙◌, ◌++◌, ◌∷◌, ◌<◌, ◌+◌, ◌-◌, [], append-nil, arith, ap, inr, sym}
use Rattle.std.specs.Prelude.{is_ok, vec_capacity, Ok}
use Rattle.std.proofs.lemmas.Bool.{cond-true}
use Rattle.std.proofs.lemmas.List.{map-append}
use Rattle.mysql_value_core.proofs.TextCellLemmas.{row_after, first_cell, next_cell, refused_cell}
use Rattle.mysql_wire_part.specs.ParseBuf.{left}
use Rattle.mysql_wire_part.specs.Reading.{map_read}
use Rattle.mysql_value_core.specs.BorrowedValue.{owned, owned_values}
use Rattle.mysql_value_core.specs.TextCell.{read_cells, ReadsACell}
use Rattle.mysql_value_core.proofs.value.text.read_text_cells_into.Goals as goal

pub returns-in_err-cell-clause-read : goal.returns-in_err-cell-clause-read
returns-in_err-cell-clause-read c =
    refused_cell c.args.count c.loop.counter (left c.args.buf.now) (left c.loop.rest)
    (owned_values c.loop.cells.items) (omega arith) c.loop.invariant.read_on
    (λ cell. (owned cell, left c.read_text_cell.new.buf)) _ ⊥ ((vec_capacity c.args.cells.now < c.args.count) × ReadsACell c.args.count (left c.args.buf.now)) (λ none. absurd none)
    c.in_err-cell.field-0.0 c.from_residual.result c.from_residual.ensures.1
    c.in_err-cell.ensures.read

pub loop-preserved : goal.loop-preserved
loop-preserved c =
    let pushed : owned_values c.push.new.self.items
    ≡ owned_values c.loop.cells.items ++ owned c.in_ok-cell.cell ∷ [] =
    ap owned_values (c.push.ensures.items
    ∙ cond-true (is_ok c.push.result) _ _ (sym c.in_ok-map_err.ensures.variant))
    ∙ map-append owned c.loop.cells.items (c.in_ok-cell.cell ∷ []) in
    record {
      within = omega arith;
      read_on =
          next_cell c.args.count c.loop.counter (left c.args.buf.now) (left c.loop.rest)
          (owned_values c.loop.cells.items) (omega arith) c.loop.invariant.read_on
          (owned c.in_ok-cell.cell) (left c.read_text_cell.new.buf) c.in_ok-cell.ensures.read
          ∙ ap (λ cells. row_after cells
          (read_cells (c.args.count - (c.loop.counter + 1)) (left c.read_text_cell.new.buf)))
          (sym pushed);
      first = inr (first_cell c.args.count c.loop.counter (left c.args.buf.now) (left c.loop.rest)
          (owned_values c.loop.cells.items) (omega arith) c.loop.invariant.read_on c.loop.invariant.first
          (ap is_ok c.in_ok-cell.ensures.read));
      full = c.push.ensures.len ∙ cond-true (is_ok c.push.result) _ _ (sym c.in_ok-map_err.ensures.variant) ∙ ap (λ n. n + 1) c.loop.invariant.full;
      room = omega (arith, c.push.ensures.capacity, c.loop.invariant.room);
    }

pub returns-clause-read : goal.returns-clause-read
returns-clause-read c =
    let none : c.args.count - c.loop.counter ≡ 0 = omega arith in
    c.loop.invariant.read_on
    ∙ (ap (λ k. map_read (λ cells. owned_values c.loop.cells.items ++ cells) (read_cells k (left c.loop.rest))) none
    ∙ ap (λ cells. Ok (cells, left c.loop.rest)) (append-nil (owned_values c.loop.cells.items)))
