use Rattle.std.proofs.Common.{◌≡◌, ◌++◌, arith, ap, ◌∙◌}
use Rattle.std.specs.Io.{StartsWith}
use Rattle.std.specs.Prelude.{codes}
use Rattle.std.specs.List.{flat_map}
use Rattle.std.proofs.Transfers.{starts_with_of_append, starts_with_of_eq, starts_with_trans}
use Rattle.mysql_binding.specs.LiteralForm.{written_literal}
use Rattle.mysql_fragments.specs.FragmentText.{filled_items, filled_row, item_values}
use Rattle.mysql_fragments.proofs.TextLemmas.{joined_step, row_written, still_begins}
use Rattle.mysql_fragments.proofs.FilledLemmas.{known_all, known_step}
use Rattle.mysql_fragments.proofs.written.push_rows.Goals as goal
use Rattle.mysql_fragments.proofs.written.push_rows.Goals.{then-i-gt0+in_ok-extend_from_slice, else-i-gt0}

pub loop-i-preserved : goal.loop-i-preserved
loop-i-preserved g c =
    let row = c.index-rows-i.result in
    let before = c.if-i-gt0.text.items in
    let write = written_literal (g.F.ValueForm.written c.args.form.now) in
    let whole : c.push-in-loop-i.new.self.items ≡ before ++ filled_row write row =
    row_written before (filled_items write row.items) _ _ _ c.in_ok-push.ensures.items (c.in_ok-push_items.ensures.text ∙ ap (λ vs. c.push.new.self.items ++ filled_items write vs) c.as_slice.ensures.value) c.in_ok-push-2.ensures.items in (
      joined_step (codes ", ") (filled_row write) c.args.rows.now c.loop-i.i row c.args.text.now.items c.loop-i.text.items before _ c.loop-i-test.true c.index-rows-i.is c.loop-i.invariant.0
          (λ z. elim c.if-i-gt0.branch [ then-i-gt0+in_ok-extend_from_slice w ↦ absurd (omega (arith, z)) | else-i-gt0 w ↦ cc ])
          (λ z. elim c.if-i-gt0.branch [ then-i-gt0+in_ok-extend_from_slice w ↦ cc (w.in_ok-extend_from_slice.ensures.items) | else-i-gt0 w ↦ absurd (omega (arith, z)) ])
          whole,
      known_step (g.F.ValueForm.written c.args.form.now) (g.F.ValueForm.IsKnown c.args.form.now) (λ row. flat_map item_values row.items) c.args.rows.now c.loop-i.i row
          c.loop-i-test.true c.index-rows-i.is c.loop-i.invariant.1 (rw c.as_slice.ensures.value at c.in_ok-push_items.ensures.known),
    )

pub returns-clause-known : goal.returns-clause-known
returns-clause-known g c =
    known_all (g.F.ValueForm.written c.args.form.now) (g.F.ValueForm.IsKnown c.args.form.now) (λ row. flat_map item_values row.items) c.args.rows.now c.loop-i.i
    (omega (arith, c.loop-i-test.false)) c.loop-i.invariant.1

pub returns-in_err-push_items-clause-kept : goal.returns-in_err-push_items-clause-kept
returns-in_err-push_items-clause-kept g c =
    let before = c.loop-i.text.items in
    let next = c.if-i-gt0.text.items in
    let begun : StartsWith next before = elim c.if-i-gt0.branch [
      | then-i-gt0+in_ok-extend_from_slice w ↦ starts_with_of_append next before (codes ", ") (cc (w.in_ok-extend_from_slice.ensures.items))
      | else-i-gt0 w ↦ starts_with_of_eq next before (cc)
    ] in
    still_begins _ c.args.text.now.items _ before next _ c.loop-i.invariant.0 begun
    (starts_with_trans _ _ next c.in_err-push_items.ensures.kept (starts_with_of_append _ next _ c.in_ok-push.ensures.items))
