use Rattle.std.proofs.Common.{arith, ◌∙◌, ap, ◌++◌}
use Rattle.std.specs.Io.{StartsWith}
use Rattle.std.specs.Prelude.{codes}
use Rattle.std.proofs.Transfers.{starts_with_of_append, starts_with_of_eq}
use Rattle.mysql_fragments.specs.FragmentText.{qualified_text}
use Rattle.mysql_fragments.proofs.TextLemmas.{joined_step, still_begins}
use Rattle.mysql_fragments.proofs.written.push_columns.Goals as goal
use Rattle.mysql_fragments.proofs.written.push_columns.Goals.{then-i-gt0+in_ok-extend_from_slice, else-i-gt0}

pub loop-i-preserved : goal.loop-i-preserved
loop-i-preserved c =
    joined_step (codes ", ") (λ names. qualified_text names.items) c.args.columns.now c.loop-i.i c.index-columns-i.result c.args.text.now.items c.loop-i.text.items c.if-i-gt0.text.items _ c.loop-i-test.true c.index-columns-i.is c.loop-i.invariant
    (λ z. elim c.if-i-gt0.branch [ then-i-gt0+in_ok-extend_from_slice w ↦ absurd (omega (arith, z)) | else-i-gt0 w ↦ cc ])
    (λ z. elim c.if-i-gt0.branch [ then-i-gt0+in_ok-extend_from_slice w ↦ cc (w.in_ok-extend_from_slice.ensures.items) | else-i-gt0 w ↦ absurd (omega (arith, z)) ])
    (c.in_ok-push_names.ensures.text ∙ ap (λ v. c.if-i-gt0.text.items ++ qualified_text v) c.as_slice.ensures.value)

pub returns-in_err-push_names-clause-kept : goal.returns-in_err-push_names-clause-kept
returns-in_err-push_names-clause-kept c =
    let before = c.loop-i.text.items in
    let next = c.if-i-gt0.text.items in
    let begun : StartsWith next before = elim c.if-i-gt0.branch [
      | then-i-gt0+in_ok-extend_from_slice w ↦ starts_with_of_append next before (codes ", ") (cc (w.in_ok-extend_from_slice.ensures.items))
      | else-i-gt0 w ↦ starts_with_of_eq next before (cc)
    ] in
    still_begins _ c.args.text.now.items _ before next _ c.loop-i.invariant begun c.in_err-push_names.ensures.kept
