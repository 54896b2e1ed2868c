use Rattle.std.proofs.Common.{arith, ◌∙◌, ap, ◌++◌}
use Rattle.std.specs.Io.{StartsWith}
use Rattle.std.specs.Prelude.{codes}
use Rattle.std.proofs.Transfers.{starts_with_of_append, starts_with_of_eq}
use Rattle.mysql_fragments.specs.FragmentText.{identifier_text}
use Rattle.mysql_fragments.proofs.TextLemmas.{joined_step, still_begins}
use Rattle.mysql_fragments.proofs.written.push_names.Goals as goal
use Rattle.mysql_fragments.proofs.written.push_names.Goals.{then-i-gt0+in_ok-push, else-i-gt0}

pub loop-i-preserved : goal.loop-i-preserved
loop-i-preserved c =
    joined_step (codes ".") (λ name. identifier_text name.items) c.args.names.now c.loop-i.i c.index-names-i.result c.args.text.now.items c.loop-i.text.items c.if-i-gt0.text.items _ c.loop-i-test.true c.index-names-i.is c.loop-i.invariant
    (λ z. elim c.if-i-gt0.branch [ then-i-gt0+in_ok-push w ↦ absurd (omega (arith, z)) | else-i-gt0 w ↦ cc ])
    (λ z. elim c.if-i-gt0.branch [ then-i-gt0+in_ok-push w ↦ cc (w.in_ok-push.ensures.items) | else-i-gt0 w ↦ absurd (omega (arith, z)) ])
    (c.in_ok-push_identifier.ensures.text ∙ ap (λ v. c.if-i-gt0.text.items ++ identifier_text v) c.as_slice.ensures.value)

pub returns-in_err-push_identifier-clause-kept : goal.returns-in_err-push_identifier-clause-kept
returns-in_err-push_identifier-clause-kept c =
    let before = c.loop-i.text.items in
    let next = c.if-i-gt0.text.items in
    let begun : StartsWith next before = elim c.if-i-gt0.branch [
      | then-i-gt0+in_ok-push w ↦ starts_with_of_append next before (codes ".") (cc (w.in_ok-push.ensures.items))
      | else-i-gt0 w ↦ starts_with_of_eq next before (cc)
    ] in
    still_begins _ c.args.text.now.items _ before next _ c.loop-i.invariant begun c.in_err-push_identifier.ensures.kept
