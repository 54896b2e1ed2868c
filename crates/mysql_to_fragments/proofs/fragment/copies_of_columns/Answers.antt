use Rattle.std.proofs.Common.{◌++◌, ◌∷◌, [], ap, map, sym, ◌∙◌, take}
use Rattle.std.proofs.lemmas.List.{map-append}
use Rattle.mysql_params_core.specs.Names.{names_of}
use Rattle.mysql_params_core.specs.Referents.{referents}
use Rattle.mysql_params_core.proofs.BorrowedLemmas.{take-referents}
use Rattle.mysql_to_fragments.specs.FragmentContent.{columns_content}
use Rattle.mysql_to_fragments.proofs.fragment.copies_of_columns.Goals as goal

pub loop-names-preserved : goal.loop-names-preserved
loop-names-preserved c =
    let front = c.loop-names.copied.items in
    let copy = c.in_ok-copies.field-0 in
    let before = take c.loop-names.names-index (referents c.args.columns.now) in
    ap columns_content c.in_ok-push.ensures.items
    ∙ map-append (λ names. names_of names.items) front (copy ∷ [])
    ∙ ap (λ columns. columns ++ names_of copy.items ∷ []) c.loop-names.invariant
    ∙ ap (λ names. map referents before ++ names ∷ []) c.in_ok-copies.ensures
    ∙ sym (map-append referents before _)
    ∙ ap (map referents) (sym (take-referents c.args.columns.now c.loop-names.names-index _ c.loop-names-test.true))
