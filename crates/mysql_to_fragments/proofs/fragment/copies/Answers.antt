use Rattle.std.proofs.Common.{◌++◌, ◌∷◌, [], ap, sym, ◌∙◌, take}
use Rattle.std.proofs.lemmas.List.{map-append}
use Rattle.mysql_params_core.specs.Names.{names_of}
use Rattle.mysql_params_core.specs.Referents.{referents}
use Rattle.mysql_params_core.proofs.BorrowedLemmas.{take-referents}
use Rattle.mysql_to_fragments.proofs.fragment.copies.Goals as goal

pub loop-name-preserved : goal.loop-name-preserved
loop-name-preserved c =
    let front = c.loop-name.copies.items in
    let copy = c.in_ok-from_slice.field-0 in
    ap names_of c.in_ok-push.ensures.items
    ∙ map-append (λ name. name.items) front (copy ∷ [])
    ∙ ap (λ names. names ++ copy.items ∷ []) c.loop-name.invariant
    ∙ ap (λ name. take c.loop-name.name-index (referents c.args.names.now) ++ name ∷ []) c.in_ok-from_slice.ensures.items
    ∙ sym (take-referents c.args.names.now c.loop-name.name-index _ c.loop-name-test.true)
