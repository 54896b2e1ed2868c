use Rattle.std.proofs.Common.{◌∙◌, ◌++◌, ◌∷◌, ℕ, List, [], Some, ap, get_or, map, sym, take}
use Rattle.std.proofs.lemmas.List.{map-append}
use Rattle.std.specs.Borrow.{Bor}
use Rattle.std.specs.List.{slice_get}
use Rattle.mysql_params_core.specs.Referents.{referents}
use Rattle.mysql_params_core.proofs.BorrowedLemmas.{take-referents}
use Rattle.mysql_bind_core.proofs.matched.numbers_of.Goals as goal

pub loop-name-preserved : goal.loop-name-preserved
loop-name-preserved c =
    let names = c.args.names.now in
    let i = c.loop-name.name-index in
    let find = slice_get (referents c.args.columns.now) in
    let d : Bor (List ℕ) = record { ref_ptr = (0, 0); now = [] } in
    ap (map find) c.in_ok-push-in-Some.ensures.items
    ∙ map-append find c.loop-name.numbers.items _
    ∙ ap (λ os. os ++ find c.in-Some.number ∷ []) c.loop-name.invariant
    ∙ ap (λ o. map (λ x. Some x) (take i (referents names)) ++ o ∷ []) c.in-Some.ensures
    ∙ sym (map-append (λ x. Some x) (take i (referents names)) ((get_or names i d).now ∷ []))
    ∙ ap (map (λ x. Some x)) (sym (take-referents names i d c.loop-name-test.true))
