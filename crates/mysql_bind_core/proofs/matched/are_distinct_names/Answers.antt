use Rattle.std.proofs.Common.{◌∙◌, ◌++◌, ◌∷◌, ℕ, List, [], ap, arith, get_or, map, sym, take}
use Rattle.std.proofs.lemmas.List.{length-map, map-append}
use Rattle.std.specs.Borrow.{Bor}
use Rattle.mysql_params_core.specs.Made.{seen_pair}
use Rattle.mysql_params_core.specs.Referents.{referents}
use Rattle.mysql_params_core.proofs.BorrowedLemmas.{take-referents}
use Rattle.mysql_bind_core.proofs.MatchedLemmas.{all_taken, distinct_names_made, with_nothing}
use Rattle.mysql_bind_core.proofs.matched.are_distinct_names.Goals as goal

pub loop-name-preserved : goal.loop-name-preserved
loop-name-preserved c =
    let names = c.args.names.now in
    let i = c.loop-name.name-index in
    let d : Bor (List ℕ) = record { ref_ptr = (0, 0); now = [] } in
    ap (map seen_pair) c.in_ok-push.ensures.items
    ∙ map-append seen_pair c.loop-name.pairs.items _
    ∙ ap (λ ps. ps ++ with_nothing (get_or names i d).now ∷ []) c.loop-name.invariant
    ∙ sym (map-append with_nothing (take i (referents names)) ((get_or names i d).now ∷ []))
    ∙ ap (map with_nothing) (sym (take-referents names i d c.loop-name-test.true))

pub returns : goal.returns
returns c = λ t.
    let names = c.args.names.now in
    distinct_names_made (referents names) (map seen_pair c.loop-name.pairs.items) _
    (c.loop-name.invariant
    ∙ ap (map with_nothing) (all_taken (referents names) c.loop-name.name-index (omega (arith, length-map names (λ r. r.now), c.loop-name-test.false))))
    (rw (c.in-None.is, c.as_slice.ensures.value) at c.in_ok-first_redefined.ensures.answer)
