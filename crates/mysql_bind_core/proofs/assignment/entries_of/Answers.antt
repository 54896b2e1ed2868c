use Rattle.std.proofs.Common.{◌≡◌, ◌∙◌, ◌++◌, ◌∷◌, ap, sym, subst, map}
use Rattle.mysql_binding.proofs.AppendedTextLemmas.{handed_on}
use Rattle.std.specs.Vec.Iter.{into_iter_items}
use Rattle.mysql_fragments.specs.GivenFragments.{fragment_map}
use Rattle.mysql_bind_core.specs.Entries.{entries_of, pair_seen}
use Rattle.mysql_bind_core.specs.Refusals.{IsEntriesRefusal}
use Rattle.mysql_bind_core.proofs.EntryLemmas.{entries_of-refused}
use Rattle.mysql_bind_core.proofs.assignment.entries_of.Goals as goal

pub returns-in_err-insert_fragment-clause-refused : goal.returns-in_err-insert_fragment-clause-refused
returns-in_err-insert_fragment-clause-refused c =
    let at = c.loop-pair in
    let x = c.in-Some.pair in
    let left = into_iter_items c.next.new.self in
    let steps : into_iter_items at.pair-iterator ≡ x ∷ left = c.in-Some.ensures.steps.0 in
    let all : at.yielded ++ x ∷ left ≡ c.args.pairs.items =
    ap (λ more. at.yielded ++ more) (sym steps) ∙ at.invariant.0 ∙ c.into_iter-pair-iterator.ensures.into_iter_gives.0 in
    let why = c.in_err-insert_fragment.field-0.0 in
    handed_on (IsEntriesRefusal (entries_of (map pair_seen c.args.pairs.items))) c.from_residual.result why c.from_residual.ensures.1
    (subst (λ pairs. IsEntriesRefusal (entries_of (map pair_seen pairs)) why) all
    (entries_of-refused at.yielded x (fragment_map at.entries.entries) at.invariant.1 left why c.in_err-insert_fragment.ensures.refused))
