use Rattle.std.proofs.Common.{refl, false}
use Rattle.std.specs.Prelude.{IsTrue}
use Rattle.mysql_flat_params.proofs.NamePlaceLemmas.{searched_none, searched_all, searched_found, searched_more}
use Rattle.mysql_flat_params.proofs.missing_place.name_place_read.Goals as goal

pub loop-found-init : goal.loop-found-init
loop-found-init c = searched_none _ _ _

pub returns-then-is_this_name-clause-found : goal.returns-then-is_this_name-clause-found
returns-then-is_this_name-clause-found c =
    let this = c.if-is_this_name.ensures.0 refl in
    searched_found _ _ _ _ _ c.loop-found.invariant _ c.in-Some.ensures.place _ _ c.cut.ensures.place c.cut.ensures.after
    _ this.0 this.1 refl

pub loop-found-preserved : goal.loop-found-preserved
loop-found-preserved c =
    searched_more _ _ _ _ _ c.loop-found.invariant _ c.in-Some.ensures.place _ _ c.cut.ensures.place c.cut.ensures.after
    (λ h. never (c.if-is_this_name.ensures.1 h))
  where
    never : IsTrue false → ⊥
    never e = cc

pub returns-clause-none : goal.returns-clause-none
returns-clause-none c =
    let o = c.in_default.ensures.none in
    let all = searched_all _ _ _ _ _ c.loop-found.invariant (o.0, o.1, o.2 refl) in
    (all.0, all.1, λ none. all.2)
