use Rattle.std.proofs.Common.{refl, ap, ◌∙◌, ◌++◌}
use Rattle.mysql_named_params.proofs.RenameLemmas.{renamed_none, renamed_more, renamed_all, some_params}
use Rattle.mysql_named_params.proofs.named_params.renamed_query.Goals as goal

pub loop-found-init : goal.loop-found-init
loop-found-init c =
    renamed_none _ _ _ _ _ _ c.requires.names c.requires.start c.split_at.ensures.back
    (c.in_ok-extend_from_slice.ensures.items ∙ (ap (λ x. x ++ c.split_at.result.0.now) c.in_ok-renamed.ensures.items ∙ c.split_at.ensures.front)) c.in_ok-params.ensures.items

pub loop-found-preserved : goal.loop-found-preserved
loop-found-preserved c =
    renamed_more _ _ _ _ _ c.loop-found.invariant _ _ _ _ _ _ _ c.in-Some.ensures.place
    c.cut.ensures.before c.cut.ensures.place c.cut.ensures.after
    (cc (c.in_ok-push.ensures.items, c.in_ok-extend_from_slice-2.ensures.items)) c.in_ok-push-2.ensures.items refl tt

pub returns : goal.returns
returns c =
    let o = c.in_default.ensures.none in
    renamed_all _ _ _ _ _ c.loop-found.invariant (o.0, o.1, o.2 refl) _ c.in_ok-extend_from_slice-3.ensures.items

pub invariant_of-result : goal.invariant_of-result
invariant_of-result c =
    let o = c.in_default.ensures.none in
    (c.loop-found.invariant.borrowed, λ nil. absurd (some_params _ _ _ _ _ c.loop-found.invariant (o.0, o.1, o.2 refl) nil))
