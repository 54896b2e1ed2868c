use Rattle.std.proofs.Common.{◌++◌, ◌∙◌, List, ℕ, ap}
use Rattle.std.proofs.lemmas.Bool.Decides.{Decides-eqb}
use Rattle.std.proofs.lemmas.Slice.Eq.{ends_is}
use Rattle.mysql_bind_core.specs.Bound.{IsPortableQuery}
use Rattle.mysql_bind_core.specs.QueryEnd.{end}
use Rattle.mysql_bind_core.proofs.EndAlikeLemmas.{found_with_end, no_dashes, on_error, portable_with_end}
use Rattle.mysql_bind_core.proofs.checked.first_found.Goals as goal

pub returns-then-not-ends_with-clause-none : goal.returns-then-not-ends_with-clause-none
returns-then-not-ends_with-clause-none c = λ none.
    let o = c.first_unportable_in_client_in.ensures.none in
    let own : IsPortableQuery c.args.no_backslash_escape c.args.query.now = (o.0, o.1, o.2.0 c.in_default.is) in
    let other = no_dashes c.args.query.now c.ends_with.result (ends_is Decides-eqb _ _ _ c.ends_with.ensures.value).1 c.if-not-ends_with.true in
    (own, portable_with_end c.args.no_backslash_escape c.args.query.now c.requires other own)

pub returns-in_err-ended-clause-memory : goal.returns-in_err-ended-clause-memory
returns-in_err-ended-clause-memory c =
    let o = c.first_unportable_in_client_in.ensures.none in
    let own : IsPortableQuery c.args.no_backslash_escape c.args.query.now = (o.0, o.1, o.2.0 c.in_default.is) in
    on_error c.from_residual.result _ (own, (_, (ends_is Decides-eqb _ _ _ c.ends_with.ensures.value).0 c.if-not-ends_with.false))

pub returns-in_err-extend_from_slice-clause-memory : goal.returns-in_err-extend_from_slice-clause-memory
returns-in_err-extend_from_slice-clause-memory c =
    let o = c.first_unportable_in_client_in.ensures.none in
    let own : IsPortableQuery c.args.no_backslash_escape c.args.query.now = (o.0, o.1, o.2.0 c.in_default.is) in
    on_error c.from_residual-in_err-extend_from_slice.result _ (own, (_, (ends_is Decides-eqb _ _ _ c.ends_with.ensures.value).0 c.if-not-ends_with.false))

pub returns-clause-none : goal.returns-clause-none
returns-clause-none c =
    let o = c.first_unportable_in_client_in.ensures.none in
    let own : IsPortableQuery c.args.no_backslash_escape c.args.query.now = (o.0, o.1, o.2.0 c.in_default.is) in
    let seen = c.as_slice.ensures.value ∙ c.in_ok-extend_from_slice.ensures.items ∙ ap (λ (x : List ℕ). x ++ end) c.in_ok-ended.ensures.items in
    found_with_end c.first_unportable_in_client_in-2.result c.args.no_backslash_escape c.args.query.now c.as_slice.result.now seen own
    c.first_unportable_in_client_in-2.ensures.none
