use Rattle.std.proofs.Common.{arith, subst}
use Rattle.mysql_bind_core.specs.GroupSearch.{IsTried, IsUnfitTry}
use Rattle.mysql_bind_core.specs.declared.group.Tried.{Tried}
use Rattle.mysql_bind_core.proofs.GroupLemmas.{most_below}
use Rattle.mysql_bind_core.proofs.group.first_fit.Goals as goal

pub fewer-preserved : goal.fewer-preserved
fewer-preserved c =
    let unfit : IsUnfitTry c.args.query.now c.args.form.now c.args.unread.rest.now c.fewer.tried c.in-Unfit.count =
    subst (λ (t : Tried). IsTried c.args.query.now c.args.form.now c.args.unread.rest.now c.fewer.tried t) c.in-Unfit.is c.in_ok-group.ensures.tried in
    let most = c.fewer.invariant.1 in
    let rows = c.fewer.invariant.2 in (
      omega (arith, unfit.some),
      omega (arith, unfit.some),
      omega (arith, unfit.some, unfit.most_are, most, rows),
      most_below c.args.query.now c.args.form.now c.args.unread.rest.now c.fewer.tried c.in-Unfit.count unfit,
    )
