use Rattle.std.proofs.Common.{◌+◌, ◌-◌, ◌<◌, ◌≤◌, arith, subst}
use Rattle.mysql_bind_core.specs.GroupSearch.{IsTried, IsUnfitTry}
use Rattle.mysql_bind_core.specs.Groups.{of_rest}
use Rattle.mysql_bind_core.specs.declared.group.Tried.{Tried}
use Rattle.mysql_bind_core.specs.declared.group.Tried.TheVariants.{Fits}
use Rattle.mysql_bind_core.proofs.GroupLemmas.{fewer_than_fit, fewer_than_unfit, full_at_most, most_below}
use Rattle.mysql_bind_core.proofs.group.full_group.Goals as goal

pub returns-then-group-most-clause-full : goal.returns-then-group-most-clause-full
returns-then-group-most-clause-full c =
    let within = c.more.invariant.1 in
    full_at_most c.args.query.now c.args.form.now c.args.unread.rest.now c.more.group.rest.now c.more.group.rows c.more.most c.more.invariant.4
    (omega (arith, within, c.if-group-most.true))

pub returns-clause-full : goal.returns-clause-full
returns-clause-full c = of_rest (c.more.invariant.0.last c.more-test.false)

pub more-smaller-in-Fits : goal.more-smaller-in-Fits
more-smaller-in-Fits c =
    let tried = c.more.group.rows + c.min.result in
    let fits : IsTried c.args.query.now c.args.form.now c.args.unread.rest.now tried (Fits c.in-Fits.larger) =
    subst (λ (t : Tried). IsTried c.args.query.now c.args.form.now c.args.unread.rest.now tried t) c.in-Fits.is c.in_ok-larger.ensures.tried in
    let below : c.more.group.rows < c.more.most = omega (arith, c.if-group-most.false) in
    let step : 0 < c.more.step = c.more.invariant.3 in
    let wanted : c.more.group.rows < tried = omega (arith, c.min.ensures, below, step) in
    let within : tried ≤ c.more.most = omega (arith, c.min.ensures, below) in
    let few : c.in-Fits.larger.rows ≤ tried = fits.1 in
    let more : c.more.group.rows < c.in-Fits.larger.rows =
    fewer_than_fit c.args.query.now c.args.form.now c.args.unread.rest.now c.more.group c.in-Fits.larger tried c.more.invariant.0 c.more-test.true wanted fits.0 fits.2 in
    let smaller : c.more.most - c.in-Fits.larger.rows < c.more.most - c.more.group.rows = omega (arith, more, few, within, below) in
    smaller

pub more-preserved : goal.more-preserved
more-preserved c =
    let tried = c.more.group.rows + c.min.result in
    let unfit : IsUnfitTry c.args.query.now c.args.form.now c.args.unread.rest.now tried c.in-Unfit.count =
    subst (λ (t : Tried). IsTried c.args.query.now c.args.form.now c.args.unread.rest.now tried t) c.in-Unfit.is c.in_ok-larger.ensures.tried in
    let below : c.more.group.rows < c.more.most = omega (arith, c.if-group-most.false) in
    let step : 0 < c.more.step = c.more.invariant.3 in
    let wanted : c.more.group.rows < tried = omega (arith, c.min.ensures, below, step) in
    let within : tried ≤ c.more.most = omega (arith, c.min.ensures, below) in
    let rows : c.more.most ≤ c.args.form.now.rows = c.more.invariant.2 in
    let more : c.more.group.rows < c.in-Unfit.count =
    fewer_than_unfit c.args.query.now c.args.form.now c.args.unread.rest.now c.more.group tried c.in-Unfit.count c.more.invariant.0 c.more-test.true wanted unfit in (
      c.more.invariant.0,
      omega (arith, more),
      omega (arith, unfit.most_are, within, rows),
      omega (arith, c.max-step.ensures),
      most_below c.args.query.now c.args.form.now c.args.unread.rest.now tried c.in-Unfit.count unfit,
    )
