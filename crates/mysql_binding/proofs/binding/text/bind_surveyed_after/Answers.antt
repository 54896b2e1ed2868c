use Rattle.mysql_params_core.specs.GivenBorrowed.{given_by_borrowed}
use Rattle.mysql_binding.proofs.binding.text.bind_surveyed_after.Goals as goal

pub returns-clause-appended : goal.returns-clause-appended
returns-clause-appended g c =
    let a = c.in_ok-append_measured.ensures.appended in
    (a.0, a.1, a.2 (given_by_borrowed c.args.params) c.in_ok-measured.ensures.measured)
