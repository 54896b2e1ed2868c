use Rattle.mysql_params_core.specs.GivenBorrowed.{given_by_borrowed}
use Rattle.mysql_binding.proofs.AppendedTextLemmas.{bound_after}
use Rattle.mysql_binding.proofs.binding.found_query.FoundQuery.append.Goals as goal

pub returns-clause-appended : goal.returns-clause-appended
returns-clause-appended c =
    bound_after _ _ (given_by_borrowed c.args.params) c.args.text.now.items c.bind_surveyed_after.new.text.items c.bind_surveyed_after.result
    (rw (c.surveyed-surveyed.ensures.query, c.surveyed-surveyed.ensures.reading) at c.bind_surveyed_after.ensures.appended)
