use Rattle.mysql_params_core.specs.GivenBorrowed.{given_by_borrowed}
use Rattle.mysql_params_core.specs.Referents.{referents}
use Rattle.mysql_binding.proofs.BoundTextLemmas.{lookup_told}
use Rattle.mysql_binding.proofs.SurveyedQueryLemmas.{counted_names}
use Rattle.mysql_binding.proofs.binding.values_of_list.Goals as goal

pub returns-clause-refused : goal.returns-clause-refused
returns-clause-refused c =
    lookup_told _ _ (given_by_borrowed c.args.params) _ (referents c.in_ok-names.names.items) c.looked_up_values.result
    (counted_names _ _ c.args.surveyed.now.survey c.args.surveyed.now.surveyed c.requires.unmixed) c.in_ok-names.ensures.names
    (rw c.as_slice.ensures.value at c.looked_up_values.ensures.refused)
