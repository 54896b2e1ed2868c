use Rattle.std.proofs.Common.{ap, of_z, pos, to_z, w32, ◌∙◌}
use Rattle.mysql_flat_params.specs.Outcomes.{number_of}
use Rattle.mysql_params_c.proofs.ToldLemmas.{number_kept}
use Rattle.mysql_params_c.proofs.wide.mysql_params_table_anywhere_wide.Goals as goal

pub returns-clause-unsteady : goal.returns-clause-unsteady
returns-clause-unsteady c at first =
    ap (λ z. to_z w32 (of_z w32 z)) (c.number.ensures.number ∙ ap (λ x. pos (number_of x)) (c.wide_anywhere_table_into-outcome.ensures.unsteady at first))

pub returns-clause-refused : goal.returns-clause-refused
returns-clause-refused c mode =
    let o = c.wide_anywhere_table_into-outcome.ensures.refused mode in (
      o.0,
      o.1,
      λ told is.
          ap (λ z. to_z w32 (of_z w32 z)) (c.number.ensures.number ∙ ap (λ x. pos (number_of x)) (o.2 told is)) ∙ number_kept told,
    )
