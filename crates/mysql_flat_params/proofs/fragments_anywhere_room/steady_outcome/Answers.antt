use Rattle.std.specs.Prelude.{false}
use Rattle.std.proofs.Common.{subst}
use Rattle.mysql_named_params.specs.Reading.{OnTokensIn, reading_with}
use Rattle.mysql_flat_params.specs.FormCauses.{IsSteadyFormRefusal}
use Rattle.mysql_flat_params.specs.FragmentsAnywhereIntoRoom.{is_wide}
use Rattle.mysql_flat_params.proofs.FragmentsAnywhereLemmas.{outcome_told, taken_is_steady}
use Rattle.mysql_flat_params.proofs.fragments_anywhere_room.steady_outcome.Goals as goal

pub kept_outcome-requires : goal.kept_outcome-requires
kept_outcome-requires c = (
  c.requires.error.0,
  c.requires.error.1,
  rw c.wide_names.ensures (subst (λ error. OnTokensIn (reading_with (is_wide c.args.call) false) c.args.query.now (λ ts. IsSteadyFormRefusal c.requires.error.1 ts c.requires.error.0 error)) c.in-Kept.is (c.requires.error.2 false)),
)

pub returns-in-Kept-clause-outcome : goal.returns-in-Kept-clause-outcome
returns-in-Kept-clause-outcome c = λ form given kinds reads refused.
    outcome_told c.args.call c.args.query.now form (taken_is_steady (is_wide c.args.call) c.args.query.now c.requires.taken) c.requires.taken
    c.kept_outcome.result c.kept_outcome.ensures.no_answer
    (rw c.wide_names.ensures at (c.kept_outcome.ensures.outcome form given kinds reads
    (rw c.wide_names.ensures (subst (λ error. OnTokensIn (reading_with (is_wide c.args.call) false) c.args.query.now (λ ts. IsSteadyFormRefusal kinds ts given error)) c.in-Kept.is (refused false)))))

pub returns-in-UnsteadyFragment-clause-outcome : goal.returns-in-UnsteadyFragment-clause-outcome
returns-in-UnsteadyFragment-clause-outcome c = λ form given kinds reads refused. (
  c.requires.taken,
  λ mode. (given, kinds, reads, subst (λ error. OnTokensIn (reading_with (is_wide c.args.call) mode) c.args.query.now (λ ts. IsSteadyFormRefusal kinds ts given error)) c.in-UnsteadyFragment.is (refused mode)),
)
