use Rattle.std.specs.Prelude.{option_map}
use Rattle.std.proofs.Common.{ap}
use Rattle.mysql_fragments.specs.FragmentErrors.{refused_fragments}
use Rattle.mysql_fragments.specs.GivenFragments.{missing}
use Rattle.mysql_flat_params.specs.FormCauses.{form_cause_of, of_fragments}
use Rattle.mysql_flat_params.specs.declared.form_refusal.KeptError.TheVariants.{Fragments}
use Rattle.mysql_flat_params.proofs.FragmentsRoomLemmas.{is_missing, refused_for, name_is_there, missing_told}
use Rattle.mysql_flat_params.proofs.fragments_room.fragments_outcome.Goals as goal

pub missing_outcome-requires : goal.missing_outcome-requires
missing_outcome-requires c =
    name_is_there c.args.reading c.args.query.now c.as_slice.result.now c.args.error
    (is_missing _ _ _ c.in-Missing.is c.as_slice.ensures.value) c.requires

pub returns-in-Missing-clause-outcome : goal.returns-in-Missing-clause-outcome
returns-in-Missing-clause-outcome c = λ form given kinds reads o.
    missing_told c.args.reading c.args.query.now form c.as_slice.result.now c.missing_outcome.result
    (refused_for (Fragments c.args.error) (of_fragments (refused_fragments (missing c.as_slice.result.now)))
    (ap (option_map of_fragments) (is_missing _ _ _ c.in-Missing.is c.as_slice.ensures.value))
    c.args.reading c.args.query.now form given kinds reads o)
    c.missing_outcome.ensures

pub returns-in-Mixed-clause-outcome : goal.returns-in-Mixed-clause-outcome
returns-in-Mixed-clause-outcome c = λ form given kinds reads o.
    refused_for (Fragments c.args.error) _ (ap (λ e. form_cause_of (Fragments e)) c.in-Mixed.is) c.args.reading c.args.query.now form given kinds reads o

pub returns-in-MarkCount-clause-outcome : goal.returns-in-MarkCount-clause-outcome
returns-in-MarkCount-clause-outcome c = λ form given kinds reads o.
    refused_for (Fragments c.args.error) _ (ap (λ e. form_cause_of (Fragments e)) c.in-MarkCount.is) c.args.reading c.args.query.now form given kinds reads o
