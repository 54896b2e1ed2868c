use Rattle.std.proofs.Common.{refl, subst, sym}
use Rattle.mysql_named_params.specs.Reading.{OnTokensIn}
use Rattle.mysql_binding.proofs.AppendedTextLemmas.{handed_on}
use Rattle.mysql_binding.proofs.SurveyedQueryLemmas.{on_survey}
use Rattle.mysql_fragments.proofs.RoomLemmas.{bound_fragments_in_room}
use Rattle.mysql_flat_params.specs.FormCauses.{IsFormCauseOrMemory, first_form_cause}
use Rattle.mysql_flat_params.specs.declared.form_refusal.KeptError.TheVariants.{Fragments}
use Rattle.mysql_flat_params.proofs.FragmentsRoomLemmas.{stands_in_room}
use Rattle.mysql_flat_params.proofs.PlacedLemmas.{ArePlacedAs, as_many_placed, later_none, none_later}
use Rattle.mysql_flat_params.proofs.UnbracketedLemmas.{early_on, stand_on, unmixed_on}
use Rattle.mysql_flat_params.proofs.fragments_room.bind_read.Goals as goal

pub form_error-requires : goal.form_error-requires
form_error-requires c = unmixed_on _ _ _ _ (c.in_ok-placed.ensures.placed c.requires.0 c.requires.2.0)

pub returns-in-Some-clause-refused : goal.returns-in-Some-clause-refused
returns-in-Some-clause-refused c = λ given kinds read.
    let surveyed = c.new-surveyed.result in
    rw (c.new-surveyed.ensures.query, c.new-surveyed.ensures.reading) at
    (c.in-Some.ensures.refused given kinds read.1
    (subst (ArePlacedAs surveyed.reading surveyed.query.now given) (sym c.as_slice-placed.ensures.value) (c.in_ok-placed.ensures.placed given read.0)))

pub bind_placed_into-requires : goal.bind_placed_into-requires
bind_placed_into-requires c =
    let surveyed = c.new-surveyed.result in
    record {
      places =
          as_many_placed surveyed.reading surveyed.query.now surveyed.survey (on_survey _ _ _ surveyed.surveyed) c.requires.0 c.as_slice-placed.result.now
          (subst (ArePlacedAs surveyed.reading surveyed.query.now c.requires.0) (sym c.as_slice-placed.ensures.value) (c.in_ok-placed.ensures.placed c.requires.0 c.requires.2.0))
          (later_none c.as_slice-placed.result.now surveyed.survey (c.in_default.ensures.later refl));
    }

pub returns-in-Some-bind_placed_into-clause-bound : goal.returns-in-Some-bind_placed_into-clause-bound
returns-in-Some-bind_placed_into-clause-bound c = λ given kinds read.
    let surveyed = c.new-surveyed.result in
    let p : ArePlacedAs surveyed.reading surveyed.query.now given c.as_slice-placed.result.now =
    subst (ArePlacedAs surveyed.reading surveyed.query.now given) (sym c.as_slice-placed.ensures.value) (c.in_ok-placed.ensures.placed given read.0) in
    stands_in_room c.args.reading c.args.query.now given kinds c.args.room.now c.bind_placed_into.new.room c.in-Some-bind_placed_into.text
    (rw (c.new-surveyed.ensures.query, c.new-surveyed.ensures.reading) at (stand_on _ _ kinds given (c.in_default.ensures.none refl given kinds read.1 p)))
    (bound_fragments_in_room c.args.reading c.args.query.now given c.args.room.now c.bind_placed_into.new.room c.in-Some-bind_placed_into.text
    (rw (c.new-surveyed.ensures.query, c.new-surveyed.ensures.reading) at
    (c.in-Some-bind_placed_into.ensures.text given p.2.1 p.2.3
    (none_later surveyed.reading surveyed.query.now surveyed.survey (on_survey _ _ _ surveyed.surveyed) given c.as_slice-placed.result.now p (later_none c.as_slice-placed.result.now surveyed.survey (c.in_default.ensures.later refl))))))

pub returns-in_err-placed-clause-refused : goal.returns-in_err-placed-clause-refused
returns-in_err-placed-clause-refused c = λ given kinds read.
    let error = Fragments c.in_err-placed.field-0.0 in
    let o : OnTokensIn c.args.reading c.args.query.now (λ ts. IsFormCauseOrMemory (first_form_cause kinds ts given) error) =
    early_on _ _ kinds given c.in_err-placed.field-0.0 c.in_err-placed.ensures.early
    (rw (c.new-surveyed.ensures.query, c.new-surveyed.ensures.reading) at (c.in_err-placed.ensures.refused given read.0)) in
    (o.0, o.1, handed_on (IsFormCauseOrMemory (first_form_cause kinds o.0 given)) c.from_residual.result error c.from_residual.ensures.1 o.2)
