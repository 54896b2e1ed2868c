use Rattle.std.specs.Prelude.{None, false}
use Rattle.std.proofs.Common.{◌≡◌, inl, refl, subst, sym}
use Rattle.mysql_binding.proofs.AppendedTextLemmas.{handed_on}
use Rattle.mysql_binding.proofs.SurveyedQueryLemmas.{on_survey}
use Rattle.mysql_fragments.proofs.SteadyFragmentLemmas.{in_either, nothing_read}
use Rattle.mysql_flat_params.specs.FormCauses.{IsSteadyFormRefusal, unbracketed_place}
use Rattle.mysql_flat_params.specs.FragmentsAnywhereIntoRoom.{is_wide}
use Rattle.mysql_flat_params.specs.declared.form_refusal.KeptError.TheVariants.{Fragments}
use Rattle.mysql_flat_params.specs.declared.form_refusal.SteadyKeptError.TheVariants.{Kept, UnsteadyFragment}
use Rattle.mysql_flat_params.proofs.FragmentsAnywhereLemmas.{bound_in_room, unsteady_told}
use Rattle.mysql_flat_params.proofs.PlacedLemmas.{ArePlacedAs, as_many_placed, later_none, none_later}
use Rattle.mysql_flat_params.proofs.UnbracketedLemmas.{early_on, stand_on, unmixed_on}
use Rattle.mysql_flat_params.proofs.fragments_anywhere_room.bind_read_steady.Goals as goal

pub form_error-requires : goal.form_error-requires
form_error-requires c = unmixed_on _ _ _ _ (c.in_ok-placed.ensures.placed c.requires.given.0 c.requires.given.2.0)

pub returns-in_err-placed-clause-refused : goal.returns-in_err-placed-clause-refused
returns-in_err-placed-clause-refused c = λ given kinds read mode.
    let error = Kept (Fragments c.in_err-placed.field-0.0) in
    let o = in_either (is_wide c.args.call) c.args.query.now (λ ts. IsSteadyFormRefusal kinds ts given error) false mode c.requires.steady
    (early_on _ _ kinds given c.in_err-placed.field-0.0 c.in_err-placed.ensures.early
    (rw (c.new-surveyed.ensures.query, c.new-surveyed.ensures.reading, c.wide_names.ensures) at (c.in_err-placed.ensures.refused given read.0))) in
    (o.0, o.1, handed_on (IsSteadyFormRefusal kinds o.0 given) c.from_residual.result error c.from_residual.ensures.1 o.2)

pub returns-in-Some-clause-refused : goal.returns-in-Some-clause-refused
returns-in-Some-clause-refused c = λ given kinds read mode.
    let surveyed = c.new-surveyed.result in
    in_either (is_wide c.args.call) c.args.query.now (λ ts. IsSteadyFormRefusal kinds ts given (Kept c.in-Some.error)) false mode c.requires.steady
    (rw (c.new-surveyed.ensures.query, c.new-surveyed.ensures.reading, c.wide_names.ensures) at
    (c.in-Some.ensures.refused given kinds read.1
    (subst (ArePlacedAs surveyed.reading surveyed.query.now given) (sym c.as_slice-placed.ensures.value) (c.in_ok-placed.ensures.placed given read.0))))

pub returns-in-Some-first_unsteady_fragment-clause-refused : goal.returns-in-Some-first_unsteady_fragment-clause-refused
returns-in-Some-first_unsteady_fragment-clause-refused c = λ given kinds read mode.
    let surveyed = c.new-surveyed.result in
    let p : ArePlacedAs surveyed.reading surveyed.query.now given c.as_slice-placed.result.now =
    subst (ArePlacedAs surveyed.reading surveyed.query.now given) (sym c.as_slice-placed.ensures.value) (c.in_ok-placed.ensures.placed given read.0) in
    in_either (is_wide c.args.call) c.args.query.now (λ ts. IsSteadyFormRefusal kinds ts given (UnsteadyFragment c.in-Some-first_unsteady_fragment.place)) false mode c.requires.steady
    (rw (c.new-surveyed.ensures.query, c.new-surveyed.ensures.reading, c.wide_names.ensures) at
    (unsteady_told surveyed.reading surveyed.query.now given kinds c.as_slice-placed.result.now p c.in-Some-first_unsteady_fragment.place
    (c.in_default.ensures.none refl given kinds read.1 p) (c.in-Some-first_unsteady_fragment.ensures p.2.1 p.2.3)))

pub bind_placed_as-requires : goal.bind_placed_as-requires
bind_placed_as-requires c =
    let surveyed = c.new-surveyed.result in
    record {
      places =
          as_many_placed surveyed.reading surveyed.query.now surveyed.survey (on_survey _ _ _ surveyed.surveyed) c.requires.given.0 c.as_slice-placed.result.now
          (subst (ArePlacedAs surveyed.reading surveyed.query.now c.requires.given.0) (sym c.as_slice-placed.ensures.value) (c.in_ok-placed.ensures.placed c.requires.given.0 c.requires.given.2.0))
          (later_none c.as_slice-placed.result.now surveyed.survey (c.in_default.ensures.later refl));
    }

pub returns-in-Some-bind_placed_as-clause-bound : goal.returns-in-Some-bind_placed_as-clause-bound
returns-in-Some-bind_placed_as-clause-bound c = λ given kinds read.
    let surveyed = c.new-surveyed.result in
    let p : ArePlacedAs surveyed.reading surveyed.query.now given c.as_slice-placed.result.now =
    subst (ArePlacedAs surveyed.reading surveyed.query.now given) (sym c.as_slice-placed.ensures.value) (c.in_ok-placed.ensures.placed given read.0) in
    let placed = none_later surveyed.reading surveyed.query.now surveyed.survey (on_survey _ _ _ surveyed.surveyed) given c.as_slice-placed.result.now p (later_none c.as_slice-placed.result.now surveyed.survey (c.in_default.ensures.later refl)) in
    bound_in_room c.args.call c.args.query.now given p.2.1 c.requires.steady (rw (c.new-surveyed.ensures.query, c.new-surveyed.ensures.reading, c.wide_names.ensures) at placed) (c.in_default-first_unsteady_fragment.ensures p.2.1 p.2.3)
    c.args.room.now c.bind_placed_as.new.room c.in-Some-bind_placed_as.text (rw (c.new-surveyed.ensures.query, c.new-surveyed.ensures.reading, c.wide_names.ensures) at (c.in-Some-bind_placed_as.ensures.text given p.2.1 p.2.3 placed))

pub returns-in-Some-bind_placed_as-clause-may_stand : goal.returns-in-Some-bind_placed_as-clause-may_stand
returns-in-Some-bind_placed_as-clause-may_stand c = λ given kinds read mode.
    let surveyed = c.new-surveyed.result in
    let p : ArePlacedAs surveyed.reading surveyed.query.now given c.as_slice-placed.result.now =
    subst (ArePlacedAs surveyed.reading surveyed.query.now given) (sym c.as_slice-placed.ensures.value) (c.in_ok-placed.ensures.placed given read.0) in
    in_either (is_wide c.args.call) c.args.query.now (λ ts. unbracketed_place kinds ts ≡ None) false mode c.requires.steady
    (rw (c.new-surveyed.ensures.query, c.new-surveyed.ensures.reading, c.wide_names.ensures) at (stand_on _ _ kinds given (c.in_default.ensures.none refl given kinds read.1 p)))

pub returns-in-Some-bind_placed_as-clause-refused : goal.returns-in-Some-bind_placed_as-clause-refused
returns-in-Some-bind_placed_as-clause-refused c = λ given kinds read mode. nothing_read (is_wide c.args.call) mode c.args.query.now

pub returns-clause-refused : goal.returns-clause-refused
returns-clause-refused c = λ given kinds read mode. let t = nothing_read (is_wide c.args.call) mode c.args.query.now in (t.0, t.1, inl refl)
