use Rattle.std.proofs.Common.{ap, sym, ◌∙◌}
use Rattle.mysql_values.specs.BorrowedValue.{owned_values}
use Rattle.mysql_params_core.specs.Referents.{referents}
use Rattle.mysql_binding.specs.PlaceValues.{placed_values}
use Rattle.mysql_binding.proofs.MeasuredTextLemmas.{fill_places_of, filled_text_of}
use Rattle.mysql_binding.proofs.binding.text.fill_measured.Goals as goal

pub fill_text-requires-clause-places : goal.fill_text-requires-clause-places
fill_text-requires-clause-places g c =
    fill_places_of c.args.surveyed.now.reading (g.F.LiteralForm.literal c.args.form.now) c.args.surveyed.now.query.now c.requires.measured.0 c.args.measured.now c.requires.measured.1 _
    (ap placed_values c.in-Positional.is)

pub fill_text-requires-in-Values-clause-places : goal.fill_text-requires-in-Values-clause-places
fill_text-requires-in-Values-clause-places g c =
    fill_places_of c.args.surveyed.now.reading (g.F.LiteralForm.literal c.args.form.now) c.args.surveyed.now.query.now c.requires.measured.0 c.args.measured.now c.requires.measured.1 _
    (ap placed_values c.in-Values.is)

pub fill_text-requires-in-Named-clause-places : goal.fill_text-requires-in-Named-clause-places
fill_text-requires-in-Named-clause-places g c =
    fill_places_of c.args.surveyed.now.reading (g.F.LiteralForm.literal c.args.form.now) c.args.surveyed.now.query.now c.requires.measured.0 c.args.measured.now c.requires.measured.1 _
    (ap placed_values c.in-Named.is ∙ ap referents (sym c.as_slice.ensures.value))

pub fill_text-requires-in-Pairs-clause-places : goal.fill_text-requires-in-Pairs-clause-places
fill_text-requires-in-Pairs-clause-places g c =
    fill_places_of c.args.surveyed.now.reading (g.F.LiteralForm.literal c.args.form.now) c.args.surveyed.now.query.now c.requires.measured.0 c.args.measured.now c.requires.measured.1 _
    (ap placed_values c.in-Pairs.is)

pub fill_text-requires-in-Listed-clause-places : goal.fill_text-requires-in-Listed-clause-places
fill_text-requires-in-Listed-clause-places g c =
    fill_places_of c.args.surveyed.now.reading (g.F.LiteralForm.literal c.args.form.now) c.args.surveyed.now.query.now c.requires.measured.0 c.args.measured.now c.requires.measured.1 _
    (ap placed_values c.in-Listed.is ∙ ap owned_values (sym c.as_slice-in-Listed.ensures.value))

pub returns-in-Positional : goal.returns-in-Positional
returns-in-Positional g c = λ given o.
    filled_text_of c.args.surveyed.now.reading (g.F.LiteralForm.literal c.args.form.now) c.args.surveyed.now.query.now given c.args.measured.now o
    (g.F.LiteralForm.IsKnown c.args.form.now) _ c.fill_text.new.text (ap placed_values c.in-Positional.is) c.fill_text.ensures

pub returns-in-Values : goal.returns-in-Values
returns-in-Values g c = λ given o.
    filled_text_of c.args.surveyed.now.reading (g.F.LiteralForm.literal c.args.form.now) c.args.surveyed.now.query.now given c.args.measured.now o
    (g.F.LiteralForm.IsKnown c.args.form.now) _ c.fill_text-in-Values.new.text (ap placed_values c.in-Values.is) c.fill_text-in-Values.ensures

pub returns-in-Named : goal.returns-in-Named
returns-in-Named g c = λ given o.
    filled_text_of c.args.surveyed.now.reading (g.F.LiteralForm.literal c.args.form.now) c.args.surveyed.now.query.now given c.args.measured.now o
    (g.F.LiteralForm.IsKnown c.args.form.now) _ c.fill_text-in-Named.new.text (ap placed_values c.in-Named.is ∙ ap referents (sym c.as_slice.ensures.value)) c.fill_text-in-Named.ensures

pub returns-in-Pairs : goal.returns-in-Pairs
returns-in-Pairs g c = λ given o.
    filled_text_of c.args.surveyed.now.reading (g.F.LiteralForm.literal c.args.form.now) c.args.surveyed.now.query.now given c.args.measured.now o
    (g.F.LiteralForm.IsKnown c.args.form.now) _ c.fill_text-in-Pairs.new.text (ap placed_values c.in-Pairs.is) c.fill_text-in-Pairs.ensures

pub returns-in-Listed : goal.returns-in-Listed
returns-in-Listed g c = λ given o.
    filled_text_of c.args.surveyed.now.reading (g.F.LiteralForm.literal c.args.form.now) c.args.surveyed.now.query.now given c.args.measured.now o
    (g.F.LiteralForm.IsKnown c.args.form.now) _ c.fill_text-in-Listed.new.text (ap placed_values c.in-Listed.is ∙ ap owned_values (sym c.as_slice-in-Listed.ensures.value)) c.fill_text-in-Listed.ensures
