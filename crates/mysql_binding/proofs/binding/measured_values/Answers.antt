use Rattle.mysql_binding.specs.PlaceValues.{placed_values}
use Rattle.mysql_binding.proofs.AppendedTextLemmas.{found_looked_up, found_refused}
use Rattle.mysql_binding.proofs.MeasuredTextLemmas.{is_measured}
use Rattle.mysql_binding.proofs.binding.measured_values.Goals as goal

pub returns-clause-measured : goal.returns-clause-measured
returns-clause-measured g c reading query given surveyed found =
    is_measured reading (g.F.LiteralForm.literal c.args.form.now) query given c.args.survey c.args.values c.in_ok-with_lengths.field-0 surveyed
    (found_looked_up reading query given c.args.survey (placed_values c.args.values) surveyed found c.in_default.ensures.cause)
    c.in_ok-with_lengths.ensures.values c.in_ok-with_lengths.ensures.in_range c.in_ok-with_lengths.ensures.lens c.in_ok-with_lengths.ensures.len c.in_ok-with_lengths.ensures.fits

pub returns-in-Some-clause-refused : goal.returns-in-Some-clause-refused
returns-in-Some-clause-refused g c reading query given surveyed found =
    found_refused reading query given c.args.survey (placed_values c.args.values) c.in-Some.error surveyed found
    c.in-Some.ensures.cause
