use Rattle.std.proofs.Common.{subst, true}
use Rattle.std.specs.Prelude.{IfErr, IfOk}
use Rattle.mysql_named_params.specs.Reading.{OnTokensIn, wide_reading}
use Rattle.mysql_params_core.specs.Given.{Given}
use Rattle.mysql_binding.specs.BindErrors.{IsCauseOrMemory}
use Rattle.mysql_binding.specs.FirstCause.{first_cause}
use Rattle.mysql_binding.specs.MeasuredText.{HasGivenLength}
use Rattle.mysql_binding.specs.SpannedQuery.{RefusesNames}
use Rattle.mysql_binding.specs.TextInRoom.{IsTextInRoom}
use Rattle.mysql_binding.specs.WrittenText.{IsGivenText}
use Rattle.mysql_flat_params.proofs.table_literals.bind_places.Goals as goal

pub returns-clause-text : goal.returns-clause-text
returns-clause-text g c = λ own.
    subst (λ (x : Given). OnTokensIn (wide_reading true) c.args.spanned.now.query.now (λ ts. IfOk c.bind_spans_into.result (IsTextInRoom (IsGivenText (g.F.LiteralForm.literal c.args.literals.now) (g.F.LiteralForm.IsKnown c.args.literals.now) ts x) (HasGivenLength (g.F.LiteralForm.literal c.args.literals.now) ts x) c.args.room.now c.bind_spans_into.new.room)))
    c.borrowed_params-borrowed.ensures (c.bind_spans_into.ensures.text (wide_reading true) own)

pub returns-clause-refused : goal.returns-clause-refused
returns-clause-refused g c = λ own.
    subst (λ (x : Given). OnTokensIn (wide_reading true) c.args.spanned.now.query.now (λ ts. IfErr c.bind_spans_into.result (IsCauseOrMemory (first_cause ts x))))
    c.borrowed_params-borrowed.ensures (c.bind_spans_into.ensures.refused (wide_reading true) own)

pub returns-clause-lookup : goal.returns-clause-lookup
returns-clause-lookup g c =
    subst (λ (x : Given). IfErr c.bind_spans_into.result (RefusesNames c.args.spanned.now x))
    c.borrowed_params-borrowed.ensures c.bind_spans_into.ensures.lookup

pub returns-clause-mixed : goal.returns-clause-mixed
returns-clause-mixed g c = λ own. c.bind_spans_into.ensures.mixed (wide_reading true) own
