use Rattle.std.proofs.Common.{subst}
use Rattle.std.specs.Prelude.{IfErr, IfOk}
use Rattle.mysql_named_params.specs.Reading.{OnTokensIn}
use Rattle.mysql_params_core.specs.Given.{Given}
use Rattle.mysql_binding.specs.BindErrors.{IsCauseOrMemory}
use Rattle.mysql_binding.specs.FirstCause.{first_cause}
use Rattle.mysql_binding.specs.MeasuredText.{HasGivenLength}
use Rattle.mysql_binding.specs.TextInRoom.{IsTextInRoom}
use Rattle.mysql_binding.specs.WrittenText.{IsGivenText}
use Rattle.mysql_steady_text.specs.SteadyLiteral.{steady_literal_of}
use Rattle.mysql_steady_text.specs.SteadyLiterals.{IsSteadyFor}
use Rattle.mysql_flat_params.proofs.steady_room.bind_params_steady.Goals as goal

pub returns-clause-text : goal.returns-clause-text
returns-clause-text c =
    subst (λ (g : Given). OnTokensIn c.args.reading c.args.query.now (λ ts. IfOk c.bind_surveyed_into.result (IsTextInRoom (IsGivenText steady_literal_of IsSteadyFor ts g) (HasGivenLength steady_literal_of ts g) c.args.room.now c.bind_surveyed_into.new.room)))
    c.borrowed_params-borrowed.ensures (rw (c.new-surveyed.ensures.query, c.new-surveyed.ensures.reading) at c.bind_surveyed_into.ensures.text)

pub returns-clause-refused : goal.returns-clause-refused
returns-clause-refused c =
    subst (λ (g : Given). OnTokensIn c.args.reading c.args.query.now (λ ts. IfErr c.bind_surveyed_into.result (IsCauseOrMemory (first_cause ts g))))
    c.borrowed_params-borrowed.ensures (rw (c.new-surveyed.ensures.query, c.new-surveyed.ensures.reading) at c.bind_surveyed_into.ensures.refused)
