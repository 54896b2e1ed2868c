use Rattle.std.specs.Prelude.{Err}
use Rattle.std.proofs.Common.{ap, inr}
use Rattle.mysql_flat_params.proofs.IntoRoomLemmas.{empty_not_refused, first_stands}
use Rattle.mysql_flat_params.proofs.into_room.bind_into_read.Goals as goal

pub returns-in-Err-clause-outcome : goal.returns-in-Err-clause-outcome
returns-in-Err-clause-outcome c =
    c.form_outcome.ensures.outcome c.args.reading c.args.query.now c.args.form.now c.in-Err.ensures.refused

pub returns-in-Err-clause-mixed : goal.returns-in-Err-clause-mixed
returns-in-Err-clause-mixed c = λ none.
    absurd (empty_not_refused c.args.form.now _ none c.in-Err.ensures.refused c.in-Err.ensures.memory)

pub returns-in-Err-clause-memory : goal.returns-in-Err-clause-memory
returns-in-Err-clause-memory c = λ is. inr (c.in-Err.ensures.memory (ap (λ e. Err e) (c.form_outcome.ensures.memory is)))

pub returns-in-Err-bind_params-clause-memory : goal.returns-in-Err-bind_params-clause-memory
returns-in-Err-bind_params-clause-memory c = λ is. first_stands _ _ c.in-Ok.ensures.params
