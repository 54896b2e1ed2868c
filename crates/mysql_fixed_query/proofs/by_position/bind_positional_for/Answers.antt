use Rattle.mysql_fixed_query.specs.Bindable.{values_of}
use Rattle.mysql_fixed_query.proofs.AcceptedLemmas.{accepted_in_each_mode}
use Rattle.mysql_fixed_query.proofs.AnswerLemmas.{answer_at, if_ok_at}
use Rattle.mysql_fixed_query.proofs.CauseLemmas.{in_order, no_cause_by_position}
use Rattle.mysql_fixed_query.proofs.TextLemmas.{answer_is_computed}
use Rattle.mysql_fixed_query.proofs.by_position.bind_positional_for.Goals as goal

pub bind_made-requires-clause-no_cause : goal.bind_made-requires-clause-no_cause
bind_made-requires-clause-no_cause g c =
    let h = in_order c.requires.fits in
    (h.0, answer_at _ _ c.to_params.result h.1 c.to_params.ensures.made, no_cause_by_position c.requires.fits)

pub returns-clause-bound : goal.returns-clause-bound
returns-clause-bound g c mode =
    let h = in_order c.requires.fits in
    if_ok_at _ _ h.0 h.1
    (c.bind_made.ensures.text h.0 (answer_at _ _ c.to_params.result h.1 c.to_params.ensures.made) mode)

pub returns-clause-accepted : goal.returns-clause-accepted
returns-clause-accepted g c = accepted_in_each_mode c.args.purpose c.args.query.now c.requires.accepted

pub returns-clause-text : goal.returns-clause-text
returns-clause-text g c =
    let h = in_order c.requires.fits in
    answer_is_computed (λ text. text.items) c.bind_made.result c.args.purpose c.args.query.now h.0
    (values_of (g.P.ToParams.made c.args.things.now)) h.2
    (c.bind_made.ensures.text h.0 (answer_at _ _ c.to_params.result h.1 c.to_params.ensures.made))
