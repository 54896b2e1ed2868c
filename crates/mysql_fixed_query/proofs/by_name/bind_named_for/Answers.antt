use Rattle.mysql_fixed_query.specs.Bindable.{given_by, tokens_for, valued}
use Rattle.mysql_fixed_query.specs.FixedText.{values_for}
use Rattle.mysql_fixed_query.proofs.AcceptedLemmas.{accepted_in_each_mode}
use Rattle.mysql_fixed_query.proofs.AnswerLemmas.{answer_at}
use Rattle.mysql_fixed_query.proofs.CauseLemmas.{pairs_made_is, names_looked_up, no_cause_by_name}
use Rattle.mysql_fixed_query.proofs.TextLemmas.{answer_is_computed}
use Rattle.mysql_fixed_query.proofs.by_name.bind_named_for.Goals as goal

pub bind_made-requires-clause-no_cause : goal.bind_made-requires-clause-no_cause
bind_made-requires-clause-no_cause g c = (
  given_by (valued (g.P.ToPairs.pairs c.args.pairs.now)),
  answer_at _ _ c.to_named.result (pairs_made_is c.requires.fits) c.to_named.ensures.made,
  no_cause_by_name c.requires.fits,
)

pub returns-clause-bound : goal.returns-clause-bound
returns-clause-bound g c =
    c.bind_made.ensures.text (given_by (valued (g.P.ToPairs.pairs c.args.pairs.now)))
    (answer_at _ _ c.to_named.result (pairs_made_is c.requires.fits) c.to_named.ensures.made)

pub returns-clause-accepted : goal.returns-clause-accepted
returns-clause-accepted g c = accepted_in_each_mode c.args.purpose c.args.query.now c.requires.accepted

pub returns-clause-text : goal.returns-clause-text
returns-clause-text g c =
    let pairs = valued (g.P.ToPairs.pairs c.args.pairs.now) in
    answer_is_computed (λ text. text.items) c.bind_made.result c.args.purpose c.args.query.now (given_by pairs)
    (values_for (tokens_for c.args.purpose c.args.query.now) pairs) (names_looked_up c.requires.fits)
    (c.bind_made.ensures.text (given_by pairs)
    (answer_at _ _ c.to_named.result (pairs_made_is c.requires.fits) c.to_named.ensures.made))
