use Rattle.std.specs.Prelude.{None, true}
use Rattle.std.proofs.Common.{refl, sym, ◌∙◌, rules}
use Rattle.mysql_named_params.proofs.TokensExistLemmas.{tokens_exist}
use Rattle.mysql_params_core.specs.GivenBorrowed.{given_by_borrowed}
use Rattle.mysql_steady_text.proofs.BothModesTextLemmas.{nothing_said}
use Rattle.mysql_steady_text.proofs.SteadyTextLemmas.{refused_answer}
use Rattle.mysql_steady_text.proofs.GuardedAgainLemmas.{answer_bound_again, answer_by_position}
use Rattle.mysql_steady_text.proofs.guarded_text.bind_borrowed_guarded.Goals as goal

pub returns-in-Some-clause-bound : goal.returns-in-Some-clause-bound
returns-in-Some-clause-bound c mode = nothing_said mode c.args.query.now

-- It is searched for, so that a wrong body is refused at the goal, and another right one is proved.
pub returns-in-Some-clause-refused : goal.returns-in-Some-clause-refused
returns-in-Some-clause-refused c mode =
    let t = tokens_exist mode c.args.query.now in
    let at = sym c.first_unsteady.ensures.first ∙ c.in-Some.is in
    (t.0, t.1, search (at, rules))

pub returns-in-Some-clause-by_position : goal.returns-in-Some-clause-by_position
returns-in-Some-clause-by_position c mode = nothing_said mode c.args.query.now

pub returns-in-Some-clause-mixed : goal.returns-in-Some-clause-mixed
returns-in-Some-clause-mixed c mode =
    let t = tokens_exist mode c.args.query.now in
    (t.0, t.1, λ steady both. let none = sym (c.first_unsteady.ensures.none.1 steady) ∙ c.in-Some.is in cc)

pub returns-in-None-clause-refused : goal.returns-in-None-clause-refused
returns-in-None-clause-refused c mode =
    let t = tokens_exist mode c.args.query.now in
    refused_answer c.bind_guarded.result mode c.args.query.now (given_by_borrowed c.args.params) (λ ts. None) (sym c.first_unsteady.ensures.first ∙ c.in-None.is) (t.0, t.1, refl) (c.bind_guarded.ensures.refused mode)

pub returns-in-None-clause-bound_again : goal.returns-in-None-clause-bound_again
returns-in-None-clause-bound_again c =
    answer_bound_again (λ text. text.items) c.args.query.now (given_by_borrowed c.args.params) c.args.no_backslash_escape true c.bind_guarded.result (c.bind_guarded.ensures.bound true)

pub returns-in-None-clause-by_position : goal.returns-in-None-clause-by_position
returns-in-None-clause-by_position c mode =
    answer_by_position (λ text. text.items) c.args.query.now (given_by_borrowed c.args.params) c.args.no_backslash_escape mode c.bind_guarded.result (c.bind_guarded.ensures.bound mode)

pub returns-in-None-clause-mixed : goal.returns-in-None-clause-mixed
returns-in-None-clause-mixed c mode =
    let o = c.bind_guarded.ensures.mixed mode in
    (o.0, o.1, λ steady. o.2)
