use Rattle.std.proofs.Common.{◌+◌, ℕ, List, arith, drop, rules, subst, sym}
use Rattle.mysql_named_params.specs.Reading.{OnTokensIn}
use Rattle.mysql_binding.specs.FoundPlaces.{BeginWithPlaces}
use Rattle.mysql_binding.proofs.SurveyedQueryLemmas.{begin_with}
use Rattle.mysql_bind_core.proofs.QueryEndLemmas.{passed_none, passed_more, passed_place, last_end, end_alone, first_is_whole}
use Rattle.mysql_bind_core.proofs.checked.open_end.Goals as goal

pub places-init : goal.places-init
places-init c = (passed_none _ _, begin_with _ _ _ c.args.surveyed.now.first)

pub open_from-requires : goal.open_from-requires
open_from-requires c = first_is_whole _ _ _ _ c.first_token-len.ensures c.if-len-rest.true

pub returns-then-len-rest : goal.returns-then-len-rest
returns-then-len-rest c =
    last_end _ _ _ _ _ c.tokens.invariant (search rules) (omega (arith, c.tokens.invariant.within)) c.open_from.ensures

pub tokens-preserved : goal.tokens-preserved
tokens-preserved c = passed_more _ _ _ _ _ c.tokens.invariant c.first_token-len.ensures c.if-len-rest.false

pub returns : goal.returns
returns c = end_alone _ _ _ c.tokens.invariant (search rules)

pub places-preserved : goal.places-preserved
places-preserved c = (
  passed_place c.args.surveyed.now.reading _ _ _ c.in-Some.found c.places.invariant.0 c.in-Some.ensures.place c.cut.ensures.after (search rules),
  subst (λ (x : List ℕ). OnTokensIn c.args.surveyed.now.reading x (BeginWithPlaces (drop (c.places.passed + 1) c.args.surveyed.now.known.now))) (sym c.cut.ensures.after) c.in-Some.ensures.next,
)
