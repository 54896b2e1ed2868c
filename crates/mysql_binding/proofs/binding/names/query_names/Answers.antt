use Rattle.std.proofs.Common.{◌+◌, ◌∙◌, ap, arith, refl, subst, sym}
use Rattle.mysql_params_core.specs.Referents.{referents}
use Rattle.mysql_params_core.proofs.BorrowedLemmas.{referents-push}
use Rattle.mysql_binding.proofs.FoundPlacesLemmas.{none_passed, one_passed}
use Rattle.mysql_binding.proofs.NameListLemmas.{ListedSoFar, listed_none, name_left, listed_more, listed_all, referents_length}
use Rattle.mysql_binding.proofs.SurveyedQueryLemmas.{begin_with, counted_names}
use Rattle.mysql_binding.proofs.binding.names.query_names.Goals as goal

pub loop-rest-init : goal.loop-rest-init
loop-rest-init c =
    let surveyed = c.args.surveyed.now in (
      listed_none _ _ _ _ (counted_names _ _ surveyed.survey surveyed.surveyed c.requires.unmixed) (ap referents c.in_ok-list.ensures.items),
      none_passed _ _ _ _ c.in_ok-list.ensures.items (begin_with _ _ _ surveyed.first),
    )

pub unreachable-requires : goal.unreachable-requires
unreachable-requires c =
    let o = c.in_default.ensures.none in
    name_left _ _ _ _ _ c.loop-rest.invariant.0 (omega (arith, referents_length c.loop-rest.list.items)) (o.0, o.1, o.2 refl)

pub returns-clause-names : goal.returns-clause-names
returns-clause-names c = listed_all _ _ _ _ _ c.loop-rest.invariant.0 (omega (arith, referents_length c.loop-rest.list.items))

pub loop-rest-preserved : goal.loop-rest-preserved
loop-rest-preserved c = (
  subst (λ ns. ListedSoFar c.args.surveyed.now.reading c.args.surveyed.now.query.now c.cut.result.2.now c.args.surveyed.now.survey.names ns)
      (sym (ap referents c.in_ok-push.ensures.items ∙ referents-push c.loop-rest.list.items _))
      (listed_more _ _ _ _ _ c.loop-rest.invariant.0 _ _ _ _ (omega (arith, referents_length c.loop-rest.list.items)) c.in-Some.ensures.place
      c.cut.ensures.place c.cut.ensures.after refl),
  one_passed c.args.surveyed.now.reading c.loop-rest.rest.now _ c.args.surveyed.now.known.now (c.in-Some.found.before + c.in-Some.found.len) c.len-in-loop-rest.result _ _ _ c.in_ok-push.ensures.items c.cut.ensures.after (omega arith) c.in-Some.ensures.next,
)
