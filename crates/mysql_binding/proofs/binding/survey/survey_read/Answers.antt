use Rattle.std.proofs.Common.{refl, ap, ◌∙◌, arith}
use Rattle.std.specs.Option.{option_or}
use Rattle.std.proofs.lemmas.List.{take_rest}
use Rattle.mysql_binding.proofs.FoundPlacesLemmas.{kept_none, kept_full, kept_more, kept_all}
use Rattle.mysql_binding.proofs.SurveyLemmas.{surveyed_none, surveyed_name, surveyed_mark, surveyed_all}
use Rattle.mysql_binding.proofs.binding.survey.survey_read.Goals as goal
use Rattle.mysql_binding.proofs.binding.survey.survey_read.Goals.{in-Name, in-Mark}

pub loop-found-init : goal.loop-found-init
loop-found-init c = (surveyed_none _ _, kept_none _ _ _)

pub loop-found-preserved-then-kept-first : goal.loop-found-preserved-then-kept-first
loop-found-preserved-then-kept-first c = (
  elim c.match-found.branch [
    | in-Name w ↦ surveyed_name _ _ _ _ _ _ _ _ _ c.loop-found.invariant.0 (take_rest c.args.query.now c.loop-found.at) c.in-Some.ensures.place _ _ _ _ _ w.in-Name.is w.names-is w.marks-is refl refl
        (c.or-not_alone.ensures ∙ ap (option_or c.loop-found.not_alone) c.not_alone_at-here.ensures)
    | in-Mark w ↦ surveyed_mark _ _ _ _ _ _ _ _ _ c.loop-found.invariant.0 (take_rest c.args.query.now c.loop-found.at) c.in-Some.ensures.place _ _ _ _ _ w.in-Mark.is w.names-is w.marks-is refl refl
        (c.or-not_alone.ensures ∙ ap (option_or c.loop-found.not_alone) c.not_alone_at-here.ensures)
  ],
  kept_more _ _ _ _ _ _ _ c.loop-found.invariant.1 (take_rest c.args.query.now c.loop-found.at) c.in-Some.ensures.place _ refl c.if-kept-first.true,
)

pub loop-found-preserved : goal.loop-found-preserved
loop-found-preserved c = (
  elim c.match-found.branch [
    | in-Name w ↦ surveyed_name _ _ _ _ _ _ _ _ _ c.loop-found.invariant.0 (take_rest c.args.query.now c.loop-found.at) c.in-Some.ensures.place _ _ _ _ _ w.in-Name.is w.names-is w.marks-is refl refl
        (c.or-not_alone.ensures ∙ ap (option_or c.loop-found.not_alone) c.not_alone_at-here.ensures)
    | in-Mark w ↦ surveyed_mark _ _ _ _ _ _ _ _ _ c.loop-found.invariant.0 (take_rest c.args.query.now c.loop-found.at) c.in-Some.ensures.place _ _ _ _ _ w.in-Mark.is w.names-is w.marks-is refl refl
        (c.or-not_alone.ensures ∙ ap (option_or c.loop-found.not_alone) c.not_alone_at-here.ensures)
  ],
  kept_full _ _ _ _ _ _ _ c.loop-found.invariant.1 (take_rest c.args.query.now c.loop-found.at) c.in-Some.ensures.place _ refl c.if-kept-first.false,
)

pub returns : goal.returns
returns c =
    let o = c.in_default.ensures.none in
    let s = c.loop-found.invariant.0 in
    record {
      survey = surveyed_all _ _ _ _ _ _ _ _ _ s refl (take_rest c.args.query.now c.loop-found.at) (o.0, o.1, o.2 refl);
      in_query = omega (arith, s.room, s.in_range);
      kept = kept_all _ _ _ _ _ c.loop-found.invariant.1 _ (take_rest c.args.query.now c.loop-found.at) (o.0, o.1, o.2 refl);
      in_room = c.loop-found.invariant.1.in_range;
    }
