use Rattle.mysql_values.proofs.DurationLemmas.{duration-ConvertsAndRollsBack, duration-ConvertsTimeTexts}
use Rattle.mysql_values.proofs.value.convert.duration.DurationFromValue.get_intermediate.Goals as goal

pub returns-clause-converts_and_rolls_back : goal.returns-clause-converts_and_rolls_back
returns-clause-converts_and_rolls_back c = duration-ConvertsAndRollsBack c.args.v c.try_from.result c.try_from.ensures

pub returns-clause-time_texts : goal.returns-clause-time_texts
returns-clause-time_texts c = duration-ConvertsTimeTexts c.args.v c.try_from.result c.try_from.ensures
