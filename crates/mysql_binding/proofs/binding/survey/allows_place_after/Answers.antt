use Rattle.std.proofs.Common.{◌∙◌}
use Rattle.mysql_binding.specs.StandsAlone.{may_stand_before}
use Rattle.mysql_binding.proofs.StandsAloneLemmas.{last_stands}
use Rattle.mysql_binding.proofs.binding.survey.allows_place_after.Goals as goal

pub returns-in-Some : goal.returns-in-Some
returns-in-Some c = c.may_stand_before.ensures ∙ last_stands may_stand_before c.args.before.now _ c.in-Some.ensures.item.1 c.in-Some.ensures.item.3.0
