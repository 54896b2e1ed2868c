use Rattle.std.specs.Prelude.{true}
use Rattle.std.proofs.Common.{◌∙◌}
use Rattle.mysql_binding.proofs.FoundQueryLemmas.{reading_seen, seen_on}
use Rattle.mysql_binding.proofs.binding.wide_query.WideQuery.surveyed.Goals as goal

pub returns-clause-reading : goal.returns-clause-reading
returns-clause-reading c = c.surveyed.ensures.reading ∙ reading_seen true _ _ _ c.self.invariant c.self.view_is

pub returns-clause-places : goal.returns-clause-places
returns-clause-places c = seen_on true _ _ _ c.self.invariant c.self.view_is _ c.surveyed.ensures.places

pub returns-clause-survey : goal.returns-clause-survey
returns-clause-survey c = seen_on true _ _ _ c.self.invariant c.self.view_is _ c.surveyed.ensures.survey
