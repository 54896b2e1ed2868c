use Rattle.std.specs.Prelude.{false}
use Rattle.std.proofs.Common.{◌∙◌}
use Rattle.mysql_binding.proofs.FoundQueryLemmas.{reading_seen, seen_on}
use Rattle.mysql_binding.proofs.binding.parsed_query.ParsedQuery.surveyed.Goals as goal

pub returns-clause-reading : goal.returns-clause-reading
returns-clause-reading c = c.surveyed.ensures.reading ∙ reading_seen false _ _ _ c.self.invariant c.self.view_is

pub returns-clause-places : goal.returns-clause-places
returns-clause-places c = seen_on false _ _ _ c.self.invariant c.self.view_is _ c.surveyed.ensures.places

pub returns-clause-survey : goal.returns-clause-survey
returns-clause-survey c = seen_on false _ _ _ c.self.invariant c.self.view_is _ c.surveyed.ensures.survey
