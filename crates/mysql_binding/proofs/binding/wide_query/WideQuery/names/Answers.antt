use Rattle.std.specs.Prelude.{true}
use Rattle.mysql_binding.proofs.FoundQueryLemmas.{seen_on}
use Rattle.mysql_binding.proofs.binding.wide_query.WideQuery.names.Goals as goal

pub returns-clause-ok : goal.returns-clause-ok
returns-clause-ok c = seen_on true _ _ _ c.self.invariant c.self.view_is _ c.names.ensures.ok

pub returns-clause-mixed : goal.returns-clause-mixed
returns-clause-mixed c = seen_on true _ _ _ c.self.invariant c.self.view_is _ c.names.ensures.mixed

pub returns-clause-memory : goal.returns-clause-memory
returns-clause-memory c = seen_on true _ _ _ c.self.invariant c.self.view_is _ c.names.ensures.memory
