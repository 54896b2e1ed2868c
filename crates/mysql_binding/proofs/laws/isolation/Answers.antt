use Rattle.mysql_binding.proofs.ReplacedLemmas.{isolated, isolated_places}
use Rattle.mysql_binding.proofs.laws.isolation.Goals as goal

pub returns-clause-tokens : goal.returns-clause-tokens
returns-clause-tokens c = isolated

pub returns-clause-no_place : goal.returns-clause-no_place
returns-clause-no_place c = isolated_places
