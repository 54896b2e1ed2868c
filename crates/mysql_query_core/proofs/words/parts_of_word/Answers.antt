use Rattle.std.proofs.Common.{rules}
use Rattle.mysql_query_core.proofs.WordLemmas.{list_any-none}
use Rattle.mysql_query_core.proofs.words.parts_of_word.Goals as goal

pub returns-clause-none : goal.returns-clause-none
returns-clause-none c = search (rules, list_any-none)
