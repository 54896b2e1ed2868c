use Rattle.mysql_binding.proofs.BoundAgainLemmas.{equal_texts_say_the_same}
use Rattle.mysql_binding.proofs.laws.equal_texts_say_the_same.Goals as goal

pub returns : goal.returns
returns c = record { same = equal_texts_say_the_same }
