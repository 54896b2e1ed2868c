use Rattle.mysql_binding.proofs.OneTextLemmas.{same_cause, same_text}
use Rattle.mysql_binding.proofs.laws.wide_names_without_capitals.Goals as goal

pub returns : goal.returns
returns c = record { cause = same_cause; text = same_text }
