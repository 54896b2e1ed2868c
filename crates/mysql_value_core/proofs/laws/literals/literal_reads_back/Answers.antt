use Rattle.mysql_value_core.proofs.LiteralLemmas.{literal_reads}
use Rattle.mysql_value_core.proofs.laws.literals.literal_reads_back.Goals as goal

pub returns : goal.returns
returns c = record { reads_back = λ mode. literal_reads mode c.args.value.now c.fields_in_range.ensures }
