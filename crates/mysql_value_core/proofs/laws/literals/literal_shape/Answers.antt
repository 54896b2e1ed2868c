use Rattle.mysql_value_core.proofs.LiteralLemmas.{literal_shape}
use Rattle.mysql_value_core.proofs.laws.literals.literal_shape.Goals as goal

pub returns : goal.returns
returns c = record { shape = λ mode. literal_shape mode c.args.value.now c.fields_in_range.ensures }
