use Rattle.mysql_float_literal.specs.DoubleText.{double_text}
use Rattle.mysql_float_literal.proofs.DoubleTestLemmas.{shaped}
use Rattle.mysql_float_literal.proofs.double.Double.as_bytes.Goals as goal

pub returns-clause-shape : goal.returns-clause-shape
returns-clause-shape c = shaped (double_text c.args.self.now) c.args.self.now.shaped
