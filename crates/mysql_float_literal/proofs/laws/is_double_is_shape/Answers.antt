use Rattle.mysql_float_literal.proofs.DoubleTestLemmas.{shaped, tested}
use Rattle.mysql_float_literal.proofs.laws.is_double_is_shape.Goals as goal

pub returns : goal.returns
returns c = λ text. (λ h. shaped text h, λ h. tested h)
