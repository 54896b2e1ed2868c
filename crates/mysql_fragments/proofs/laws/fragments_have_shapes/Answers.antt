use Rattle.mysql_fragments.proofs.ExpandedLemmas.{expanded_shapes}
use Rattle.mysql_fragments.proofs.laws.fragments_have_shapes.Goals as goal

pub returns : goal.returns
returns c = λ as_literals mode ts given text x. expanded_shapes x
