use Rattle.mysql_fragments.proofs.OneFragmentsLemmas.{one_bound_fragments, one_guarded_fragments, one_steady_fragments}
use Rattle.mysql_fragments.proofs.laws.one_text_with_fragments.Goals as goal

pub returns : goal.returns
returns c = record { plain = one_bound_fragments; steady = one_steady_fragments; guarded = one_guarded_fragments }
