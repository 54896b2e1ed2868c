use Rattle.std.proofs.lemmas.List.{take_rest}
use Rattle.mysql_named_params.proofs.ClosingQuoteLemmas.{found_far, none_found}
use Rattle.mysql_named_params.proofs.ends.string.far_quote.Goals as goal

pub returns-in-Some : goal.returns-in-Some
returns-in-Some c = found_far _ _ _ _ c.requires (rw take_rest at c.in-Some.ensures)

pub returns-in-None : goal.returns-in-None
returns-in-None c = none_found _ _ _ c.requires (rw take_rest at c.in-None.ensures)
