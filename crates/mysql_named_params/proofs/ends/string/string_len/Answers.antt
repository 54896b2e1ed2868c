use Rattle.std.proofs.Common.{refl, arith}
use Rattle.mysql_named_params.proofs.ClosingQuoteLemmas.{goes_on_first, goes_on_to, ends_closed}
use Rattle.mysql_named_params.proofs.ends.string.string_len.Goals as goal

pub returns-then-text-quote-clause-string : goal.returns-then-text-quote-clause-string
returns-then-text-quote-clause-string c =
    ends_closed _ _ _ 0 (goes_on_first _ _ _) (omega arith) c.if-text-quote.true refl

pub returns-in-Some-clause-string : goal.returns-in-Some-clause-string
returns-in-Some-clause-string c =
    let close = c.in-Some.ensures in
    let here = goes_on_to _ _ _ 0 _ (omega arith) (omega (arith, close.1)) close.2.none_before (goes_on_first _ _ _) in
    ends_closed _ _ _ _ here (omega (arith, close.1)) close.2.is_quote close.2.closes
