use Rattle.std.proofs.Common.{sym}
use Rattle.mysql_portable.proofs.NothingInQuotesLemmas.{nothing_in_quotes_in_front}
use Rattle.mysql_portable.proofs.client.found_in_front.Goals as goal

pub returns-then-holds_nothing_in_quotes : goal.returns-then-holds_nothing_in_quotes
returns-then-holds_nothing_in_quotes c =
    nothing_in_quotes_in_front _ _ _ _ c.requires.in_range (sym c.in_default.ensures) (c.holds_nothing_in_quotes.ensures c.if-holds_nothing_in_quotes.true)
