use Rattle.std.proofs.Common.{◌+◌, ◌-◌, ◌≤◌}
use Rattle.mysql_named_params.specs.ClosingQuote.{NoneCloses}
use Rattle.memchr.specs.Find.{is_byte}
use Rattle.mysql_sql_text.proofs.MaskLemmas.{IsMask}
use Rattle.mysql_named_params.proofs.ends.string.closing_quote.Given as goal

abbrev pub invariant-quotes : goal.invariant-quotes
invariant-quotes l =
    (l.from ≤ l.at) × (l.at ≤ l.from + 16)
    × NoneCloses l.no_backslash_escape l.quote l.text l.from l.at
    × IsMask (is_byte l.quote) l.text l.at (l.from + 16) l.quotes

abbrev pub decreases-quotes : goal.decreases-quotes
decreases-quotes l = l.from + 16 - l.at
