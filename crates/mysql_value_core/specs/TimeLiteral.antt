-- The literals of times that are time texts between quotes.
use Rattle.std.specs.Prelude.{◌≡◌, ℕ, ◌+◌, ◌*◌, ◌<◌, ◌≤◌, false, List, ⊤}
use Rattle.mysql_sql_text.specs.LiteralParts.{quoted}
use Rattle.mysql_sql_text.specs.TimeText.{IsTimeText, total_microseconds}
use Rattle.mysql_value_core.specs.declared.value.Value.{Value}
use Rattle.mysql_value_core.specs.declared.value.Value.TheVariants.{Time}

-- a time text without `-`, with these microseconds, is between the quotes
abbrev pub QuotesTime : ℕ → List ℕ → Type 0
QuotesTime microseconds literal =
    (text : List ℕ) × (quoted text ≡ literal) × IsTimeText text false microseconds

-- The literal of a time is a time text of its microseconds between quotes, under these conditions:
-- it isn't negative, has up to 899 hours in all, minutes and seconds up to 59, and less than a
-- million microseconds. Nothing is said about other values.
abbrev pub WritesTimeText : Value → List ℕ → Type 0
WritesTimeText (Time false days hours minutes seconds microseconds) literal =
    days * 24 + hours ≤ 899 → minutes ≤ 59 → seconds ≤ 59 → microseconds < 1000000
    → QuotesTime (total_microseconds days hours minutes seconds microseconds) literal
WritesTimeText value literal = ⊤
