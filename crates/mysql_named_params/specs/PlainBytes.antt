-- The bytes that are *always plain*: only a plain token begins with each, whatever follows it. For
-- private functions of `tokens.rt`; no public contract cites them.
use Rattle.std.specs.Prelude.{◌≡◌, ◌<◌, ◌≤◌, ℕ, Bool, true, not, ◌||◌, ◌==◌, List, slice_index}
use Rattle.mysql_named_params.specs.Bytes.{backquote, hash, dash, slash, colon, question_mark, is_string_quote}

-- a byte with which only a plain token begins
abbrev pub is_always_plain : ℕ → Bool
is_always_plain b =
    not (is_string_quote b || b == backquote || b == hash || b == dash || b == slash || b == colon
    || b == question_mark)

-- each byte from the index `from` up to `end` is always plain
abbrev pub AreAlwaysPlain : List ℕ → ℕ → ℕ → Type 0
AreAlwaysPlain text from end =
    (k : ℕ) → from ≤ k → k < end → is_always_plain (slice_index text k) ≡ true
