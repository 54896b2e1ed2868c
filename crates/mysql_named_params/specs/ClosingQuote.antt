-- The quotes that close a string: those that aren't escaped. A text here begins after the opening
-- quote. For private functions of `ends/string.rt`; no public contract cites it.
use Rattle.std.specs.Prelude.{◌≡◌, ◌≢◌, ◌+◌, ◌<◌, ◌≤◌, ℕ, zero, suc, Bool, true, false, not, ◌&&◌, List, length, slice_index, Option, Some, None}
use Rattle.mysql_sql_text.specs.StringUnits.{is_escape}

-- whether the byte at this index is escaped, by an escape before it that isn't escaped itself
abbrev pub is_escaped : Bool → List ℕ → ℕ → Bool
is_escaped mode text zero = false
is_escaped mode text (suc at) =
    is_escape mode (slice_index text at) && not (is_escaped mode text at)

-- each quote from the index `from` up to `end` is escaped
abbrev pub NoneCloses : Bool → ℕ → List ℕ → ℕ → ℕ → Type 0
NoneCloses mode quote text from end =
    (k : ℕ) → from ≤ k → k < end → slice_index text k ≡ quote → is_escaped mode text k ≡ true

-- `at` is the index of the first quote that closes
pub record ClosesFirst (mode : Bool) (quote : ℕ) (text : List ℕ) (from at : ℕ) : Type 0 where
  pub none_before : NoneCloses mode quote text from at
  pub is_quote : slice_index text at ≡ quote
  pub closes : is_escaped mode text at ≡ false

-- the index of the first quote that closes, among `lanes` bytes from the index `from` on
abbrev pub IsFirstClosing : Bool → ℕ → List ℕ → ℕ → ℕ → Option ℕ → Type 0
IsFirstClosing mode quote text from lanes None = NoneCloses mode quote text from (from + lanes)
IsFirstClosing mode quote text from lanes (Some at) =
    (from ≤ at) × (at < from + lanes) × ClosesFirst mode quote text from at

-- the index of the next quote from the index `from` on, or the end
pub record IsNextQuote (quote : ℕ) (text : List ℕ) (from at : ℕ) : Type 0 where
  pub in_range : (from ≤ at) × (at ≤ length text)
  pub none_before : (k : ℕ) → from ≤ k → k < at → slice_index text k ≢ quote
  pub found : at < length text → slice_index text at ≡ quote
