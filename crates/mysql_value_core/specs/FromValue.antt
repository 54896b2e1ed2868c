-- Conversions of values to Rust types: the result, and the value that a refusal returns.
use Rattle.std.specs.Prelude.{◌≡◌, ℕ, ◌==◌, Bool, true, false, List, length, if◌then◌else◌, string_bytes, Option, None, Some, Result, Ok, Err}
use Rattle.std.specs.Str.{is_utf8}
use Rattle.std.specs.declared.borrow.CowSlice.{CowSlice}
use Rattle.std.specs.declared.borrow.CowSlice.TheVariants as cow_slice
use Rattle.std.specs.declared.borrow.CowStr.{CowStr}
use Rattle.std.specs.declared.borrow.CowStr.TheVariants as cow_str
use Rattle.mysql_value_core.specs.declared.value.Value.{Value}
use Rattle.mysql_value_core.specs.declared.value.Value.TheVariants.{Bytes}
use Rattle.mysql_value_core.specs.declared.value.convert.FromValueError.{FromValueError}

-- The value converts to that which contracts see of the result. Or it doesn't convert, and the
-- refusal holds exactly this value.
abbrev pub ConvertsOrHandsBack : {X Seen : Type 0} → (X → Seen) → Option Seen → Value
    → Result X FromValueError → Type 0
ConvertsOrHandsBack seen converted value (Ok x) = converted ≡ Some (seen x)
ConvertsOrHandsBack seen converted value (Err error) = (converted ≡ None) × (error.0 ≡ value)

-- the bytes of a value
abbrev pub value_bytes : Value → Option (List ℕ)
value_bytes (Bytes bytes) = Some bytes
value_bytes _ = None

-- the bytes of a value, if they are UTF-8
abbrev pub value_text : Value → Option (List ℕ)
value_text (Bytes bytes) = if is_utf8 bytes then Some bytes else None
value_text _ = None

-- the bytes of a value, if there are `count` of them
abbrev pub value_array : ℕ → Value → Option (List ℕ)
value_array count (Bytes bytes) = if length bytes == count then Some bytes else None
value_array count _ = None

-- whether a `Cow` owns its bytes, and the bytes
abbrev pub CowSeen : Type 0
CowSeen = Bool × List ℕ

-- the view of a `Cow` of bytes
abbrev pub cow_bytes : {Z : Type 0} → CowSlice ℕ Z → CowSeen
cow_bytes (cow_slice.Owned bytes) = (true, bytes.items)
cow_bytes (cow_slice.Borrowed bytes) = (false, bytes.now)

-- the view of a `Cow` of text
abbrev pub cow_text : {Z : Type 0} → CowStr Z → CowSeen
cow_text (cow_str.Owned text) = (true, string_bytes text)
cow_text (cow_str.Borrowed text) = (false, text.now)

-- a `Cow` that owns the bytes
abbrev pub owned_cow : List ℕ → CowSeen
owned_cow bytes = (true, bytes)
