-- The guarded literal of a value, for a connection that is taken to be in a mode over utf8mb4
-- (MySQL Reference Manual, "String Literals"). In both modes and over every client set
-- (ClientSet.antt) it ends at the same place. It has no introducer unless it is hexadecimal. In its
-- mode it reads as the value. A mode is the flag `no_backslash_escape`: `true` is the mode without
-- backslash escapes.
use Rattle.std.specs.Prelude.{ℕ, nat_le, Bool, true, false, ◌==◌, List, [], ◌∷◌, ◌++◌, codes, Option, Some, if◌then◌else◌}
use Rattle.std.specs.List.{list_all}
use Rattle.std.specs.Str.{byte, is_utf8}
use Rattle.mysql_sql_text.specs.StringUnits.{without_backslashes}
use Rattle.mysql_sql_text.specs.LiteralParts.{hexadecimal, quoted}
use Rattle.mysql_values.specs.declared.value.Value.{Value}
use Rattle.mysql_values.specs.declared.value.Value.TheVariants.{Bytes}
use Rattle.mysql_values.specs.Literal.{literal_of}
use Rattle.mysql_portable.specs.SteadyBytes.{is_no_backslash}

-- A byte of guarded strings, by whether the byte before it is from 128 on. A single quote and a
-- backslash are doubled. A backslash directly after a byte from 128 on is in the next string, which
-- begins after a space. Every other byte stays.
abbrev pub guarded_byte : Bool → ℕ → List ℕ
guarded_byte high b =
    if b == byte "'" then codes "''" else (
    if b == byte "\\" then (if high then codes "' '\\\\" else codes "\\\\") else b ∷ [])

-- the bytes of guarded strings, by whether the byte before them is from 128 on
abbrev pub guarded : Bool → List ℕ → List ℕ
guarded high [] = []
guarded high (b ∷ bytes) = guarded_byte high b ++ guarded (nat_le 128 b) bytes

-- Whether guarded strings of a mode hold the bytes: with backslash escapes they hold all, and
-- without them those without a backslash.
abbrev pub are_held : Bool → List ℕ → Bool
are_held false bytes = true
are_held true bytes = list_all is_no_backslash bytes

-- The literal of bytes: `'it''s'`, and with backslash escapes `'C:\\dir'` and `'é' '\\'`;
-- `_utf8mb4 0x5C` for other UTF-8; and `0xFF` for bytes that aren't UTF-8.
abbrev pub guarded_bytes_literal : Bool → List ℕ → List ℕ
guarded_bytes_literal mode bytes =
    if is_utf8 bytes
    then (if are_held mode bytes then quoted (guarded false bytes)
    else codes "_utf8mb4 0x" ++ hexadecimal bytes)
    else codes "0x" ++ hexadecimal bytes

-- the literal of a value; floats have none, and those of other values than bytes are the same in
-- both modes
abbrev pub guarded_literal_of : Bool → Value → Option (List ℕ)
guarded_literal_of mode (Bytes bytes) = Some (guarded_bytes_literal mode bytes)
guarded_literal_of mode value = literal_of without_backslashes value
