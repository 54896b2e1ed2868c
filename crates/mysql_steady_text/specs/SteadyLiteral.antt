-- The steady literal of a value, which is read alike in both modes and over every character set. A
-- text is written after the introducer `_utf8mb4`, so its bytes are utf8mb4 over any connection's
-- set (MySQL Reference Manual, "Character Set Introducers"). It is in quotes if it is printable
-- ASCII without a backslash, else in hexadecimal digits.
use Rattle.std.specs.Prelude.{◌≡◌, ℕ, nat_le, Bool, ◌&&◌, List, ◌++◌, codes, map, Option, Some, if◌then◌else◌, unwrap_or, []}
use Rattle.std.specs.List.{list_all}
use Rattle.std.specs.Str.{is_utf8}
use Rattle.mysql_sql_text.specs.StringUnits.{without_backslashes}
use Rattle.mysql_sql_text.specs.LiteralParts.{escaped, hexadecimal, quoted}
use Rattle.mysql_values.specs.declared.value.Value.{Value}
use Rattle.mysql_values.specs.declared.value.Value.TheVariants.{Bytes}
use Rattle.mysql_values.specs.Literal.{literal_of}
use Rattle.mysql_portable.specs.SteadyBytes.{is_no_backslash}

-- a byte that a steady string holds: the space or graphic ASCII, and no backslash
abbrev pub is_spelled_out : ℕ → Bool
is_spelled_out b = nat_le 32 b && (nat_le b 126 && is_no_backslash b)

-- The literal of bytes: `_utf8mb4'it''s'`, and `_utf8mb4''` for no bytes; `_utf8mb4 0xC3A9` for
-- other UTF-8; and `0xFF` for bytes that aren't UTF-8.
abbrev pub steady_bytes_literal : List ℕ → List ℕ
steady_bytes_literal bytes =
    if list_all is_spelled_out bytes
    then codes "_utf8mb4" ++ quoted (escaped without_backslashes bytes)
    else if is_utf8 bytes then codes "_utf8mb4 0x" ++ hexadecimal bytes
    else codes "0x" ++ hexadecimal bytes

-- the literal of a value; floats have none, and those of other values than bytes are the same in
-- both modes
abbrev pub steady_literal_of : Value → Option (List ℕ)
steady_literal_of (Bytes bytes) = Some (steady_bytes_literal bytes)
steady_literal_of value = literal_of without_backslashes value

-- the texts are the steady literals of the values
abbrev pub AreSteadyLiteralsOf : List Value → List (List ℕ) → Type 0
AreSteadyLiteralsOf values texts = map steady_literal_of values ≡ map Some texts

-- the bytes of that literal; no bytes for a float, which has none
abbrev pub steady_literal_text : Value → List ℕ
steady_literal_text value = unwrap_or (steady_literal_of value) []
