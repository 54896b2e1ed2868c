-- Blocks of bytes that are escaped lane by lane. A mode is the flag `no_backslash_escape`.
use Rattle.std.specs.Prelude.{ℕ, ◌-◌, Bool, true, false, ◌==◌, List, [], ◌∷◌, length, slice_index, if◌then◌else◌}
use Rattle.std.specs.List.{flat_map}
use Rattle.std.specs.Int.{bit_at}
use Rattle.std.specs.Str.{byte}
use Rattle.mysql_sql_text.specs.LiteralParts.{escaped_byte}

-- the first of the two bytes that stand for an escaped byte
abbrev pub first_byte : Bool → ℕ
first_byte false = byte "\\"
first_byte true = byte "'"

-- the last of the bytes that stand for a byte
abbrev pub last_byte : Bool → ℕ → ℕ
last_byte mode b = slice_index (escaped_byte mode b) (length (escaped_byte mode b) - 1)

-- the first four lanes, each after the first byte of an escape if its bit is set
abbrev pub four_lanes : Bool → ℕ → List ℕ → List ℕ
four_lanes mode bits lanes =
    flat_map (λ i. if bit_at bits i == 1 then first_byte mode ∷ slice_index lanes i ∷ []
    else slice_index lanes i ∷ []) (0 ∷ 1 ∷ 2 ∷ 3 ∷ [])
