-- Bytes with which only plain tokens begin, and no construct of a server or of a client, and after
-- which no line and no statement begins. For private functions of `no_construct.rt`, `portable.rt`
-- and `client.rt`; no public contract cites it.
use Rattle.std.specs.Prelude.{◌≡◌, ◌+◌, ◌<◌, ℕ, Bool, false, not, ◌&&◌, ◌||◌, ◌==◌, List, [], ◌∷◌, drop}
use Rattle.std.specs.Str.{byte}
use Rattle.mysql_named_params.specs.Bytes.{asterisk, bracket, dash, dollar, newline, plus, point}
use Rattle.mysql_named_params.specs.PlainBytes.{is_always_plain}
use Rattle.mysql_portable.specs.Portable.{begins_exponent}

-- nothing begins or ends with the byte, except an exponent after a digit
abbrev pub begins_no_construct : ℕ → Bool
begins_no_construct b =
    is_always_plain b
    && not (b == bracket || b == dollar || b == point || b == plus || b == asterisk
    || b == byte ";" || b == byte "\\" || b == newline || b == 0)

-- the letter of an exponent, or its sign
abbrev pub is_of_exponent : ℕ → Bool
is_of_exponent b = (b == byte "e" || b == byte "E") || (b == plus || b == dash)

-- the text begins with `e` or `E`, and then `+` or `-`
abbrev pub begins_exponent_sign : List ℕ → Bool
begins_exponent_sign [] = false
begins_exponent_sign (e ∷ []) = false
begins_exponent_sign (e ∷ sign ∷ bs) =
    (e == byte "e" || e == byte "E") && (sign == plus || sign == dash)

-- none of the bytes up to this index is directly before an exponent's letter and its sign
abbrev pub StandBeforeNoSign : List ℕ → ℕ → Type 0
StandBeforeNoSign text end =
    (k : ℕ) → k < end → begins_exponent_sign (drop (k + 1) text) ≡ false

-- none of the bytes up to this index is directly before an exponent and a place
abbrev pub StandBeforeNoExponent : List ℕ → ℕ → Type 0
StandBeforeNoExponent text end =
    (k : ℕ) → k < end → begins_exponent (drop (k + 1) text) ≡ false
