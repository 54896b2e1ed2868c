-- The construct that is found for the client in the token at the front of a text, by its bytes. For
-- private functions of `client.rt`; no public contract cites it.
use Rattle.std.specs.Prelude.{ℕ, Bool, false, ◌==◌, ◌&&◌, ◌||◌, if◌then◌else◌, List, [], ◌∷◌, take, drop, Option, Some, None}
use Rattle.std.specs.List.{list_any}
use Rattle.std.specs.Str.{byte}
use Rattle.mysql_named_params.specs.Bytes.{backquote, dash, hash, newline, slash, is_string_quote}
use Rattle.mysql_portable.specs.FoundInClient.{begins_no_word, found_in_quotes, found_in_comment, found_at_byte}
use Rattle.mysql_portable.specs.FrontConstruct.{front_construct}
use Rattle.mysql_portable.specs.declared.portable.Construct.{Construct}
use Rattle.mysql_portable.specs.declared.portable.Construct.TheVariants as construct

-- the bytes of a token are those of a comment
abbrev pub are_comment : List ℕ → Bool
are_comment [] = false
are_comment (b ∷ []) = b == hash
are_comment (b ∷ c ∷ bs) = b == hash || (b == dash || b == slash)

-- a statement begins after a token of these bytes
abbrev pub statement_after : Bool → List ℕ → Bool
statement_after before [] = false
statement_after before (b ∷ []) =
    b == byte ";" || ((begins_no_word b || b == hash) && before)
statement_after before (b ∷ c ∷ bs) = are_comment (b ∷ c ∷ bs) && before

-- a line or a statement may begin after a token of these bytes
abbrev pub line_after : Bool → List ℕ → Bool
line_after before [] = false
line_after before (b ∷ []) =
    b == byte ";"
    || (b == newline || (b == slash || (b == hash || (begins_no_word b && before))))
line_after before (b ∷ c ∷ bs) = are_comment (b ∷ c ∷ bs)

-- in a token of these bytes, before this text
abbrev pub found_in_bytes : Bool → Bool → List ℕ → List ℕ → Option Construct
found_in_bytes statement line [] rest = None
found_in_bytes statement line (b ∷ []) rest = found_at_byte statement line b rest
found_in_bytes statement line (b ∷ c ∷ bs) rest =
    if b == slash then found_in_comment bs rest
    else if is_string_quote b || b == backquote then found_in_quotes (c ∷ bs)
    else None

-- the first construct if there is one, or else the second
abbrev pub first_of : Option Construct → Option Construct → Option Construct
first_of (Some found) other = Some found
first_of None other = other

-- in a token of these bytes, before this text; a byte 0 comes first
abbrev pub found_or_zero : Bool → Bool → List ℕ → List ℕ → Option Construct
found_or_zero statement line token rest =
    if list_any (λ b. b == 0) token then Some construct.ZeroByte
    else found_in_bytes statement line token rest

-- in the token of `len` bytes at the front of the text; a construct of servers comes first
abbrev pub found_in_front : Bool → Bool → List ℕ → ℕ → Option Construct
found_in_front statement line text len =
    first_of (front_construct text len)
    (found_or_zero statement line (take len text) (drop len text))
