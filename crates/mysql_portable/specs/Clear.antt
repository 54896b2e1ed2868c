-- Clear texts. A byte is *in doubt* if it isn't steady, or may begin or end a construct at its
-- place. A text is *clear* if none of its bytes is in doubt. The test looks at a byte and the bytes
-- beside it, and not at tokens. A clear query is steady and portable, and most queries that are
-- both are clear. Some aren't, such as a query with `[` in a string, or with `a-?`. A query that is
-- clear in a client is also portable there; one that begins with a comment isn't clear in a client.
-- Wide names count as places, so a clear query stays clear with these names in lower case.
use Rattle.std.specs.Prelude.{◌≡◌, ◌-◌, ◌<◌, ◌≤◌, ◌==◌, ◌&&◌, ◌||◌, not, nat_le, codes, ℕ, Bool, true, false, List, [], ◌∷◌, if◌then◌else◌, drop, slice_index}
use Rattle.std.specs.Char.{is_ascii_digit}
use Rattle.std.specs.Str.{byte}
use Rattle.mysql_named_params.specs.Bytes.{asterisk, bracket, carriage_return, colon, dash, dollar, hash, newline, plus, point, question_mark, slash, space, is_extension, begins}
use Rattle.mysql_named_params.specs.WideNames.{is_wide_start}
use Rattle.mysql_portable.specs.FoundInClient.{begins_word, is_client_word, letter_of, stand_before_comment}
use Rattle.mysql_portable.specs.Portable.{may_open_line}
use Rattle.mysql_portable.specs.ServerTokens.{begins_special, is_tag_byte}
use Rattle.mysql_portable.specs.SteadyBytes.{is_steady}

-- ---- on servers

-- after a `$` such a byte may begin a tag, or a place
abbrev pub may_begin_tag : ℕ → Bool
may_begin_tag b = b == dollar || (b == question_mark || (b == colon || is_tag_byte b))

-- after a `/`: the bytes that make it a comment that may be executed, or a hint
abbrev pub begins_special_block : List ℕ → Bool
begins_special_block [] = false
begins_special_block (b ∷ bs) = b == asterisk && begins_special bs

-- a sign
abbrev pub is_sign : ℕ → Bool
is_sign b = b == plus || b == dash

-- after this byte, two dashes may belong to a number: the `e` of an exponent, or its sign
abbrev pub may_take_dashes : ℕ → Bool
may_take_dashes b = b == byte "e" || (b == byte "E" || is_sign b)

-- after this byte, a place may belong to a number
abbrev pub may_take_place : ℕ → Bool
may_take_place b = is_ascii_digit b || (b == point || is_sign b)

-- `?`, or `:` and a byte that begins a name or a wide name
abbrev pub begins_wide_place : List ℕ → Bool
begins_wide_place [] = false
begins_wide_place (b ∷ bs) = b == question_mark || (b == colon && begins is_wide_start bs)

-- the byte, between the byte before it and this rest, isn't steady, or may begin or end a construct
abbrev pub is_in_doubt : ℕ → ℕ → List ℕ → Bool
is_in_doubt before b rest =
    not (is_steady b)
    || ((b == carriage_return && not (begins (λ c. c == newline) rest))
    || (b == bracket
    || ((b == dollar && begins may_begin_tag rest)
    || ((b == slash && begins_special_block rest)
    || ((b == dash
    && (may_open_line rest || (may_take_dashes before && begins (λ c. c == dash) rest)))
    || (may_take_place before && begins_wide_place (b ∷ rest)))))))

-- ---- in a client

-- After white space, the text begins with a word of a client, or with bytes that may be a comment
-- or a line that a client drops. A statement with such a front isn't clear.
abbrev pub begins_client_line : List ℕ → Bool
begins_client_line [] = false
begins_client_line (b ∷ bs) =
    if nat_le b space then begins_client_line bs
    else (b == hash || (b == dash || b == slash)) || is_client_word (letter_of b) bs

-- after a `/`: the bytes that make it a comment that a client may end elsewhere
abbrev pub begins_opener_after : List ℕ → Bool
begins_opener_after [] = false
begins_opener_after (b ∷ []) = false
begins_opener_after (b ∷ c ∷ bs) = b == asterisk && (is_extension c || c == slash)

-- the steady byte, before this rest, may begin a construct of a client, or is a `;` before a
-- statement that may begin with one
abbrev pub is_in_doubt_in_client : ℕ → List ℕ → Bool
is_in_doubt_in_client b rest =
    b == 0
    || ((b == byte ";" && begins_client_line rest)
    || ((b == dash && stand_before_comment rest)
    || ((b == slash && begins_opener_after rest)
    || ((b == byte "d" || b == byte "D") && begins_word (codes "elimiter") rest))))

-- ---- on servers, and in a client if the flag says so

-- the byte is in doubt on servers, or in a client if `client` is true
abbrev pub is_in_doubt_for : Bool → ℕ → ℕ → List ℕ → Bool
is_in_doubt_for client before b rest =
    is_in_doubt before b rest || (client && is_in_doubt_in_client b rest)

-- after this byte, no byte of the text is in doubt
abbrev pub is_clear_after : Bool → ℕ → List ℕ → Bool
is_clear_after client before [] = true
is_clear_after client before (b ∷ bs) =
    not (is_in_doubt_for client before b bs) && is_clear_after client b bs

-- no byte of the text is in doubt
abbrev pub is_clear : List ℕ → Bool
is_clear = is_clear_after false space

-- no byte of the text is in doubt in a client either, and its front isn't a line of the client
abbrev pub is_clear_in_client : List ℕ → Bool
is_clear_in_client text = not (begins_client_line text) && is_clear_after true space text

-- the byte before this index, or a space if the index is 0
abbrev pub byte_before : List ℕ → ℕ → ℕ
byte_before text at = if at == 0 then space else slice_index text (at - 1)

-- no byte from this index on is in doubt
abbrev pub is_clear_from : Bool → List ℕ → ℕ → Bool
is_clear_from client text at = is_clear_after client (byte_before text at) (drop at text)

-- ---- bytes that are passed

-- a byte that is never in doubt on servers: it is steady, no construct and no place begins with it
-- in any text, and it ends no comment
abbrev pub is_never_in_doubt : ℕ → Bool
is_never_in_doubt b =
    is_steady b
    && not (b == carriage_return || (b == bracket || (b == dollar
    || (b == slash || (b == dash || (b == colon || b == question_mark))))))

-- another byte with which a construct of a client or a statement may begin
abbrev pub is_of_client : ℕ → Bool
is_of_client b = b == 0 || (b == byte ";" || (b == byte "d" || b == byte "D"))

-- a byte that may be in doubt, so that the bytes beside it matter
abbrev pub may_be_in_doubt : Bool → ℕ → Bool
may_be_in_doubt client b = not (is_never_in_doubt b) || (client && is_of_client b)

-- no byte from the index `from` up to `end` may be in doubt
abbrev pub AreNeverInDoubt : Bool → List ℕ → ℕ → ℕ → Type 0
AreNeverInDoubt client text from end =
    (k : ℕ) → from ≤ k → k < end → may_be_in_doubt client (slice_index text k) ≡ false
