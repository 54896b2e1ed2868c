-- The effects that a client of Client.antt has on a query's tokens, besides reading them: commands,
-- lines that it drops, bytes that it changes or never sends. Each token is tested with the text
-- before and after it, and the test gives the construct that it finds. Source: the texts that the
-- clients send, by experiment (docs/EVIDENCE.md). That these are all effects, except spaces and
-- what else SentStatements.antt of `mysql_client` lists, is a law of that crate,
-- `portable_texts_are_sent`.
use Rattle.std.specs.Prelude.{ℕ, Bool, true, false, not, ◌==◌, ◌&&◌, ◌||◌, nat_le, nat_lt, ◌-◌, if◌then◌else◌, List, [], ◌∷◌, length, drop, codes, Option, Some, None}
use Rattle.std.specs.List.{list_any}
use Rattle.std.specs.Char.{to_ascii_lowercase}
use Rattle.std.specs.Str.{byte}
use Rattle.mysql_named_params.specs.Bytes.{asterisk, carriage_return, dash, hash, newline, question_mark, slash, space, is_white_space, begins}
use Rattle.mysql_named_params.specs.Tokens.{Token, bytes_of, QuotedString, QuotedIdentifier, HashComment, DashComment, BlockComment, Mark, Plain}
use Rattle.mysql_portable.specs.ServerTokens.{begins_place, begins_special}
use Rattle.mysql_portable.specs.Client.{holds_opener}
use Rattle.mysql_portable.specs.declared.portable.Construct.{Construct}
use Rattle.mysql_portable.specs.declared.portable.Construct.TheVariants as construct

-- ---- the place of a token

-- a token of a comment
abbrev pub is_comment : Token → Bool
is_comment (HashComment tail) = true
is_comment (DashComment gap tail) = true
is_comment (BlockComment tail) = true
is_comment t = false

-- a byte with which no word begins: white space, a control byte, or a byte from 128 on, such as
-- those of a UTF-8 mark at the front, which the client drops
abbrev pub begins_no_word : ℕ → Bool
begins_no_word b = nat_le b space || nat_le 128 b

-- A statement begins after this token. `before` says whether one begins before it. Only such bytes
-- and comments come before the first word of a statement.
abbrev pub begins_statement : Bool → Token → Bool
begins_statement before (Plain b) = b == byte ";" || (begins_no_word b && before)
begins_statement before t = is_comment t && before

-- a line or a statement may begin after this token, also after each comment, and after a `/`, which
-- may end a hint
abbrev pub begins_line : Bool → Token → Bool
begins_line before (Plain b) =
    b == byte ";" || (b == newline || (b == slash || (begins_no_word b && before)))
begins_line before t = is_comment t

-- ---- texts

-- The lower-case letter for which a client takes a capital of latin1 with an accent, from 192 on.
-- The collation latin1_swedish_ci has no letter for 196 to 198, 214 to 216, and from 222 on.
abbrev pub without_accent : ℕ → ℕ
without_accent b =
    if nat_lt b 196 then byte "a"
    else if nat_lt b 199 then b
    else if b == 199 then byte "c"
    else if nat_lt b 204 then byte "e"
    else if nat_lt b 208 then byte "i"
    else if b == 208 then byte "d"
    else if b == 209 then byte "n"
    else if nat_lt b 214 then byte "o"
    else if nat_lt b 217 then b
    else if nat_lt b 220 then byte "u"
    else if nat_lt b 222 then byte "y"
    else b

-- The lower-case letter for which a client takes a byte. MariaDB's client compares by latin1, where
-- a small letter is 32 after its capital: to it `syst\xEAm` is `system`.
abbrev pub letter_of : ℕ → ℕ
letter_of b =
    if nat_lt b 192 then to_ascii_lowercase b
    else if nat_lt b 224 then without_accent b
    else without_accent (b - 32)

-- the text begins with this word of lower-case letters
abbrev pub begins_word : List ℕ → List ℕ → Bool
begins_word [] text = true
begins_word (w ∷ ws) [] = false
begins_word (w ∷ ws) (b ∷ bs) = letter_of b == w && begins_word ws bs

-- the text is empty or begins with a byte that ends a word: white space, a control byte or `;`
abbrev pub ends_word : List ℕ → Bool
ends_word [] = true
ends_word (b ∷ bs) = nat_le b space || b == byte ";"

-- the text begins with the whole word
abbrev pub begins_whole_word : List ℕ → List ℕ → Bool
begins_whole_word word text = begins_word word text && ends_word (drop (length word) text)

-- This lower-case letter followed by this text begins with a word that MariaDB's client runs
-- itself: `charset`, `clear`, `connect`, `costs`, `edit`, `ego`, `exit`, `go`, `help`, `nopager`,
-- `notee`, `nowarning`, `pager`, `print`, `prompt`, `quit`, `rehash`, `sandbox`, `source`,
-- `status`, `system`, `tee`, `use`, `warnings`. Or it is `?`, another word for `help`.
abbrev pub is_word_of_mariadb : ℕ → List ℕ → Bool
is_word_of_mariadb letter rest =
    if letter == byte "c"
    then begins_whole_word (codes "harset") rest
    || (begins_whole_word (codes "lear") rest
    || (begins_whole_word (codes "onnect") rest
    || begins_whole_word (codes "osts") rest))
    else if letter == byte "e"
    then begins_whole_word (codes "dit") rest
    || (begins_whole_word (codes "go") rest
    || begins_whole_word (codes "xit") rest)
    else if letter == byte "g" then begins_whole_word (codes "o") rest
    else if letter == byte "h" then begins_whole_word (codes "elp") rest
    else if letter == byte "n"
    then begins_whole_word (codes "opager") rest
    || (begins_whole_word (codes "otee") rest
    || begins_whole_word (codes "owarning") rest)
    else if letter == byte "p"
    then begins_whole_word (codes "ager") rest
    || (begins_whole_word (codes "rint") rest
    || begins_whole_word (codes "rompt") rest)
    else if letter == byte "q" then begins_whole_word (codes "uit") rest
    else if letter == byte "r" then begins_whole_word (codes "ehash") rest
    else if letter == byte "s"
    then begins_whole_word (codes "andbox") rest
    || (begins_whole_word (codes "ource") rest
    || (begins_whole_word (codes "tatus") rest
    || begins_whole_word (codes "ystem") rest))
    else if letter == byte "t" then begins_whole_word (codes "ee") rest
    else if letter == byte "u" then begins_whole_word (codes "se") rest
    else if letter == byte "w" then begins_whole_word (codes "arnings") rest
    else letter == question_mark && ends_word rest

-- This lower-case letter followed by this text begins with a word that only MySQL's client runs
-- itself, with `--commands`: `query_attributes`, `resetconnection`, `ssl_session_data_print`.
abbrev pub is_word_of_mysql : ℕ → List ℕ → Bool
is_word_of_mysql letter rest =
    if letter == byte "q" then begins_whole_word (codes "uery_attributes") rest
    else if letter == byte "r" then begins_whole_word (codes "esetconnection") rest
    else if letter == byte "s" then begins_whole_word (codes "sl_session_data_print") rest
    else false

-- this lower-case letter followed by this text begins with a word of one of the clients
unfoldable pub is_client_word : ℕ → List ℕ → Bool
is_client_word letter rest = is_word_of_mariadb letter rest || is_word_of_mysql letter rest

-- a byte that a client joins to the bytes before a comment: from 128 on, or a backslash
abbrev pub is_joined : ℕ → Bool
is_joined b = nat_le 128 b || b == byte "\\"

-- after a `*`: `/` and such a byte
abbrev pub closes_before_joined : List ℕ → Bool
closes_before_joined [] = false
closes_before_joined (b ∷ bs) = b == slash && begins is_joined bs

-- After a plain `-` with which a statement begins: another `-`, or a place, whose value may begin
-- with one. Even before a newline the client takes two dashes for a comment, and begins the
-- statement after it.
abbrev pub drops_line : List ℕ → Bool
drops_line [] = false
drops_line (b ∷ bs) =
    begins_place (b ∷ bs) || b == dash

-- two dashes, followed by white space or the end
abbrev pub begins_comment_dashes : List ℕ → Bool
begins_comment_dashes [] = false
begins_comment_dashes (a ∷ []) = false
begins_comment_dashes (a ∷ b ∷ []) = a == dash && b == dash
begins_comment_dashes (a ∷ b ∷ gap ∷ bs) = a == dash && (b == dash && is_white_space gap)

-- the text begins with a comment
abbrev pub begins_comment : List ℕ → Bool
begins_comment [] = false
begins_comment (b ∷ bs) =
    b == hash
    || ((b == slash && begins (λ c. c == asterisk) bs) || begins_comment_dashes (b ∷ bs))

-- after a `-`: another, directly before a comment
abbrev pub stand_before_comment : List ℕ → Bool
stand_before_comment [] = false
stand_before_comment (b ∷ bs) = b == dash && begins_comment bs

-- after a backslash: the end of a line, or of the text
abbrev pub ends_line : List ℕ → Bool
ends_line [] = true
ends_line (b ∷ bs) = b == newline || (b == carriage_return && begins (λ c. c == newline) bs)

-- a backslash is at the end of a line of the text, or of the text
abbrev pub escapes_newline : List ℕ → Bool
escapes_newline [] = false
escapes_newline (b ∷ bs) = (b == byte "\\" && ends_line bs) || escapes_newline bs

-- a line of the text after the first begins with the word `delimiter`
abbrev pub begins_delimiter_line : List ℕ → Bool
begins_delimiter_line [] = false
begins_delimiter_line (b ∷ bs) =
    (b == newline && begins_word (codes "delimiter") bs) || begins_delimiter_line bs

-- ---- findings

-- In a text in quotes or backquotes. The client drops the newline at the end of a line that begins
-- with `delimiter`, even if the word is in quotes that end on that line.
abbrev pub found_in_quotes : List ℕ → Option Construct
found_in_quotes tail =
    if escapes_newline tail then Some construct.EscapedNewline
    else if begins_delimiter_line tail then Some construct.Delimiter
    else None

-- In a block comment, before this text. MariaDB's client reads the text of `/*M! .. */`.
abbrev pub found_in_comment : List ℕ → List ℕ → Option Construct
found_in_comment tail rest =
    if holds_opener tail then Some construct.OpenerInComment
    else if begins is_joined rest then Some construct.JoiningComment
    else if begins_special tail && begins_delimiter_line tail then Some construct.Delimiter
    else None

-- at a word with this first letter, in lower case; the flags say whether a statement or a line may
-- begin there
abbrev pub found_word : Bool → Bool → ℕ → List ℕ → Option Construct
found_word statement line letter rest =
    if line && (letter == byte "d" && begins_word (codes "elimiter") rest)
    then Some construct.Delimiter
    else if statement && is_client_word letter rest then Some construct.ClientWord
    else None

-- at a plain byte before this text; the flags say whether a statement or a line may begin there
abbrev pub found_at_byte : Bool → Bool → ℕ → List ℕ → Option Construct
found_at_byte statement line b rest =
    if b == byte "\\" && not (begins (λ c. c == byte "N") rest) then Some construct.ClientCommand
    else if b == asterisk && closes_before_joined rest then Some construct.JoiningComment
    else if b == dash && (statement && drops_line rest) then Some construct.DashInFront
    else if b == dash && stand_before_comment rest then Some construct.DashesBeforeComment
    else found_word statement line (letter_of b) rest

-- in this token before this text, if it holds no byte 0
abbrev pub found_in_token : Bool → Bool → Token → List ℕ → Option Construct
found_in_token statement line (QuotedString quote tail) rest = found_in_quotes tail
found_in_token statement line (QuotedIdentifier tail) rest = found_in_quotes tail
found_in_token statement line (BlockComment tail) rest = found_in_comment tail rest
found_in_token statement line Mark rest = found_word statement line question_mark rest
found_in_token statement line (Plain b) rest = found_at_byte statement line b rest
found_in_token statement line t rest = None

-- in this token before this text
abbrev pub found_in_client : Bool → Bool → Token → List ℕ → Option Construct
found_in_client statement line t rest =
    if list_any (λ b. b == 0) (bytes_of t) then Some construct.ZeroByte
    else found_in_token statement line t rest
