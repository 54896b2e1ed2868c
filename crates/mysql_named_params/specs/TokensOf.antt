-- The tokens of a query as a function (`laws::tokens_exist`), which computes them for a constant
-- query. Only the contracts of fixed queries depend on it, and KnownServers.antt of
-- `mysql_portable` on `len_up_to`.
use Rattle.std.specs.Prelude.{ℕ, suc, Bool, true, false, ◌==◌, ◌&&◌, if◌then◌else◌, List, [], ◌∷◌, length, take, drop, Option, Some, None, unwrap_or}
use Rattle.mysql_sql_text.specs.StringUnits.{is_escape}
use Rattle.mysql_named_params.specs.Bytes.{asterisk, backquote, colon, dash, hash, newline, question_mark, slash, is_start_byte, is_name_byte, is_string_quote}
use Rattle.mysql_named_params.specs.FirstToken.{opens_dash_comment, opens_block_comment}
use Rattle.mysql_named_params.specs.Tokens.{Token, bytes_of, QuotedString, QuotedIdentifier, HashComment, DashComment, BlockComment, Name, Mark, Plain}

-- whether the text begins with the word
abbrev pub begins_with : List ℕ → List ℕ → Bool
begins_with [] text = true
begins_with (w ∷ ws) [] = false
begins_with (w ∷ ws) (b ∷ bs) = (w == b) && begins_with ws bs

-- the length up to the first occurrence of the word, with it, or else to the end
abbrev pub len_up_to : List ℕ → List ℕ → ℕ
len_up_to word [] = 0
len_up_to word (b ∷ bs) =
    if begins_with word (b ∷ bs) then length word else suc (len_up_to word bs)

-- the length of the rest of a string; `escaped` says whether the byte before it is an escape
abbrev pub string_len : Bool → ℕ → Bool → List ℕ → ℕ
string_len mode quote escaped [] = 0
string_len mode quote true (b ∷ bs) = suc (string_len mode quote false bs)
string_len mode quote false (b ∷ bs) =
    if b == quote then 1 else suc (string_len mode quote (is_escape mode b) bs)

-- the number of name bytes at the front of the text
abbrev pub name_len : List ℕ → ℕ
name_len [] = 0
name_len (b ∷ bs) = if is_name_byte b then suc (name_len bs) else 0

-- the comment that a `-` followed by this text opens, if it opens one
abbrev pub dash_comment : List ℕ → Option Token
dash_comment [] = None
dash_comment (b ∷ []) = None
dash_comment (b ∷ gap ∷ bs) =
    if opens_dash_comment (b ∷ gap ∷ bs)
    then Some (DashComment gap (take (len_up_to (newline ∷ []) bs) bs))
    else None

-- the comment that a `/` followed by this text opens, if it opens one
abbrev pub block_comment : List ℕ → Option Token
block_comment [] = None
block_comment (b ∷ bs) =
    if opens_block_comment (b ∷ bs)
    then Some (BlockComment (take (len_up_to (asterisk ∷ slash ∷ []) bs) bs))
    else None

-- the name that a `:` followed by this text begins with, if it begins with one
abbrev pub name_at : List ℕ → Option Token
name_at [] = None
name_at (b ∷ bs) =
    if is_start_byte b then Some (Name (b ∷ take (name_len bs) bs)) else None

-- the token other than a plain byte with which the text begins, if it begins with one
abbrev pub not_plain_at : Bool → List ℕ → Option Token
not_plain_at mode [] = None
not_plain_at mode (b ∷ bs) =
    if is_string_quote b then Some (QuotedString b (take (string_len mode b false bs) bs))
    else if b == backquote
    then Some (QuotedIdentifier (take (len_up_to (backquote ∷ []) bs) bs))
    else if b == hash then Some (HashComment (take (len_up_to (newline ∷ []) bs) bs))
    else if b == dash then dash_comment bs
    else if b == slash then block_comment bs
    else if b == colon then name_at bs
    else if b == question_mark then Some Mark
    else None

-- the token with which the text begins; `b` is its first byte, and `bs` the rest
abbrev pub token_at : Bool → ℕ → List ℕ → Token
token_at mode b bs = unwrap_or (not_plain_at mode (b ∷ bs)) (Plain b)

-- the tokens of the text, at most as many as the first list has items
abbrev pub tokens_within : Bool → List ℕ → List ℕ → List Token
tokens_within mode [] text = []
tokens_within mode (item ∷ items) [] = []
tokens_within mode (item ∷ items) (b ∷ bs) =
    token_at mode b bs
    ∷ tokens_within mode items (drop (length (bytes_of (token_at mode b bs))) (b ∷ bs))

-- the tokens of a query; it has at most as many as bytes
abbrev pub tokens_of : Bool → List ℕ → List Token
tokens_of mode query = tokens_within mode query query
