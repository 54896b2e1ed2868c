-- The grammar of queries: the tokens before the text that follows them, and the tokens of a query
-- (MySQL Reference Manual, "String Literals", "Schema Object Names", "Comments"). docs/RULES.md has
-- it in words, with its differences from the manual. A *plain* token is one byte with which no
-- token of another kind begins there.
use Rattle.std.specs.Prelude.{◌≡◌, ◌≢◌, ℕ, IsTrue, IsFalse, Bool, List, [], ◌∷◌, ◌++◌, ⊤}
use Rattle.std.specs.List.{list_all}
use Rattle.mysql_named_params.specs.Bytes.{asterisk, backquote, colon, dash, hash, newline, question_mark, slash, is_white_space, is_start_byte, is_name_byte, is_string_quote, is_extension, begins, IsUpTo}
use Rattle.mysql_sql_text.specs.StringUnits.{is_escape, AreUnits}

-- a token: its kind, and those of its bytes that the kind doesn't fix
pub data Token : Type 0 where
  -- the quote, and the bytes after it
  QuotedString : (quote : ℕ) (tail : List ℕ) → Token
  -- the bytes after the backquote
  QuotedIdentifier : (tail : List ℕ) → Token
  -- the bytes after `#`
  HashComment : (tail : List ℕ) → Token
  -- the byte after `--`, and the bytes after that
  DashComment : (gap : ℕ) (tail : List ℕ) → Token
  -- the bytes after `/*`
  BlockComment : (tail : List ℕ) → Token
  -- the bytes after `:`
  Name : (name : List ℕ) → Token
  -- `?`
  Mark : Token
  -- one byte of anything else
  Plain : (byte : ℕ) → Token

-- the bytes of a token
abbrev pub bytes_of : Token → List ℕ
bytes_of (QuotedString quote tail) = quote ∷ tail
bytes_of (QuotedIdentifier tail) = backquote ∷ tail
bytes_of (HashComment tail) = hash ∷ tail
bytes_of (DashComment gap tail) = dash ∷ dash ∷ gap ∷ tail
bytes_of (BlockComment tail) = slash ∷ asterisk ∷ tail
bytes_of (Name name) = colon ∷ name
bytes_of Mark = question_mark ∷ []
bytes_of (Plain b) = b ∷ []

-- the bytes after the opening quote of a string, before a rest
pub data IsStringTail (mode : Bool) (quote : ℕ) (tail rest : List ℕ) : Type 0 where
  -- units, followed by the same quote
  closed_string : (body : List ℕ) →
      AreUnits mode quote body → body ++ quote ∷ [] ≡ tail → IsStringTail mode quote tail rest
  -- units to the end of the query
  open_string : AreUnits mode quote tail → rest ≡ [] → IsStringTail mode quote tail rest
  -- units, followed by an escape at the end of the query
  open_in_escape : (body : List ℕ) (b : ℕ) →
      AreUnits mode quote body → IsTrue (is_escape mode b) → body ++ b ∷ [] ≡ tail → rest ≡ [] →
      IsStringTail mode quote tail rest

-- a start byte, followed by name bytes
abbrev pub IsName : List ℕ → Type 0
IsName [] = ⊥
IsName (b ∷ bs) = IsTrue (is_start_byte b) × IsTrue (list_all is_name_byte bs)

-- a token other than a plain byte, before a rest
abbrev pub IsNotPlain : Bool → Token → List ℕ → Type 0
IsNotPlain mode (QuotedString quote tail) rest =
    IsTrue (is_string_quote quote) × IsStringTail mode quote tail rest
IsNotPlain mode (QuotedIdentifier tail) rest = IsUpTo (backquote ∷ []) tail rest
IsNotPlain mode (HashComment tail) rest = IsUpTo (newline ∷ []) tail rest
IsNotPlain mode (DashComment gap tail) rest =
    IsTrue (is_white_space gap) × (gap ≢ newline) × IsUpTo (newline ∷ []) tail rest
IsNotPlain mode (BlockComment tail) rest =
    IsFalse (begins is_extension (tail ++ rest)) × IsUpTo (asterisk ∷ slash ∷ []) tail rest
IsNotPlain mode (Name name) rest = IsName name × IsFalse (begins is_name_byte rest)
IsNotPlain mode Mark rest = ⊤
IsNotPlain mode (Plain b) rest = ⊥

-- a token before a rest; a byte is a plain token if no other token begins with it in this text
abbrev pub IsToken : Bool → Token → List ℕ → Type 0
IsToken mode (Plain b) rest =
    (t : Token) (after : List ℕ) → IsNotPlain mode t after → bytes_of t ++ after ≢ b ∷ rest
IsToken mode t rest = IsNotPlain mode t rest

-- the bytes of the tokens one after another, followed by a rest
abbrev pub text_then : List ℕ → List Token → List ℕ
text_then rest [] = rest
text_then rest (t ∷ ts) = bytes_of t ++ text_then rest ts

-- the bytes of the tokens one after another
abbrev pub text_of : List Token → List ℕ
text_of = text_then []

-- each is a token before the text of the tokens after it, followed by a rest
abbrev pub AreTokensBefore : Bool → List ℕ → List Token → Type 0
AreTokensBefore mode rest [] = ⊤
AreTokensBefore mode rest (t ∷ ts) =
    IsToken mode t (text_then rest ts) × AreTokensBefore mode rest ts

-- the tokens of a query
pub record IsTokens (mode : Bool) (query : List ℕ) (ts : List Token) : Type 0 where
  -- their bytes are the query
  pub text : text_of ts ≡ query
  -- each is a token at its place in the query
  pub each : AreTokensBefore mode [] ts

-- the query has tokens, and `P` is true for them; `one_token_list` says that it has no other tokens
abbrev pub OnTokens : Bool → List ℕ → (List Token → Type 0) → Type 0
OnTokens mode query P = (ts : List Token) × IsTokens mode query ts × P ts
