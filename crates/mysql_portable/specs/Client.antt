-- The client `mysql` or `mariadb` that keeps comments (`--comments`), as a reader of texts. Like a
-- server, it finds strings, identifiers and comments, to know where a statement ends. It differs
-- from every server in one point: within a block comment it looks for `/*!`, `/*+` and `/*/`, and
-- may then end the comment elsewhere. For example, the comment of `/* a /*/ ; ' */` ends before the
-- `;` in the grammar, and at the very end in MySQL's client. A client is data without laws, like a
-- server. Sources: MySQL Reference Manual, "mysql Client Options" (`--comments`), and the texts
-- that the clients send (docs/EVIDENCE.md).
use Rattle.std.specs.Prelude.{◌≡◌, ◌≢◌, ℕ, Bool, IsFalse, false, not, ◌==◌, ◌&&◌, ◌||◌, if◌then◌else◌, List, [], ◌∷◌, ◌++◌, take, ⊤}
use Rattle.mysql_named_params.specs.Bytes.{asterisk, slash, is_extension, begins, IsUpTo}
use Rattle.mysql_named_params.specs.Tokens.{Token, bytes_of, text_of, BlockComment, Plain}
use Rattle.mysql_portable.specs.ServerTokens.{Server, Block, comment, comment_of, begins_special, IsNotPlainOn}

-- the text begins with `/*!`, `/*+` or `/*/`
abbrev pub begins_opener : List ℕ → Bool
begins_opener [] = false
begins_opener (a ∷ []) = false
begins_opener (a ∷ b ∷ []) = false
begins_opener (a ∷ b ∷ c ∷ bs) = a == slash && (b == asterisk && (is_extension c || c == slash))

-- the text begins with `*/`
abbrev pub begins_end : List ℕ → Bool
begins_end [] = false
begins_end (b ∷ bs) = b == asterisk && begins (λ c. c == slash) bs

-- such an opener begins in the text before the first `*/`
abbrev pub holds_opener : List ℕ → Bool
holds_opener [] = false
holds_opener (b ∷ bs) =
    begins_opener (b ∷ bs) || (not (begins_end (b ∷ bs)) && holds_opener bs)

-- a client
pub record Client : Type 0 where
  -- the server that it otherwise reads like
  pub reader : Server
  -- how it reads `/*` and the text after it; used only if the comment holds such an opener
  pub inside : List ℕ → Block

-- how the client reads `/*` and the text after it
abbrev pub block_by : Client → List ℕ → Block
block_by client text =
    if begins_special text then client.reader.special text
    else if holds_opener text then client.inside text
    else comment

-- the bytes after `/*` in a comment, before a rest
pub data IsBlockTailBy (client : Client) (tail rest : List ℕ) : Type 0 where
  -- up to `*/`
  usual_block_by : block_by client (tail ++ rest) ≡ comment →
      IsUpTo (asterisk ∷ slash ∷ []) tail rest → IsBlockTailBy client tail rest
  -- up to the client's own end
  own_block_by : (n : ℕ) → block_by client (tail ++ rest) ≡ comment_of n →
      take n (tail ++ rest) ≡ tail → IsBlockTailBy client tail rest

-- a token other than a plain byte by the client, before a rest
abbrev pub IsNotPlainBy : Client → Bool → Token → List ℕ → Type 0
IsNotPlainBy client mode (BlockComment tail) rest = IsBlockTailBy client tail rest
IsNotPlainBy client mode t rest = IsNotPlainOn client.reader mode t rest

-- a token by the client before a rest; a byte is plain if no other token begins with it there
abbrev pub IsTokenBy : Client → Bool → Token → List ℕ → Type 0
IsTokenBy client mode (Plain b) rest =
    (t : Token) (after : List ℕ) → IsNotPlainBy client mode t after →
    bytes_of t ++ after ≢ b ∷ rest
IsTokenBy client mode t rest = IsNotPlainBy client mode t rest

-- each is a token by the client before the text of the tokens after it
abbrev pub AreTokensBy : Client → Bool → List Token → Type 0
AreTokensBy client mode [] = ⊤
AreTokensBy client mode (t ∷ ts) = IsTokenBy client mode t (text_of ts) × AreTokensBy client mode ts

-- the tokens of a text by a client
pub record IsReadBy (client : Client) (mode : Bool) (text : List ℕ) (ts : List Token)
    : Type 0 where
  -- their bytes are the text
  pub text_is : text_of ts ≡ text
  -- each is a token at its place in the text
  pub each : AreTokensBy client mode ts

-- no block comment among the tokens holds such an opener
abbrev pub HoldNoOpener : List Token → Type 0
HoldNoOpener [] = ⊤
HoldNoOpener (BlockComment tail ∷ ts) = IsFalse (holds_opener tail) × HoldNoOpener ts
HoldNoOpener (t ∷ ts) = HoldNoOpener ts
