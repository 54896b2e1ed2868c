-- The token at the front of a text, as `first_token` finds it. `first_place` walks by it.
use Rattle.std.specs.Prelude.{◌≡◌, ℕ, IsTrue, IsFalse, List, [], ◌∷◌, ◌++◌, length, drop, Bool, false, not, ◌&&◌, ◌==◌}
use Rattle.std.specs.List.{list_all}
use Rattle.mysql_named_params.specs.Bytes.{asterisk, dash, newline, is_white_space, is_name_byte, is_extension, begins}
use Rattle.mysql_named_params.specs.Tokens.{Token, bytes_of, IsToken, Name, Mark}
use Rattle.mysql_named_params.specs.declared.tokens.TokenKind.{TokenKind}
use Rattle.mysql_named_params.specs.declared.tokens.TokenKind.TheVariants as kind

-- the kind of a token: a name, a mark, or neither
abbrev pub kind_of : Token → TokenKind
kind_of (Name name) = kind.Name
kind_of Mark = kind.Mark
kind_of t = kind.Other

-- a `-` followed by this text opens a comment
abbrev pub opens_dash_comment : List ℕ → Bool
opens_dash_comment [] = false
opens_dash_comment (b ∷ []) = false
opens_dash_comment (b ∷ gap ∷ bs) = b == dash && (is_white_space gap && not (gap == newline))

-- a `/` followed by this text opens a comment
abbrev pub opens_block_comment : List ℕ → Bool
opens_block_comment [] = false
opens_block_comment (b ∷ bs) = b == asterisk && not (begins is_extension bs)

-- the front has only name bytes, and the rest doesn't begin with one
pub record IsNameFront (front rest : List ℕ) : Type 0 where
  pub each : IsTrue (list_all is_name_byte front)
  pub ends : IsFalse (begins is_name_byte rest)

-- the first `len` bytes of the text are a token of this kind before the rest of the text
pub record IsFirstToken (mode : Bool) (text : List ℕ) (kind : TokenKind) (len : ℕ) : Type 0 where
  pub token : Token
  pub bytes : bytes_of token ++ drop len text ≡ text
  pub len_is : length (bytes_of token) ≡ len
  pub kind_is : kind_of token ≡ kind
  pub holds : IsToken mode token (drop len text)
