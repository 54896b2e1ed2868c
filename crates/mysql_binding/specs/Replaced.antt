-- The tokens of a query with other tokens in its places.
use Rattle.std.specs.Prelude.{ℕ, Bool, List, [], ◌∷◌, ◌++◌, ⊤}
use Rattle.mysql_sql_text.specs.LiteralShape.{IsLiteral}
use Rattle.mysql_named_params.specs.Tokens.{Token, IsTokens, Name, Mark}

-- The tokens with the first list in place of the first name or mark, the next list in place of the
-- next, and so on. All other tokens are unchanged, and so are places for which no list is left.
abbrev pub with_literal_tokens : List Token → List (List Token) → List Token
with_literal_tokens [] lists = []
with_literal_tokens (Name name ∷ ts) (list ∷ lists) = list ++ with_literal_tokens ts lists
with_literal_tokens (Mark ∷ ts) (list ∷ lists) = list ++ with_literal_tokens ts lists
with_literal_tokens (t ∷ ts) lists = t ∷ with_literal_tokens ts lists

-- as many lists as texts, and each is the tokens of its text, read by itself
abbrev pub AreTokensOf : Bool → List (List ℕ) → List (List Token) → Type 0
AreTokensOf mode [] [] = ⊤
AreTokensOf mode [] (list ∷ lists) = ⊥
AreTokensOf mode (text ∷ texts) [] = ⊥
AreTokensOf mode (text ∷ texts) (list ∷ lists) =
    IsTokens mode text list × AreTokensOf mode texts lists

-- each of the texts has the shape of a literal
abbrev pub AreLiterals : Bool → List (List ℕ) → Type 0
AreLiterals mode [] = ⊤
AreLiterals mode (text ∷ texts) = IsLiteral mode text × AreLiterals mode texts
