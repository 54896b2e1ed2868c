-- The text with literals in the places of the tokens, if there are as many, in the form for
-- induction; `joined_text` says it of the pieces.
use Rattle.std.proofs.Common.{◌++◌, ℕ, List, [], ◌∷◌}
use Rattle.mysql_named_params.specs.Tokens.{Token, bytes_of, Name, Mark}

abbrev pub bound : List Token → List (List ℕ) → List ℕ
bound [] literals = []
bound (Name name ∷ ts) (literal ∷ literals) = literal ++ bound ts literals
bound (Mark ∷ ts) (literal ∷ literals) = literal ++ bound ts literals
bound (t ∷ ts) literals = bytes_of t ++ bound ts literals
