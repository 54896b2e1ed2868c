-- The pieces of a query, which are the texts between its places, and the text of pieces with
-- literals between them.
use Rattle.std.specs.Prelude.{◌++◌, ℕ, List, [], ◌∷◌, Option, Some, None, option_map}
use Rattle.mysql_named_params.specs.Tokens.{Token, bytes_of, Name, Mark}

-- the pieces between the places of these tokens, if the first piece begins with this text
abbrev pub pieces_from : List ℕ → List Token → List (List ℕ)
pieces_from piece [] = piece ∷ []
pieces_from piece (Name name ∷ ts) = piece ∷ pieces_from [] ts
pieces_from piece (Mark ∷ ts) = piece ∷ pieces_from [] ts
pieces_from piece (t ∷ ts) = pieces_from (piece ++ bytes_of t) ts

-- the texts between the places of a query; there is one more than there are places
abbrev pub pieces : List Token → List (List ℕ)
pieces = pieces_from []

-- the piece, if no other follows it
abbrev pub last_piece : List ℕ → List (List ℕ) → Option (List ℕ)
last_piece piece [] = Some piece
last_piece piece (next ∷ pieces) = None

-- The first piece, the first literal, the second piece, and so on to the last piece. There has to
-- be one literal between each piece and the next. A query has at least one piece.
abbrev pub joined_text : List (List ℕ) → List (List ℕ) → Option (List ℕ)
joined_text [] literals = None
joined_text (piece ∷ pieces) [] = last_piece piece pieces
joined_text (piece ∷ pieces) (literal ∷ literals) =
    option_map (λ text. piece ++ (literal ++ text)) (joined_text pieces literals)
