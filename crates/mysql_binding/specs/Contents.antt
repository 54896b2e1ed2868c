-- The contents of the literals between the pieces of a query, as a reader of literals reads them.
use Rattle.std.specs.Prelude.{◌≡◌, ℕ, List, [], ◌∷◌, ◌++◌, Option, Some, None, option_map, option_and_then, ⊤}
use Rattle.mysql_sql_text.specs.ReadLiteral.{Content, after}
use Rattle.mysql_binding.specs.Pieces.{joined_text}

-- reads the literal at the front of a text: its content, and the text after it
abbrev pub LiteralReader : Type 0
LiteralReader = List ℕ → Option (Content × List ℕ)

-- the contents of a text of the form: a literal, the first piece, a literal, the second piece, ..
abbrev pub contents_before : LiteralReader → List (List ℕ) → List ℕ → Option (List Content)
contents_before reader [] [] = Some []
contents_before reader [] (b ∷ text) = None
contents_before reader (piece ∷ pieces) text =
    option_and_then (λ read. option_map (λ contents. read.0 ∷ contents)
    (option_and_then (contents_before reader pieces) (after piece read.1)))
    (reader text)

-- The contents of the literals between these pieces of a query, which has at least one. `None` if
-- the text isn't the first piece, a literal, the second piece, and so on to the last.
abbrev pub contents_between : LiteralReader → List (List ℕ) → List ℕ → Option (List Content)
contents_between reader [] text = None
contents_between reader (piece ∷ pieces) text =
    option_and_then (contents_before reader pieces) (after piece text)

-- each literal, followed by the text after it, is read as its content, and leaves exactly that text
abbrev pub AreReadInPlace : LiteralReader → List (List ℕ) → List (List ℕ) → List Content → Type 0
AreReadInPlace reader pieces [] [] = ⊤
AreReadInPlace reader (piece ∷ pieces) (literal ∷ literals) (content ∷ contents) =
    ((rest : List ℕ) × (joined_text pieces literals ≡ Some rest)
    × (reader (literal ++ rest) ≡ Some (content, rest)))
    × AreReadInPlace reader pieces literals contents
AreReadInPlace reader pieces literals contents = ⊥
