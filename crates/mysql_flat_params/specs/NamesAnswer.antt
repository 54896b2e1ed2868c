-- The answer to a query whose names are asked for.
use Rattle.std.specs.Prelude.{ℕ, List, [], ◌∷◌, ◌++◌}
use Rattle.mysql_wire_part.specs.Lenenc.{lenenc_spelling}
use Rattle.mysql_named_params.specs.Parsed.{Parsed}

-- the texts one after another, each as a length-encoded string
abbrev pub lenenc_row : List (List ℕ) → List ℕ
lenenc_row [] = []
lenenc_row (text ∷ texts) = lenenc_spelling text ++ lenenc_row texts

-- the query with marks and then its names, each as a length-encoded string
abbrev pub names_answer : Parsed → List ℕ
names_answer parsed = lenenc_row (parsed.query ∷ parsed.params)
