-- How a steady literal is read: as a literal, with or without the introducer `_utf8mb4` before it
-- (MySQL Reference Manual, "Character Set Introducers"). The introducer says which characters the
-- bytes are, and not which bytes. This shares nothing with the definition of the written literal,
-- and no code uses it.
use Rattle.std.specs.Prelude.{ℕ, Bool, List, codes, Option, option_and_then}
use Rattle.std.specs.Option.{option_or}
use Rattle.mysql_sql_text.specs.ReadLiteral.{Content, after, read_literal, read_string}

-- a string, or a space and a literal; without the space a digit would belong to the introducer
abbrev pub read_after_introducer : Bool → List ℕ → Option (Content × List ℕ)
read_after_introducer mode text =
    option_or (read_string mode text)
    (option_and_then (read_literal mode) (after (codes " ") text))

-- `_utf8mb4`, and the literal after it
abbrev pub read_introduced : Bool → List ℕ → Option (Content × List ℕ)
read_introduced mode text =
    option_and_then (read_after_introducer mode) (after (codes "_utf8mb4") text)

-- the content of the literal that a text begins with, with an introducer or without, and the rest
-- of the text
abbrev pub read_steady_literal : Bool → List ℕ → Option (Content × List ℕ)
read_steady_literal mode text = option_or (read_introduced mode text) (read_literal mode text)
