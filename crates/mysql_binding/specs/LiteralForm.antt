-- Forms in which the literals of values are written: the literal of each value in a form, and the
-- facts that are known about it. For the trait `LiteralForm`.
use Rattle.std.specs.Prelude.{◌≡◌, ℕ, Bool, List, [], ◌∷◌, length, Option, Some, is_none, unwrap_or, ⊤}
use Rattle.mysql_values.specs.declared.value.Value.{Value}
use Rattle.mysql_values.specs.Literal.{is_float}
use Rattle.mysql_values.specs.ReadBack.{ReadsAs}
use Rattle.mysql_values.specs.Value.{FieldsInRange}
use Rattle.mysql_sql_text.specs.LiteralShape.{IsLiteral}

-- the literal of each value, if it has one
abbrev pub Literals : Type 0
Literals = Value → Option (List ℕ)

-- the facts that are known about a text as the literal of a value
abbrev pub LiteralFacts : Type 1
LiteralFacts = Value → List ℕ → Type 0

-- exactly the floats have no literal
abbrev pub LackFloats : Literals → Type 0
LackFloats literal = (value : Value) → is_none (literal value) ≡ is_float value

-- the bytes of the literal of a value; none for a float, which has no literal
abbrev pub written_literal : Literals → Value → List ℕ
written_literal literal value = unwrap_or (literal value) []

-- the length of these bytes
abbrev pub literal_len : Literals → Value → ℕ
literal_len literal value = length (written_literal literal value)

-- a plain literal in a mode: it has the shape of one, and reads as its value, whose fields are in
-- range
abbrev pub IsPlainLiteral : Bool → LiteralFacts
IsPlainLiteral mode value text =
    IsLiteral mode text × ReadsAs mode value text × FieldsInRange value

-- there are as many texts as values, and each is the literal of its value, with its known facts
abbrev pub AreWrittenAs : Literals → LiteralFacts → List Value → List (List ℕ) → Type 0
AreWrittenAs literal IsKnown [] [] = ⊤
AreWrittenAs literal IsKnown [] (text ∷ texts) = ⊥
AreWrittenAs literal IsKnown (value ∷ values) [] = ⊥
AreWrittenAs literal IsKnown (value ∷ values) (text ∷ texts) =
    (literal value ≡ Some text) × IsKnown value text × AreWrittenAs literal IsKnown values texts
