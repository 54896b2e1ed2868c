-- The facts about a literal that was written: for `push_literal` and `put_literal`.
use Rattle.std.specs.Prelude.{◌≡◌, false, List, [], ◌∷◌, Some, ⊤}
use Rattle.mysql_values.specs.declared.value.Value.{Value}
use Rattle.mysql_values.specs.Literal.{is_float}
use Rattle.mysql_binding.specs.LiteralForm.{Literals, LiteralFacts, written_literal}

-- if the value isn't a float, its literal is written, and the facts about it are known
abbrev pub IsKnownUnlessFloat : Literals → LiteralFacts → Value → Type 0
IsKnownUnlessFloat literal IsKnown value = is_float value ≡ false →
    (literal value ≡ Some (written_literal literal value))
    × IsKnown value (written_literal literal value)

-- this is true for each of the values
abbrev pub AreKnownUnlessFloats : Literals → LiteralFacts → List Value → Type 0
AreKnownUnlessFloats literal IsKnown [] = ⊤
AreKnownUnlessFloats literal IsKnown (value ∷ values) =
    IsKnownUnlessFloat literal IsKnown value × AreKnownUnlessFloats literal IsKnown values
