-- The literals of values, one for each.
use Rattle.std.specs.Prelude.{◌≡◌, ℕ, Bool, List, map, Some}
use Rattle.mysql_values.specs.declared.value.Value.{Value}
use Rattle.mysql_values.specs.Literal.{literal_of}

-- the texts are the literals of the values
abbrev pub AreLiteralsOf : Bool → List Value → List (List ℕ) → Type 0
AreLiteralsOf mode values texts = map (literal_of mode) values ≡ map Some texts
