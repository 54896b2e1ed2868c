-- The facts about the guarded literal of a value.
use Rattle.std.specs.Prelude.{ℕ, Bool, List, ◌≡◌, map, Some}
use Rattle.mysql_values.specs.declared.value.Value.{Value}
use Rattle.mysql_binding.specs.LiteralForm.{LiteralFacts}
use Rattle.mysql_steady_text.specs.GuardedLiteral.{guarded_literal_of}
use Rattle.mysql_steady_text.specs.ReadGuarded.{ReadsGuardedAs}
use Rattle.mysql_steady_text.specs.GuardedShape.{IsGuardedLiteral, KeepsApart}
pub use Rattle.mysql_steady_text.specs.GuardedShape.{AreGuardedLiterals, AreKeptApart}

-- the text has the shape of a guarded literal, keeps its backslashes apart, and reads as its value
-- in this mode, and nearly in the other
abbrev pub IsGuardedFor : Bool → LiteralFacts
IsGuardedFor mode value text =
    IsGuardedLiteral text × KeepsApart text × ReadsGuardedAs mode value text

-- the texts are the guarded literals of the values
abbrev pub AreGuardedLiteralsOf : Bool → List Value → List (List ℕ) → Type 0
AreGuardedLiteralsOf mode values texts = map (guarded_literal_of mode) values ≡ map Some texts
