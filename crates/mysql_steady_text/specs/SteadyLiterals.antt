-- The facts about the steady literal of a value. The definitions for several steady literals are
-- re-exported.
use Rattle.mysql_portable.specs.SteadyBytes.{IsSteady}
use Rattle.mysql_values.specs.Value.{FieldsInRange}
use Rattle.mysql_binding.specs.LiteralForm.{LiteralFacts}
use Rattle.mysql_steady_text.specs.ReadSteadyLiteral.{ReadsSteadyAs}
use Rattle.mysql_steady_text.specs.SteadyShape.{IsSteadyLiteral}
pub use Rattle.mysql_steady_text.specs.SteadyLiteral.{AreSteadyLiteralsOf}
pub use Rattle.mysql_steady_text.specs.SteadyShape.{AreSteadyLiterals}

-- the text has the shape of a steady literal, is steady, and reads in either mode as its value,
-- whose fields are in range
abbrev pub IsSteadyFor : LiteralFacts
IsSteadyFor value text =
    IsSteadyLiteral text × IsSteady text × ReadsSteadyAs value text × FieldsInRange value
