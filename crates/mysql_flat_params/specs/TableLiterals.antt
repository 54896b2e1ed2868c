-- The literals of the calls that bind by the table of a query for any server, as one. This file
-- serves private functions.
use Rattle.std.specs.Prelude.{ℕ, List}
use Rattle.mysql_params_core.specs.GivenValues.{Given}
use Rattle.mysql_binding.specs.LiteralForm.{LiteralFacts, Literals}
use Rattle.mysql_steady_text.specs.GuardedLiteral.{guarded_literal_of}
use Rattle.mysql_steady_text.specs.GuardedLiterals.{IsGuardedFor}
use Rattle.mysql_steady_text.specs.SteadyLiteral.{steady_literal_of}
use Rattle.mysql_steady_text.specs.SteadyLiterals.{IsSteadyFor}
use Rattle.mysql_flat_params.specs.GuardedIntoRoom.{IsWideBoundGuarded}
use Rattle.mysql_flat_params.specs.WideSteadyIntoRoom.{IsWideBoundAnywhere}
use Rattle.mysql_flat_params.specs.declared.table_literals.AnywhereLiterals.{AnywhereLiterals}
use Rattle.mysql_flat_params.specs.declared.table_literals.AnywhereLiterals.TheVariants.{Steady, Guarded}

-- the literals that a call writes
abbrev pub literal_with : AnywhereLiterals → Literals
literal_with Steady = steady_literal_of
literal_with (Guarded mode) = guarded_literal_of mode

-- the facts about them
abbrev pub IsKnownWith : AnywhereLiterals → LiteralFacts
IsKnownWith Steady = IsSteadyFor
IsKnownWith (Guarded mode) = IsGuardedFor mode

-- this is the query bound with them to the parameters that are given to it
abbrev pub IsBoundWith : AnywhereLiterals → List ℕ → Given → List ℕ → Type 0
IsBoundWith Steady query = IsWideBoundAnywhere query
IsBoundWith (Guarded mode) query = IsWideBoundGuarded mode query
