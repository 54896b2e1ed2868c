-- The calls that write steady literals, as one. This file serves private functions.
use Rattle.std.specs.Prelude.{ℕ, Bool, true, false, List, Option, option_map}
use Rattle.mysql_named_params.specs.Tokens.{Token}
use Rattle.mysql_portable.specs.Steady.{first_unsteady}
use Rattle.mysql_params_core.specs.GivenValues.{Given}
use Rattle.mysql_steady_text.specs.FirstBackslash.{first_backslash}
use Rattle.mysql_steady_text.specs.declared.purpose.Portability.TheVariants.{Servers}
use Rattle.mysql_steady_text.specs.declared.purpose.Purpose.{Purpose}
use Rattle.mysql_steady_text.specs.declared.purpose.QueryRefusal.{QueryRefusal}
use Rattle.mysql_steady_text.specs.declared.purpose.QueryRefusal.TheVariants as refusal
use Rattle.mysql_steady_text.specs.declared.purpose.Scope.{Scope}
use Rattle.mysql_steady_text.specs.declared.purpose.Scope.TheVariants.{EitherMode, AnyConnection}
use Rattle.mysql_flat_params.specs.AnywhereIntoRoom.{IsBoundAnywhere}
use Rattle.mysql_flat_params.specs.BothModesIntoRoom.{IsBoundInBothModes}
use Rattle.mysql_flat_params.specs.SteadyIntoRoom.{query_refusal, unportable_outcome}
use Rattle.mysql_flat_params.specs.WideSteadyIntoRoom.{IsWideBoundAnywhere, IsWideBoundInBothModes, portable_tokens}
use Rattle.mysql_flat_params.specs.declared.outcome.Outcome.{Outcome}
use Rattle.mysql_flat_params.specs.declared.outcome.Outcome.TheVariants as variant
use Rattle.mysql_flat_params.specs.declared.steady_room.Steadiness.{Steadiness}
use Rattle.mysql_flat_params.specs.declared.steady_room.Steadiness.TheVariants.{Anywhere, BothModes}

-- this is the query, by wide names or by those of the grammar, bound to the parameters that are
-- given to it
abbrev pub IsBoundAs : (wide : Bool) → Steadiness → List ℕ → Given → List ℕ → Type 0
IsBoundAs false Anywhere query = IsBoundAnywhere query
IsBoundAs false BothModes query = IsBoundInBothModes query
IsBoundAs true Anywhere query = IsWideBoundAnywhere query
IsBoundAs true BothModes query = IsWideBoundInBothModes query

-- the outcome for the first byte for which the query is refused
abbrev pub byte_refusal : Steadiness → List ℕ → List Token → Option Outcome
byte_refusal Anywhere query ts = option_map variant.Unsteady (first_unsteady query)
byte_refusal BothModes query ts = option_map variant.Backslash (first_backslash ts)

-- the outcome for a query that is refused on its own, with any parameters
abbrev pub refusal_as : (wide : Bool) → Steadiness → List ℕ → List Token → Option Outcome
refusal_as wide steadiness query ts =
    query_refusal (byte_refusal steadiness query ts) (portable_tokens wide ts)

-- the connections in which such a text is read the same
abbrev pub scope_of : Steadiness → Scope
scope_of Anywhere = AnyConnection
scope_of BothModes = EitherMode

-- the purpose of a call: a text for all servers
abbrev pub purpose_of : (wide : Bool) → Steadiness → Purpose
purpose_of wide steadiness =
    record { scope = scope_of steadiness; portability = Servers; wide_names = wide }

-- the outcome for a refusal of the query
abbrev pub refusal_outcome : QueryRefusal → Outcome
refusal_outcome (refusal.Unsteady at) = variant.Unsteady at
refusal_outcome (refusal.Backslash at) = variant.Backslash at
refusal_outcome (refusal.Unportable found) = unportable_outcome found
