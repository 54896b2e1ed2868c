-- Binding for any mode and any server by a table.
use Rattle.std.specs.Prelude.{true, Some, ⊤}
use Rattle.std.proofs.Common.{◌≡◌, ℕ, List}
use Rattle.mysql_named_params.specs.LoweredNames.{lower_names}
use Rattle.mysql_named_params.specs.Reading.{wide_reading}
use Rattle.mysql_named_params.specs.Tokens.{Token}
use Rattle.mysql_portable.specs.FirstUnportable.{first_unportable}
use Rattle.mysql_portable.specs.Steady.{first_unsteady}
use Rattle.mysql_portable.proofs.SteadyLemmas.{none_unsteady}
use Rattle.mysql_steady_text.proofs.BothModesAnswerLemmas.{Agree}
use Rattle.mysql_steady_text.proofs.PurposeLemmas.{steady_agree}
use Rattle.mysql_flat_params.specs.AnywhereTable.{IsAnywhereTableOutcome, IsMadeAnywhereTable, IsRefusedAnywhere, IsTakenAnywhere}
use Rattle.mysql_flat_params.specs.Outcomes as outcomes
use Rattle.mysql_flat_params.specs.PlaceTable.{IsMadeTableIn, IsTableOutcomeIn}
use Rattle.mysql_flat_params.specs.WideSteadyIntoRoom.{wide_anywhere_refusal}
use Rattle.mysql_flat_params.specs.declared.outcome.Outcome.{Outcome}
use Rattle.mysql_flat_params.specs.declared.outcome.Outcome.TheVariants as variant
use Rattle.mysql_binding.specs.declared.binding.spans.PlaceSpan.{PlaceSpan}
use Rattle.mysql_flat_params.specs.declared.place_table.TableHead.{TableHead}
use Rattle.mysql_flat_params.proofs.SteadyOutcomeLemmas.{told_first}
use Rattle.mysql_flat_params.proofs.SteadyRoomLemmas.{none_told}

-- the modes agree on a query that is taken
pub taken_agree : (query : List ℕ) → IsTakenAnywhere query → Agree query
taken_agree query taken =
    let o = taken true in
    steady_agree query ((none_unsteady query).0 (none_told variant.Unsteady (first_unsteady query) (first_unportable (lower_names o.0)) o.2).0)

-- the outcome of making the table of a query that is taken
pub table_made_anywhere : (query : List ℕ) → IsTakenAnywhere query → (outcome : Outcome) → IsTableOutcomeIn (wide_reading true) query outcome →
    IsAnywhereTableOutcome query outcome
table_made_anywhere query taken (variant.Done len) is = (taken, is)
table_made_anywhere query taken (variant.Room len) is = (taken, is)
table_made_anywhere query taken variant.OutOfMemory is = is
table_made_anywhere query taken outcome is = absurd is

-- .. and the table itself
pub made_anywhere : (query : List ℕ) → IsTakenAnywhere query → (head : TableHead) (old new : List PlaceSpan) (outcome : Outcome) →
    outcomes.IfDone outcome (IsMadeTableIn (wide_reading true) query head old new) → outcomes.IfDone outcome (IsMadeAnywhereTable query head old new)
made_anywhere query taken head old new (variant.Done len) (fits, made, rest) = (fits, (taken, made), rest)
made_anywhere query taken head old new outcome made = tt

-- the outcomes for a query that is refused on its own
abbrev pub IsAnywhereRefusal : Outcome → Type 0
IsAnywhereRefusal (variant.Unsteady position) = ⊤
IsAnywhereRefusal (variant.Unportable number position) = ⊤
IsAnywhereRefusal outcome = ⊥

pub is_anywhere_refusal : (query : List ℕ) (ts : List Token) (outcome : Outcome) → wide_anywhere_refusal query ts ≡ Some outcome → IsAnywhereRefusal outcome
is_anywhere_refusal query ts outcome e =
    told_first IsAnywhereRefusal variant.Unsteady (λ at. tt) (λ found. tt) (first_unsteady query) (first_unportable (lower_names ts)) outcome e

pub refused_anywhere : (query : List ℕ) (outcome : Outcome) → IsAnywhereRefusal outcome → IsRefusedAnywhere query outcome → IsAnywhereTableOutcome query outcome
refused_anywhere query (variant.Unsteady position) is told = told
refused_anywhere query (variant.Unportable number position) is told = told
refused_anywhere query outcome is told = absurd is
