-- A table of the places of a query that is bound for any mode and any server, by wide names. The
-- query is tested once, when the table is made. It has the same tokens in both modes, and the table
-- is that of one of them.
use Rattle.std.specs.Prelude.{◌≡◌, ◌≤◌, Bool, true, List, ℕ, None, Some, take, drop, length}
use Rattle.mysql_named_params.specs.Places.{place_count}
use Rattle.mysql_named_params.specs.Reading.{OnWideTokens, wide_reading}
use Rattle.mysql_params_core.specs.GivenValues.{Given}
use Rattle.mysql_binding.specs.declared.binding.spans.PlaceSpan.{PlaceSpan}
use Rattle.mysql_flat_params.specs.PlaceTable.{HasOwnTableIn, IsTableOfIn}
use Rattle.mysql_flat_params.specs.GuardedIntoRoom.{IsWideBoundGuarded}
use Rattle.mysql_flat_params.specs.SteadyIntoRoom.{IsSteadyOutcomeIn}
use Rattle.mysql_flat_params.specs.WideSteadyIntoRoom.{IsWideBoundAnywhere, wide_anywhere_refusal}
use Rattle.mysql_flat_params.specs.declared.anywhere_table.AnywhereTemplate.{AnywhereTemplate}
use Rattle.mysql_flat_params.specs.declared.outcome.Outcome.{Outcome}
use Rattle.mysql_flat_params.specs.declared.outcome.Outcome.TheVariants as variant
use Rattle.mysql_flat_params.specs.declared.place_table.ReadTemplate.{ReadTemplate}
use Rattle.mysql_flat_params.specs.declared.place_table.TableHead.{TableHead}
use Rattle.mysql_flat_params.specs.declared.place_table.TableOutcome.{TableOutcome}
use Rattle.mysql_flat_params.specs.declared.place_table.TableOutcome.TheVariants.{AsQuery, OtherTable}

-- nothing refuses the query on its own, in either mode: it is steady and portable
abbrev pub IsTakenAnywhere : List ℕ → Type 0
IsTakenAnywhere query =
    (mode : Bool) → OnWideTokens mode query (λ ts. wide_anywhere_refusal query ts ≡ None)

-- in either mode the query is refused on its own, with this outcome
abbrev pub IsRefusedAnywhere : List ℕ → Outcome → Type 0
IsRefusedAnywhere query outcome =
    (mode : Bool) → OnWideTokens mode query (λ ts. wide_anywhere_refusal query ts ≡ Some outcome)

-- the query isn't refused on its own, and head and places are its table
abbrev pub IsAnywhereTableOf : TableHead → List PlaceSpan → List ℕ → Type 0
IsAnywhereTableOf head places query =
    IsTakenAnywhere query × IsTableOfIn head places (wide_reading true) query

-- the template as one that is read by wide names, without backslash escapes
abbrev pub any_template : AnywhereTemplate → ReadTemplate
any_template template = record {
  query = template.query;
  reading = wide_reading true;
  head = template.head;
  places = template.places;
}

-- the query isn't refused on its own, and the table is that of the query
abbrev pub HasAnywhereTable : AnywhereTemplate → Type 0
HasAnywhereTable template =
    IsTakenAnywhere template.query.now × HasOwnTableIn (any_template template)

-- the table of such a query is made: its head, and its places at the front of the room; the rest of
-- the room is unchanged
abbrev pub IsMadeAnywhereTable : List ℕ → TableHead → (old new : List PlaceSpan) → ℕ → Type 0
IsMadeAnywhereTable query head old new len = (len ≤ length old)
    × IsAnywhereTableOf head (take len new) query × (drop len new ≡ drop len old)

-- the query isn't refused on its own, and has this many places
abbrev pub HasPlacesAnywhere : List ℕ → ℕ → Type 0
HasPlacesAnywhere query len =
    IsTakenAnywhere query × OnWideTokens true query (λ ts. len ≡ place_count ts)

-- the meaning of an outcome of making the table, for the query
abbrev pub IsAnywhereTableOutcome : List ℕ → Outcome → Type 0
IsAnywhereTableOutcome query (variant.Done len) = HasPlacesAnywhere query len
IsAnywhereTableOutcome query (variant.Room len) = HasPlacesAnywhere query len
-- it has some places
IsAnywhereTableOutcome query variant.OutOfMemory =
    OnWideTokens true query (λ ts. place_count ts ≡ 0 → ⊥)
-- the query is refused on its own
IsAnywhereTableOutcome query (variant.Unsteady position) =
    IsRefusedAnywhere query (variant.Unsteady position)
IsAnywhereTableOutcome query (variant.Unportable number position) =
    IsRefusedAnywhere query (variant.Unportable number position)
-- no other outcome comes
IsAnywhereTableOutcome query outcome = ⊥

-- The meaning of an outcome of binding by the table of a query, for the query and the form.
-- `IsBound` says which text is bound.
abbrev pub IsBindOutcomeBy : (IsBound : Given → List ℕ → Type 0) (query form : List ℕ)
    → TableOutcome → Type 0
IsBindOutcomeBy IsBound query form (AsQuery outcome) =
    IsSteadyOutcomeIn true IsBound (wide_anywhere_refusal query) query form outcome
IsBindOutcomeBy IsBound query form OtherTable = ⊥

-- the same for steady literals
abbrev pub IsAnywhereBindOutcome : (query form : List ℕ) → TableOutcome → Type 0
IsAnywhereBindOutcome query = IsBindOutcomeBy (IsWideBoundAnywhere query) query

-- the same for guarded literals
abbrev pub IsGuardedBindOutcome : (mode : Bool) (query form : List ℕ) → TableOutcome → Type 0
IsGuardedBindOutcome mode query = IsBindOutcomeBy (IsWideBoundGuarded mode query) query
