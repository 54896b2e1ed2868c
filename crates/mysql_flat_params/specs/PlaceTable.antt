-- A table of the places of a query, as plain numbers that the caller keeps.
use Rattle.std.specs.Prelude.{◌≡◌, ◌≤◌, ℕ, ℤ, pos, Bool, List, nat_eq, if◌then◌else◌, Some, None, Ok, Err, length, take, drop, ⊤}
use Rattle.std.specs.List.{Contains}
use Rattle.mysql_named_params.specs.Reading.{OnTokensIn, grammar_reading}
use Rattle.mysql_named_params.specs.declared.places.Reading.{Reading}
use Rattle.mysql_named_params.specs.NamesAndMarks.{names}
use Rattle.mysql_named_params.specs.Places.{place_count}
use Rattle.mysql_params_core.specs.GivenValues.{Given}
use Rattle.mysql_params_core.specs.LookupValues.{lookup, missing}
use Rattle.mysql_binding.specs.PlaceSpans.{AreSpansOf, FitSurvey, names_at}
use Rattle.mysql_binding.specs.declared.binding.spans.PlaceSpan.{PlaceSpan}
use Rattle.mysql_binding.specs.declared.binding.survey.Survey.{Survey}
use Rattle.mysql_flat_params.specs.FlatForm.{IsFormReading}
use Rattle.mysql_flat_params.specs.IntoRoom.{IsBindOutcomeIn}
use Rattle.mysql_flat_params.specs.Outcomes as outcomes
use Rattle.mysql_flat_params.specs.Outcomes.{no_fields}
use Rattle.mysql_flat_params.specs.declared.outcome.Outcome.{Outcome}
use Rattle.mysql_flat_params.specs.declared.outcome.Outcome.TheVariants.{Done, OutOfMemory, Room}
use Rattle.mysql_flat_params.specs.declared.outcome.Report.{Report}
use Rattle.mysql_flat_params.specs.declared.place_table.ReadTemplate.{ReadTemplate}
use Rattle.mysql_flat_params.specs.declared.place_table.TableHead.{TableHead}
use Rattle.mysql_flat_params.specs.declared.place_table.TableOutcome.{TableOutcome}
use Rattle.mysql_flat_params.specs.declared.place_table.Template.{Template}
use Rattle.mysql_flat_params.specs.declared.place_table.TableOutcome.TheVariants.{AsQuery, OtherTable}

-- the head of a table as a survey of the places
abbrev pub survey_of : TableHead → Survey
survey_of head = record {
  names = head.names;
  marks = head.marks;
  not_alone = if nat_eq head.not_alone 0 then None else Some (head.place, head.position);
  piece_bytes = head.piece_bytes;
}

-- head and places are the table of the query in the reading
abbrev pub IsTableOfIn : TableHead → List PlaceSpan → Reading → List ℕ → Type 0
IsTableOfIn head places = AreSpansOf (survey_of head) places

-- the same by the names of the grammar
abbrev pub IsTableOf : TableHead → List PlaceSpan → Bool → List ℕ → Type 0
IsTableOf head places mode = IsTableOfIn head places (grammar_reading mode)

-- the template as one that is read by the names of the grammar
abbrev pub read_template : Template → ReadTemplate
read_template template = record {
  query = template.query;
  reading = grammar_reading template.no_backslash_escape;
  head = template.head;
  places = template.places;
}

-- the table is that of the query in its reading
abbrev pub HasOwnTableIn : ReadTemplate → Type 0
HasOwnTableIn template =
    IsTableOfIn template.head template.places.now template.reading template.query.now

-- the table is that of the query in its mode
abbrev pub HasOwnTable : Template → Type 0
HasOwnTable template = HasOwnTableIn (read_template template)

-- by its numbers the table is one that the query can have
abbrev pub CanHaveTableIn : ReadTemplate → Type 0
CanHaveTableIn template =
    FitSurvey (survey_of template.head) template.places.now template.query.now

-- the same by the names of the grammar
abbrev pub CanHaveTable : Template → Type 0
CanHaveTable template = CanHaveTableIn (read_template template)

-- the table of the query in the reading is made: its head, and its places at the front of the room;
-- the rest of the room is unchanged
abbrev pub IsMadeTableIn : (reading : Reading) (query : List ℕ) → TableHead →
    (old new : List PlaceSpan) → ℕ → Type 0
IsMadeTableIn reading query head old new len = (len ≤ length old)
    × IsTableOfIn head (take len new) reading query × (drop len new ≡ drop len old)

-- the same by the names of the grammar
abbrev pub IsMadeTable : (mode : Bool) (query : List ℕ) → TableHead → (old new : List PlaceSpan) → ℕ
    → Type 0
IsMadeTable mode = IsMadeTableIn (grammar_reading mode)

-- the meaning of an outcome of making the table, for the query
abbrev pub IsTableOutcomeIn : (reading : Reading) (query : List ℕ) → Outcome → Type 0
-- it has this many places
IsTableOutcomeIn reading query (Done len) = OnTokensIn reading query (λ ts. len ≡ place_count ts)
IsTableOutcomeIn reading query (Room len) = OnTokensIn reading query (λ ts. len ≡ place_count ts)
-- it has some
IsTableOutcomeIn reading query OutOfMemory =
    OnTokensIn reading query (λ ts. place_count ts ≡ 0 → ⊥)
-- no other outcome comes
IsTableOutcomeIn reading query outcome = ⊥

-- the same by the names of the grammar
abbrev pub IsTableOutcome : (mode : Bool) (query : List ℕ) → Outcome → Type 0
IsTableOutcome mode = IsTableOutcomeIn (grammar_reading mode)

-- the meaning of an outcome of binding by the table of a query, for the query and the form
abbrev pub IsTableBindOutcomeIn : (reading : Reading) (query form : List ℕ) → TableOutcome → Type 0
IsTableBindOutcomeIn reading query form (AsQuery outcome) =
    IsBindOutcomeIn reading query form outcome
IsTableBindOutcomeIn reading query form OtherTable = ⊥

-- the same by the names of the grammar
abbrev pub IsTableBindOutcome : (mode : Bool) (query form : List ℕ) → TableOutcome → Type 0
IsTableBindOutcome mode = IsTableBindOutcomeIn (grammar_reading mode)

-- The form's parameters lack the name that is read in one of the first places. These are as many as
-- the head has names. The query doesn't have this name in the reading.
abbrev pub MissesOtherPlaceIn : ReadTemplate → (form : List ℕ) → Type 0
MissesOtherPlaceIn template form = (given : Given) × (name : List ℕ)
    × IsFormReading form (Ok given)
    × (lookup given (names_at (take template.head.names template.places.now) template.query.now)
    ≡ Err (missing name))
    × OnTokensIn template.reading template.query.now (λ ts. Contains (names ts) name → ⊥)

-- the same by the names of the grammar
abbrev pub MissesOtherPlace : Template → (form : List ℕ) → Type 0
MissesOtherPlace template = MissesOtherPlaceIn (read_template template)

-- the number of an outcome: those of binding to a query, and one more
abbrev pub number_of : TableOutcome → ℕ
number_of (AsQuery outcome) = outcomes.number_of outcome
number_of OtherTable = 20

-- the fields of an outcome; those that it doesn't have are 0
abbrev pub report_of : TableOutcome → Report
report_of (AsQuery outcome) = outcomes.report_of outcome
report_of OtherTable = no_fields

-- this holds of the outcome, unless the table is refused
abbrev pub IfAsQuery : TableOutcome → (Outcome → Type 0) → Type 0
IfAsQuery (AsQuery outcome) P = P outcome
IfAsQuery OtherTable P = ⊤

-- if the text is written, this holds of its length
abbrev pub IfDone : TableOutcome → (ℕ → Type 0) → Type 0
IfDone (AsQuery outcome) P = outcomes.IfDone outcome P
IfDone OtherTable P = ⊤

-- if the room is too short for the text, this holds of the text's length
abbrev pub IfTooLong : TableOutcome → (ℕ → Type 0) → Type 0
IfTooLong (AsQuery outcome) P = outcomes.IfTooLong outcome P
IfTooLong OtherTable P = ⊤

-- unless the text is written, this holds
abbrev pub UnlessDone : TableOutcome → Type 0 → Type 0
UnlessDone (AsQuery outcome) P = outcomes.UnlessDone outcome P
UnlessDone OtherTable P = P

-- this number and these fields are those of an outcome with this property
abbrev pub IsTold : ℤ → Report → (TableOutcome → Type 0) → Type 0
IsTold number report P = (outcome : TableOutcome) × (number ≡ pos (number_of outcome))
    × (report ≡ report_of outcome) × P outcome
