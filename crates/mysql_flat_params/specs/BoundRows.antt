-- Rows: many forms, each as a length-encoded string, one after another, and the texts of a query
-- bound to them, in the same way.
use Rattle.std.specs.Prelude.{◌≡◌, ◌+◌, ℕ, Bool, List, [], ◌++◌, length, Ok, Err}
use Rattle.mysql_wire_part.specs.Reading.{ReadRefusal, unexpected_eof, bad_length_lead, unsupported_column}
use Rattle.mysql_wire_part.specs.Reading as wire
use Rattle.mysql_wire_part.specs.Lenenc.{lenenc_spelling, read_lenenc}
use Rattle.mysql_named_params.specs.Reading.{grammar_reading}
use Rattle.mysql_named_params.specs.declared.places.Reading.{Reading}
use Rattle.mysql_flat_params.specs.IntoRoom.{IsBindOutcomeIn, IsBoundFormIn}
use Rattle.mysql_flat_params.specs.declared.outcome.Outcome.{Outcome}
use Rattle.mysql_flat_params.specs.declared.outcome.Outcome.TheVariants.{Done, OutOfMemory, Room, FormEnd, FormLengthLead, FormType}

-- The string at the front of these bytes is a form, this is the query bound to the form's
-- parameters, and `next` follows the form.
abbrev pub IsBoundRowIn : (reading : Reading) (query bytes text next : List ℕ) → Type 0
IsBoundRowIn reading query bytes text next =
    (form : List ℕ) × (read_lenenc bytes ≡ Ok (form, next))
    × IsBoundFormIn reading query form text

-- the same by the names of the grammar
abbrev pub IsBoundRow : (mode : Bool) (query bytes text next : List ℕ) → Type 0
IsBoundRow mode = IsBoundRowIn (grammar_reading mode)

-- The first `count` rows of these forms are bound: `texts` are their texts, each as a
-- length-encoded string, and `next` follows their forms.
pub data AreBoundRowsIn : (reading : Reading) (query forms : List ℕ) (count : ℕ)
    (texts next : List ℕ) → Type 0 where
  -- no row
  no_row : (reading : Reading) (query forms : List ℕ) →
      AreBoundRowsIn reading query forms 0 [] forms
  -- one more row
  row_after : (reading : Reading) (query forms : List ℕ) (count : ℕ)
      (texts bytes text next : List ℕ) →
      AreBoundRowsIn reading query forms count texts bytes →
      IsBoundRowIn reading query bytes text next →
      AreBoundRowsIn reading query forms (count + 1) (texts ++ lenenc_spelling text) next

-- the same by the names of the grammar
abbrev pub AreBoundRows : (mode : Bool) (query forms : List ℕ) (count : ℕ) (texts next : List ℕ)
    → Type 0
AreBoundRows mode = AreBoundRowsIn (grammar_reading mode)

-- the outcome if the string with the form of a row can't be read; no type is refused there
abbrev pub unread_row : ReadRefusal → Outcome
unread_row unexpected_eof = FormEnd 0 0
unread_row (bad_length_lead lead) = FormLengthLead 0 0 lead
unread_row (unsupported_column column) = FormType 0 0 0

-- the row is refused for this: its form, or the query bound to it, or the string that has the form
abbrev pub IsRowRefusalIn : (reading : Reading) (query : List ℕ) → wire.Reading (List ℕ) → Outcome
    → Type 0
IsRowRefusalIn reading query (Ok read) outcome = IsBindOutcomeIn reading query read.0 outcome
IsRowRefusalIn reading query (Err refusal) outcome = outcome ≡ unread_row refusal

-- the same by the names of the grammar
abbrev pub IsRowRefusal : (mode : Bool) (query : List ℕ) → wire.Reading (List ℕ) → Outcome
    → Type 0
IsRowRefusal mode = IsRowRefusalIn (grammar_reading mode)

-- the text of the row at the front takes `len` bytes
abbrev pub HasRowLengthIn : (reading : Reading) (query bytes : List ℕ) → ℕ → Type 0
HasRowLengthIn reading query bytes len = (text next : List ℕ)
    × IsBoundRowIn reading query bytes text next
    × (length (lenenc_spelling text) ≡ len)

-- the same by the names of the grammar
abbrev pub HasRowLength : (mode : Bool) (query bytes : List ℕ) → ℕ → Type 0
HasRowLength mode = HasRowLengthIn (grammar_reading mode)

-- the meaning of an outcome, for the rows that are left
abbrev pub IsRowsOutcomeIn : (reading : Reading) (query bytes : List ℕ) → Outcome → Type 0
-- none is left
IsRowsOutcomeIn reading query bytes (Done len) = bytes ≡ []
-- some are left
IsRowsOutcomeIn reading query bytes OutOfMemory = bytes ≡ [] → ⊥
-- the text of the first of them takes `len` bytes
IsRowsOutcomeIn reading query bytes (Room len) = HasRowLengthIn reading query bytes len
-- the first of them is refused for this
IsRowsOutcomeIn reading query bytes outcome =
    IsRowRefusalIn reading query (read_lenenc bytes) outcome

-- the same by the names of the grammar
abbrev pub IsRowsOutcome : (mode : Bool) (query bytes : List ℕ) → Outcome → Type 0
IsRowsOutcome mode = IsRowsOutcomeIn (grammar_reading mode)
