-- The outcome of a call that binds fragments into a caller's room, as a number and fields.
use Rattle.std.specs.Prelude.{◌≡◌, ℕ, ℤ, pos, ⊤}
use Rattle.mysql_fragments.specs.declared.fragments_error.FragmentFault.{FragmentFault}
use Rattle.mysql_fragments.specs.declared.fragments_error.FragmentFault.TheVariants.{Empty, EmptyRow, RowLength, Number, EmptyName, ZeroByte, LongName, TrailingSpace, Keyword, Backslash}
use Rattle.mysql_flat_params.specs.Outcomes as values
use Rattle.mysql_flat_params.specs.Outcomes.{no_fields}
use Rattle.mysql_flat_params.specs.declared.outcome.Report.{Report}
use Rattle.mysql_flat_params.specs.declared.fragments_outcome.FragmentsOutcome.{FragmentsOutcome}
use Rattle.mysql_flat_params.specs.declared.fragments_outcome.FragmentsOutcome.TheVariants.{AsValues, Fault, Unbracketed, UnsteadyFragment}

-- the number of a fault
abbrev pub fault_number : FragmentFault → ℕ
fault_number Empty = 1
fault_number (EmptyRow row) = 2
fault_number (RowLength row) = 3
fault_number (Number row index) = 4
fault_number (EmptyName part) = 5
fault_number (ZeroByte part) = 6
fault_number (LongName part) = 7
fault_number (TrailingSpace part) = 8
fault_number Keyword = 9
fault_number (Backslash part) = 10

-- the row of a fault; 0 if it has none
abbrev pub fault_row : FragmentFault → ℕ
fault_row (EmptyRow row) = row
fault_row (RowLength row) = row
fault_row (Number row index) = row
fault_row fault = 0

-- the item or the name of a fault; 0 if it has none
abbrev pub fault_item : FragmentFault → ℕ
fault_item (Number row index) = index
fault_item (EmptyName part) = part
fault_item (ZeroByte part) = part
fault_item (LongName part) = part
fault_item (TrailingSpace part) = part
fault_item (Backslash part) = part
fault_item fault = 0

-- the number of an outcome: those of binding values, and three more
abbrev pub number_of : FragmentsOutcome → ℕ
number_of (AsValues outcome) = values.number_of outcome
number_of (Fault place fault) = 17
number_of (UnsteadyFragment place) = 19
number_of (Unbracketed place position) = 21

-- the fields of an outcome; those that it doesn't have are 0
abbrev pub report_of : FragmentsOutcome → Report
report_of (AsValues outcome) = values.report_of outcome
report_of (Fault place fault) = record no_fields {
  place = place;
  position = fault_row fault;
  values = fault_item fault;
  byte = fault_number fault;
}
report_of (UnsteadyFragment place) = record no_fields { place = place }
report_of (Unbracketed place position) = record no_fields { place = place; position = position }

-- if the text is written, this holds of its length
abbrev pub IfDone : FragmentsOutcome → (ℕ → Type 0) → Type 0
IfDone (AsValues outcome) P = values.IfDone outcome P
IfDone (Fault place fault) P = ⊤
IfDone (UnsteadyFragment place) P = ⊤
IfDone (Unbracketed place position) P = ⊤

-- if the room is too short for the text, this holds of the text's length
abbrev pub IfTooLong : FragmentsOutcome → (ℕ → Type 0) → Type 0
IfTooLong (AsValues outcome) P = values.IfTooLong outcome P
IfTooLong (Fault place fault) P = ⊤
IfTooLong (UnsteadyFragment place) P = ⊤
IfTooLong (Unbracketed place position) P = ⊤

-- unless the text is written, this holds
abbrev pub UnlessDone : FragmentsOutcome → Type 0 → Type 0
UnlessDone (AsValues outcome) P = values.UnlessDone outcome P
UnlessDone (Fault place fault) P = P
UnlessDone (UnsteadyFragment place) P = P
UnlessDone (Unbracketed place position) P = P

-- there is no text, or none is reported
abbrev pub HasNoAnswer : FragmentsOutcome → Type 0
HasNoAnswer (AsValues outcome) = values.HasNoAnswer outcome
HasNoAnswer (Fault place fault) = ⊤
HasNoAnswer (UnsteadyFragment place) = ⊤
HasNoAnswer (Unbracketed place position) = ⊤

-- this number and these fields are those of an outcome with this property
abbrev pub IsTold : ℤ → Report → (FragmentsOutcome → Type 0) → Type 0
IsTold number report P = (outcome : FragmentsOutcome) × (number ≡ pos (number_of outcome))
    × (report ≡ report_of outcome) × P outcome
