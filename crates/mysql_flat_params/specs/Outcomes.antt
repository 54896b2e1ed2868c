-- The outcome of a call that writes into a caller's room, as a number and fields.
use Rattle.std.specs.Prelude.{◌≡◌, ℕ, ℤ, pos, ⊤}
use Rattle.mysql_binding.specs.declared.binding.room.TextInRoom.{TextInRoom}
use Rattle.mysql_binding.specs.declared.binding.room.TextInRoom.TheVariants.{Written, TooShort}
use Rattle.mysql_flat_params.specs.declared.outcome.Outcome.{Outcome}
use Rattle.mysql_flat_params.specs.declared.outcome.Outcome.TheVariants.{Done, OutOfMemory, Room, FormEnd, FormLengthLead, FormType, FormMixed, FormRepeated, Mixed, Missing, NamedForPositional, PositionalForNamed, MarkCount, NotAlone, Float, Unsteady, Unportable, Backslash}
use Rattle.mysql_flat_params.specs.declared.outcome.Report.{Report}

-- the number of an outcome
abbrev pub number_of : Outcome → ℕ
number_of (Done len) = 0
number_of OutOfMemory = 1
number_of (Room len) = 2
number_of (FormEnd place position) = 3
number_of (FormLengthLead place position lead) = 4
number_of (FormType place position number) = 5
number_of (FormMixed place position) = 6
number_of (FormRepeated place position len) = 7
number_of Mixed = 8
number_of (Missing place position len) = 9
number_of NamedForPositional = 10
number_of PositionalForNamed = 11
number_of (MarkCount marks values) = 12
number_of (NotAlone place position) = 13
number_of (Float place) = 14
number_of (Unsteady position) = 15
number_of (Unportable number position) = 16
number_of (Backslash position) = 18

-- no field
abbrev pub no_fields : Report
no_fields = record { len = 0; place = 0; position = 0; marks = 0; values = 0; byte = 0 }

-- the fields of an outcome; those that it doesn't have are 0
abbrev pub report_of : Outcome → Report
report_of (Done len) = record no_fields { len = len }
report_of OutOfMemory = no_fields
report_of (Room len) = record no_fields { len = len }
report_of (FormEnd place position) = record no_fields { place = place; position = position }
report_of (FormLengthLead place position lead) =
    record no_fields { place = place; position = position; byte = lead }
report_of (FormType place position number) =
    record no_fields { place = place; position = position; byte = number }
report_of (FormMixed place position) = record no_fields { place = place; position = position }
report_of (FormRepeated place position len) =
    record no_fields { len = len; place = place; position = position }
report_of Mixed = no_fields
report_of (Missing place position len) =
    record no_fields { len = len; place = place; position = position }
report_of NamedForPositional = no_fields
report_of PositionalForNamed = no_fields
report_of (MarkCount marks values) = record no_fields { marks = marks; values = values }
report_of (NotAlone place position) = record no_fields { place = place; position = position }
report_of (Float place) = record no_fields { place = place }
report_of (Unsteady position) = record no_fields { position = position }
report_of (Unportable number position) =
    record no_fields { position = position; byte = number }
report_of (Backslash position) = record no_fields { position = position }

-- the outcome for a text in a room
abbrev pub text_outcome : TextInRoom → Outcome
text_outcome (Written len) = Done len
text_outcome (TooShort len) = Room len

-- there is no answer, or none is reported
abbrev pub HasNoAnswer : Outcome → Type 0
HasNoAnswer (Done len) = ⊥
HasNoAnswer (Room len) = ⊥
HasNoAnswer outcome = ⊤

-- if the answer is written, this holds of its length
abbrev pub IfDone : Outcome → (ℕ → Type 0) → Type 0
IfDone (Done len) P = P len
IfDone outcome P = ⊤

-- if the room is too short for the answer, this holds of the answer's length
abbrev pub IfTooLong : Outcome → (ℕ → Type 0) → Type 0
IfTooLong (Room len) P = P len
IfTooLong outcome P = ⊤

-- unless the answer is written, this holds
abbrev pub UnlessDone : Outcome → Type 0 → Type 0
UnlessDone (Done len) P = ⊤
UnlessDone outcome P = P

-- this number and these fields are those of an outcome with this property
abbrev pub IsTold : ℤ → Report → (Outcome → Type 0) → Type 0
IsTold number report P = (outcome : Outcome) × (number ≡ pos (number_of outcome))
    × (report ≡ report_of outcome) × P outcome
