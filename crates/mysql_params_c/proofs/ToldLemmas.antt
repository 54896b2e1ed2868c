-- The meaning of the number of an outcome, as C gets it.
use Rattle.std.proofs.Common.{◌≡◌, ℕ, pos, of_z, refl, to_z, w32}
use Rattle.mysql_flat_params.specs.Outcomes.{IfDone, number_of, report_of}
use Rattle.mysql_flat_params.specs.declared.outcome.Outcome.{Outcome}
use Rattle.mysql_flat_params.specs.declared.outcome.Outcome.TheVariants.{Done, OutOfMemory, Room, FormEnd, FormLengthLead, FormType, FormMixed, FormRepeated, Mixed, Missing, NamedForPositional, PositionalForNamed, MarkCount, NotAlone, Float, Unsteady, Unportable, Backslash}
use Rattle.mysql_flat_params.specs.FragmentsOutcomes as fragments
use Rattle.mysql_flat_params.specs.declared.fragments_outcome.FragmentsOutcome.{FragmentsOutcome}
use Rattle.mysql_flat_params.specs.declared.fragments_outcome.FragmentsOutcome.TheVariants.{AsValues, Fault, Unbracketed, UnsteadyFragment}
use Rattle.mysql_flat_params.specs.PlaceTable as table
use Rattle.mysql_flat_params.specs.declared.place_table.TableOutcome.{TableOutcome}
use Rattle.mysql_flat_params.specs.declared.place_table.TableOutcome.TheVariants.{AsQuery, OtherTable}

-- the number of an outcome stays the same in 32 bits
pub number_kept : (outcome : Outcome) → to_z w32 (of_z w32 (pos (number_of outcome))) ≡ pos (number_of outcome)
number_kept (Done len) = refl
number_kept OutOfMemory = refl
number_kept (Room len) = refl
number_kept (FormEnd place position) = refl
number_kept (FormLengthLead place position lead) = refl
number_kept (FormType place position number) = refl
number_kept (FormMixed place position) = refl
number_kept (FormRepeated place position len) = refl
number_kept Mixed = refl
number_kept (Missing place position len) = refl
number_kept NamedForPositional = refl
number_kept PositionalForNamed = refl
number_kept (MarkCount marks values) = refl
number_kept (NotAlone place position) = refl
number_kept (Float place) = refl
number_kept (Unsteady position) = refl
number_kept (Unportable number position) = refl
number_kept (Backslash position) = refl

-- the number 0 is that of an answer
pub written_told : (outcome : Outcome) (P : ℕ → Type 0) → to_z w32 (of_z w32 (pos (number_of outcome))) ≡ pos 0 →
    IfDone outcome P → P (report_of outcome).len
written_told (Done len) P zero done = done
written_told outcome P zero done = cc

-- .. and of one of binding fragments
pub fragments_written_told : (outcome : FragmentsOutcome) (P : ℕ → Type 0) →
    to_z w32 (of_z w32 (pos (fragments.number_of outcome))) ≡ pos 0 → fragments.IfDone outcome P → P (fragments.report_of outcome).len
fragments_written_told (AsValues outcome) P zero done = written_told outcome P zero done
fragments_written_told (Fault place fault) P zero done = cc
fragments_written_told (Unbracketed place position) P zero done = cc
fragments_written_told (UnsteadyFragment place) P zero done = cc

-- .. and of one of binding by a table
pub table_written_told : (outcome : TableOutcome) (P : ℕ → Type 0) →
    to_z w32 (of_z w32 (pos (table.number_of outcome))) ≡ pos 0 → table.IfDone outcome P → P (table.report_of outcome).len
table_written_told (AsQuery outcome) P zero done = written_told outcome P zero done
table_written_told OtherTable P zero done = cc
