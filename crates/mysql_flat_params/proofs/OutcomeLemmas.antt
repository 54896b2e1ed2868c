-- An outcome from its number and its fields.
use Rattle.std.specs.Prelude.{◌==◌, if◌then◌else◌}
use Rattle.std.proofs.Common.{◌≡◌, ℕ, refl, sym, ap, ◌∙◌}
use Rattle.mysql_flat_params.specs.Outcomes.{number_of, report_of}
use Rattle.mysql_flat_params.specs.declared.outcome.Outcome.{Outcome}
use Rattle.mysql_flat_params.specs.declared.outcome.Outcome.TheVariants.{Done, OutOfMemory, Room, FormEnd, FormLengthLead, FormType, FormMixed, FormRepeated, Mixed, Missing, NamedForPositional, PositionalForNamed, MarkCount, NotAlone, Float, Unsteady, Unportable, Backslash}
use Rattle.mysql_flat_params.specs.declared.outcome.Report.{Report}

abbrev outcome_from : ℕ → Report → Outcome
outcome_from n r =
    if n == 0 then Done r.len else (
    if n == 1 then OutOfMemory else (
    if n == 2 then Room r.len else (
    if n == 3 then FormEnd r.place r.position else (
    if n == 4 then FormLengthLead r.place r.position r.byte else (
    if n == 5 then FormType r.place r.position r.byte else (
    if n == 6 then FormMixed r.place r.position else (
    if n == 7 then FormRepeated r.place r.position r.len else (
    if n == 8 then Mixed else (
    if n == 9 then Missing r.place r.position r.len else (
    if n == 10 then NamedForPositional else (
    if n == 11 then PositionalForNamed else (
    if n == 12 then MarkCount r.marks r.values else (
    if n == 13 then NotAlone r.place r.position else (
    if n == 14 then Float r.place else (
    if n == 15 then Unsteady r.position else (
    if n == 16 then Unportable r.byte r.position else (
    Backslash r.position)))))))))))))))))

from_own : (o : Outcome) → outcome_from (number_of o) (report_of o) ≡ o
from_own (Done len) = refl
from_own OutOfMemory = refl
from_own (Room len) = refl
from_own (FormEnd place position) = refl
from_own (FormLengthLead place position lead) = refl
from_own (FormType place position number) = refl
from_own (FormMixed place position) = refl
from_own (FormRepeated place position len) = refl
from_own Mixed = refl
from_own (Missing place position len) = refl
from_own NamedForPositional = refl
from_own PositionalForNamed = refl
from_own (MarkCount marks values) = refl
from_own (NotAlone place position) = refl
from_own (Float place) = refl
from_own (Unsteady position) = refl
from_own (Unportable number position) = refl
from_own (Backslash position) = refl

-- the number and the fields of an outcome are those of no other
pub one_outcome : (a b : Outcome) → number_of a ≡ number_of b → report_of a ≡ report_of b → a ≡ b
one_outcome a b numbers reports =
    sym (from_own a) ∙ (ap (λ n. outcome_from n (report_of a)) numbers ∙ (ap (outcome_from (number_of b)) reports ∙ from_own b))
