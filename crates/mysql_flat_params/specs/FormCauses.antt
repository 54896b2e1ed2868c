-- The causes for which the fragments of a form are refused for a query, and the first that holds.
use Rattle.std.specs.Prelude.{◌≡◌, ◌⊎◌, ℕ, true, List, Option, Some, None, option_map, alloc_error}
use Rattle.mysql_named_params.specs.NamesAndMarks.{names}
use Rattle.mysql_named_params.specs.Tokens.{Token}
use Rattle.mysql_fragments.specs.Brackets.{first_unbracketed}
use Rattle.mysql_fragments.specs.FragmentErrors.{Cause, cause_of, faulty, first_cause, float_value}
use Rattle.mysql_fragments.specs.GivenFragments.{GivenFragments, fragments_for}
use Rattle.mysql_fragments.specs.SteadyFragments.{unsteady_place}
use Rattle.mysql_fragments.specs.declared.fragments_error.FragmentsError.TheVariants.{Memory}
use Rattle.mysql_flat_params.specs.FormKinds.{FormKinds, kinds_for}
use Rattle.mysql_flat_params.specs.declared.form_refusal.KeptError.{KeptError}
use Rattle.mysql_flat_params.specs.declared.form_refusal.KeptError.TheVariants.{Unbracketed, Fragments}
use Rattle.mysql_flat_params.specs.declared.form_refusal.SteadyKeptError.{SteadyKeptError}
use Rattle.mysql_flat_params.specs.declared.form_refusal.SteadyKeptError.TheVariants.{Kept, UnsteadyFragment}

-- why the fragments of a form are refused
pub data FormCause : Type 0 where
  -- one of the causes of fragments
  of_fragments : Cause → FormCause
  -- the place of this number, at this position, may not have its implicit list or rows
  unbracketed : (place position : ℕ) → FormCause

-- the place that may not have its list or rows, if one is found, or else this cause
abbrev pub bracket_cause : Option (ℕ × ℕ) → Option Cause → Option FormCause
bracket_cause None later = option_map of_fragments later
bracket_cause (Some found) later = Some (unbracketed found.0 found.1)

-- the first of such a place, if one is found, and of a cause of fragments: such a place comes after
-- all but the floats and the faults of fragments
abbrev pub with_brackets : Option (ℕ × ℕ) → Option Cause → Option FormCause
with_brackets found None = bracket_cause found None
with_brackets found (Some (float_value place)) = bracket_cause found (Some (float_value place))
with_brackets found (Some (faulty place fault)) = bracket_cause found (Some (faulty place fault))
with_brackets found (Some cause) = Some (of_fragments cause)

-- the first place of a query with these tokens that may not have its fragment
abbrev pub unbracketed_place : FormKinds → List Token → Option (ℕ × ℕ)
unbracketed_place kinds ts = first_unbracketed (kinds_for kinds (names ts)) ts

-- the first cause that holds of a query with these tokens and of a form's fragments, if any
abbrev pub first_form_cause : FormKinds → List Token → GivenFragments → Option FormCause
first_form_cause kinds ts given =
    with_brackets (unbracketed_place kinds ts) (first_cause true ts given)

-- the cause that the error reports; none for out of memory
abbrev pub form_cause_of : KeptError → Option FormCause
form_cause_of (Unbracketed place position) = Some (unbracketed place position)
form_cause_of (Fragments error) = option_map of_fragments (cause_of error)

-- either there is a first cause and the error is this cause, or the error is `Memory`
abbrev pub IsFormCauseOrMemory : Option FormCause → KeptError → Type 0
IsFormCauseOrMemory cause error = (error ≡ Fragments (Memory alloc_error))
    ⊎ ((why : FormCause) × (cause ≡ Some why) × (form_cause_of error ≡ Some why))

-- the error is such a cause or out of memory; or there is no cause, and the fragment for this place
-- is the first that isn't steady
abbrev pub IsSteadyFormRefusal : FormKinds → List Token → GivenFragments → SteadyKeptError → Type 0
IsSteadyFormRefusal kinds ts given (Kept error) =
    IsFormCauseOrMemory (first_form_cause kinds ts given) error
IsSteadyFormRefusal kinds ts given (UnsteadyFragment place) =
    (first_form_cause kinds ts given ≡ None)
    × (unsteady_place (fragments_for given (names ts)) ≡ Some place)
