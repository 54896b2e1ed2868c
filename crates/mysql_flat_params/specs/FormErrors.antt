-- The refusal of a form that each error reports.
use Rattle.std.specs.Prelude.{◌≡◌, ◌⊎◌, ℕ, List, length, Option, None, Some, Err, alloc_error}
use Rattle.mysql_params_core.specs.GivenValues.{Given, empty}
use Rattle.mysql_flat_params.specs.FlatForm.{FormRefusal, form_end, length_lead, unread_type, mixed_form, repeated_name, IsReadFrom}
use Rattle.mysql_flat_params.specs.declared.form_error.FormError.{FormError}
use Rattle.mysql_flat_params.specs.declared.form_error.FormError.TheVariants.{End, LengthLead, UnsupportedType, Mixed, Repeated, Memory}

-- the refusal that the error reports; none for out of memory
abbrev pub form_refusal : FormError → Option FormRefusal
form_refusal (End place position) = Some (form_end place position)
form_refusal (LengthLead place position lead) = Some (length_lead place position lead)
form_refusal (UnsupportedType place position number) = Some (unread_type place position number)
form_refusal (Mixed place position) = Some (mixed_form place position)
form_refusal (Repeated place position len) = Some (repeated_name place position len)
form_refusal (Memory error) = None

-- either the end of the form is refused and the error is that refusal, or it is out of memory
abbrev pub IsRefusalFrom : (total place : ℕ) → Given → List ℕ → FormError → Type 0
IsRefusalFrom total place given bytes error = (error ≡ Memory alloc_error)
    ⊎ ((why : FormRefusal) × IsReadFrom total place given bytes (Err why)
    × (form_refusal error ≡ Some why))

-- either the form is refused and the error is that refusal, or it is out of memory
abbrev pub IsFormRefusal : List ℕ → FormError → Type 0
IsFormRefusal form = IsRefusalFrom (length form) 0 empty form
