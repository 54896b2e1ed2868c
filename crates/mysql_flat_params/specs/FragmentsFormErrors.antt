-- The refusal of a form of fragments that each error reports.
use Rattle.std.specs.Prelude.{◌≡◌, ◌⊎◌, ℕ, List, Some, Err, alloc_error}
use Rattle.mysql_flat_params.specs.FlatForm.{FormRefusal}
use Rattle.mysql_flat_params.specs.FormErrors.{form_refusal}
use Rattle.mysql_flat_params.specs.declared.form_error.FormError.{FormError}
use Rattle.mysql_flat_params.specs.declared.form_error.FormError.TheVariants.{Memory}
use Rattle.mysql_flat_params.specs.FlatFragments.{IsFormReading}

-- either the form is refused and the error is that refusal, or it is out of memory
abbrev pub IsFormRefusal : List ℕ → FormError → Type 0
IsFormRefusal form error = (error ≡ Memory alloc_error)
    ⊎ ((why : FormRefusal) × IsFormReading form (Err why) × (form_refusal error ≡ Some why))
