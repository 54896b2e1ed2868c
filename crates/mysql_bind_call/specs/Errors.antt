-- The refusals for the errors of the calls that `bind` makes.
use Rattle.std.specs.Prelude.{Result, Ok, Err}
use Rattle.mysql_binding.specs.declared.bind_error.BindError.{BindError}
use Rattle.mysql_binding.specs.declared.bind_error.BindError.TheVariants as bind
use Rattle.mysql_fragments.specs.declared.fragments_error.FragmentsError.{FragmentsError}
use Rattle.mysql_fragments.specs.declared.fragments_error.FragmentsError.TheVariants as fault
use Rattle.mysql_fragments.specs.declared.steady_fragments_error.SteadyFragmentsError.{SteadyFragmentsError}
use Rattle.mysql_fragments.specs.declared.steady_fragments_error.SteadyFragmentsError.TheVariants as steady
use Rattle.mysql_steady_text.specs.declared.purpose.QueryRefusal.TheVariants as refusal
use Rattle.mysql_bind_call.specs.declared.refusal.BindRefusal.{BindRefusal}
use Rattle.mysql_bind_call.specs.declared.refusal.BindRefusal.TheVariants.{Query, Values, Fragments, UnsteadyFragment, Memory}

-- the same result with another error
abbrev pub with_error : {A E F : Type 0} → (E → F) → Result A E → Result A F
with_error f (Ok a) = Ok a
with_error f (Err e) = Err (f e)

-- the refusal for an error of values: out of memory stays out of memory
abbrev pub of_bind_error : BindError → BindRefusal
of_bind_error (bind.Memory error) = Memory error
of_bind_error error = Values error

-- the refusal for an error of fragments
abbrev pub of_fragments_error : FragmentsError → BindRefusal
of_fragments_error (fault.Memory error) = Memory error
of_fragments_error error = Fragments error

-- the refusal for an error of steady fragments
abbrev pub of_steady_error : SteadyFragmentsError → BindRefusal
of_steady_error (steady.Unsteady at) = Query (refusal.Unsteady at)
of_steady_error (steady.Unportable found) = Query (refusal.Unportable found)
of_steady_error (steady.Fragments error) = of_fragments_error error
of_steady_error (steady.UnsteadyFragment place) = UnsteadyFragment place
