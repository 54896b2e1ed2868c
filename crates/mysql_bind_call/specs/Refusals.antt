-- Why `bind` gives no text for a purpose.
use Rattle.std.specs.Prelude.{◌≡◌, ◌⊎◌, ℕ, Bool, true, false, List, Option, Some, None, IsTrue, option_map, alloc_error}
use Rattle.std.specs.Option.{option_or}
use Rattle.mysql_named_params.specs.Tokens.{Token}
use Rattle.mysql_named_params.specs.NamesAndMarks.{names}
use Rattle.mysql_params_core.specs.GivenValues.{Given}
use Rattle.mysql_binding.specs.BindErrors.{cause_of}
use Rattle.mysql_binding.specs.FirstCause.{Cause, first_cause, mixed_cause}
use Rattle.mysql_binding.specs.declared.bind_error.BindError.TheVariants as bind
use Rattle.mysql_fragments.specs.FragmentErrors as fragment
use Rattle.mysql_fragments.specs.GivenFragments.{GivenFragments, fragments_for}
use Rattle.mysql_fragments.specs.SteadyFragments.{unsteady_place}
use Rattle.mysql_fragments.specs.declared.fragments_error.FragmentsError.TheVariants as fault
use Rattle.mysql_bind_call.specs.AnyGiven.{AnyGiven, values, fragments}
use Rattle.mysql_steady_text.specs.Purposes.{query_refusal}
use Rattle.mysql_steady_text.specs.declared.purpose.Scope.{Scope}
use Rattle.mysql_steady_text.specs.declared.purpose.Scope.TheVariants.{OneMode, EitherMode, AnyConnection}
use Rattle.mysql_steady_text.specs.declared.purpose.Purpose.{Purpose}
use Rattle.mysql_bind_call.specs.declared.refusal.BindRefusal.{BindRefusal}
use Rattle.mysql_bind_call.specs.declared.refusal.BindRefusal.TheVariants.{Query, Values, Fragments, UnsteadyFragment, Memory}

-- the scope takes no fragment whose text isn't steady
abbrev pub takes_steady_only : Scope → Bool
takes_steady_only (OneMode mode) = false
takes_steady_only EitherMode = true
takes_steady_only AnyConnection = true

-- the refusal is the first cause of these values
abbrev pub IsValuesCause : List Token → Given → BindRefusal → Type 0
IsValuesCause ts given (Values error) =
    (why : Cause) × (first_cause ts given ≡ Some why) × (cause_of error ≡ Some why)
IsValuesCause ts given refusal = ⊥

-- The refusal is the first cause of these fragments. If only steady ones are taken, the last cause
-- is the first fragment that isn't.
abbrev pub IsFragmentsCause : (steady_only : Bool) → List Token → GivenFragments → BindRefusal
    → Type 0
IsFragmentsCause steady_only ts given (Fragments error) = (why : fragment.Cause)
    × (fragment.first_cause true ts given ≡ Some why) × (fragment.cause_of error ≡ Some why)
IsFragmentsCause steady_only ts given (UnsteadyFragment place) = IsTrue steady_only
    × (fragment.first_cause true ts given ≡ None)
    × (unsteady_place (fragments_for given (names ts)) ≡ Some place)
IsFragmentsCause steady_only ts given refusal = ⊥

-- the refusal is the first cause of what is given to a query with these tokens
abbrev pub IsFirstCause : Scope → List Token → AnyGiven → BindRefusal → Type 0
IsFirstCause scope ts (values given) refusal = IsValuesCause ts given refusal
IsFirstCause scope ts (fragments given) refusal =
    IsFragmentsCause (takes_steady_only scope) ts given refusal

-- the refusal is this first cause, or out of memory
abbrev pub IsCauseOrMemory : Scope → List Token → AnyGiven → BindRefusal → Type 0
IsCauseOrMemory scope ts given refusal =
    (refusal ≡ Memory alloc_error) ⊎ IsFirstCause scope ts given refusal

-- The refusal is that of the query. If the query isn't refused, it is the first cause of what is
-- given to it, or out of memory.
abbrev pub IsRefusalFor : Purpose → List ℕ → List Token → AnyGiven → BindRefusal → Type 0
IsRefusalFor purpose query ts given (Query why) = query_refusal purpose query ts ≡ Some why
IsRefusalFor purpose query ts given refusal = (query_refusal purpose query ts ≡ None)
    × IsCauseOrMemory purpose.scope ts given refusal

-- the refusal of a query with both a name and a mark
abbrev pub mixed_of : AnyGiven → BindRefusal
mixed_of (values given) = Values bind.Mixed
mixed_of (fragments given) = Fragments fault.Mixed

-- the same, if the query has both
abbrev pub mixed_refusal : List Token → AnyGiven → Option BindRefusal
mixed_refusal ts given = option_map (λ why. mixed_of given) (mixed_cause ts)

-- the refusal for which nothing is allocated: that of the query, or of its names and marks
abbrev pub early_refusal : Purpose → List ℕ → List Token → AnyGiven → Option BindRefusal
early_refusal purpose query ts given =
    option_or (option_map Query (query_refusal purpose query ts)) (mixed_refusal ts given)
