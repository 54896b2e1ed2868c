-- The cause of each error of binding fragments to a steady text.
use Rattle.std.specs.Prelude.{◌≡◌, ℕ, true, List, Option, Some, None}
use Rattle.mysql_named_params.specs.Tokens.{Token}
use Rattle.mysql_named_params.specs.NamesAndMarks.{names}
use Rattle.mysql_portable.specs.Steady.{first_unsteady}
use Rattle.mysql_portable.specs.declared.portable.Unportable.{Unportable}
use Rattle.mysql_steady_text.specs.declared.purpose.QueryRefusal.{QueryRefusal}
use Rattle.mysql_steady_text.specs.declared.purpose.QueryRefusal.TheVariants as refusal
use Rattle.mysql_fragments.specs.FragmentErrors.{first_cause, IsCauseOrMemory}
use Rattle.mysql_fragments.specs.GivenFragments.{GivenFragments, fragments_for}
use Rattle.mysql_fragments.specs.SteadyFragments.{unsteady_place}
use Rattle.mysql_fragments.specs.declared.steady_fragments_error.SteadyFragmentsError.{SteadyFragmentsError}
use Rattle.mysql_fragments.specs.declared.steady_fragments_error.SteadyFragmentsError.TheVariants.{Unsteady, Fragments, UnsteadyFragment}
use Rattle.mysql_fragments.specs.declared.steady_fragments_error.SteadyFragmentsError.TheVariants as error

-- the error is one of fragments: their first cause, or out of memory; or there is no cause, and the
-- fragment for this place is the first that isn't steady
abbrev pub IsFragmentsRefusal : List Token → GivenFragments → SteadyFragmentsError → Type 0
IsFragmentsRefusal ts given (Fragments error) = IsCauseOrMemory (first_cause true ts given) error
IsFragmentsRefusal ts given (UnsteadyFragment place) = (first_cause true ts given ≡ None)
    × (unsteady_place (fragments_for given (names ts)) ≡ Some place)
IsFragmentsRefusal ts given error = ⊥

-- The error is the first of four causes that holds of a query and of the fragments that are given
-- to it. These are the query's first byte that isn't steady; its first construct that isn't
-- portable, if one is looked for; the first cause of fragments; the first fragment that isn't
-- steady. Out of memory may come in place of either of the last two, or of a text.
abbrev pub IsSteadyRefusal : List ℕ → Option Unportable → List Token → GivenFragments →
    SteadyFragmentsError → Type 0
IsSteadyRefusal query unportable ts given (Unsteady at) = first_unsteady query ≡ Some at
IsSteadyRefusal query unportable ts given (error.Unportable found) =
    (first_unsteady query ≡ None) × (unportable ≡ Some found)
IsSteadyRefusal query unportable ts given error = (first_unsteady query ≡ None)
    × (unportable ≡ None) × IsFragmentsRefusal ts given error

-- the error for a query that is refused for a purpose; a backslash is a byte that isn't steady
abbrev pub steady_fragments_error : QueryRefusal → SteadyFragmentsError
steady_fragments_error (refusal.Unsteady at) = Unsteady at
steady_fragments_error (refusal.Backslash at) = Unsteady at
steady_fragments_error (refusal.Unportable found) = error.Unportable found
