-- The text of fragments that is asked for is the one that is bound with these literals.
use Rattle.std.proofs.Common.{◌≡◌, ℕ, false, true, List, None, map, refl}
use Rattle.mysql_named_params.specs.Reading.{IsTokensIn, wide_reading}
use Rattle.mysql_named_params.specs.Tokens.{Token}
use Rattle.mysql_binding.specs.StandsAlone.{first_not_alone}
use Rattle.mysql_fragments.specs.Expanded.{IsBoundFragments}
use Rattle.mysql_fragments.specs.FragmentShape.{AreFragments}
use Rattle.mysql_fragments.specs.FragmentText.{filled_text}
use Rattle.mysql_fragments.specs.GivenFragments.{GivenFragments}
use Rattle.mysql_fragments.specs.SteadyFragments.{IsSteadyFragments}
use Rattle.mysql_fragments.proofs.TextOfFragmentsLemmas as lemmas
use Rattle.mysql_bind_core.specs.Entries.{IsAskedText, asked_literal}
use Rattle.mysql_bind_core.specs.Requests.{mode_of}
use Rattle.mysql_bind_core.specs.declared.request.Literals.{Literals}
use Rattle.mysql_bind_core.specs.declared.request.Literals.TheVariants as literals

-- the text that is bound with the literals that are asked for
abbrev pub IsBoundFor : Literals → List Token → GivenFragments → List ℕ → Type 0
IsBoundFor literals.Steady ts given text = IsSteadyFragments ts given text
IsBoundFor (literals.Plain mode) ts given text = IsBoundFragments mode ts given text

pub bound_for : (asked : Literals) (query text : List ℕ) (ts : List Token) (given : GivenFragments) →
    IsTokensIn (wide_reading (mode_of asked)) query ts → IsAskedText asked ts given text → IsBoundFor asked ts given text
bound_for literals.Steady query text ts given is b = lemmas.steady_bound true false query text ts given is b.placed (b.steady refl)
bound_for (literals.Plain mode) query text ts given is b = lemmas.plain_bound (wide_reading mode) query text ts given is b.placed

pub text_for : (asked : Literals) (query text : List ℕ) (ts : List Token) (given : GivenFragments) →
    IsTokensIn (wide_reading (mode_of asked)) query ts → IsBoundFor asked ts given text → IsAskedText asked ts given text
text_for literals.Steady query text ts given is b = record {
  placed = lemmas.steady_filled (wide_reading false) query text ts given is b;
  steady = λ e. b.bound.steady;
}
text_for (literals.Plain mode) query text ts given is b = record {
  placed = lemmas.plain_filled (wide_reading mode) query text ts given is b;
  steady = λ e. absurd cc;
}

-- the texts of its fragments have their shapes
pub shapes_for : (asked : Literals) (ts : List Token) (given : GivenFragments) (text : List ℕ) → (b : IsAskedText asked ts given text) →
    AreFragments (mode_of asked) (map (λ fragment. 0) b.placed.fragments) (map (filled_text (asked_literal asked)) b.placed.fragments)
shapes_for literals.Steady ts given text b =
    let x = b.placed in lemmas.steady_shapes ts given x.fragments x.given_to_places x.no_cause false x.in_range
shapes_for (literals.Plain mode) ts given text b =
    let x = b.placed in lemmas.plain_shapes ts given x.fragments x.given_to_places x.no_cause mode x.in_range

-- the places of the query stand alone
pub alone_for : (asked : Literals) (ts : List Token) (given : GivenFragments) (text : List ℕ) → IsAskedText asked ts given text → first_not_alone ts ≡ None
alone_for asked ts given text b = let x = b.placed in lemmas.places_alone ts given x.fragments x.given_to_places x.no_cause
