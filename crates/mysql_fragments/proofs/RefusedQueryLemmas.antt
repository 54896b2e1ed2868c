-- The error for a query that is refused, before its fragments are read.
use Rattle.std.proofs.Common.{◌≡◌, ◌∙◌, ℕ, List, Option, Some, None, ap, refl, subst, sym}
use Rattle.mysql_named_params.specs.Tokens.{Token}
use Rattle.mysql_portable.specs.Steady.{first_unsteady}
use Rattle.mysql_portable.specs.declared.portable.Unportable.{Unportable}
use Rattle.mysql_steady_text.specs.declared.purpose.QueryRefusal.{QueryRefusal}
use Rattle.mysql_steady_text.specs.declared.purpose.QueryRefusal.TheVariants as refusal
use Rattle.mysql_steady_text.proofs.QueryRefusalLemmas.{byte_of, construct_of, first_told, nothing_of}
use Rattle.mysql_fragments.specs.GivenFragments.{GivenFragments}
use Rattle.mysql_fragments.specs.SteadyFragmentsErrors.{IsSteadyRefusal, steady_fragments_error}
use Rattle.mysql_fragments.specs.declared.steady_fragments_error.SteadyFragmentsError.{SteadyFragmentsError}
use Rattle.mysql_fragments.specs.declared.steady_fragments_error.SteadyFragmentsError.TheVariants as error

module _ (query : List ℕ) (found : Option Unportable) (r : QueryRefusal) (e : SteadyFragmentsError) (is : e ≡ steady_fragments_error r) (t : Some r ≡ first_told refusal.Unsteady (first_unsteady query) found) where
  pub refused_query : (ts : List Token) (given : GivenFragments) → IsSteadyRefusal query found ts given e
  refused_query ts given = subst (IsSteadyRefusal query found ts given) (sym is) (go (first_unsteady query) found refl r t)
    where
      go : (unsteady : Option ℕ) (found : Option Unportable) → first_unsteady query ≡ unsteady →
          (r : QueryRefusal) → Some r ≡ first_told refusal.Unsteady unsteady found → IsSteadyRefusal query found ts given (steady_fragments_error r)
      go (Some at) found is (refusal.Unsteady k) s = let same : at ≡ k = cc in is ∙ ap Some same
      go (Some at) found is (refusal.Backslash k) s = cc
      go (Some at) found is (refusal.Unportable u) s = cc
      go None (Some found) is (refusal.Unsteady k) s = cc
      go None (Some found) is (refusal.Backslash k) s = cc
      go None (Some found) is (refusal.Unportable u) s = let same : found ≡ u = cc in (is, ap Some same)
      go None None is r s = cc

  pub unsteady_query : (at : ℕ) → first_unsteady query ≡ Some at → e ≡ error.Unsteady at
  unsteady_query at u = is ∙ ap steady_fragments_error (byte_of refusal.Unsteady (first_unsteady query) found r at t u)

  pub unportable_query : first_unsteady query ≡ None → (u : Unportable) → found ≡ Some u → e ≡ error.Unportable u
  unportable_query none u f = is ∙ ap steady_fragments_error (construct_of refusal.Unsteady (first_unsteady query) found r u t none f)

  pub never_refused : {A : Type 0} → first_unsteady query ≡ None → found ≡ None → A
  never_refused none f = nothing_of refusal.Unsteady (first_unsteady query) found r t none f
