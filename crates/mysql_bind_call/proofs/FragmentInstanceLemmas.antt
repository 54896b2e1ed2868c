-- The clauses of `bind` for fragments and one purpose, as the call for these says them.
use Rattle.std.specs.Prelude.{Bool, true, false, Result, Ok, Err, IfErr, IfOk, alloc_error, option_map}
use Rattle.std.specs.Option.{option_or}
use Rattle.std.proofs.Common.{◌≡◌, ◌⊎◌, ℕ, List, Option, Some, None, refl, sym, ap, subst, ◌∙◌, inl, inr, true≢false}
use Rattle.mysql_named_params.specs.Tokens.{Token, OnTokens}
use Rattle.mysql_portable.specs.FirstUnportable.{first_unportable}
use Rattle.mysql_portable.specs.Steady.{first_unsteady}
use Rattle.mysql_portable.specs.declared.portable.Unportable.{Unportable}
use Rattle.mysql_binding.proofs.CauseLemmas.{map_none, or_none}
use Rattle.mysql_steady_text.specs.Purposes.{first_construct, query_refusal}
use Rattle.mysql_steady_text.specs.declared.purpose.Portability.{Portability}
use Rattle.mysql_steady_text.specs.declared.purpose.Portability.TheVariants.{Any, Servers}
use Rattle.mysql_steady_text.specs.declared.purpose.QueryRefusal.{QueryRefusal}
use Rattle.mysql_steady_text.specs.declared.purpose.QueryRefusal.TheVariants as refusal
use Rattle.mysql_steady_text.specs.declared.purpose.Scope.TheVariants.{AnyConnection, OneMode}
use Rattle.mysql_fragments.specs.FragmentErrors as fragment
use Rattle.mysql_fragments.specs.GivenFragments.{GivenFragments}
use Rattle.mysql_fragments.specs.SteadyFragments.{IsAnywhereFragments}
use Rattle.mysql_fragments.specs.SteadyFragmentsErrors.{IsFragmentsRefusal, IsSteadyRefusal}
use Rattle.mysql_fragments.proofs.SteadyFragmentLemmas.{anywhere_fragments}
use Rattle.mysql_bind_call.specs.Accepted.{IsAccepted}
use Rattle.mysql_bind_call.specs.AnyGiven.{AnyGiven, fragments}
use Rattle.mysql_bind_call.specs.Errors.{with_error}
use Rattle.mysql_bind_call.specs.InstanceErrors.{fragments_error, steady_fragments_error}
use Rattle.mysql_bind_call.specs.Refusals.{IsCauseOrMemory, IsRefusalFor}
use Rattle.mysql_bind_call.specs.declared.refusal.BindRefusal.{BindRefusal}
use Rattle.mysql_bind_call.specs.declared.refusal.BindRefusal.TheVariants.{Redefined, Query, Values, Fragments, UnsteadyFragment, Memory}
use Rattle.mysql_bind_call.proofs.InstanceLemmas.{Bound, any_connection, narrow_portable, one_mode, portable_query}
use Rattle.mysql_bind_call.proofs.ScopeLemmas.{accepted_steady, on_query_all}

none_some : {A : Type 0} {x : A} → None ≡ Some x → ⊥
none_some e = cc

module _ (query : List ℕ) (ts : List Token) (given : GivenFragments) where
  -- the cause of fragments for one mode
  mode_cause : (mode : Bool) (e : BindRefusal) → IsCauseOrMemory (OneMode mode) ts (fragments given) e →
      fragment.IsCauseOrMemory (fragment.first_cause true ts given) (fragments_error e)
  mode_cause mode e (inl is) = inl (ap fragments_error is)
  mode_cause mode (Fragments error) (inr w) = inr w
  mode_cause mode (UnsteadyFragment place) (inr w) = absurd (true≢false (sym w.0))
  mode_cause mode e (inr w) = absurd w

  pub mode_error : (mode : Bool) (e : BindRefusal) → IsRefusalFor (one_mode mode) query ts (fragments given) e →
      fragment.IsCauseOrMemory (fragment.first_cause true ts given) (fragments_error e)
  mode_error mode (Query why) h = absurd (none_some h)
  mode_error mode (Redefined index) h = mode_cause mode (Redefined index) h.1
  mode_error mode (Values error) h = mode_cause mode (Values error) h.1
  mode_error mode (Fragments error) h = mode_cause mode (Fragments error) h.1
  mode_error mode (UnsteadyFragment place) h = mode_cause mode (UnsteadyFragment place) h.1
  mode_error mode (Memory error) h = mode_cause mode (Memory error) h.1

  steady_by : (unsteady : Option ℕ) → first_unsteady query ≡ unsteady → (found : Option Unportable) (why : QueryRefusal) →
      option_or (option_map refusal.Unsteady unsteady) (option_map refusal.Unportable found) ≡ Some why →
      IsSteadyRefusal query found ts given (steady_fragments_error (Query why))
  steady_by (Some at) u found (refusal.Unsteady k) e = let same : at ≡ k = cc in u ∙ ap Some same
  steady_by (Some at) u found (refusal.Backslash k) e = cc
  steady_by (Some at) u found (refusal.Unportable k) e = cc
  steady_by None u (Some found) (refusal.Unsteady k) e = cc
  steady_by None u (Some found) (refusal.Backslash k) e = cc
  steady_by None u (Some found) (refusal.Unportable k) e = let same : found ≡ k = cc in (u, ap Some same)
  steady_by None u None why e = cc

  -- a cause of fragments, after the query is accepted
  after : (found : Option Unportable) (e : BindRefusal) → first_unsteady query ≡ None → found ≡ None → IsCauseOrMemory AnyConnection ts (fragments given) e →
      IsSteadyRefusal query found ts given (steady_fragments_error e)
  after found e s p (inl is) = subst (λ r. IsSteadyRefusal query found ts given (steady_fragments_error r)) (sym is) (s, p, inl refl)
  after found (Fragments error) s p (inr w) = (s, p, inr w)
  after found (UnsteadyFragment place) s p (inr w) = (s, p, (w.1, w.2))
  after found e s p (inr w) = absurd w

  pub steady_error : (portability : Portability) (e : BindRefusal) → IsRefusalFor (any_connection portability false) query ts (fragments given) e →
      IsSteadyRefusal query (first_construct portability ts) ts given (steady_fragments_error e)
  steady_error portability e h = go e h
    where
      told : (none : query_refusal (any_connection portability false) query ts ≡ None) (e : BindRefusal) → IsCauseOrMemory AnyConnection ts (fragments given) e →
          IsSteadyRefusal query (first_construct portability ts) ts given (steady_fragments_error e)
      told none e c =
          let parts = or_none _ _ none in after (first_construct portability ts) e (map_none _ _ parts.0) (map_none _ _ parts.1) c

      go : (e : BindRefusal) → IsRefusalFor (any_connection portability false) query ts (fragments given) e →
          IsSteadyRefusal query (first_construct portability ts) ts given (steady_fragments_error e)
      go (Query why) h = steady_by (first_unsteady query) refl (first_construct portability ts) why h
      go (Redefined index) h = told h.0 (Redefined index) h.1
      go (Values error) h = told h.0 (Values error) h.1
      go (Fragments error) h = told h.0 (Fragments error) h.1
      go (UnsteadyFragment place) h = told h.0 (UnsteadyFragment place) h.1
      go (Memory error) h = told h.0 (Memory error) h.1

module _ {A F : Type 0} (items : A → List ℕ) (query : List ℕ) (given : GivenFragments) (f : BindRefusal → F) where
  pub anywhere_list : (r : Result A BindRefusal) → Bound items (any_connection Servers false) query (fragments given) r →
      IfOk r (λ text. IsAccepted (any_connection Servers false) query) → (mode : Bool) →
      OnTokens mode query (λ ts. IfOk (with_error f r) (λ text. IsAnywhereFragments ts given (items text)))
  anywhere_list (Ok text) b accepted mode =
      anywhere_fragments {A = A} {E = F} items (Ok text) query given (accepted_steady (any_connection Servers false) query accepted refl)
      (narrow_portable false query (portable_query (any_connection Servers false) query refl accepted false)) (λ m. b.1 (fragments given) refl m) mode
  anywhere_list (Err e) b accepted mode = on_query_all (any_connection Servers false) query _ (λ ts. tt) mode
