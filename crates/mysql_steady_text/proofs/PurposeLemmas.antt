-- The refusal of a query for a purpose.
use Rattle.std.specs.Prelude.{Bool, Option, option_map}
use Rattle.std.specs.Option.{option_or}
use Rattle.std.proofs.Common.{◌≡◌, ◌∙◌, ℕ, true, false, List, Some, None, ap, refl, subst, sym}
use Rattle.mysql_named_params.specs.LoweredNames.{lower_names}
use Rattle.mysql_named_params.specs.Reading.{OnTokensIn, reading_with}
use Rattle.mysql_named_params.specs.Tokens.{Token, OnTokens}
use Rattle.mysql_named_params.specs.WideNames.{widened}
use Rattle.mysql_named_params.proofs.TokensExistLemmas.{tokens_exist}
use Rattle.mysql_portable.specs.Clear.{is_clear, is_clear_in_client}
use Rattle.mysql_portable.specs.FirstUnportable.{first_unportable}
use Rattle.mysql_portable.specs.FirstUnportableInClient.{first_unportable_in_client}
use Rattle.mysql_portable.specs.Steady.{first_unsteady, IsSteady}
use Rattle.mysql_portable.specs.declared.portable.Unportable.{Unportable}
use Rattle.mysql_portable.proofs.ClearInClientLemmas.{clear_in_client_is_portable}
use Rattle.mysql_portable.proofs.ClearLemmas.{clear_has_none}
use Rattle.mysql_portable.proofs.ClearLoweredLemmas.{clear_wide_is_portable, clear_wide_is_portable_in_client}
use Rattle.mysql_portable.proofs.ClientWalkLemmas.{portable_has_none}
use Rattle.mysql_portable.proofs.SteadyLemmas.{none_unsteady}
use Rattle.mysql_portable.proofs.WideWalkLemmas.{in_grammar}
use Rattle.mysql_binding.proofs.CauseLemmas.{on_both}
use Rattle.mysql_steady_text.specs.FirstBackslash.{first_backslash}
use Rattle.mysql_steady_text.specs.Purposes.{first_construct, mode_in, query_refusal, reading_for, scope_refusal}
use Rattle.mysql_steady_text.specs.declared.purpose.Purpose.{Purpose}
use Rattle.mysql_steady_text.specs.declared.purpose.QueryRefusal.{QueryRefusal}
use Rattle.mysql_steady_text.specs.declared.purpose.QueryRefusal.TheVariants as refusal
use Rattle.mysql_steady_text.specs.declared.purpose.Scope.{Scope}
use Rattle.mysql_steady_text.specs.declared.purpose.Scope.TheVariants.{OneMode, EitherMode, AnyConnection}
use Rattle.mysql_steady_text.proofs.BackslashLemmas.{steady_has_none}
use Rattle.mysql_steady_text.proofs.BothModesAnswerLemmas.{Agree, agree}
use Rattle.mysql_steady_text.proofs.SteadyTextLemmas.{no_escapes_of}
use Rattle.mysql_steady_text.proofs.WideBothModesLemmas.{first_backslash-widened, in_each_reading}

-- ---- a clear query, by wide names or by those of the grammar

pub clear_on_servers : (query : List ℕ) → is_clear query ≡ true → (wide mode : Bool) →
    OnTokensIn (reading_with wide mode) query (λ ts. None ≡ first_unportable (lower_names ts))
clear_on_servers query c false mode =
    let t = tokens_exist mode query in
    in_grammar (reading_with false mode) query (λ ts. None ≡ first_unportable ts) refl (t.0, t.1, sym (clear_has_none false mode query t.0 t.1 c))
clear_on_servers query c true mode = let o = clear_wide_is_portable mode query c in (o.0, o.1, sym o.2.1)

pub clear_in_clients : (query : List ℕ) → is_clear_in_client query ≡ true → (wide mode : Bool) →
    OnTokensIn (reading_with wide mode) query (λ ts. None ≡ first_unportable_in_client (lower_names ts))
clear_in_clients query c false mode =
    let o = clear_in_client_is_portable mode query c in
    in_grammar (reading_with false mode) query (λ ts. None ≡ first_unportable_in_client ts) refl (o.0, o.1, sym (portable_has_none o.0 o.2))
clear_in_clients query c true mode =
    let o = clear_wide_is_portable_in_client mode query c in (o.0, o.1, sym (portable_has_none (lower_names o.0) o.2))

-- ---- what the connections of a scope refuse

-- the modes agree on a steady query
pub steady_agree : (query : List ℕ) → IsSteady query → Agree query
steady_agree query steady = let t = tokens_exist true query in (t.0, t.1, no_escapes_of true query t.0 steady t.1)

-- the refusal, of the tokens with wide names too
scope_told : (wide : Bool) (scope : Scope) (query : List ℕ) (told : Option QueryRefusal) →
    ((mode : Bool) → OnTokens mode query (λ ts. told ≡ scope_refusal scope query ts)) → (mode : Bool) →
    OnTokensIn (reading_with wide mode) query (λ ts. told ≡ scope_refusal scope query ts)
scope_told false scope query told t mode = t mode
scope_told true (OneMode own) query told t mode = let o = t mode in (widened o.0, (o.0, o.1, refl), o.2)
scope_told true AnyConnection query told t mode = let o = t mode in (widened o.0, (o.0, o.1, refl), o.2)
scope_told true EitherMode query told t mode =
    let o = t mode in
    (widened o.0, (o.0, o.1, refl), o.2 ∙ ap (option_map refusal.Backslash) (sym (first_backslash-widened o.0)))

none_mapped : {A : Type 0} (f : A → QueryRefusal) (found : Option A) → None ≡ option_map f found → found ≡ None
none_mapped f None e = refl
none_mapped f (Some x) e = cc

-- a fact about the tokens of a query that the scope doesn't refuse, in each of its modes
pub in_scope : (wide : Bool) (scope : Scope) (query : List ℕ) (P : List Token → Type 0) →
    ((mode : Bool) → OnTokens mode query (λ ts. None ≡ scope_refusal scope query ts)) →
    OnTokensIn (reading_with wide (mode_in scope true)) query P → (mode : Bool) →
    OnTokensIn (reading_with wide (mode_in scope mode)) query P
in_scope wide (OneMode own) query P t o mode = o
in_scope wide EitherMode query P t o mode =
    let b = t true in
    in_each_reading wide query P (agree query None (b.0, b.1, sym (none_mapped refusal.Backslash (first_backslash b.0) b.2)) refl) o mode
in_scope wide AnyConnection query P t o mode =
    in_each_reading wide query P (steady_agree query ((none_unsteady query).0 (none_mapped refusal.Unsteady (first_unsteady query) ((t true).2)))) o mode

-- no scope refuses a steady query
steady_passes : (scope : Scope) (query : List ℕ) → IsSteady query → (mode : Bool) →
    OnTokens mode query (λ ts. None ≡ scope_refusal scope query ts)
steady_passes (OneMode own) query steady mode = let t = tokens_exist mode query in (t.0, t.1, refl)
steady_passes EitherMode query steady mode =
    let o = steady_has_none query steady mode in (o.0, o.1, ap (option_map refusal.Backslash) o.2)
steady_passes AnyConnection query steady mode =
    let t = tokens_exist mode query in (t.0, t.1, ap (option_map refusal.Unsteady) (sym ((none_unsteady query).1 steady)))

-- ---- the refusal

-- the scope refuses a query so, or doesn't, in each mode
abbrev TellsScope : Scope → List ℕ → Option QueryRefusal → Type 0
TellsScope scope query told = (mode : Bool) → OnTokens mode query (λ ts. told ≡ scope_refusal scope query ts)

module _ (query : List ℕ) (purpose : Purpose) where
  refused_in : (told : QueryRefusal) → TellsScope purpose.scope query (Some told) → (mode : Bool) →
      OnTokensIn (reading_for purpose mode) query (λ ts. Some told ≡ query_refusal purpose query ts)
  refused_in told t mode =
      let o = scope_told purpose.wide_names purpose.scope query (Some told) t (mode_in purpose.scope mode) in
      (o.0, o.1, ap (λ s. option_or s (option_map refusal.Unportable (first_construct purpose.portability o.0))) o.2)

  found_in : (found : Option Unportable) → TellsScope purpose.scope query None →
      OnTokensIn (reading_for purpose true) query (λ ts. found ≡ first_construct purpose.portability ts) →
      (mode : Bool) → OnTokensIn (reading_for purpose mode) query (λ ts. option_map refusal.Unportable found ≡ query_refusal purpose query ts)
  found_in found t f mode =
      let o = on_both (reading_for purpose mode) query (λ ts. None ≡ scope_refusal purpose.scope query ts) (λ ts. found ≡ first_construct purpose.portability ts)
      (scope_told purpose.wide_names purpose.scope query None t (mode_in purpose.scope mode))
      (in_scope purpose.wide_names purpose.scope query (λ ts. found ≡ first_construct purpose.portability ts) t f mode) in
      (o.0, o.1, ap (option_map refusal.Unportable) o.2.1 ∙ ap (λ s. option_or s (option_map refusal.Unportable (first_construct purpose.portability o.0))) o.2.0)

  -- a clear query isn't refused
  pub clear_passes : IsSteady query →
      ((wide mode : Bool) → OnTokensIn (reading_with wide mode) query (λ ts. None ≡ first_construct purpose.portability ts)) →
      (mode : Bool) → OnTokensIn (reading_for purpose mode) query (λ ts. None ≡ query_refusal purpose query ts)
  clear_passes steady f = found_in None (steady_passes purpose.scope query steady) (f purpose.wide_names (mode_in purpose.scope true))

  module _ (told : Option QueryRefusal) (t : TellsScope purpose.scope query told) where
    -- a query that the scope refuses
    pub refused_by_scope : (refusal : QueryRefusal) → told ≡ Some refusal → (mode : Bool) →
        OnTokensIn (reading_for purpose mode) query (λ ts. Some refusal ≡ query_refusal purpose query ts)
    refused_by_scope refusal is = refused_in refusal (subst (TellsScope purpose.scope query) is t)

    -- a query that it doesn't refuse, read in a mode of the scope
    pub refused_by_construct : told ≡ None → (read : Bool) → read ≡ mode_in purpose.scope true → (found wanted : Option Unportable) → found ≡ wanted →
        OnTokensIn (reading_with purpose.wide_names read) query (λ ts. found ≡ first_construct purpose.portability ts) → (mode : Bool) →
        OnTokensIn (reading_for purpose mode) query (λ ts. option_map refusal.Unportable wanted ≡ query_refusal purpose query ts)
    refused_by_construct none read own found wanted is f =
        found_in wanted (subst (TellsScope purpose.scope query) none t)
        (subst (λ m. OnTokensIn (reading_with purpose.wide_names m) query (λ ts. wanted ≡ first_construct purpose.portability ts)) own
        (subst (λ x. OnTokensIn (reading_with purpose.wide_names read) query (λ ts. x ≡ first_construct purpose.portability ts)) is f))
