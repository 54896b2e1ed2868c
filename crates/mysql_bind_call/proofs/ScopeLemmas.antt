-- Facts about the tokens of a query in each mode of a purpose.
use Rattle.std.specs.Prelude.{Bool, true, false, ⊤}
use Rattle.std.proofs.Common.{◌≡◌, ℕ, List, None, refl, sym, subst, ◌∙◌}
use Rattle.mysql_named_params.specs.Tokens.{Token}
use Rattle.mysql_named_params.specs.Reading.{IsTokensWith, OnTokensIn, reading_with}
use Rattle.mysql_named_params.proofs.ReadingLemmas.{reading_exists}
use Rattle.mysql_portable.specs.Steady.{IsSteady}
use Rattle.mysql_portable.proofs.SteadyLemmas.{none_unsteady}
use Rattle.mysql_binding.proofs.CauseLemmas.{map_none, on_both, on_map, or_none}
use Rattle.mysql_steady_text.specs.FirstBackslash.{first_backslash}
use Rattle.mysql_steady_text.specs.Purposes.{first_construct, mode_in, reading_for, scope_refusal}
use Rattle.mysql_steady_text.proofs.BackslashLemmas.{hold_no_escapes}
use Rattle.mysql_steady_text.proofs.BothModesAnswerLemmas.{Agree}
use Rattle.mysql_steady_text.proofs.PurposeLemmas.{steady_agree}
use Rattle.mysql_steady_text.proofs.WideBothModesLemmas.{agree_of_wide, in_each_reading}
use Rattle.mysql_fragments.proofs.SteadyFragmentLemmas.{nothing_read}
use Rattle.mysql_bind_call.specs.Accepted.{IsAccepted, OnQuery}
use Rattle.mysql_steady_text.specs.declared.purpose.Purpose.{Purpose}
use Rattle.mysql_steady_text.specs.declared.purpose.Scope.{Scope}
use Rattle.mysql_steady_text.specs.declared.purpose.Scope.TheVariants.{OneMode, EitherMode, AnyConnection}

pub on_query_both : (purpose : Purpose) (query : List ℕ) (P Q : List Token → Type 0) → OnQuery purpose query P → OnQuery purpose query Q →
    OnQuery purpose query (λ ts. P ts × Q ts)
on_query_both purpose query P Q a b = λ mode. on_both (reading_for purpose mode) query P Q (a mode) (b mode)

pub on_query_map : (purpose : Purpose) (query : List ℕ) (P Q : List Token → Type 0) → ((ts : List Token) → P ts → Q ts) → OnQuery purpose query P →
    OnQuery purpose query Q
on_query_map purpose query P Q f a = λ mode. on_map (reading_for purpose mode) query P Q (λ ts is. f ts) (a mode)

-- a query has tokens
pub on_query_all : (purpose : Purpose) (query : List ℕ) (Q : List Token → Type 0) → ((ts : List Token) → Q ts) → OnQuery purpose query Q
on_query_all purpose query Q f =
    λ mode. let t = nothing_read purpose.wide_names (mode_in purpose.scope mode) query in (t.0, t.1, f t.0)

-- the tokens in a mode of the purpose
pub on_query_some : (purpose : Purpose) (query : List ℕ) (P : List Token → Type 0) → OnQuery purpose query P → (ts : List Token) × P ts
on_query_some purpose query P o = let t = o true in (t.0, t.2)

-- ---- an accepted query

module _ (purpose : Purpose) (query : List ℕ) (accepted : IsAccepted purpose query) where
  -- the scope doesn't refuse it
  scope_accepts : (scope : Scope) → purpose.scope ≡ scope → (mode : Bool) →
      OnTokensIn (reading_with purpose.wide_names (mode_in scope mode)) query (λ ts. scope_refusal scope query ts ≡ None)
  scope_accepts scope e =
      λ mode. subst (λ s. OnTokensIn (reading_with purpose.wide_names (mode_in s mode)) query (λ ts. scope_refusal s query ts ≡ None)) e
      (let o = accepted mode in (o.0, o.1, (or_none _ _ o.2).0))

  -- it has no construct that is refused
  pub no_construct : OnQuery purpose query (λ ts. first_construct purpose.portability ts ≡ None)
  no_construct = λ mode. let o = accepted mode in (o.0, o.1, map_none _ _ (or_none _ _ o.2).1)

  pub accepted_steady : purpose.scope ≡ AnyConnection → IsSteady query
  accepted_steady e = (none_unsteady query).0 (map_none _ _ (scope_accepts AnyConnection e true).2)

  pub accepted_free : purpose.scope ≡ EitherMode → OnTokensIn (reading_with purpose.wide_names true) query (λ ts. first_backslash ts ≡ None)
  accepted_free e = let o = scope_accepts EitherMode e true in (o.0, o.1, map_none _ _ o.2)

  backslash_agree : (wide : Bool) (ts : List Token) → IsTokensWith wide true query ts → first_backslash ts ≡ None → Agree query
  backslash_agree false ts is none = (ts, is, hold_no_escapes ts 0 none)
  backslash_agree true ts is none = agree_of_wide query ts is none

  -- the modes agree on it
  pub either_agree : purpose.scope ≡ EitherMode → Agree query
  either_agree e = let o = accepted_free e in backslash_agree purpose.wide_names o.0 o.1 o.2

  pub any_agree : purpose.scope ≡ AnyConnection → Agree query
  any_agree e = steady_agree query (accepted_steady e)

-- ---- from the mode in which the query is read to those of the purpose

module _ (purpose : Purpose) (query : List ℕ) (P : List Token → Type 0) where
  in_one : (scope : Scope) → purpose.scope ≡ scope → ((mode : Bool) → OnTokensIn (reading_with purpose.wide_names (mode_in scope mode)) query P) →
      OnQuery purpose query P
  in_one scope e o = λ mode. subst (λ s. OnTokensIn (reading_with purpose.wide_names (mode_in s mode)) query P) (sym e) (o mode)

  pub in_own : (own : Bool) → purpose.scope ≡ OneMode own → OnTokensIn (reading_with purpose.wide_names own) query P → OnQuery purpose query P
  in_own own e o = in_one (OneMode own) e (λ mode. o)

  pub in_either : purpose.scope ≡ EitherMode → IsAccepted purpose query → OnTokensIn (reading_with purpose.wide_names true) query P → OnQuery purpose query P
  in_either e accepted o = in_one EitherMode e (in_each_reading purpose.wide_names query P (either_agree purpose query accepted e) o)

  pub in_any : purpose.scope ≡ AnyConnection → IsAccepted purpose query → OnTokensIn (reading_with purpose.wide_names true) query P → OnQuery purpose query P
  in_any e accepted o = in_one AnyConnection e (in_each_reading purpose.wide_names query P (any_agree purpose query accepted e) o)
