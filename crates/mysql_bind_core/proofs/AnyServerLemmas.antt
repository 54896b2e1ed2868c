-- The written text is the one that is bound with the literals of its kind, and one for any server if that is asked for.
use Rattle.std.specs.Prelude.{Bool}
use Rattle.std.proofs.Common.{◌≡◌, ℕ, false, true, List, subst}
use Rattle.mysql_named_params.specs.LoweredNames.{lower_names}
use Rattle.mysql_named_params.specs.Reading.{IsTokensIn, OnWideTokens, wide_reading}
use Rattle.mysql_named_params.specs.Tokens.{Token}
use Rattle.mysql_named_params.proofs.ReadingLemmas.{one_reading}
use Rattle.mysql_portable.specs.FirstUnportableInClient.{IsPortableInClient}
use Rattle.mysql_portable.specs.Steady.{IsSteady}
use Rattle.mysql_params_core.specs.GivenValues.{Given}
use Rattle.mysql_steady_text.specs.SteadyText.{IsSteadyText}
use Rattle.mysql_steady_text.specs.WideAnywhere.{IsWideAnywhereText}
use Rattle.mysql_steady_text.proofs.WideSteadyLemmas.{is_wide_anywhere_text, wide_other}
use Rattle.mysql_fragments.specs.Expanded.{IsBoundFragments}
use Rattle.mysql_fragments.specs.GivenFragments.{GivenFragments}
use Rattle.mysql_fragments.specs.SteadyFragments.{IsSteadyFragments}
use Rattle.mysql_fragments.specs.WideSteadyFragments.{IsWideAnywhereFragments}
use Rattle.mysql_bind_core.specs.Bound.{IsTaken}
use Rattle.mysql_bind_core.specs.Entries.{IsAskedText}
use Rattle.mysql_bind_core.specs.Requests.{mode_of}
use Rattle.mysql_bind_core.specs.declared.request.Literals.{Literals}
use Rattle.mysql_bind_core.specs.declared.request.Literals.TheVariants as literals
use Rattle.mysql_bind_core.specs.declared.request.Portability.TheVariants as portability
use Rattle.mysql_bind_core.specs.declared.request.Request.{Request}
use Rattle.mysql_bind_core.proofs.FewerPortableLemmas.{steady_portable}
use Rattle.mysql_bind_core.proofs.FragmentTextLemmas.{IsBoundFor, bound_for}

-- ---- fragments, which may depend on the tokens

module _ (asked : Literals) (query text : List ℕ) (by : List Token → GivenFragments) (o : OnWideTokens (mode_of asked) query (λ ts. IsAskedText asked ts (by ts) text)) where
  bound_so : OnWideTokens (mode_of asked) query (λ ts. IsBoundFor asked ts (by ts) text)
  bound_so = (o.0, o.1, bound_for asked query text o.0 (by o.0) o.1 o.2)

  pub plain_fragments : (mode : Bool) → asked ≡ literals.Plain mode → OnWideTokens mode query (λ ts. IsBoundFragments mode ts (by ts) text)
  plain_fragments mode e = subst (λ a. OnWideTokens (mode_of a) query (λ ts. IsBoundFor a ts (by ts) text)) e bound_so

  pub steady_fragments : asked ≡ literals.Steady → OnWideTokens false query (λ ts. IsSteadyFragments ts (by ts) text)
  steady_fragments e = subst (λ a. OnWideTokens (mode_of a) query (λ ts. IsBoundFor a ts (by ts) text)) e bound_so

-- ---- for any server

module _ (request : Request) (query text : List ℕ) (taken : IsTaken request query) (e : request.literals ≡ literals.Steady) (p : request.portability ≡ portability.Portable) where
  -- the query with its names in lower case is portable
  low_portable : (ts : List Token) → IsTokensIn (wide_reading false) query ts → IsPortableInClient (lower_names ts)
  low_portable ts is =
      let q = subst (λ l. OnWideTokens (mode_of l) query (λ us. IsPortableInClient (lower_names us))) e (taken.portable p).0 in
      subst (λ us. IsPortableInClient (lower_names us)) (one_reading (wide_reading false) query q.0 ts q.1 is) q.2

  pub anywhere_fragments : (by : List Token → GivenFragments) → OnWideTokens false query (λ ts. IsSteadyFragments ts (by ts) text) →
      OnWideTokens false query (λ ts. IsWideAnywhereFragments ts (by ts) text)
  anywhere_fragments by o =
      let q = low_portable o.0 o.1 in
      (o.0, o.1, record { steady_text = o.2; portable = q.portable; portable_text = steady_portable query text o.0 (by o.0) o.1 q o.2 })

  pub anywhere_values : (given : Given) → OnWideTokens false query (λ ts. IsSteadyText ts given text) →
      OnWideTokens false query (λ ts. IsWideAnywhereText ts given text)
  anywhere_values given o =
      let steady : IsSteady query = taken.steady e in
      (o.0, o.1, is_wide_anywhere_text query o.0 given text (wide_other false true query o.0 steady o.1) steady (low_portable o.0 o.1).portable o.2)
