-- The promises about the text that is bound to fragments by wide names, for any server, by the
-- query with its names in lower case.
use Rattle.std.specs.Prelude.{Bool, Result, Ok, Err, IfOk, IfErr}
use Rattle.std.specs.List.{list_all}
use Rattle.std.proofs.Common.{◌≡◌, ◌∙◌, ℕ, true, false, List, [], Some, None, Option, inr, map, ap, refl, sym, subst}
use Rattle.mysql_named_params.specs.LoweredNames.{lower_names}
use Rattle.mysql_named_params.specs.Reading.{IsTokensIn, OnWideTokens, wide_reading}
use Rattle.mysql_named_params.specs.Tokens.{Token, IsTokens, text_of}
use Rattle.mysql_named_params.proofs.LoweredLemmas.{lowered_tokens}
use Rattle.mysql_named_params.proofs.ReadingLemmas.{reading_text}
use Rattle.mysql_named_params.proofs.ReparsedLemmas.{names_in_reading}
use Rattle.mysql_portable.specs.Portable.{IsPortable, AreReadAlikeBefore}
use Rattle.mysql_portable.specs.Steady.{is_steady, IsSteady}
use Rattle.mysql_portable.specs.declared.portable.Unportable.{Unportable}
use Rattle.mysql_params_core.specs.Given.{positional}
use Rattle.mysql_binding.specs.Pieces.{pieces, joined_text}
use Rattle.mysql_binding.specs.Replaced.{with_literal_tokens}
use Rattle.mysql_binding.specs.StandsAlone.{first_not_alone}
use Rattle.mysql_binding.proofs.CauseLemmas.{on_both}
use Rattle.mysql_steady_text.specs.OnServers.{IsReadAnywhere}
use Rattle.mysql_steady_text.proofs.WideSteadyLemmas.{first_not_alone-lowered, lowered_steady, pieces-lowered, wide_nothing, wide_other, with_literal_tokens-lowered}
use Rattle.mysql_fragments.specs.FragmentText.{all_values, fragment_text, mark_number}
use Rattle.mysql_fragments.specs.GivenFragments.{GivenFragments}
use Rattle.mysql_fragments.specs.SteadyFragments.{IsSteadyFragments}
use Rattle.mysql_fragments.specs.SteadyFragmentsErrors.{IsSteadyRefusal}
use Rattle.mysql_fragments.specs.WideSteadyFragments.{IsWideAnywhereFragments}
use Rattle.mysql_fragments.specs.declared.steady_fragments_error.SteadyFragmentsError.{SteadyFragmentsError}
use Rattle.mysql_fragments.proofs.ExpandedLemmas.{expanded_alone, expanded_shapes}
use Rattle.mysql_fragments.proofs.SplicedFragmentLemmas.{as_many, fragments_on, fragments_portable}
use Rattle.mysql_fragments.proofs.SteadyFragmentLemmas.{expanded_on_servers, portable_expanded}

module _ (query : List ℕ) (ts : List Token) (given : GivenFragments) (text : List ℕ) (is : IsTokensIn (wide_reading false) query ts) (steady : IsSteady query) (p : IsPortable (lower_names ts)) (f : IsSteadyFragments ts given text) where
  abbrev expanded : List Token
  expanded = with_literal_tokens ts f.expanded.lists

  abbrev lows : List Token
  lows = lower_names ts

  abbrev low : List ℕ
  low = text_of lows

  abbrev counts : List ℕ
  counts = map mark_number f.expanded.fragments

  abbrev texts : List (List ℕ)
  texts = map fragment_text f.expanded.fragments

  low_steady : IsSteady low
  low_steady = lowered_steady ts (subst (λ (z : List ℕ). list_all is_steady z ≡ true) (sym (reading_text (wide_reading false) query ts is)) steady)

  tokens : IsTokens false low lows
  tokens = subst (λ (vs : List Token). IsTokens false (text_of (lower_names vs)) (lower_names vs)) (sym is.2) (lowered_tokens false query is.0 is.1)

  whole : first_not_alone ts ≡ None
  whole = expanded_alone true false ts given f.query f.expanded

  alone : first_not_alone lows ≡ None
  alone = first_not_alone-lowered ts 0 [] [] (names_in_reading (wide_reading false) query ts is) (λ h. h) whole

  joined : joined_text (pieces lows) texts ≡ Some f.query
  joined = ap (λ ps. joined_text ps texts) (pieces-lowered [] ts) ∙ f.expanded.text_is

  same : with_literal_tokens lows f.expanded.lists ≡ expanded
  same = with_literal_tokens-lowered ts f.expanded.lists (as_many false f.query ts counts texts f.expanded.lists whole (expanded_shapes f.expanded) f.expanded.tokens_of_fragments f.expanded.text_is)

  alike : AreReadAlikeBefore [] expanded
  alike = subst (AreReadAlikeBefore []) same (fragments_portable false f.query lows counts texts f.expanded.lists alone (expanded_shapes f.expanded) f.expanded.tokens_of_fragments joined low tokens p.alike)

  is_wide_anywhere : IsWideAnywhereFragments ts given text
  is_wide_anywhere = record {
    steady_text = f;
    portable = p;
    portable_text = portable_expanded expanded (positional (all_values f.expanded.fragments)) f.query text f.isolated f.steady alike f.bound;
  }

  pub wide_anywhere_on_servers : IsReadAnywhere low ts (λ read. with_literal_tokens (with_literal_tokens read f.expanded.lists) f.bound.literal_tokens) text
  wide_anywhere_on_servers =
      expanded_on_servers expanded (positional (all_values f.expanded.fragments)) f.query text f.isolated f.steady alike f.bound low ts f.expanded.lists low_steady refl
      (λ server read honest within u.
      fragments_on false f.query lows counts texts f.expanded.lists alone (expanded_shapes f.expanded) f.expanded.tokens_of_fragments joined low tokens p.alike server read honest within u)

pub wide_anywhere_fragments : {A E : Type 0} (items : A → List ℕ) (r : Result A E) (query : List ℕ) (given : GivenFragments) → IsSteady query →
    OnWideTokens false query (λ ts. IsPortable (lower_names ts)) →
    ((mode : Bool) → OnWideTokens mode query (λ ts. IfOk r (λ text. IsSteadyFragments ts given (items text)))) →
    (mode : Bool) → OnWideTokens mode query (λ ts. IfOk r (λ text. IsWideAnywhereFragments ts given (items text)))
wide_anywhere_fragments items (Ok text) query given steady p b mode =
    let o = on_both (wide_reading false) query (λ ts. IsPortable (lower_names ts)) (λ ts. IsSteadyFragments ts given (items text)) p (b false) in
    (o.0, wide_other false mode query o.0 steady o.1, is_wide_anywhere query o.0 given (items text) o.1 steady o.2.0 o.2.1)
wide_anywhere_fragments items (Err e) query given steady p b mode = wide_nothing mode query
