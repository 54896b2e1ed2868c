-- Texts for both modes of queries with wide names: by the query with marks, and by the one with names
-- in lower case.
use Rattle.std.specs.Prelude.{Bool, Ok, Some}
use Rattle.std.proofs.Common.{◌≡◌, ◌+◌, ◌∙◌, ℕ, All, true, false, List, [], ◌∷◌, None, arith, length, refl, sym, ap, subst, length-append}
use Rattle.std.specs.Option.{option_or}
use Rattle.mysql_values.specs.declared.value.Value.{Value}
use Rattle.mysql_named_params.specs.LoweredNames.{lower_names}
use Rattle.mysql_named_params.specs.Places.{names, place_count, with_marks}
use Rattle.mysql_named_params.specs.Reading.{IsTokensIn, OnTokensIn, OnWideTokens, reading_with, wide_reading}
use Rattle.mysql_named_params.specs.Tokens.{Token, IsTokens, bytes_of, text_of, Name, Plain}
use Rattle.mysql_named_params.specs.WideNames.{IsWideName, run, widened, widened_from}
use Rattle.mysql_named_params.proofs.LoweredLemmas.{lowered_tokens}
use Rattle.mysql_named_params.proofs.ReparsedLemmas.{marked_reading, names_in_reading, names-with_marks}
use Rattle.mysql_named_params.proofs.TokenListLemmas.{one_token_list}
use Rattle.mysql_named_params.proofs.WideLemmas.{goes_on, none_taken, opens, plain_case, stays, taken, taken_colon, taken_none, taken_wide}
use Rattle.mysql_portable.specs.Portable.{IsPortable}
use Rattle.mysql_portable.specs.Steady.{HoldNoEscapes}
use Rattle.mysql_portable.proofs.OtherModeLemmas.{tokens_other}
use Rattle.mysql_params_core.specs.Given.{Given, positional}
use Rattle.mysql_params_core.specs.Lookup.{lookup}
use Rattle.mysql_binding.specs.FirstCause.{first_cause}
use Rattle.mysql_binding.specs.Pieces.{pieces, joined_text}
use Rattle.mysql_binding.specs.Replaced.{with_literal_tokens}
use Rattle.mysql_binding.specs.WrittenText.{IsGivenText}
use Rattle.mysql_binding.proofs.BoundAgainLemmas.{pieces-with_marks, with_literal_tokens-with_marks}
use Rattle.mysql_binding.proofs.PieceLemmas.{joined_text_count}
use Rattle.mysql_binding.proofs.SpliceLemmas.{as_many_lists}
use Rattle.mysql_steady_text.specs.BothModesText.{IsTextInBothModes}
use Rattle.mysql_steady_text.specs.FirstBackslash.{backslash_in, first_backslash, first_backslash_from}
use Rattle.mysql_steady_text.specs.SteadyLiteral.{steady_literal_of}
use Rattle.mysql_steady_text.specs.SteadyLiterals.{IsSteadyFor}
use Rattle.mysql_steady_text.specs.OnServers.{IsReadInBothModes}
use Rattle.mysql_steady_text.specs.WideBothModes.{IsWideTextInBothModes}
use Rattle.mysql_steady_text.proofs.BackslashLemmas.{hold_no_escapes}
use Rattle.mysql_steady_text.proofs.BothModesAnswerLemmas.{Agree, agree, in_each_mode}
use Rattle.mysql_steady_text.proofs.BothModesTextLemmas.{in_both_modes, no_escapes_out}
use Rattle.mysql_steady_text.proofs.WideSteadyLemmas.{lowered_on_servers, lowered_portable, marked_given}

-- ---- backslashes: no wide name has one

no_escapes_from : (inside : Bool) (own : List Token) → HoldNoEscapes own → HoldNoEscapes (widened_from inside own)
no_escapes_from inside [] h = h
no_escapes_from inside (Plain b ∷ ts) h = elim (plain_case inside b ts) [
  | goes_on i w e ↦ subst HoldNoEscapes (sym e) (no_escapes_from true ts h.1)
  | opens c w e ↦ subst HoldNoEscapes (sym e) (refl, no_escapes_from true ts h.1)
  | stays i c e ↦ subst HoldNoEscapes (sym e) (refl, no_escapes_from false ts h.1)
]
no_escapes_from inside (Name name ∷ ts) h = (refl, no_escapes_from true ts h.1)
no_escapes_from inside (t ∷ ts) h = (h.0, no_escapes_from false ts h.1)

pub no_escapes_back : (inside : Bool) (own : List Token) → HoldNoEscapes (widened_from inside own) → HoldNoEscapes own
no_escapes_back inside [] h = h
no_escapes_back inside (Plain b ∷ ts) h = elim (plain_case inside b ts) [
  | goes_on i w e ↦ (refl, no_escapes_back true ts (subst HoldNoEscapes e h))
  | opens c w e ↦ let k : HoldNoEscapes (Name (run ts) ∷ widened_from true ts) = subst HoldNoEscapes e h in (refl, no_escapes_back true ts k.1)
  | stays i c e ↦ let k : HoldNoEscapes (Plain b ∷ widened_from false ts) = subst HoldNoEscapes e h in (refl, no_escapes_back false ts k.1)
]
no_escapes_back inside (Name name ∷ ts) h = (refl, no_escapes_back true ts h.1)
no_escapes_back inside (t ∷ ts) h = (h.0, no_escapes_back false ts h.1)

marked_no_escapes : (ts : List Token) → HoldNoEscapes ts → HoldNoEscapes (with_marks ts)
marked_no_escapes [] h = h
marked_no_escapes (Name name ∷ ts) h = (refl, marked_no_escapes ts h.1)
marked_no_escapes (t ∷ ts) h = (h.0, marked_no_escapes ts h.1)

at_position : (ts us : List Token) (m n : ℕ) → ts ≡ us → m ≡ n → first_backslash_from m ts ≡ first_backslash_from n us
at_position ts us m n e f = rw (e, f) refl

backslash_from : (inside : Bool) (at : ℕ) (own : List Token) →
    first_backslash_from (at + length (taken inside own)) (widened_from inside own) ≡ first_backslash_from at own
backslash_from inside at [] = refl
backslash_from inside at (Plain b ∷ ts) = elim (plain_case inside b ts) [
  | goes_on i w e ↦
      at_position _ (widened_from true ts) _ ((at + 1) + length (run ts)) e (ap (λ bs. at + length bs) (taken_wide inside b ts i w) ∙ omega arith)
      ∙ backslash_from true (at + 1) ts
  | opens c w e ↦
      at_position _ (Name (run ts) ∷ widened_from true ts) _ at e (ap (λ bs. at + length bs) (taken_colon inside b ts c) ∙ omega arith)
      ∙ (at_position (widened_from true ts) (widened_from true ts) _ ((at + 1) + length (run ts)) refl (omega arith)
      ∙ backslash_from true (at + 1) ts)
  | stays i c e ↦
      at_position _ (Plain b ∷ widened_from false ts) _ at e (ap (λ bs. at + length bs) (taken_none inside b ts i) ∙ omega arith)
      ∙ (at_position (widened_from false ts) (widened_from false ts) _ ((at + 1) + 0) refl (omega arith)
      ∙ backslash_from false (at + 1) ts)
]
backslash_from inside at (Name name ∷ ts) =
    let none : at + length (taken inside (Name name ∷ ts)) ≡ at = ap (λ bs. at + length bs) (none_taken inside) ∙ omega arith in
    at_position _ (widened_from inside (Name name ∷ ts)) _ at refl none
    ∙ (at_position (widened_from true ts) (widened_from true ts) _ ((at + length (bytes_of (Name name))) + length (run ts)) refl (omega (arith, length-append name (run ts)))
    ∙ backslash_from true (at + length (bytes_of (Name name))) ts)
backslash_from inside at (t ∷ ts) =
    let none : at + length (taken inside (t ∷ ts)) ≡ at = ap (λ bs. at + length bs) (none_taken inside) ∙ omega arith in
    at_position _ (widened_from inside (t ∷ ts)) _ at refl none
    ∙ ap (λ x. option_or (backslash_in at t) x) (at_position (widened_from false ts) (widened_from false ts) _ ((at + length (bytes_of t)) + 0) refl (omega arith) ∙ backslash_from false (at + length (bytes_of t)) ts)

pub first_backslash-widened : (own : List Token) → first_backslash (widened own) ≡ first_backslash own
first_backslash-widened own = backslash_from false 0 own

-- ---- in either mode

-- the tokens of a query, in each mode, if the modes agree on it
own_in_each : (query : List ℕ) (own : List Token) → Agree query → IsTokens true query own → (mode : Bool) → IsTokens mode query own
own_in_each query own none is mode =
    let same : none.0 ≡ own = one_token_list true query none.0 own none.1 is in
    tokens_other true mode query own (subst HoldNoEscapes same none.2) is

wide_no_escapes : (query : List ℕ) (ts : List Token) → Agree query → IsTokensIn (wide_reading true) query ts → HoldNoEscapes ts
wide_no_escapes query ts none is =
    let same : none.0 ≡ is.0 = one_token_list true query none.0 is.0 none.1 is.1 in
    subst HoldNoEscapes (sym is.2) (no_escapes_from false is.0 (subst HoldNoEscapes same none.2))

-- the modes agree on a query if no wide token of it has a backslash in a string
pub agree_of_wide : (query : List ℕ) (ts : List Token) → IsTokensIn (wide_reading true) query ts → first_backslash ts ≡ None → Agree query
agree_of_wide query ts is none =
    let same : first_backslash ts ≡ first_backslash is.0 = ap first_backslash is.2 ∙ first_backslash-widened is.0 in
    (is.0, is.1, hold_no_escapes is.0 0 (sym same ∙ none))

pub in_each_wide : (query : List ℕ) (P : List Token → Type 0) → Agree query → OnWideTokens true query P → (mode : Bool) →
    OnWideTokens mode query P
in_each_wide query P none o mode = (o.0, (o.1.0, own_in_each query o.1.0 none o.1.1 mode, o.1.2), o.2)

-- the same, with wide names or without
pub in_each_reading : (wide : Bool) (query : List ℕ) (P : List Token → Type 0) → Agree query → OnTokensIn (reading_with wide true) query P →
    (mode : Bool) → OnTokensIn (reading_with wide mode) query P
in_each_reading false query P none o = in_each_mode query P none o
in_each_reading true query P none o = in_each_wide query P none o

-- ---- by the query with marks

-- the text of the query with marks is that of the query
from_marks : (ts : List Token) (given : Given) (values : List Value) (text : List ℕ) →
    lookup given (names ts) ≡ Ok values → first_cause ts given ≡ None →
    IsTextInBothModes (with_marks ts) (positional values) text → IsTextInBothModes ts given text
from_marks ts given values text l none t =
    let same : pieces (with_marks ts) ≡ pieces ts = pieces-with_marks [] ts in
    let exact : joined_text (pieces ts) t.literals ≡ Some text = ap (λ ps. joined_text ps t.literals) (sym same) ∙ t.text_is in
    let lists : length t.literal_tokens ≡ place_count ts = as_many_lists true t.literals t.literal_tokens (t.tokens_of_literals true) ∙ joined_text_count [] ts t.literals text exact in
    let tokens : with_literal_tokens (with_marks ts) t.literal_tokens ≡ with_literal_tokens ts t.literal_tokens = with_literal_tokens-with_marks ts t.literal_tokens lists in
    record {
      values = t.values;
      literals = t.literals;
      literal_tokens = t.literal_tokens;
      isolated = λ mode. subst (IsTokens mode text) tokens (t.isolated mode);
      no_escapes = subst HoldNoEscapes tokens t.no_escapes;
      no_cause = none;
      looked_up = l ∙ (ap (lookup (positional values)) (sym (names-with_marks ts)) ∙ t.looked_up);
      in_range = t.in_range;
      written = t.written;
      text_is = exact;
      tokens_of_literals = t.tokens_of_literals;
    }

pub is_wide_text : (query : List ℕ) (ts : List Token) (given : Given) (text : List ℕ) → Agree query → IsTokensIn (wide_reading true) query ts →
    IsGivenText steady_literal_of IsSteadyFor ts given text → IsTextInBothModes ts given text
is_wide_text query ts given text none is g =
    from_marks ts given g.values text g.looked_up g.no_cause
    (in_both_modes (text_of (with_marks ts)) (with_marks ts) (positional g.values) text (marked_reading (wide_reading true) query ts is)
    (marked_no_escapes ts (wide_no_escapes query ts none is)) (marked_given (wide_reading true) query ts given text is g))

-- ---- by the query with its names in lower case

module _ (query : List ℕ) (ts : List Token) (given : Given) (text : List ℕ) (none : Agree query) (is : IsTokensIn (wide_reading true) query ts) where
  low_both : (mode : Bool) → IsTokens mode (text_of (lower_names ts)) (lower_names ts)
  low_both mode = subst (λ (vs : List Token). IsTokens mode (text_of (lower_names vs)) (lower_names vs)) (sym is.2) (lowered_tokens mode query is.0 (own_in_each query is.0 none is.1 mode))

  names_are : All IsWideName (names ts)
  names_are = names_in_reading (wide_reading true) query ts is

  pub is_wide_both : IsPortable (lower_names ts) → IsTextInBothModes ts given text → IsWideTextInBothModes ts given text
  is_wide_both p t = record {
    text_in_both_modes = t;
    portable = p;
    portable_text = lowered_portable ts given text names_are low_both p t;
  }

  wide_both_on_servers : (t : IsWideTextInBothModes ts given text) →
      IsReadInBothModes (text_of (lower_names ts)) ts (λ us. with_literal_tokens us t.text_in_both_modes.literal_tokens) text
  wide_both_on_servers t = lowered_on_servers ts given text names_are low_both t.portable t.text_in_both_modes

pub wide_read_in_both : (mode : Bool) (query text : List ℕ) (ts : List Token) (given : Given) → IsTokensIn (wide_reading mode) query ts →
    (t : IsWideTextInBothModes ts given text) →
    IsReadInBothModes (text_of (lower_names ts)) ts (λ us. with_literal_tokens us t.text_in_both_modes.literal_tokens) text
wide_read_in_both mode query text ts given is t =
    let none : HoldNoEscapes ts = no_escapes_out ts t.text_in_both_modes.literal_tokens t.text_in_both_modes.no_escapes in
    let own : HoldNoEscapes is.0 = no_escapes_back false is.0 (subst HoldNoEscapes is.2 none) in
    let in_true : IsTokens true query is.0 = tokens_other mode true query is.0 own is.1 in
    wide_both_on_servers query ts given text (is.0, in_true, own) (is.0, in_true, is.2) t
