-- Facts about a text for both modes: no place is left in it, bound again it stays as it is, bound
-- by position it is the same, and equal texts have the same contents.
use Rattle.std.specs.Prelude.{Bool}
use Rattle.std.proofs.Common.{◌≡◌, ◌+◌, ℕ, true, List, [], length, map, sym, ap, ◌∙◌, subst, arith, Some}
use Rattle.std.proofs.lemmas.List.{nil_from_length}
use Rattle.mysql_values.specs.Content.{content_of}
use Rattle.mysql_named_params.specs.Tokens.{Token, IsTokens}
use Rattle.mysql_named_params.specs.Places.{names, marks, with_marks, place_count}
use Rattle.mysql_named_params.proofs.TokenRowLemmas.{place_count-sum}
use Rattle.mysql_named_params.proofs.ReparsedLemmas.{marked_reading, names-with_marks, names_in_reading}
use Rattle.mysql_named_params.proofs.TokenListLemmas.{one_token_list}
use Rattle.mysql_named_params.specs.Reading.{IsTokensIn}
use Rattle.mysql_named_params.specs.declared.places.Reading.{Reading}
use Rattle.mysql_portable.specs.Steady.{HoldNoEscapes}
use Rattle.mysql_portable.proofs.OtherModeLemmas.{tokens_other}
use Rattle.mysql_params_core.specs.Given.{Given, empty, positional}
use Rattle.mysql_params_core.specs.Lookup.{lookup}
use Rattle.mysql_binding.specs.Contents.{contents_between}
use Rattle.mysql_binding.specs.Pieces.{pieces, joined_text}
use Rattle.mysql_binding.specs.Replaced.{with_literal_tokens}
use Rattle.mysql_binding.proofs.BoundAgainLemmas.{pieces-with_marks, with_literal_tokens-with_marks}
use Rattle.mysql_binding.proofs.CauseLemmas.{no_cause_left, no_cause_parts, no_cause_renamed, no_float_cause, no_place_out, value_each}
use Rattle.mysql_binding.proofs.PieceLemmas.{bound_none, joined_text_count, joined_text-pieces_from}
use Rattle.mysql_binding.proofs.SpliceLemmas.{as_many_lists}
use Rattle.mysql_steady_text.specs.ReadSteadyLiteral.{read_steady_literal}
use Rattle.mysql_steady_text.specs.BothModesText.{IsTextInBothModes, IsBoundAgainInBothModes, IsByPositionInBothModes}
use Rattle.mysql_steady_text.proofs.SteadySpliceLemmas.{steady_places}
use Rattle.mysql_steady_text.proofs.BothModesTextLemmas.{in_both_modes, said_in_both, shapes_of}

-- ---- no place is left

places_of : (ts : List Token) (given : Given) (text : List ℕ) → (t : IsTextInBothModes ts given text) →
    place_count (with_literal_tokens ts t.literal_tokens) ≡ 0
places_of ts given text t =
    let parts = no_cause_parts ts given t.values t.no_cause t.looked_up in
    steady_places true text ts t.literals t.literal_tokens (no_place_out ts t.values parts.1) (shapes_of t.values t.literals t.in_range t.written) (t.tokens_of_literals true) t.text_is

pub no_place_is_left : (mode : Bool) (ts us : List Token) (given : Given) (text : List ℕ) →
    IsTextInBothModes ts given text → IsTokens mode text us → place_count us ≡ 0
no_place_is_left mode ts us given text t is =
    let same : with_literal_tokens ts t.literal_tokens ≡ us = one_token_list mode text (with_literal_tokens ts t.literal_tokens) us (t.isolated mode) is in
    subst (λ vs. place_count vs ≡ 0) same (places_of ts given text t)

-- ---- bound again

nothing_bound : (us : List Token) (text : List ℕ) → IsTokens true text us → HoldNoEscapes us → place_count us ≡ 0 →
    IsTextInBothModes us empty text
nothing_bound us text is no_escapes none =
    let all : place_count us ≡ length (names us) + marks us = place_count-sum us in
    let no_names : names us ≡ [] = nil_from_length (names us) (omega (arith, none, all)) in
    in_both_modes text us empty text is no_escapes (record {
      no_cause = no_cause_left us none;
      values = [];
      looked_up = ap (lookup empty) no_names;
      written_text = record {
        literals = [];
        written = tt;
        text_is = joined_text-pieces_from [] us [] (sym none) ∙ ap Some (bound_none us none ∙ is.text);
      };
    })

pub bound_again_is_the_same : (mode : Bool) (ts us : List Token) (given : Given) (text : List ℕ) →
    IsTextInBothModes ts given text → IsTokens mode text us → IsTextInBothModes us empty text
bound_again_is_the_same mode ts us given text t is =
    let same : with_literal_tokens ts t.literal_tokens ≡ us = one_token_list mode text (with_literal_tokens ts t.literal_tokens) us (t.isolated mode) is in
    let none : HoldNoEscapes us = subst HoldNoEscapes same t.no_escapes in
    nothing_bound us text (tokens_other mode true text us none is) none (no_place_is_left mode ts us given text t is)

-- ---- by position

pub by_position_is_the_same : (reading : Reading) (query text : List ℕ) (ts : List Token) (given : Given) → IsTokensIn reading query ts →
    (t : IsTextInBothModes ts given text) → IsTextInBothModes (with_marks ts) (positional t.values) text
by_position_is_the_same reading query text ts given is t =
    let parts = no_cause_parts ts given t.values t.no_cause t.looked_up in
    let room = value_each ts given t.values parts.0 t.looked_up parts.1 in
    let lists : length t.literal_tokens ≡ place_count ts = as_many_lists true t.literals t.literal_tokens (t.tokens_of_literals true) ∙ joined_text_count [] ts t.literals text t.text_is in
    let same : pieces (with_marks ts) ≡ pieces ts = pieces-with_marks [] ts in
    let tokens : with_literal_tokens (with_marks ts) t.literal_tokens ≡ with_literal_tokens ts t.literal_tokens = with_literal_tokens-with_marks ts t.literal_tokens lists in
    record {
      values = t.values;
      literals = t.literals;
      literal_tokens = t.literal_tokens;
      isolated = λ other. subst (IsTokens other text) (sym tokens) (t.isolated other);
      no_escapes = subst HoldNoEscapes (sym tokens) t.no_escapes;
      no_cause = no_cause_renamed ts t.values (names_in_reading reading query ts is) room (no_place_out ts t.values parts.1) (no_float_cause ts t.values parts.1);
      looked_up = ap (lookup (positional t.values)) (names-with_marks ts);
      in_range = t.in_range;
      written = t.written;
      text_is = ap (λ ps. joined_text ps t.literals) same ∙ t.text_is;
      tokens_of_literals = t.tokens_of_literals;
    }

-- ---- equal texts

pub equal_texts_say_the_same : (mode : Bool) (query text : List ℕ) (ts us : List Token) (a b : Given) →
    IsTokens mode query ts → IsTokens mode query us → (x : IsTextInBothModes ts a text) → (y : IsTextInBothModes us b text) →
    map content_of x.values ≡ map content_of y.values
equal_texts_say_the_same mode query text ts us a b is is' x y =
    let tokens : ts ≡ us = one_token_list mode query ts us is is' in
    let p = said_in_both ts a text x in
    let q = said_in_both us b text y in
    let same : Some p.contents ≡ Some q.contents = sym (p.read_back true) ∙ (ap (λ l. contents_between (read_steady_literal true) (pieces l) text) tokens ∙ q.read_back true) in
    let said : p.contents ≡ q.contents = cc in
    p.contents_are ∙ (ap (map Some) said ∙ sym q.contents_are)

-- ---- as the calls promise it

pub again_of : (ts : List Token) (given : Given) (text : List ℕ) → IsTextInBothModes ts given text → IsBoundAgainInBothModes text
again_of ts given text t mode =
    let us = with_literal_tokens ts t.literal_tokens in
    (us, t.isolated mode, (places_of ts given text t, bound_again_is_the_same mode ts us given text t (t.isolated mode)))

pub positioned_of : (reading : Reading) (query : List ℕ) (ts : List Token) (given : Given) (text : List ℕ) → IsTokensIn reading query ts →
    IsTextInBothModes ts given text → IsByPositionInBothModes reading.no_backslash_escape ts given text
positioned_of reading query ts given text is t =
    (t.values, t.looked_up, (with_marks ts, marked_reading reading query ts is, by_position_is_the_same reading query text ts given is t))
