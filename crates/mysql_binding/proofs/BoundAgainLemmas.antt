-- Facts about a bound text. No place is left in it. Bound again, it stays as it is. Bound by
-- position, it is the same. Equal texts say the same.
use Rattle.std.proofs.Common.{◌≡◌, Bool, ℕ, ◌+◌, List, [], ◌∷◌, ◌++◌, length, map, refl, sym, ap, ◌∙◌, subst, arith, Some}
use Rattle.std.proofs.lemmas.List.{nil_from_length}
use Rattle.mysql_values.specs.Content.{content_of}
use Rattle.mysql_sql_text.specs.ReadLiteral.{read_literal}
use Rattle.mysql_named_params.specs.Tokens.{Token, IsTokens, bytes_of, Name, Mark}
use Rattle.mysql_named_params.specs.Places.{names, marks, with_marks, place_count}
use Rattle.mysql_named_params.proofs.TokenRowLemmas.{place_count-sum}
use Rattle.mysql_named_params.proofs.ReparsedLemmas.{marked_reading, names_in_reading, names-with_marks}
use Rattle.mysql_named_params.proofs.TokenListLemmas.{one_token_list}
use Rattle.mysql_named_params.specs.Reading.{IsTokensIn, OnTokensIn}
use Rattle.mysql_named_params.specs.declared.places.Reading.{Reading}
use Rattle.mysql_params_core.specs.Given.{Given, empty, positional}
use Rattle.mysql_params_core.specs.Lookup.{lookup}
use Rattle.mysql_binding.specs.BoundAgain.{IsSameBoundAgain, IsSameByPosition}
use Rattle.mysql_binding.specs.Isolation.{IsBoundText}
use Rattle.mysql_binding.specs.Pieces.{pieces, pieces_from, joined_text}
use Rattle.mysql_binding.specs.Contents.{contents_between, AreReadInPlace}
use Rattle.mysql_binding.specs.Replaced.{with_literal_tokens}
use Rattle.mysql_binding.proofs.CauseLemmas.{no_cause_left, no_cause_renamed, no_cause_parts, no_float_cause, no_place_out, value_each}
use Rattle.mysql_binding.proofs.ContentsLemmas as read
use Rattle.mysql_binding.proofs.PieceLemmas.{bound_none, joined_text_count, joined_text-pieces_from}
use Rattle.mysql_binding.proofs.RenamedPlaceLemmas.{no_place_alone}
use Rattle.mysql_binding.proofs.ReplacedLemmas.{isolated_places}
use Rattle.mysql_binding.proofs.SpliceLemmas.{as_many_lists}

-- ---- no place is left

pub no_place_is_left : (mode : Bool) (ts us : List Token) (given : Given) (text : List ℕ) →
    IsBoundText mode ts given text → IsTokens mode text us → place_count us ≡ 0
no_place_is_left mode ts us given text bound is =
    let same : with_literal_tokens ts bound.literal_tokens ≡ us = one_token_list mode text (with_literal_tokens ts bound.literal_tokens) us bound.isolated is in
    let none : place_count (with_literal_tokens ts bound.literal_tokens) ≡ 0 = isolated_places mode text ts bound.literals bound.literal_tokens bound.shapes bound.tokens_of_literals bound.text_is in
    subst (λ vs. place_count vs ≡ 0) same none

-- ---- bound again

with_literal_tokens-no_place : (us : List Token) → place_count us ≡ 0 → with_literal_tokens us [] ≡ us
with_literal_tokens-no_place [] e = refl
with_literal_tokens-no_place (Name name ∷ us) e = absurd (omega arith)
with_literal_tokens-no_place (Mark ∷ us) e = absurd (omega arith)
with_literal_tokens-no_place (t ∷ us) e = ap (λ vs. t ∷ vs) (with_literal_tokens-no_place us e)

-- a text without places is the text that is bound to nothing
nothing_bound : (mode : Bool) (us : List Token) (text : List ℕ) → IsTokens mode text us →
    place_count us ≡ 0 → IsBoundText mode us empty text
nothing_bound mode us text is none =
    let all : place_count us ≡ length (names us) + marks us = place_count-sum us in
    let no_names : names us ≡ [] = nil_from_length (names us) (omega (arith, none, all)) in
    let whole = bound_none us none ∙ is.text in
    let alone = no_place_alone us 0 [] none in
    record {
      no_cause = no_cause_left us none;
      values = [];
      looked_up = ap (lookup empty) no_names;
      literals = [];
      written = refl;
      shapes = tt;
      text_is = joined_text-pieces_from [] us [] (sym none) ∙ ap Some whole;
      literal_tokens = [];
      tokens_of_literals = tt;
      isolated = subst (IsTokens mode text) (sym (with_literal_tokens-no_place us none)) is;
      contents = [];
      contents_are = refl;
      reads_in_place = tt;
      read_back = rw (← whole) (read.contents_of_bound (read_literal mode) us 0 [] [] [] [] alone tt (sym none));
    }

pub bound_again_is_the_same : (mode : Bool) (ts us : List Token) (given : Given) (text : List ℕ) →
    IsBoundText mode ts given text → IsTokens mode text us → IsBoundText mode us empty text
bound_again_is_the_same mode ts us given text bound is =
    nothing_bound mode us text is (no_place_is_left mode ts us given text bound is)

-- ---- by position

pub pieces-with_marks : (piece : List ℕ) (ts : List Token) →
    pieces_from piece (with_marks ts) ≡ pieces_from piece ts
pieces-with_marks piece [] = refl
pieces-with_marks piece (Name name ∷ ts) = ap (λ ps. piece ∷ ps) (pieces-with_marks [] ts)
pieces-with_marks piece (Mark ∷ ts) = ap (λ ps. piece ∷ ps) (pieces-with_marks [] ts)
pieces-with_marks piece (t ∷ ts) = pieces-with_marks (piece ++ bytes_of t) ts

pub with_literal_tokens-with_marks : (ts : List Token) (lists : List (List Token)) → length lists ≡ place_count ts →
    with_literal_tokens (with_marks ts) lists ≡ with_literal_tokens ts lists
with_literal_tokens-with_marks [] lists e = refl
with_literal_tokens-with_marks (Name name ∷ ts) [] e = absurd (omega arith)
with_literal_tokens-with_marks (Name name ∷ ts) (list ∷ lists) e = ap (λ us. list ++ us) (with_literal_tokens-with_marks ts lists (omega arith))
with_literal_tokens-with_marks (Mark ∷ ts) [] e = absurd (omega arith)
with_literal_tokens-with_marks (Mark ∷ ts) (list ∷ lists) e = ap (λ us. list ++ us) (with_literal_tokens-with_marks ts lists (omega arith))
with_literal_tokens-with_marks (t ∷ ts) lists e = ap (λ us. t ∷ us) (with_literal_tokens-with_marks ts lists e)

pub by_position_is_the_same : (reading : Reading) (query text : List ℕ) (ts : List Token) (given : Given) →
    IsTokensIn reading query ts → (bound : IsBoundText reading.no_backslash_escape ts given text) →
    IsBoundText reading.no_backslash_escape (with_marks ts) (positional bound.values) text
by_position_is_the_same reading query text ts given is bound =
    let mode = reading.no_backslash_escape in
    let parts = no_cause_parts ts given bound.values bound.no_cause bound.looked_up in
    let room = value_each ts given bound.values parts.0 bound.looked_up parts.1 in
    let count = joined_text_count [] ts bound.literals text bound.text_is in
    let lists : length bound.literal_tokens ≡ place_count ts = as_many_lists mode bound.literals bound.literal_tokens bound.tokens_of_literals ∙ count in
    let same : pieces (with_marks ts) ≡ pieces ts = pieces-with_marks [] ts in
    record {
      no_cause = no_cause_renamed ts bound.values (names_in_reading reading query ts is) room (no_place_out ts bound.values parts.1) (no_float_cause ts bound.values parts.1);
      values = bound.values;
      looked_up = ap (lookup (positional bound.values)) (names-with_marks ts);
      literals = bound.literals;
      written = bound.written;
      shapes = bound.shapes;
      text_is = ap (λ ps. joined_text ps bound.literals) same ∙ bound.text_is;
      literal_tokens = bound.literal_tokens;
      tokens_of_literals = bound.tokens_of_literals;
      isolated = subst (IsTokens mode text) (sym (with_literal_tokens-with_marks ts bound.literal_tokens lists)) bound.isolated;
      contents = bound.contents;
      contents_are = bound.contents_are;
      reads_in_place = subst (λ ps. AreReadInPlace (read_literal mode) ps bound.literals bound.contents) (sym same) bound.reads_in_place;
      read_back = ap (λ ps. contents_between (read_literal mode) ps text) same ∙ bound.read_back;
    }

-- ---- as the calls that bind promise it

pub same_bound_again : (reading : Reading) (query text : List ℕ) (given : Given) →
    OnTokensIn reading query (λ ts. IsBoundText reading.no_backslash_escape ts given text) →
    IsSameBoundAgain reading.no_backslash_escape text
same_bound_again reading query text given o =
    let mode = reading.no_backslash_escape in
    let us = with_literal_tokens o.0 o.2.literal_tokens in
    let is : IsTokens mode text us = o.2.isolated in
    (us, is, (no_place_is_left mode o.0 us given text o.2 is, bound_again_is_the_same mode o.0 us given text o.2 is))

pub same_by_position : (reading : Reading) (query text : List ℕ) (given : Given) →
    OnTokensIn reading query (λ ts. IsBoundText reading.no_backslash_escape ts given text) →
    OnTokensIn reading query (λ ts. IsSameByPosition reading.no_backslash_escape ts given text)
same_by_position reading query text given o =
    let by_position = by_position_is_the_same reading query text o.0 given o.1 o.2 in
    (o.0, o.1, (o.2.values, o.2.looked_up, (with_marks o.0, marked_reading reading query o.0 o.1, by_position)))

-- ---- equal texts

pub equal_texts_say_the_same : (mode : Bool) (query text : List ℕ) (ts us : List Token) (a b : Given) →
    IsTokens mode query ts → IsTokens mode query us →
    (x : IsBoundText mode ts a text) → (y : IsBoundText mode us b text) →
    map content_of x.values ≡ map content_of y.values
equal_texts_say_the_same mode query text ts us a b is is' x y =
    let tokens : ts ≡ us = one_token_list mode query ts us is is' in
    let same : Some x.contents ≡ Some y.contents = sym x.read_back ∙ (ap (λ l. contents_between (read_literal mode) (pieces l) text) tokens ∙ y.read_back) in
    let said : x.contents ≡ y.contents = cc in
    x.contents_are ∙ (ap (map Some) said ∙ sym y.contents_are)
