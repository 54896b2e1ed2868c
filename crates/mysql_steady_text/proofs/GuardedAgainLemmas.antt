-- Facts about a guarded text: no place is left in it, bound again it stays as it is, and bound by
-- position it is the same.
use Rattle.std.specs.Prelude.{Bool, not, Result, Ok, Err, IfOk}
use Rattle.std.proofs.Common.{◌≡◌, ◌+◌, ℕ, true, List, [], length, sym, ap, ◌∙◌, subst, arith, Some}
use Rattle.std.proofs.lemmas.List.{nil_from_length}
use Rattle.mysql_named_params.specs.Tokens.{Token, IsTokens, OnTokens}
use Rattle.mysql_named_params.specs.Places.{names, marks, with_marks, place_count}
use Rattle.mysql_named_params.specs.Reading.{IsTokensIn, grammar_reading}
use Rattle.mysql_named_params.specs.declared.places.Reading.{Reading}
use Rattle.mysql_named_params.proofs.ReparsedLemmas.{marked_reading, names-with_marks, names_in_reading}
use Rattle.mysql_named_params.proofs.TokenListLemmas.{one_token_list}
use Rattle.mysql_named_params.proofs.TokenRowLemmas.{place_count-sum}
use Rattle.mysql_portable.specs.CharacterSet.{CharacterSet, seen}
use Rattle.mysql_params_core.specs.Given.{Given, empty, positional}
use Rattle.mysql_params_core.specs.Lookup.{lookup}
use Rattle.mysql_binding.specs.BoundAgain.{IsSameBoundAgain}
use Rattle.mysql_binding.specs.Isolation.{IsBoundText}
use Rattle.mysql_binding.specs.Pieces.{pieces, joined_text}
use Rattle.mysql_binding.specs.Replaced.{with_literal_tokens}
use Rattle.mysql_binding.proofs.BoundTextLemmas.{is_bound_text}
use Rattle.mysql_binding.proofs.BoundAgainLemmas.{pieces-with_marks, with_literal_tokens-with_marks}
use Rattle.mysql_binding.proofs.CauseLemmas.{no_cause_left, no_cause_parts, no_cause_renamed, no_float_cause, no_place_out, value_each}
use Rattle.mysql_binding.proofs.PieceLemmas.{bound_none, joined_text_count, joined_text-pieces_from}
use Rattle.mysql_binding.proofs.SpliceLemmas.{as_many_lists}
use Rattle.mysql_steady_text.specs.GuardedAgain.{IsGuardedByPosition}
use Rattle.mysql_steady_text.specs.GuardedText.{IsGuardedText}
use Rattle.mysql_steady_text.specs.ReadGuarded.{AreReadOver}
use Rattle.mysql_steady_text.specs.SeenText.{IsIsolatedOver}
use Rattle.mysql_steady_text.proofs.GuardedSpliceLemmas.{guarded_places}
use Rattle.mysql_steady_text.proofs.GuardedTextLemmas.{alone_in}

-- ---- no place is left

places_of : (written : Bool) (ts : List Token) (given : Given) (text : List ℕ) → (t : IsGuardedText written ts given text) →
    place_count (with_literal_tokens ts t.literal_tokens) ≡ 0
places_of written ts given text t =
    guarded_places true text ts t.literals t.literal_tokens (alone_in written ts given text t) t.shapes (t.tokens_of_literals true) t.text_is

pub no_place_is_left : (mode written : Bool) (ts us : List Token) (given : Given) (text : List ℕ) →
    IsGuardedText written ts given text → IsTokens mode text us → place_count us ≡ 0
no_place_is_left mode written ts us given text t is =
    let same : with_literal_tokens ts t.literal_tokens ≡ us = one_token_list mode text (with_literal_tokens ts t.literal_tokens) us (t.isolated mode) is in
    subst (λ vs. place_count vs ≡ 0) same (places_of written ts given text t)

-- ---- bound again

pub bound_again_is_the_same : (mode written : Bool) (ts us : List Token) (given : Given) (text : List ℕ) →
    IsGuardedText written ts given text → IsTokens mode text us → IsBoundText mode us empty text
bound_again_is_the_same mode written ts us given text t is =
    let none : place_count us ≡ 0 = no_place_is_left mode written ts us given text t is in
    let all : place_count us ≡ length (names us) + marks us = place_count-sum us in
    let no_names : names us ≡ [] = nil_from_length (names us) (omega (arith, none, all)) in
    is_bound_text (grammar_reading mode) text us empty text is (record {
      no_cause = no_cause_left us none;
      values = [];
      looked_up = ap (lookup empty) no_names;
      written_text = record {
        literals = [];
        written = tt;
        text_is = joined_text-pieces_from [] us [] (sym none) ∙ ap Some (bound_none us none ∙ is.text);
      };
    })

-- ---- by position

isolated_by_position : (set : CharacterSet) (ts : List Token) (literals : List (List ℕ)) (text : List ℕ) → length literals ≡ place_count ts →
    IsIsolatedOver set ts literals text → IsIsolatedOver set (with_marks ts) literals text
isolated_by_position set ts literals text count o =
    let v = o.in_places in
    let same : pieces (with_marks ts) ≡ pieces ts = pieces-with_marks [] ts in
    let exact : joined_text (pieces (with_marks ts)) v.shown ≡ Some (seen set text) = ap (λ ps. joined_text ps v.shown) same ∙ v.text_is in
    let lists : length o.shown_tokens ≡ place_count ts = as_many_lists true v.shown o.shown_tokens (o.tokens_of_shown true) ∙ joined_text_count [] ts v.shown (seen set text) v.text_is in
    let tokens : with_literal_tokens (with_marks ts) o.shown_tokens ≡ with_literal_tokens ts o.shown_tokens = with_literal_tokens-with_marks ts o.shown_tokens lists in
    record {
      in_places = record { shown = v.shown; shapes = v.shapes; as_long = v.as_long; text_is = exact };
      shown_tokens = o.shown_tokens;
      tokens_of_shown = o.tokens_of_shown;
      isolated = λ mode. subst (IsTokens mode (seen set text)) (sym tokens) (o.isolated mode);
    }

pub by_position_is_the_same : (reading : Reading) (written : Bool) (query text : List ℕ) (ts : List Token) (given : Given) →
    IsTokensIn reading query ts → (t : IsGuardedText written ts given text) → IsGuardedText written (with_marks ts) (positional t.values) text
by_position_is_the_same reading written query text ts given is t =
    let parts = no_cause_parts ts given t.values t.no_cause t.looked_up in
    let room = value_each ts given t.values parts.0 t.looked_up parts.1 in
    let count = joined_text_count [] ts t.literals text t.text_is in
    let lists : length t.literal_tokens ≡ place_count ts = as_many_lists true t.literals t.literal_tokens (t.tokens_of_literals true) ∙ count in
    let same : pieces (with_marks ts) ≡ pieces ts = pieces-with_marks [] ts in
    let tokens : with_literal_tokens (with_marks ts) t.literal_tokens ≡ with_literal_tokens ts t.literal_tokens = with_literal_tokens-with_marks ts t.literal_tokens lists in
    record {
      values = t.values;
      literals = t.literals;
      literal_tokens = t.literal_tokens;
      contents = t.contents;
      other_contents = t.other_contents;
      isolated = λ mode. subst (IsTokens mode text) (sym tokens) (t.isolated mode);
      isolated_over = λ set client. isolated_by_position set ts t.literals text count (t.isolated_over set client);
      reads_in_place = λ set client. subst (λ ps. AreReadOver set written ps t.literals t.contents) (sym same) (t.reads_in_place set client);
      nearly_in_place = λ set client. subst (λ ps. AreReadOver set (not written) ps t.literals t.other_contents) (sym same) (t.nearly_in_place set client);
      nearly = t.nearly;
      no_cause = no_cause_renamed ts t.values (names_in_reading reading query ts is) room (no_place_out ts t.values parts.1) (no_float_cause ts t.values parts.1);
      looked_up = ap (lookup (positional t.values)) (names-with_marks ts);
      written = t.written;
      shapes = t.shapes;
      kept_apart = t.kept_apart;
      text_is = ap (λ ps. joined_text ps t.literals) same ∙ t.text_is;
      tokens_of_literals = t.tokens_of_literals;
      contents_are = t.contents_are;
    }

-- ---- as the calls promise it

pub again_of : (written : Bool) (ts : List Token) (given : Given) (text : List ℕ) → IsGuardedText written ts given text →
    (mode : Bool) → IsSameBoundAgain mode text
again_of written ts given text t mode =
    let us = with_literal_tokens ts t.literal_tokens in
    (us, t.isolated mode, (places_of written ts given text t, bound_again_is_the_same mode written ts us given text t (t.isolated mode)))

pub positioned_of : (reading : Reading) (written : Bool) (query : List ℕ) (ts : List Token) (given : Given) (text : List ℕ) → IsTokensIn reading query ts →
    IsGuardedText written ts given text → IsGuardedByPosition reading.no_backslash_escape written ts given text
positioned_of reading written query ts given text is t =
    (t.values, t.looked_up, (with_marks ts, marked_reading reading query ts is, by_position_is_the_same reading written query text ts given is t))

module _ {A E : Type 0} (items : A → List ℕ) (query : List ℕ) (given : Given) (written : Bool) where
  pub answer_bound_again : (mode : Bool) (r : Result A E) → OnTokens mode query (λ ts. IfOk r (λ text. IsGuardedText written ts given (items text))) →
      IfOk r (λ text. (read_mode : Bool) → IsSameBoundAgain read_mode (items text))
  answer_bound_again mode (Ok text) o = again_of written o.0 given (items text) o.2
  answer_bound_again mode (Err e) o = tt

  pub answer_by_position : (mode : Bool) (r : Result A E) → OnTokens mode query (λ ts. IfOk r (λ text. IsGuardedText written ts given (items text))) →
      OnTokens mode query (λ ts. IfOk r (λ text. IsGuardedByPosition mode written ts given (items text)))
  answer_by_position mode (Ok text) o = (o.0, o.1, positioned_of (grammar_reading mode) written query o.0 given (items text) o.1 o.2)
  answer_by_position mode (Err e) o = o
