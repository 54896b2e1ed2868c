-- Guarded texts of queries with wide names: by the query with marks, and by the one with names in
-- lower case.
use Rattle.std.specs.Prelude.{Bool, not}
use Rattle.std.specs.List.{list_all}
use Rattle.std.proofs.lemmas.Bool.{and_from}
use Rattle.std.proofs.lemmas.List.Folds.{list_all-append}
use Rattle.std.proofs.Common.{◌≡◌, ◌∙◌, ℕ, true, List, [], ◌∷◌, None, Some, Ok, length, refl, sym, ap, subst}
use Rattle.mysql_values.specs.declared.value.Value.{Value}
use Rattle.mysql_named_params.specs.LoweredNames.{lower_names}
use Rattle.mysql_named_params.specs.Places.{names, place_count, with_marks}
use Rattle.mysql_named_params.specs.Reading.{IsTokensIn, wide_reading}
use Rattle.mysql_named_params.specs.Tokens.{Token, IsTokens, bytes_of, text_of, Name, Mark}
use Rattle.mysql_named_params.specs.declared.places.Reading.{Reading}
use Rattle.mysql_named_params.proofs.LoweredLemmas.{lowered_tokens}
use Rattle.mysql_named_params.proofs.ReadingLemmas.{reading_text}
use Rattle.mysql_named_params.proofs.ReparsedLemmas.{marked_reading, names_in_reading, names-with_marks}
use Rattle.mysql_portable.specs.CharacterSet.{CharacterSet, seen}
use Rattle.mysql_portable.specs.FirstUnportable.{first_unportable}
use Rattle.mysql_portable.specs.Portable.{AreReadAlikeBefore, IsPortable, IsReadAs}
use Rattle.mysql_portable.specs.Server.{IsReadOn}
use Rattle.mysql_portable.specs.Steady.{first_unsteady, is_steady, IsSteady}
use Rattle.mysql_portable.proofs.OtherModeLemmas.{all_parts}
use Rattle.mysql_portable.proofs.PlaceTextLemmas.{placeless_join_no_number}
use Rattle.mysql_portable.proofs.SteadyLemmas.{none_unsteady, steady_other, steady_seen}
use Rattle.mysql_portable.proofs.UnportableLemmas.{none_is_portable}
use Rattle.mysql_params_core.specs.Given.{Given, positional}
use Rattle.mysql_params_core.specs.Lookup.{lookup}
use Rattle.mysql_binding.specs.FirstCause.{first_cause}
use Rattle.mysql_binding.specs.LiteralForm.{LiteralFacts, Literals}
use Rattle.mysql_binding.specs.Pieces.{pieces, joined_text}
use Rattle.mysql_binding.specs.StandsAlone.{first_not_alone}
use Rattle.mysql_binding.specs.WrittenText.{IsGivenText}
use Rattle.mysql_binding.proofs.BoundAgainLemmas.{pieces-with_marks, with_literal_tokens-with_marks}
use Rattle.mysql_binding.proofs.CauseLemmas.{no_cause_parts, no_cause_renamed, no_float_cause, no_place_out, value_each}
use Rattle.mysql_binding.proofs.PieceLemmas.{joined_text_count}
use Rattle.mysql_binding.proofs.SpliceLemmas.{as_many_lists}
use Rattle.mysql_steady_text.specs.GuardedLiteral.{guarded_literal_of}
use Rattle.mysql_steady_text.specs.GuardedLiterals.{IsGuardedFor}
use Rattle.mysql_steady_text.specs.GuardedText.{IsGuardedText}
use Rattle.mysql_steady_text.specs.ReadGuarded.{AreReadOver}
use Rattle.mysql_steady_text.specs.SeenText.{IsIsolatedOver}
use Rattle.mysql_steady_text.proofs.GuardedSpliceLemmas.{guarded_on, guarded_places, guarded_portable, guarded_read}
use Rattle.mysql_steady_text.proofs.GuardedTextLemmas.{alone_in, is_guarded_text}
use Rattle.mysql_steady_text.proofs.WideSteadyLemmas.{first_not_alone-lowered, lowered_steady, pieces-lowered, wide_other, with_literal_tokens-lowered}
use Rattle.mysql_flat_params.specs.GuardedIntoRoom.{IsWideBoundGuarded, IsWideGuardedText}
use Rattle.mysql_flat_params.specs.WideSteadyIntoRoom.{wide_anywhere_refusal}
use Rattle.mysql_flat_params.specs.declared.outcome.Outcome.TheVariants as variant
use Rattle.mysql_flat_params.proofs.SteadyRoomLemmas.{none_told}

-- ---- by the query with marks

-- the values that are given to the query are given to it with marks, by position
given_to_marks : (literal : Literals) (IsKnown : LiteralFacts) (reading : Reading) (query : List ℕ) (ts : List Token) (given : Given) (text : List ℕ) → IsTokensIn reading query ts →
    (g : IsGivenText literal IsKnown ts given text) → IsGivenText literal IsKnown (with_marks ts) (positional g.values) text
given_to_marks literal IsKnown reading query ts given text is g =
    let parts = no_cause_parts ts given g.values g.no_cause g.looked_up in
    let room = value_each ts given g.values parts.0 g.looked_up parts.1 in
    record {
      no_cause = no_cause_renamed ts g.values (names_in_reading reading query ts is) room (no_place_out ts g.values parts.1) (no_float_cause ts g.values parts.1);
      values = g.values;
      looked_up = ap (lookup (positional g.values)) (names-with_marks ts);
      written_text = record {
        literals = g.written_text.literals;
        written = g.written_text.written;
        text_is = ap (λ ps. joined_text ps g.written_text.literals) (pieces-with_marks [] ts) ∙ g.written_text.text_is;
      };
    }

module _ (ts : List Token) (literals : List (List ℕ)) (text : List ℕ) where
  over_from_marks : (set : CharacterSet) → IsIsolatedOver set (with_marks ts) literals text → IsIsolatedOver set ts literals text
  over_from_marks set o =
      let p = o.in_places in
      let exact : joined_text (pieces ts) p.shown ≡ Some (seen set text) = ap (λ ps. joined_text ps p.shown) (sym (pieces-with_marks [] ts)) ∙ p.text_is in
      let lists : length o.shown_tokens ≡ place_count ts = as_many_lists true p.shown o.shown_tokens (o.tokens_of_shown true) ∙ joined_text_count [] ts p.shown (seen set text) exact in
      record {
        in_places = record { shown = p.shown; shapes = p.shapes; as_long = p.as_long; text_is = exact };
        shown_tokens = o.shown_tokens;
        tokens_of_shown = o.tokens_of_shown;
        isolated = λ mode. subst (IsTokens mode (seen set text)) (with_literal_tokens-with_marks ts o.shown_tokens lists) (o.isolated mode);
      }

-- the guarded text of the query with marks is that of the query
from_marks : (written : Bool) (ts : List Token) (given : Given) (values : List Value) (text : List ℕ) →
    lookup given (names ts) ≡ Ok values → first_cause ts given ≡ None →
    IsGuardedText written (with_marks ts) (positional values) text → IsGuardedText written ts given text
from_marks written ts given values text l none t =
    let same : pieces (with_marks ts) ≡ pieces ts = pieces-with_marks [] ts in
    let exact : joined_text (pieces ts) t.literals ≡ Some text = ap (λ ps. joined_text ps t.literals) (sym same) ∙ t.text_is in
    let lists : length t.literal_tokens ≡ place_count ts = as_many_lists true t.literals t.literal_tokens (t.tokens_of_literals true) ∙ joined_text_count [] ts t.literals text exact in
    record {
      values = t.values;
      literals = t.literals;
      literal_tokens = t.literal_tokens;
      contents = t.contents;
      other_contents = t.other_contents;
      isolated = λ mode. subst (IsTokens mode text) (with_literal_tokens-with_marks ts t.literal_tokens lists) (t.isolated mode);
      isolated_over = λ set client. over_from_marks ts t.literals text set (t.isolated_over set client);
      reads_in_place = λ set client. subst (λ ps. AreReadOver set written ps t.literals t.contents) same (t.reads_in_place set client);
      nearly_in_place = λ set client. subst (λ ps. AreReadOver set (not written) ps t.literals t.other_contents) same (t.nearly_in_place set client);
      nearly = t.nearly;
      no_cause = none;
      looked_up = l ∙ (ap (lookup (positional values)) (sym (names-with_marks ts)) ∙ t.looked_up);
      written = t.written;
      shapes = t.shapes;
      kept_apart = t.kept_apart;
      text_is = exact;
      tokens_of_literals = t.tokens_of_literals;
      contents_are = t.contents_are;
    }

own_steady : (reading : Reading) (query : List ℕ) (ts : List Token) → IsTokensIn reading query ts → IsSteady query → list_all is_steady (text_of ts) ≡ true
own_steady reading query ts is steady = subst (λ (x : List ℕ). list_all is_steady x ≡ true) (sym (reading_text reading query ts is)) steady

-- a test that `?` passes, and each byte of a query, is passed by each byte of the query with marks
marked_all : (test : ℕ → Bool) → list_all test (bytes_of Mark) ≡ true → (ts : List Token) → list_all test (text_of ts) ≡ true → list_all test (text_of (with_marks ts)) ≡ true
marked_all test q [] h = refl
marked_all test q (Name name ∷ ts) h =
    list_all-append test (bytes_of Mark) (text_of (with_marks ts)) ∙ and_from _ _ q (marked_all test q ts (all_parts test (bytes_of (Name name)) (text_of ts) h).1)
marked_all test q (Mark ∷ ts) h =
    list_all-append test (bytes_of Mark) (text_of (with_marks ts)) ∙ and_from _ _ q (marked_all test q ts (all_parts test (bytes_of Mark) (text_of ts) h).1)
marked_all test q (t ∷ ts) h =
    let p = all_parts test (bytes_of t) (text_of ts) h in
    list_all-append test (bytes_of t) (text_of (with_marks ts)) ∙ and_from _ _ p.0 (marked_all test q ts p.1)

guarded_text_in : (written : Bool) (reading : Reading) (query : List ℕ) (ts : List Token) (given : Given) (text : List ℕ) → IsTokensIn reading query ts →
    IsSteady query → IsGivenText (guarded_literal_of written) (IsGuardedFor written) ts given text → IsGuardedText written ts given text
guarded_text_in written reading query ts given text is steady g =
    let marked = marked_all is_steady refl ts (own_steady reading query ts is steady) in
    let marks = marked_reading reading query ts is in
    from_marks written ts given g.values text g.looked_up g.no_cause
    (is_guarded_text written (text_of (with_marks ts)) (with_marks ts) (positional g.values) text
    (λ other. steady_other reading.no_backslash_escape other (text_of (with_marks ts)) (with_marks ts) marked marks) marked
    (given_to_marks (guarded_literal_of written) (IsGuardedFor written) reading query ts given text is g))

-- ---- by the query with its names in lower case

is_wide_guarded_text : (written : Bool) (query : List ℕ) (ts : List Token) (given : Given) (text : List ℕ) → IsTokensIn (wide_reading true) query ts →
    IsSteady query → IsPortable (lower_names ts) → IsGuardedText written ts given text → IsWideGuardedText written ts given text
is_wide_guarded_text written query ts given text is steady p t =
    let us : List Token = lower_names ts in
    let low : List ℕ = text_of us in
    let low_steady : IsSteady low = lowered_steady ts (own_steady (wide_reading true) query ts is steady) in
    let tokens : IsTokens true low us = subst (λ (vs : List Token). IsTokens true (text_of (lower_names vs)) (lower_names vs)) (sym is.2) (lowered_tokens true query is.0 is.1) in
    let both = λ (mode : Bool). steady_other true mode low us low_steady tokens in
    let alone : first_not_alone ts ≡ None = alone_in written ts given text t in
    let n : first_not_alone us ≡ None = first_not_alone-lowered ts 0 [] [] (names_in_reading (wide_reading true) query ts is) (λ h. h) alone in
    let exact : joined_text (pieces us) t.literals ≡ Some text = ap (λ ps. joined_text ps t.literals) (pieces-lowered [] ts) ∙ t.text_is in
    let lists : length t.literal_tokens ≡ place_count ts = as_many_lists true t.literals t.literal_tokens (t.tokens_of_literals true) ∙ joined_text_count [] ts t.literals text t.text_is in
    record {
      guarded_text = t;
      portable = p;
      portable_text = record {
        alike =
            subst (AreReadAlikeBefore []) (with_literal_tokens-lowered ts t.literal_tokens lists)
            (guarded_portable true text us t.literals t.literal_tokens n t.shapes (t.tokens_of_literals true) exact low (both true) p.alike);
        apart = placeless_join_no_number true _ (t.isolated true).each (guarded_places true text ts t.literals t.literal_tokens alone t.shapes (t.tokens_of_literals true) t.text_is);
      };
      read = λ server mode set client vs honest v.
          let o = t.isolated_over set client in
          let q = o.in_places in
          let shown_exact : joined_text (pieces us) q.shown ≡ Some (seen set text) = ap (λ ps. joined_text ps q.shown) (pieces-lowered [] ts) ∙ q.text_is in
          let shown_lists : length o.shown_tokens ≡ place_count ts = as_many_lists true q.shown o.shown_tokens (o.tokens_of_shown true) ∙ joined_text_count [] ts q.shown (seen set text) q.text_is in
          subst (λ ws. IsReadAs ws vs) (with_literal_tokens-lowered ts o.shown_tokens shown_lists)
          (guarded_read mode (seen set text) us q.shown o.shown_tokens n q.shapes (o.tokens_of_shown mode) shown_exact low (both mode) p.alike server vs honest v);
      tokens = λ server mode set client vs honest within u.
          let o = t.isolated_over set client in
          let q = o.in_places in
          let shown_exact : joined_text (pieces us) q.shown ≡ Some (seen set text) = ap (λ ps. joined_text ps q.shown) (pieces-lowered [] ts) ∙ q.text_is in
          guarded_on mode (seen set text) us q.shown o.shown_tokens n q.shapes (o.tokens_of_shown mode) shown_exact low (both mode) p.alike server vs honest within
          (subst (λ x. IsReadOn server mode x vs) (steady_seen set low low_steady) u);
    }

-- ---- as the calls promise it

pub guarded_bound : (written : Bool) (query : List ℕ) (given : Given) (ts : List Token) (text : List ℕ) →
    IsGivenText (guarded_literal_of written) (IsGuardedFor written) ts given text → IsTokensIn (wide_reading true) query ts →
    wide_anywhere_refusal query ts ≡ None → IsWideBoundGuarded written query given text
guarded_bound written query given ts text g is none = λ mode.
    let n = none_told variant.Unsteady (first_unsteady query) (first_unportable (lower_names ts)) none in
    let steady = (none_unsteady query).0 n.0 in
    (ts, wide_other true mode query ts steady is, is_wide_guarded_text written query ts given text is steady (none_is_portable (lower_names ts) n.1) (guarded_text_in written (wide_reading true) query ts given text is steady g))
