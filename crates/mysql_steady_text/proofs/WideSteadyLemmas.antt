-- Steady texts of queries with wide names: by the query with marks, and by the one with names in
-- lower case.
use Rattle.std.specs.Prelude.{Bool, Result, Ok, Err, IfOk, ⊤}
use Rattle.std.specs.List.{list_all}
use Rattle.std.specs.Char.{to_ascii_lowercase}
use Rattle.std.proofs.Common.{◌≡◌, ◌+◌, ◌++◌, ◌∙◌, ℕ, All, true, false, List, [], ◌∷◌, None, Some, arith, length, map, refl, sym, ap, subst}
use Rattle.std.proofs.lemmas.Bool.{and_from, and_parts}
use Rattle.std.proofs.lemmas.Bool.Decides.{nat_tests}
use Rattle.std.proofs.lemmas.List.Elements.{All-tail}
use Rattle.mysql_values.specs.declared.value.Value.{Value}
use Rattle.mysql_named_params.specs.Bytes.{question_mark}
use Rattle.mysql_named_params.specs.LoweredNames.{lower_names}
use Rattle.mysql_named_params.specs.Places.{names, place_count, with_marks}
use Rattle.mysql_named_params.specs.Reading.{IsTokensIn, IsTokensWith, OnWideTokens, wide_reading}
use Rattle.mysql_named_params.specs.Tokens.{Token, IsTokens, bytes_of, text_of, Name, Mark}
use Rattle.mysql_named_params.specs.WideNames.{IsWideName}
use Rattle.mysql_named_params.specs.declared.places.Reading.{Reading}
use Rattle.mysql_named_params.proofs.LoweredLemmas.{lowered_tokens}
use Rattle.mysql_named_params.proofs.ReadingLemmas.{reading_exists, reading_text}
use Rattle.mysql_named_params.proofs.ReparsedLemmas.{marked_reading, names_in_reading, names-with_marks}
use Rattle.mysql_portable.specs.Portable.{IsPortable, IsReadAs}
use Rattle.mysql_portable.specs.Steady.{is_steady, IsSteady}
use Rattle.mysql_portable.proofs.OtherModeLemmas.{all_parts}
use Rattle.mysql_portable.proofs.SteadyLemmas.{steady_other}
use Rattle.mysql_params_core.specs.Given.{Given, positional}
use Rattle.mysql_params_core.specs.Lookup.{lookup}
use Rattle.mysql_binding.specs.FirstCause.{first_cause}
use Rattle.mysql_binding.specs.Pieces.{pieces, pieces_from, joined_text}
use Rattle.mysql_binding.specs.Replaced.{with_literal_tokens}
use Rattle.mysql_binding.specs.StandsAlone.{first_not_alone, first_not_alone_from, may_stand_after, may_stand_before, none_or_first, none_or_last, stands_alone}
use Rattle.mysql_binding.specs.WrittenText.{IsGivenText}
use Rattle.mysql_binding.proofs.BoundAgainLemmas.{pieces-with_marks, with_literal_tokens-with_marks}
use Rattle.mysql_binding.proofs.ContentsLemmas.{alone_parts}
use Rattle.mysql_binding.proofs.RenamedPlaceLemmas.{EndsAsWell, as_well-append, as_well-name, if_alone}
use Rattle.mysql_binding.proofs.CauseLemmas.{on_both, no_cause_parts, no_cause_renamed, no_float_cause, no_place_out, value_each}
use Rattle.mysql_binding.proofs.PieceLemmas.{joined_text_count}
use Rattle.mysql_binding.proofs.SpliceLemmas.{as_many_lists}
use Rattle.mysql_steady_text.specs.SteadyLiteral.{steady_literal_of}
use Rattle.mysql_steady_text.specs.BothModesText.{IsTextInBothModes}
use Rattle.mysql_steady_text.specs.OnServers.{IsReadAnywhere, IsReadInBothModes}
use Rattle.mysql_steady_text.specs.SteadyLiterals.{AreSteadyLiterals, IsSteadyFor}
use Rattle.mysql_steady_text.specs.SteadyText.{IsSteadyText}
use Rattle.mysql_steady_text.specs.WideAnywhere.{IsWideAnywhereText}
use Rattle.mysql_steady_text.proofs.BothModesTextLemmas.{alone_in, is_portable, read_in_both, shapes_of, tokens_in_both}
use Rattle.mysql_steady_text.proofs.SteadySpliceLemmas.{all_both}
use Rattle.mysql_steady_text.proofs.SteadyTextLemmas.{both_of, is_steady_text, seen_on_servers}

-- ---- by the query with marks

-- the values that are given to the query are given to it with marks, by position
pub marked_given : (reading : Reading) (query : List ℕ) (ts : List Token) (given : Given) (text : List ℕ) → IsTokensIn reading query ts →
    (g : IsGivenText steady_literal_of IsSteadyFor ts given text) →
    IsGivenText steady_literal_of IsSteadyFor (with_marks ts) (positional g.values) text
marked_given reading query ts given text is g =
    let parts = no_cause_parts ts given g.values g.no_cause g.looked_up in
    let room = value_each ts given g.values parts.0 g.looked_up parts.1 in
    record {
      no_cause = no_cause_renamed ts g.values (names_in_reading reading query ts is) room (no_place_out ts g.values parts.1) (no_float_cause ts g.values parts.1);
      values = g.values;
      looked_up = ap (lookup (positional g.values)) (names-with_marks ts);
      written_text = record {
        literals = g.written_text.literals;
        written = g.written_text.written;
        text_is = ap (λ ps. joined_text ps g.written_text.literals) (pieces-with_marks [] ts) ∙ g.written_text.text_is;
      };
    }

-- the steady text of the query with marks is that of the query
from_marks : (ts : List Token) (given : Given) (values : List Value) (text : List ℕ) →
    lookup given (names ts) ≡ Ok values → first_cause ts given ≡ None →
    IsSteadyText (with_marks ts) (positional values) text → IsSteadyText ts given text
from_marks ts given values text l none t =
    let same : pieces (with_marks ts) ≡ pieces ts = pieces-with_marks [] ts in
    let exact : joined_text (pieces ts) t.literals ≡ Some text = ap (λ ps. joined_text ps t.literals) (sym same) ∙ t.text_is in
    let lists : length t.literal_tokens ≡ place_count ts = as_many_lists true t.literals t.literal_tokens (t.tokens_of_literals true) ∙ joined_text_count [] ts t.literals text exact in
    record {
      values = t.values;
      literals = t.literals;
      literal_tokens = t.literal_tokens;
      isolated = λ mode. subst (IsTokens mode text) (with_literal_tokens-with_marks ts t.literal_tokens lists) (t.isolated mode);
      steady = t.steady;
      no_cause = none;
      looked_up = l ∙ (ap (lookup (positional values)) (sym (names-with_marks ts)) ∙ t.looked_up);
      in_range = t.in_range;
      written = t.written;
      text_is = exact;
      tokens_of_literals = t.tokens_of_literals;
    }

marked_steady : (ts : List Token) → list_all is_steady (text_of ts) ≡ true → list_all is_steady (text_of (with_marks ts)) ≡ true
marked_steady [] h = refl
marked_steady (Name name ∷ ts) h = marked_steady ts ((all_parts is_steady (bytes_of (Name name)) (text_of ts) h).1)
marked_steady (Mark ∷ ts) h = marked_steady ts ((all_parts is_steady (bytes_of Mark) (text_of ts) h).1)
marked_steady (t ∷ ts) h =
    let p = all_parts is_steady (bytes_of t) (text_of ts) h in
    all_both (bytes_of t) (text_of (with_marks ts)) p.0 (marked_steady ts p.1)

pub is_steady_text_in : (reading : Reading) (query : List ℕ) (ts : List Token) (given : Given) (text : List ℕ) → IsTokensIn reading query ts →
    IsSteady query → IsGivenText steady_literal_of IsSteadyFor ts given text → IsSteadyText ts given text
is_steady_text_in reading query ts given text is steady g =
    let own : list_all is_steady (text_of ts) ≡ true = subst (λ (x : List ℕ). list_all is_steady x ≡ true) (sym (reading_text reading query ts is)) steady in
    let marked = marked_steady ts own in
    let tokens = steady_other reading.no_backslash_escape true (text_of (with_marks ts)) (with_marks ts) marked (marked_reading reading query ts is) in
    from_marks ts given g.values text g.looked_up g.no_cause
    (is_steady_text (text_of (with_marks ts)) (with_marks ts) (positional g.values) text tokens marked (marked_given reading query ts given text is g))

-- ---- by wide names in either mode

-- the tokens of a steady query with wide names, in the other mode
pub wide_other : (mode other : Bool) (query : List ℕ) (ts : List Token) → IsSteady query →
    IsTokensIn (wide_reading mode) query ts → IsTokensIn (wide_reading other) query ts
wide_other mode other query ts steady is = (is.0, steady_other mode other query is.0 steady is.1, is.2)

-- the tokens of a steady query in the other mode, with wide names or without
pub steady_reading : (wide mode other : Bool) (query : List ℕ) (ts : List Token) → IsSteady query →
    IsTokensWith wide mode query ts → IsTokensWith wide other query ts
steady_reading false mode other query ts steady is = steady_other mode other query ts steady is
steady_reading true mode other query ts steady is = wide_other mode other query ts steady is

pub wide_either : (query : List ℕ) (P : List Token → Type 0) (mode other : Bool) → IsSteady query → OnWideTokens mode query P →
    OnWideTokens other query P
wide_either query P mode other steady o = (o.0, wide_other mode other query o.0 steady o.1, o.2)

pub wide_given : (query : List ℕ) (given : Given) (text : List ℕ) → IsSteady query →
    OnWideTokens false query (λ ts. IsGivenText steady_literal_of IsSteadyFor ts given text) →
    (mode : Bool) → OnWideTokens mode query (λ ts. IsSteadyText ts given text)
wide_given query given text steady o mode = (
  o.0,
  wide_other false mode query o.0 steady o.1,
  is_steady_text_in (wide_reading false) query o.0 given text o.1 steady o.2,
)

-- a query has tokens
pub wide_nothing : (mode : Bool) (query : List ℕ) → OnWideTokens mode query (λ ts. ⊤)
wide_nothing mode query = let t = reading_exists (wide_reading mode) query in (t.0, t.1, tt)

-- ---- by the query with its names in lower case

pub pieces-lowered : (piece : List ℕ) (ts : List Token) → pieces_from piece (lower_names ts) ≡ pieces_from piece ts
pieces-lowered piece [] = refl
pieces-lowered piece (Name name ∷ ts) = ap (λ ps. piece ∷ ps) (pieces-lowered [] ts)
pieces-lowered piece (Mark ∷ ts) = ap (λ ps. piece ∷ ps) (pieces-lowered [] ts)
pieces-lowered piece (t ∷ ts) = pieces-lowered (piece ++ bytes_of t) ts

pub with_literal_tokens-lowered : (ts : List Token) (lists : List (List Token)) → length lists ≡ place_count ts →
    with_literal_tokens (lower_names ts) lists ≡ with_literal_tokens ts lists
with_literal_tokens-lowered [] lists e = refl
with_literal_tokens-lowered (Name name ∷ ts) [] e = absurd (omega arith)
with_literal_tokens-lowered (Name name ∷ ts) (list ∷ lists) e = ap (λ us. list ++ us) (with_literal_tokens-lowered ts lists (omega arith))
with_literal_tokens-lowered (Mark ∷ ts) [] e = absurd (omega arith)
with_literal_tokens-lowered (Mark ∷ ts) (list ∷ lists) e = ap (λ us. list ++ us) (with_literal_tokens-lowered ts lists (omega arith))
with_literal_tokens-lowered (t ∷ ts) lists e = ap (λ us. t ∷ us) (with_literal_tokens-lowered ts lists e)

first_lowered : (ts : List Token) → none_or_first may_stand_after (text_of ts) ≡ true →
    none_or_first may_stand_after (text_of (lower_names ts)) ≡ true
first_lowered [] h = h
first_lowered (Name name ∷ ts) h = h
first_lowered (Mark ∷ ts) h = h
first_lowered (t ∷ ts) h = h

lowered_alone : (before before' : List ℕ) (ts : List Token) → EndsAsWell before before' →
    stands_alone before (text_of ts) ≡ true → stands_alone before' (text_of (lower_names ts)) ≡ true
lowered_alone before before' ts e h = let p = and_parts (none_or_last may_stand_before before) _ h in and_from _ _ (e p.0) (first_lowered ts p.1)

pub first_not_alone-lowered : (ts : List Token) (place : ℕ) (before before' : List ℕ) →
    All IsWideName (names ts) → EndsAsWell before before' →
    first_not_alone_from place before ts ≡ None → first_not_alone_from place before' (lower_names ts) ≡ None
first_not_alone-lowered [] place before before' h e a = refl
first_not_alone-lowered (Name name ∷ ts) place before before' h e a =
    let p = alone_parts (stands_alone before (text_of ts)) _ _ a in
    if_alone _ _ _ (lowered_alone before before' ts e p.0) (first_not_alone-lowered ts (place + 1) (before ++ bytes_of (Name name)) (before' ++ bytes_of (Name (map to_ascii_lowercase name))) (All-tail IsWideName name (names ts) h) (as_well-name before name (before' ++ bytes_of (Name (map to_ascii_lowercase name))) (h 0 name (omega arith))) p.1)
first_not_alone-lowered (Mark ∷ ts) place before before' h e a =
    let p = alone_parts (stands_alone before (text_of ts)) _ _ a in
    if_alone _ _ _ (lowered_alone before before' ts e p.0) (first_not_alone-lowered ts (place + 1) (before ++ bytes_of Mark) (before' ++ bytes_of Mark) h (as_well-append before before' question_mark []) p.1)
first_not_alone-lowered (t ∷ ts) place before before' h e a =
    first_not_alone-lowered ts place (before ++ bytes_of t) (before' ++ bytes_of t) h (as_well-append before before' _ _) a

lower_steady : (b : ℕ) → is_steady b ≡ true → is_steady (to_ascii_lowercase b) ≡ true
lower_steady b h = grind (arith, nat_tests)

lower_all_steady : (bs : List ℕ) → list_all is_steady bs ≡ true → list_all is_steady (map to_ascii_lowercase bs) ≡ true
lower_all_steady [] h = refl
lower_all_steady (b ∷ bs) h =
    let p = and_parts (is_steady b) (list_all is_steady bs) h in
    and_from _ _ (lower_steady b p.0) (lower_all_steady bs p.1)

pub lowered_steady : (ts : List Token) → list_all is_steady (text_of ts) ≡ true → list_all is_steady (text_of (lower_names ts)) ≡ true
lowered_steady [] h = refl
lowered_steady (Name name ∷ ts) h =
    let p = all_parts is_steady (bytes_of (Name name)) (text_of ts) h in
    all_both (bytes_of (Name (map to_ascii_lowercase name))) (text_of (lower_names ts)) (lower_all_steady name p.0) (lowered_steady ts p.1)
lowered_steady (t ∷ ts) h =
    let p = all_parts is_steady (bytes_of t) (text_of ts) h in
    all_both (bytes_of t) (text_of (lower_names ts)) p.0 (lowered_steady ts p.1)

module _ (ts : List Token) (given : Given) (text : List ℕ) (names_are : All IsWideName (names ts)) (both : (mode : Bool) → IsTokens mode (text_of (lower_names ts)) (lower_names ts)) (p : IsPortable (lower_names ts)) (t : IsTextInBothModes ts given text) where
  alone : first_not_alone (lower_names ts) ≡ None
  alone = first_not_alone-lowered ts 0 [] [] names_are (λ h. h) (alone_in ts given text t)

  exact : joined_text (pieces (lower_names ts)) t.literals ≡ Some text
  exact = ap (λ ps. joined_text ps t.literals) (pieces-lowered [] ts) ∙ t.text_is

  same : with_literal_tokens (lower_names ts) t.literal_tokens ≡ with_literal_tokens ts t.literal_tokens
  same = with_literal_tokens-lowered ts t.literal_tokens (as_many_lists true t.literals t.literal_tokens (t.tokens_of_literals true) ∙ joined_text_count [] ts t.literals text t.text_is)

  shapes : AreSteadyLiterals t.literals
  shapes = shapes_of t.values t.literals t.in_range t.written

  pub lowered_portable : IsPortable (with_literal_tokens ts t.literal_tokens)
  lowered_portable = subst (λ vs. IsPortable vs) same (is_portable (text_of (lower_names ts)) text (lower_names ts) t.literals t.literal_tokens both p alone shapes t.tokens_of_literals exact)

  pub lowered_on_servers : IsReadInBothModes (text_of (lower_names ts)) ts (λ vs. with_literal_tokens vs t.literal_tokens) text
  lowered_on_servers = record {
    read = λ server mode vs honest v.
        subst (λ ws. IsReadAs ws vs) same (read_in_both (text_of (lower_names ts)) text (lower_names ts) t.literals t.literal_tokens both p alone shapes t.tokens_of_literals exact server mode vs honest v);
    tokens = tokens_in_both (text_of (lower_names ts)) text (lower_names ts) t.literals t.literal_tokens both p alone shapes t.tokens_of_literals exact;
  }

module _ (query : List ℕ) (ts : List Token) (given : Given) (text : List ℕ) (is : IsTokensIn (wide_reading true) query ts) (steady : IsSteady query) where
  low_steady : IsSteady (text_of (lower_names ts))
  low_steady = lowered_steady ts (subst (λ (x : List ℕ). list_all is_steady x ≡ true) (sym (reading_text (wide_reading true) query ts is)) steady)

  low_both : (mode : Bool) → IsTokens mode (text_of (lower_names ts)) (lower_names ts)
  low_both mode =
      steady_other true mode (text_of (lower_names ts)) (lower_names ts) low_steady
      (subst (λ (vs : List Token). IsTokens true (text_of (lower_names vs)) (lower_names vs)) (sym is.2) (lowered_tokens true query is.0 is.1))

  names_are : All IsWideName (names ts)
  names_are = names_in_reading (wide_reading true) query ts is

  pub is_wide_anywhere_text : IsPortable (lower_names ts) → IsSteadyText ts given text → IsWideAnywhereText ts given text
  is_wide_anywhere_text p t = record {
    steady_text = t;
    portable = p;
    portable_text = lowered_portable ts given text names_are low_both p (both_of ts given text t);
  }

  pub wide_anywhere_on_servers : (t : IsWideAnywhereText ts given text) →
      IsReadAnywhere (text_of (lower_names ts)) ts (λ us. with_literal_tokens us t.steady_text.literal_tokens) text
  wide_anywhere_on_servers t =
      seen_on_servers (text_of (lower_names ts)) ts (λ us. with_literal_tokens us t.steady_text.literal_tokens) text low_steady t.steady_text.steady
      (lowered_on_servers ts given text names_are low_both t.portable (both_of ts given text t.steady_text))

-- ---- as the calls promise it

pub wide_anywhere_answer : {A E : Type 0} (items : A → List ℕ) (r : Result A E) (query : List ℕ) (given : Given) → IsSteady query →
    OnWideTokens false query (λ ts. IsPortable (lower_names ts)) →
    ((mode : Bool) → OnWideTokens mode query (λ ts. IfOk r (λ text. IsSteadyText ts given (items text)))) →
    (mode : Bool) → OnWideTokens mode query (λ ts. IfOk r (λ text. IsWideAnywhereText ts given (items text)))
wide_anywhere_answer items (Ok text) query given steady p b mode =
    let o = on_both (wide_reading true) query (λ ts. IsPortable (lower_names ts)) (λ ts. IsSteadyText ts given (items text)) (wide_either query (λ ts. IsPortable (lower_names ts)) false true steady p) (b true) in
    (o.0, wide_other true mode query o.0 steady o.1, is_wide_anywhere_text query o.0 given (items text) o.1 steady o.2.0 o.2.1)
wide_anywhere_answer items (Err e) query given steady p b mode = wide_nothing mode query
