-- The places of a query as numbers, and the text that is written by these numbers.
use Rattle.std.proofs.Common.{◌≡◌, ℕ, ◌+◌, ◌<◌, ◌≤◌, List, [], ◌∷◌, ◌++◌, length, length-append, map, take, drop, drop-cons, drop-drop, add-one, get_or, refl, sym, ap, ◌∙◌, subst, arith, append_assoc}
use Rattle.std.proofs.lemmas.List.{length-map}
use Rattle.mysql_named_params.specs.Tokens.{Token, bytes_of, text_of, Name, Mark}
use Rattle.mysql_named_params.specs.Places.{names, marks, place_count}
use Rattle.mysql_named_params.specs.declared.places.FoundPlace.{FoundPlace}
use Rattle.mysql_binding.specs.FoundPlaces.{found_from, found_places}
use Rattle.mysql_binding.specs.PlaceSpans.{AreSpansOf, FitIn, FitSurvey, names_at, outside_len, span_of, text_at}
use Rattle.mysql_binding.specs.declared.binding.spans.PlaceSpan.{PlaceSpan}
use Rattle.mysql_binding.specs.declared.binding.survey.Survey.{Survey}
use Rattle.mysql_binding.proofs.BoundText.{bound}
use Rattle.mysql_named_params.proofs.TokenRowLemmas.{place_count-sum}
use Rattle.mysql_named_params.specs.Reading.{OnTokensIn}
use Rattle.mysql_named_params.specs.declared.places.Reading.{Reading}
use Rattle.mysql_named_params.proofs.ReadingLemmas.{one_reading, reading_text}
use Rattle.mysql_binding.proofs.FoundPlacesLemmas.{found_count}
use Rattle.mysql_binding.proofs.TextLengthLemmas.{plain_len, pieces_len-plain_len}

-- the spans from one on
pub spans_from : (spans : List PlaceSpan) (i : ℕ) (d : PlaceSpan) → i < length spans → drop i spans ≡ get_or spans i d ∷ drop (i + 1) spans
spans_from spans i d below = rw add-one (drop-cons spans i d below)

-- ---- the spans of a query

the_piece : (piece rest : List ℕ) → take (length piece) (piece ++ rest) ≡ piece
the_piece [] rest = refl
the_piece (b ∷ piece) rest = ap (λ x. b ∷ x) (the_piece piece rest)

from_piece : (piece rest : List ℕ) → drop (length piece) (piece ++ rest) ≡ rest
from_piece [] rest = refl
from_piece (b ∷ piece) rest = from_piece piece rest

after_piece : (piece place rest : List ℕ) → drop (length piece + length place) (piece ++ (place ++ rest)) ≡ rest
after_piece piece place rest =
    sym (drop-drop (length place) (length piece) (piece ++ (place ++ rest))) ∙ (ap (drop (length place)) (from_piece piece (place ++ rest)) ∙ from_piece place rest)

abbrev spans_in : ℕ → List Token → List PlaceSpan
spans_in before ts = map span_of (found_from before ts)

-- they fit
own_fit : (piece : List ℕ) (ts : List Token) → FitIn (spans_in (length piece) ts) (piece ++ text_of ts)
own_fit piece [] = tt
own_fit piece (Name name ∷ ts) =
    let place = bytes_of (Name name) in
    let rest : drop (length piece + length place) (piece ++ (place ++ text_of ts)) ≡ text_of ts = after_piece piece place (text_of ts) in
    (omega arith, omega (arith, length-append piece (place ++ text_of ts), length-append place (text_of ts)), subst (FitIn (spans_in 0 ts)) (sym rest) (own_fit [] ts))
own_fit piece (Mark ∷ ts) =
    let place = bytes_of Mark in
    let rest : drop (length piece + length place) (piece ++ (place ++ text_of ts)) ≡ text_of ts = after_piece piece place (text_of ts) in
    (omega arith, omega (arith, length-append piece (place ++ text_of ts), length-append place (text_of ts)), subst (FitIn (spans_in 0 ts)) (sym rest) (own_fit [] ts))
own_fit piece (t ∷ ts) =
    rw (sym (append_assoc piece (bytes_of t) (text_of ts)), sym (length-append piece (bytes_of t))) (own_fit (piece ++ bytes_of t) ts)

-- the bytes outside of them
own_outside : (piece : List ℕ) (ts : List Token) → outside_len (spans_in (length piece) ts) (piece ++ text_of ts) ≡ length piece + plain_len ts
own_outside piece [] = omega (arith, length-append piece [])
own_outside piece (Name name ∷ ts) =
    let place = bytes_of (Name name) in
    ap (λ x. length piece + outside_len (spans_in 0 ts) x) (after_piece piece place (text_of ts)) ∙ omega (arith, own_outside [] ts)
own_outside piece (Mark ∷ ts) =
    let place = bytes_of Mark in
    ap (λ x. length piece + outside_len (spans_in 0 ts) x) (after_piece piece place (text_of ts)) ∙ omega (arith, own_outside [] ts)
own_outside piece (t ∷ ts) =
    let same : outside_len (spans_in (length piece + length (bytes_of t)) ts) (piece ++ (bytes_of t ++ text_of ts)) ≡ outside_len (spans_in (length (piece ++ bytes_of t)) ts) ((piece ++ bytes_of t) ++ text_of ts) = rw (append_assoc piece (bytes_of t) (text_of ts), length-append piece (bytes_of t)) refl in
    same ∙ (own_outside (piece ++ bytes_of t) ts ∙ omega (arith, length-append piece (bytes_of t)))

-- the names in them, if no mark is among them
own_names : (piece : List ℕ) (ts : List Token) → marks ts ≡ 0 → names_at (spans_in (length piece) ts) (piece ++ text_of ts) ≡ names ts
own_names piece [] none = refl
own_names piece (Name name ∷ ts) none =
    let place = bytes_of (Name name) in
    let here : drop 1 (take (length place) (drop (length piece) (piece ++ (place ++ text_of ts)))) ≡ name = ap (λ x. drop 1 (take (length place) x)) (from_piece piece (place ++ text_of ts)) ∙ ap (drop 1) (the_piece place (text_of ts)) in
    let rest : names_at (spans_in 0 ts) (drop (length piece + length place) (piece ++ (place ++ text_of ts))) ≡ names ts = ap (names_at (spans_in 0 ts)) (after_piece piece place (text_of ts)) ∙ own_names [] ts none in
    ap (λ x. x ∷ names_at (spans_in 0 ts) (drop (length piece + length place) (piece ++ (place ++ text_of ts)))) here ∙ ap (λ xs. name ∷ xs) rest
own_names piece (Mark ∷ ts) none = absurd (omega (arith, none))
own_names piece (t ∷ ts) none =
    let same : names_at (spans_in (length piece + length (bytes_of t)) ts) (piece ++ (bytes_of t ++ text_of ts)) ≡ names_at (spans_in (length (piece ++ bytes_of t)) ts) ((piece ++ bytes_of t) ++ text_of ts) = rw (append_assoc piece (bytes_of t) (text_of ts), length-append piece (bytes_of t)) refl in
    same ∙ own_names (piece ++ bytes_of t) ts none

-- the text with literals in them
own_text : (piece : List ℕ) (ts : List Token) (literals : List (List ℕ)) → length literals ≡ place_count ts →
    text_at (spans_in (length piece) ts) (piece ++ text_of ts) literals ≡ piece ++ bound ts literals
own_text piece [] [] each = refl
own_text piece [] (literal ∷ literals) each = absurd (omega (arith, each))
own_text piece (Name name ∷ ts) [] each = absurd (omega (arith, each))
own_text piece (Name name ∷ ts) (literal ∷ literals) each =
    let place = bytes_of (Name name) in
    let rest : text_at (spans_in 0 ts) (drop (length piece + length place) (piece ++ (place ++ text_of ts))) literals ≡ bound ts literals = ap (λ x. text_at (spans_in 0 ts) x literals) (after_piece piece place (text_of ts)) ∙ own_text [] ts literals (omega (arith, each)) in
    ap (λ x. x ++ (literal ++ text_at (spans_in 0 ts) (drop (length piece + length place) (piece ++ (place ++ text_of ts))) literals)) (the_piece piece (place ++ text_of ts)) ∙ ap (λ x. piece ++ (literal ++ x)) rest
own_text piece (Mark ∷ ts) [] each = absurd (omega (arith, each))
own_text piece (Mark ∷ ts) (literal ∷ literals) each =
    let place = bytes_of Mark in
    let rest : text_at (spans_in 0 ts) (drop (length piece + length place) (piece ++ (place ++ text_of ts))) literals ≡ bound ts literals = ap (λ x. text_at (spans_in 0 ts) x literals) (after_piece piece place (text_of ts)) ∙ own_text [] ts literals (omega (arith, each)) in
    ap (λ x. x ++ (literal ++ text_at (spans_in 0 ts) (drop (length piece + length place) (piece ++ (place ++ text_of ts))) literals)) (the_piece piece (place ++ text_of ts)) ∙ ap (λ x. piece ++ (literal ++ x)) rest
own_text piece (t ∷ ts) literals each =
    let same : text_at (spans_in (length piece + length (bytes_of t)) ts) (piece ++ (bytes_of t ++ text_of ts)) literals ≡ text_at (spans_in (length (piece ++ bytes_of t)) ts) ((piece ++ bytes_of t) ++ text_of ts) literals = rw (append_assoc piece (bytes_of t) (text_of ts), length-append piece (bytes_of t)) refl in
    same ∙ (own_text (piece ++ bytes_of t) ts literals each ∙ append_assoc piece (bytes_of t) (bound ts literals))

module _ (survey : Survey) (spans : List PlaceSpan) (reading : Reading) (query : List ℕ) (o : AreSpansOf survey spans reading query) where
  own_spans : spans ≡ spans_in 0 o.0
  own_spans = o.2.1

  own_query : query ≡ text_of o.0
  own_query = sym (reading_text reading query o.0 o.1)

  -- the spans of a query can be those of its bytes
  pub own_survey : FitSurvey survey spans query
  own_survey = record {
    fit = rw (own_spans, own_query) (own_fit [] o.0);
    outside =
        let all : outside_len spans query ≡ plain_len o.0 = rw (own_spans, own_query) (omega (arith, own_outside [] o.0)) in
        omega (arith, all, o.2.0.3, pieces_len-plain_len o.0);
    count =
        let all : length spans ≡ place_count o.0 = ap length own_spans ∙ (length-map (found_from 0 o.0) span_of ∙ found_count 0 o.0) in
        omega (arith, all, o.2.0.0, o.2.0.1, place_count-sum o.0);
  }

  -- the names are those at the places, if no mark is among them
  pub own_names_are : marks o.0 ≡ 0 → names_at spans query ≡ names o.0
  own_names_are none = rw (own_spans, own_query) (own_names [] o.0 none)

  -- the text with literals in the places
  pub own_text_is : (literals : List (List ℕ)) → length literals ≡ place_count o.0 → text_at spans query literals ≡ bound o.0 literals
  own_text_is literals each = rw (own_spans, own_query) (own_text [] o.0 literals each)

-- ---- the bytes outside of spans, as far as they are counted

pub record CountedSoFar (text rest : List ℕ) (spans : List PlaceSpan) (i len : ℕ) : Type 0 where
  pub to : FitIn (drop i spans) rest → FitIn spans text
  pub back : FitIn spans text → FitIn (drop i spans) rest
  pub len_is : len + outside_len (drop i spans) rest ≡ outside_len spans text
  pub below : len + length rest ≤ length text

-- there are as many places as were counted
pub as_many_places : (reading : Reading) (query : List ℕ) (count : ℕ) (places : List FoundPlace) →
    OnTokensIn reading query (λ ts. count ≡ place_count ts) → OnTokensIn reading query (λ ts. places ≡ found_places ts) →
    count ≡ length places
as_many_places reading query count places o found =
    let same : found.0 ≡ o.0 = one_reading reading query found.0 o.0 found.1 o.1 in
    omega (arith, o.2, ap length found.2, found_count 0 found.0, ap place_count same)
