-- The text that is bound by the spans of a query's places is the text that is bound to the query.
use Rattle.std.specs.Prelude.{Option, None, Ok, Err, IfOk, Result}
use Rattle.std.proofs.Common.{◌≡◌, ◌⊎◌, inl, inr, ℕ, zero, suc, ◌<◌, false, List, [], ◌∷◌, length, map, take, take_all, Some, refl, sym, ap, ◌∙◌, arith}
use Rattle.std.proofs.lemmas.List.{nil_from_length}
use Rattle.mysql_values.specs.declared.value.Value.{Value}
use Rattle.mysql_named_params.specs.Places.{names, marks, place_count}
use Rattle.mysql_params_core.specs.Given.{Given}
use Rattle.mysql_params_core.specs.Lookup.{LookupRefusal, lookup}
use Rattle.mysql_binding.specs.PlaceValues.{placed_values}
use Rattle.mysql_binding.specs.AppendedText.{AreFound}
use Rattle.mysql_binding.specs.BindErrors.{IsLookupError, IsCauseOrMemory, cause_of}
use Rattle.mysql_binding.specs.FirstCause.{Cause, first_cause, first_float, mark_count_differs, refused_params}
use Rattle.mysql_binding.specs.LiteralForm.{Literals, LiteralFacts, literal_len}
use Rattle.mysql_binding.specs.MeasuredText.{IsMeasured, IsOfSurvey}
use Rattle.mysql_binding.specs.PlaceSpans.{AreSpansOf, FitIn, IsReady, IsTextAt, after_span, names_at}
use Rattle.mysql_binding.specs.SpannedQuery.{spanned_names}
use Rattle.mysql_binding.specs.Survey.{IsSurvey}
use Rattle.mysql_binding.specs.WrittenText.{IsGivenText, IsWrittenText}
use Rattle.mysql_binding.specs.declared.bind_error.BindError.{BindError}
use Rattle.mysql_binding.specs.declared.binding.literals.MeasuredText.{MeasuredText}
use Rattle.mysql_binding.specs.declared.binding.spanned.SpannedQuery.{SpannedQuery}
use Rattle.mysql_binding.specs.declared.binding.spans.PlaceSpan.{PlaceSpan}
use Rattle.mysql_binding.specs.declared.binding.survey.Survey.{Survey}
use Rattle.mysql_named_params.specs.Reading.{OnTokensIn}
use Rattle.mysql_named_params.specs.declared.places.Reading.{Reading}
use Rattle.mysql_named_params.proofs.ReadingLemmas.{one_reading}
use Rattle.mysql_binding.proofs.BoundText.{bound}
use Rattle.mysql_binding.proofs.BoundTextLemmas.{looked_up_names, refused_lookup, unmixed_survey}
use Rattle.mysql_binding.proofs.CauseLemmas.{lookup_each, mixed_none_of, same_counts, unmixed}
use Rattle.mysql_binding.proofs.MeasuredTextLemmas.{fill_places, filled_text}
use Rattle.mysql_binding.proofs.PieceLemmas.{joined_text-pieces_from}
use Rattle.mysql_binding.proofs.SurveyedQueryLemmas.{found_on, survey_of, unmixed_query}
use Rattle.mysql_binding.proofs.SpanLemmas.{own_survey, own_names_are, own_text_is}
use Rattle.mysql_binding.proofs.ValueLiteralLemmas.{as_many_texts}
use Rattle.mysql_binding.proofs.SpanValueLemmas.{names_at_length}

-- ---- any spans

-- the first of them fit too
pub fit_front : (spans : List PlaceSpan) (n : ℕ) (bytes : List ℕ) → FitIn spans bytes → FitIn (take n spans) bytes
fit_front [] zero bytes f = tt
fit_front [] (suc n) bytes f = tt
fit_front (span ∷ spans) zero bytes f = tt
fit_front (span ∷ spans) (suc n) bytes f = (f.0, f.1, fit_front spans n (after_span span bytes) f.2)

-- as many values as names, if there are names
values_of_names : (given : Given) (ns : List (List ℕ)) (values : List Value) → 0 < length ns → lookup given ns ≡ Ok values →
    length values ≡ length ns
values_of_names given [] values some looked = absurd (omega (arith, some))
values_of_names given (n ∷ ns) values some looked = lookup_each given n ns values looked

-- there is a value for each place
pub value_for_each_span : (spanned : SpannedQuery) (given : Given) (values : List Value) →
    (0 < spanned.survey.names × 0 < spanned.survey.marks → ⊥) →
    lookup given (spanned_names spanned) ≡ Ok values →
    mark_count_differs spanned.survey.names spanned.survey.marks (length values) ≡ false → length values ≡ length spanned.spans.now
value_for_each_span spanned given values never looked counted = by spanned.survey.names refl
  where
    by : (n : ℕ) → spanned.survey.names ≡ n → length values ≡ length spanned.spans.now
    by zero e =
        let same : spanned.survey.marks ≡ length values = same_counts spanned.survey.marks (length values) (ap (λ n. mark_count_differs n spanned.survey.marks (length values)) (sym e) ∙ counted) in
        omega (arith, same, spanned.count, e)
    by (suc n) e =
        let no_marks : spanned.survey.marks ≡ 0 = none spanned.survey.marks refl in
        let all : take spanned.survey.names spanned.spans.now ≡ spanned.spans.now = take_all spanned.survey.names spanned.spans.now (omega (arith, spanned.count, no_marks)) in
        let count : length (names_at (take spanned.survey.names spanned.spans.now) spanned.query.now) ≡ length spanned.spans.now = names_at_length (take spanned.survey.names spanned.spans.now) spanned.query.now ∙ ap length all in
        values_of_names given (names_at (take spanned.survey.names spanned.spans.now) spanned.query.now) values (omega (arith, count, spanned.count, e)) looked ∙ count
      where
        none : (k : ℕ) → spanned.survey.marks ≡ k → spanned.survey.marks ≡ 0
        none zero m = m
        none (suc k) m = absurd (never (omega (arith, e), omega (arith, m)))

-- an error of the lookup refuses the parameters for these names
pub refused_names : (given : Given) (ns : List (List ℕ)) (error : BindError) (refusal : LookupRefusal) → IsLookupError given ns error →
    cause_of error ≡ Some (refused_params refusal) → lookup given ns ≡ Err refusal
refused_names given ns error refusal (inl memory) is =
    let never : Some (refused_params refusal) ≡ None = sym is ∙ ap cause_of memory in
    cc
refused_names given ns error refusal (inr r) is =
    let same : ◌≡◌ {A = Option Cause} (Some (refused_params r.0)) (Some (refused_params refusal)) = sym r.2 ∙ is in
    let same_why : r.0 ≡ refusal = cc in
    r.1 ∙ ap (λ why. Err why) same_why

-- a measured text is ready for the spans
pub ready_spans : {E : Type 0} (literal : Literals) (spanned : SpannedQuery) (given : Given) (values : List Value) →
    (0 < spanned.survey.names × 0 < spanned.survey.marks → ⊥) →
    lookup given (spanned_names spanned) ≡ Ok values →
    (r : Result MeasuredText E) → IfOk r (IsOfSurvey literal spanned.survey values) → IfOk r (IsReady literal spanned.spans.now spanned.query.now)
ready_spans literal spanned given values never looked (Err e) o = tt
ready_spans literal spanned given values never looked (Ok measured) o = record {
  each = ap length o.values_are ∙ value_for_each_span spanned given values never looked o.as_many_marks;
  no_float = ap first_float o.values_are ∙ o.no_float;
  lens_are = o.lens_are ∙ ap (map (literal_len literal)) (sym o.values_are);
  len_is = omega (arith, o.len_is, spanned.outside);
}

-- ---- the spans of a query

module _ (survey : Survey) (spans : List PlaceSpan) (reading : Reading) (query : List ℕ) (own : AreSpansOf survey spans reading query) where
  pub own_surveyed : OnTokensIn reading query (IsSurvey survey)
  own_surveyed = (own.0, own.1, own.2.0)

  module _ (never : 0 < survey.names × 0 < survey.marks → ⊥) where
    -- the names of the query are those at the places
    own_listed : OnTokensIn reading query (λ ts. names_at (take survey.names spans) query ≡ names ts)
    own_listed = (own.0, own.1, listed (unmixed own.0 (mixed_none_of own.0 survey.names survey.marks own.2.0.0 own.2.0.1 never)))
      where
        listed : (length (names own.0) ≡ 0) ⊎ (marks own.0 ≡ 0) → names_at (take survey.names spans) query ≡ names own.0
        listed (inl none) =
            let zero_names : survey.names ≡ 0 = own.2.0.0 ∙ none in
            ap (λ n. names_at (take n spans) query) zero_names ∙ sym (nil_from_length (names own.0) none)
        listed (inr none) =
            let fit = own_survey survey spans reading query own in
            let all : take survey.names spans ≡ spans = take_all survey.names spans (omega (arith, fit.count, own.2.0.1, none)) in
            ap (λ x. names_at x query) all ∙ own_names_are survey spans reading query own none

    pub own_lookup_refused : (given : Given) (error : BindError) → IsLookupError given (names_at (take survey.names spans) query) error →
        OnTokensIn reading query (λ ts. IsCauseOrMemory (first_cause ts given) error)
    own_lookup_refused given error (inl memory) = (own.0, own.1, inl memory)
    own_lookup_refused given error (inr r) =
        refused_lookup reading query given survey.names (names_at (take survey.names spans) query) error (unmixed_survey reading query survey own_surveyed never) own_listed r

    pub own_looked_up : (given : Given) (values : List Value) → lookup given (names_at (take survey.names spans) query) ≡ Ok values →
        OnTokensIn reading query (λ ts. lookup given (names ts) ≡ Ok values)
    own_looked_up given values looked = looked_up_names reading query given (names_at (take survey.names spans) query) values own_listed looked

    pub own_found : (given : Given) (values : List Value) → lookup given (names_at (take survey.names spans) query) ≡ Ok values →
        OnTokensIn reading query (AreFound given values)
    own_found given values looked =
        found_on reading query given values (unmixed_query reading query survey (survey_of reading query survey own_surveyed) never) (own_looked_up given values looked)

  -- the text in the room is that of the query
  pub own_given_text : (literal : Literals) (IsKnown : LiteralFacts) (given : Given) (measured : MeasuredText) (text : List ℕ) →
      OnTokensIn reading query (λ ts. IsMeasured literal ts given measured) →
      IsTextAt literal IsKnown spans query (placed_values measured.values) text →
      OnTokensIn reading query (λ ts. IsGivenText literal IsKnown ts given text)
  own_given_text literal IsKnown given measured text is at =
      let values = placed_values measured.values in
      let places : OnTokensIn reading query (λ ts. length values ≡ place_count ts) = fill_places reading literal query given measured is in
      let same : places.0 ≡ own.0 = one_reading reading query places.0 own.0 places.1 own.1 in
      let each : length at.0 ≡ place_count own.0 = as_many_texts literal IsKnown values at.0 at.1 ∙ (places.2 ∙ ap place_count same) in
      let text_is : text ≡ bound own.0 at.0 = at.2 ∙ own_text_is survey spans reading query own at.0 each in
      let written : IsWrittenText literal IsKnown own.0 values text = record {
        literals = at.0;
        written = at.1;
        text_is = joined_text-pieces_from [] own.0 at.0 each ∙ ap Some (sym text_is);
      } in
      filled_text reading literal query given measured is IsKnown text (own.0, own.1, written)
