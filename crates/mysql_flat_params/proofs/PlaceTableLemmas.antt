-- The table of a query's places, and the outcomes of binding by it.
use Rattle.std.specs.Prelude.{IsTrue, Ok, Err, Result}
use Rattle.std.proofs.Common.{◌≡◌, false, ℕ, ◌+◌, ◌≤◌, List, [], ◌++◌, length, map, take, take_all, drop, sym, ap, ◌∙◌, subst, arith}
use Rattle.std.proofs.lemmas.List.{length-take-le, length-map, nil_from_length, take-append-le}
use Rattle.std.proofs.lemmas.Slice.{drop-append-drop}
use Rattle.mysql_named_params.specs.Tokens.{Token}
use Rattle.mysql_named_params.specs.Places.{place_count}
use Rattle.mysql_named_params.proofs.TokenRowLemmas.{place_count-sum}
use Rattle.mysql_named_params.specs.Reading.{OnTokensIn}
use Rattle.mysql_named_params.specs.declared.places.Reading.{Reading}
use Rattle.mysql_params_core.specs.Given.{Given}
use Rattle.mysql_params_core.specs.Lookup.{missing}
use Rattle.mysql_binding.specs.FoundPlaces.{found_places}
use Rattle.mysql_binding.specs.Isolation.{IsBoundText}
use Rattle.mysql_binding.specs.PlaceSpans.{AreSpansOf, FitSurvey, span_of}
use Rattle.mysql_binding.specs.SpannedQuery.{HasOwnSpans, RefusesNames}
use Rattle.mysql_binding.specs.Survey.{IsSurvey}
use Rattle.mysql_binding.specs.TextInRoom.{HasTextOf, IsTextInRoom}
use Rattle.mysql_binding.specs.declared.bind_error.BindError.{BindError}
use Rattle.mysql_binding.specs.declared.binding.room.TextInRoom.{TextInRoom}
use Rattle.mysql_binding.specs.declared.binding.room.TextInRoom.TheVariants.{Written, TooShort}
use Rattle.mysql_binding.specs.declared.binding.spanned.SpannedQuery.{SpannedQuery}
use Rattle.mysql_binding.specs.declared.binding.spans.PlaceSpan.{PlaceSpan}
use Rattle.mysql_binding.specs.declared.binding.survey.Survey.{Survey}
use Rattle.mysql_binding.proofs.CauseLemmas.{on_both}
use Rattle.mysql_binding.proofs.FoundPlacesLemmas.{found_count}
use Rattle.mysql_flat_params.specs.FlatForm.{IsFormReading}
use Rattle.mysql_flat_params.specs.IntoRoom.{IsBindOutcomeIn, IsBoundFormIn, MissesOtherNameIn}
use Rattle.mysql_flat_params.specs.Outcomes.{IfDone, text_outcome}
use Rattle.mysql_flat_params.specs.PlaceTable.{CanHaveTableIn, HasOwnTableIn, IsTableOfIn, MissesOtherPlaceIn, survey_of}
use Rattle.mysql_flat_params.specs.declared.place_table.TableHead.{TableHead}
use Rattle.mysql_flat_params.specs.declared.place_table.ReadTemplate.{ReadTemplate}

-- ---- the table that is made

module _ (reading : Reading) (query : List ℕ) (survey : Survey) (o : OnTokensIn reading query (IsSurvey survey)) where
  -- this many places were counted
  pub counted : OnTokensIn reading query (λ ts. survey.names + survey.marks ≡ place_count ts)
  counted = (o.0, o.1, omega (arith, o.2.0, o.2.1, place_count-sum o.0))

  module _ (head : TableHead) (says : survey_of head ≡ survey) where
    said : (spans : List PlaceSpan) → OnTokensIn reading query (λ ts. spans ≡ map span_of (found_places ts)) → IsTableOfIn head spans reading query
    said spans found =
        subst (λ s. AreSpansOf s spans reading query) (sym says)
        (on_both reading query (IsSurvey survey) (λ ts. spans ≡ map span_of (found_places ts)) o found)

    -- at the front of the room
    pub table_made : (spans old : List PlaceSpan) (n : ℕ) → n ≤ length old → length spans ≡ n →
        OnTokensIn reading query (λ ts. spans ≡ map span_of (found_places ts)) →
        IsTableOfIn head (take n (spans ++ drop n old)) reading query × (drop n (spans ++ drop n old) ≡ drop n old)
    table_made spans old n fits long found =
        let front : take n (spans ++ drop n old) ≡ spans = take-append-le n spans (drop n old) (omega (arith, long)) ∙ take_all n spans (omega (arith, long)) in
        (subst (λ x. IsTableOfIn head x reading query) (sym front) (said spans found), drop-append-drop n old spans n (omega arith) long)

    -- without places nothing is written
    pub no_table : survey.names + survey.marks ≡ 0 → (room : List PlaceSpan) → IsTableOfIn head (take (survey.names + survey.marks) room) reading query
    no_table none room =
        let empty : take (survey.names + survey.marks) room ≡ [] = ap (λ n. take n room) none in
        let all : survey.names + survey.marks ≡ place_count o.0 = omega (arith, o.2.0, o.2.1, place_count-sum o.0) in
        let no_place : map span_of (found_places o.0) ≡ [] = nil_from_length (map span_of (found_places o.0)) (omega (arith, all, none, length-map (found_places o.0) span_of, found_count 0 o.0)) in
        said (take (survey.names + survey.marks) room) (o.0, o.1, empty ∙ sym no_place)

-- ---- the outcomes

-- by its head, the table is that of the survey
pub own_table : (template : ReadTemplate) (survey : Survey) → survey ≡ survey_of template.head → HasOwnTableIn template →
    AreSpansOf survey template.places.now template.reading template.query.now
own_table template survey is own = subst (λ s. AreSpansOf s template.places.now template.reading template.query.now) (sym is) own

-- a table that the query can have, by its head
pub can_have : (template : ReadTemplate) (survey : Survey) → survey ≡ survey_of template.head → CanHaveTableIn template →
    FitSurvey survey template.places.now template.query.now
can_have template survey is can = subst (λ s. FitSurvey s template.places.now template.query.now) (sym is) can

-- the query with the places of the template
pub record IsOfTemplate (template : ReadTemplate) (spanned : SpannedQuery) : Type 0 where
  pub query : spanned.query.now ≡ template.query.now
  pub survey : spanned.survey ≡ survey_of template.head
  pub spans : spanned.spans.now ≡ template.places.now

module _ (template : ReadTemplate) (spanned : SpannedQuery) (is : IsOfTemplate template spanned) where
  -- a table that the query can have isn't one that it can't have
  pub never_unfit : {X : Type 0} → (CanHaveTableIn template → ⊥) → X
  never_unfit unfit = absurd (unfit (rw (sym is.query, sym is.survey, sym is.spans) (record { fit = spanned.fit; outside = spanned.outside; count = spanned.count })))

  -- its tokens are those of the template's query
  pub of_query : (reading : Reading) (P : List Token → Type 0) → OnTokensIn reading spanned.query.now P → OnTokensIn reading template.query.now P
  of_query reading P o = subst (λ q. OnTokensIn reading q P) is.query o

  pub own_spans : HasOwnTableIn template → HasOwnSpans spanned template.reading
  own_spans own = rw (is.query, is.survey, is.spans) own

  -- the name that a refused lookup misses
  pub misses_other : (form : List ℕ) (given : Given) (error : BindError) → IsFormReading form (Ok given) → RefusesNames spanned given error →
      MissesOtherNameIn template.reading template.query.now error → MissesOtherPlaceIn template form
  misses_other form given error reads refused (name, cause, other) = (
    given,
    name,
    reads,
    rw (sym is.query, ap (λ s. s.names) (sym is.survey), sym is.spans) (refused (missing name) cause),
    other,
  )

-- no test is true and false
pub never_true : {X : Type 0} → IsTrue false → X
never_true e = absurd (apart e)
  where
    apart : IsTrue false → ⊥
    apart e = cc

-- a refusal has one error
pub one_refusal : {T E : Type 0} → (e f : E) → ◌≡◌ {A = Result T E} (Err e) (Err f) → e ≡ f
one_refusal e f h = cc

module _ (reading : Reading) (query form : List ℕ) (given : Given) (old new : List ℕ) (reads : IsFormReading form (Ok given)) (same : length new ≡ length old) where
  -- the text in the room
  pub text_told : (text : TextInRoom) → OnTokensIn reading query (λ ts. IsTextInRoom (IsBoundText reading.no_backslash_escape ts given) (HasTextOf (IsBoundText reading.no_backslash_escape ts given)) old new text) →
      IsBindOutcomeIn reading query form (text_outcome text)
  text_told (Written len) o = (take len new, (given, reads, (o.0, o.1, o.2.1)), length-take-le len new (omega (arith, o.2.0, same)))
  text_told (TooShort len) o = (o.2.1.0, (given, reads, (o.0, o.1, o.2.1.1)), o.2.1.2)

  pub text_at_front : (text : TextInRoom) → OnTokensIn reading query (λ ts. IsTextInRoom (IsBoundText reading.no_backslash_escape ts given) (HasTextOf (IsBoundText reading.no_backslash_escape ts given)) old new text) →
      IfDone (text_outcome text) (λ len. IsBoundFormIn reading query form (take len new))
  text_at_front (Written len) o = (given, reads, (o.0, o.1, o.2.1))
  text_at_front (TooShort len) o = tt
