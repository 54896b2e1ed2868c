-- The facts about a surveyed query, for its one list of tokens.
use Rattle.std.proofs.Common.{◌≡◌, ◌≢◌, ◌++◌, ◌+◌, ◌<◌, ◌≤◌, ℕ, List, [], ◌∷◌, length, length-append, take, drop, sym, ap, ◌∙◌, subst, arith}
use Rattle.std.specs.Prelude.{None, Ok, Err, IfOk, IsErrAnd, Result}
use Rattle.std.proofs.Math.Seq.{take-append_seam}
use Rattle.std.proofs.lemmas.List.{take-append-drop}
use Rattle.mysql_named_params.specs.Tokens.{Token, bytes_of, text_of, Name, Mark}
use Rattle.mysql_named_params.specs.Places.{names, place_count}
use Rattle.mysql_named_params.specs.declared.places.FoundPlace.{FoundPlace}
use Rattle.mysql_named_params.proofs.TokenRowLemmas.{place_count-sum}
use Rattle.mysql_named_params.specs.Reading.{OnTokensIn}
use Rattle.mysql_named_params.specs.declared.places.Reading.{Reading}
use Rattle.mysql_named_params.proofs.ReadingLemmas.{one_reading, reading_exists, reading_text}
use Rattle.mysql_params_core.specs.Given.{Given}
use Rattle.mysql_params_core.specs.Lookup.{lookup}
use Rattle.mysql_values.specs.declared.value.Value.{Value}
use Rattle.mysql_binding.specs.AppendedText.{AreFound}
use Rattle.mysql_binding.specs.FirstCause.{mixed_cause}
use Rattle.mysql_binding.specs.FoundPlaces.{AreFirstPlaces, BeginWithPlaces, found_places}
use Rattle.mysql_binding.specs.Survey.{IsSurvey, IsSurveyOf}
use Rattle.mysql_binding.specs.declared.binding.survey.Survey.{Survey}
use Rattle.mysql_binding.proofs.CauseLemmas.{mixed_none_of, on_both}
use Rattle.mysql_binding.proofs.FoundPlacesLemmas.{all_begin}

-- each place has a byte
places_within : (ts : List Token) → place_count ts ≤ length (text_of ts)
places_within [] = omega arith
places_within (Name name ∷ ts) = omega (arith, places_within ts, length-append (bytes_of (Name name)) (text_of ts))
places_within (Mark ∷ ts) = omega (arith, places_within ts, length-append (bytes_of Mark) (text_of ts))
places_within (t ∷ ts) = omega (arith, places_within ts, length-append (bytes_of t) (text_of ts))

module _ (reading : Reading) (query : List ℕ) where
  -- the survey of the tokens that the query has is that of each list of its tokens
  pub survey_of : (survey : Survey) → OnTokensIn reading query (IsSurvey survey) → IsSurveyOf reading query survey
  survey_of survey o = λ ts is. subst (λ (us : List Token). IsSurvey survey us) (one_reading reading query o.0 ts o.1 is) o.2

  pub on_survey : (survey : Survey) → IsSurveyOf reading query survey → OnTokensIn reading query (IsSurvey survey)
  on_survey survey of =
      let t = reading_exists reading query in
      (t.0, t.1, of t.0 t.1)

  -- places with which those of the query begin are its first
  pub first_places_of : (places : List FoundPlace) → OnTokensIn reading query (BeginWithPlaces places) → AreFirstPlaces reading query places
  first_places_of places o = λ ts is.
      let same : o.0 ≡ ts = one_reading reading query o.0 ts o.1 is in
      sym (take-append_seam places o.2.0) ∙ ap (take (length places)) (o.2.1 ∙ ap found_places same)

  pub begin_with : (places : List FoundPlace) → AreFirstPlaces reading query places → OnTokensIn reading query (BeginWithPlaces places)
  begin_with places first =
      let t = reading_exists reading query in
      let all = found_places t.0 in
      (t.0, t.1, (drop (length places) all, ap (λ x. x ++ drop (length places) all) (first t.0 t.1) ∙ take-append-drop (length places) all))

  -- so are as many of its first as there is room for
  pub taken_are_first : (places : List FoundPlace) (n : ℕ) → OnTokensIn reading query (λ ts. places ≡ take n (found_places ts)) → AreFirstPlaces reading query places
  taken_are_first places n o =
      first_places_of places (o.0, o.1, (drop n (found_places o.0), ap (λ x. x ++ drop n (found_places o.0)) o.2 ∙ take-append-drop n (found_places o.0)))

  -- all places of the query are its first
  pub all_are_first : (places : List FoundPlace) → OnTokensIn reading query (λ ts. places ≡ found_places ts) → AreFirstPlaces reading query places
  all_are_first places o = first_places_of places (all_begin reading query places o)

  -- the survey counts the names of a query without both names and marks, and its places
  pub counted_names : (survey : Survey) → IsSurveyOf reading query survey → OnTokensIn reading query (λ ts. mixed_cause ts ≡ None) →
      OnTokensIn reading query (λ ts. (survey.names ≡ length (names ts)) × (mixed_cause ts ≡ None))
  counted_names survey of o = (o.0, o.1, ((of o.0 o.1).0, o.2))

  pub counted_places : (survey : Survey) → IsSurveyOf reading query survey →
      OnTokensIn reading query (λ ts. survey.names + survey.marks ≡ place_count ts)
  counted_places survey of =
      let o = on_survey survey of in
      (o.0, o.1, omega (arith, o.2.0, o.2.1, place_count-sum o.0))

  pub some_places : (survey : Survey) → IsSurveyOf reading query survey → survey.names + survey.marks ≢ 0 →
      OnTokensIn reading query (λ ts. place_count ts ≢ 0)
  some_places survey of some =
      let o = counted_places survey of in
      (o.0, o.1, λ none. some (o.2 ∙ none))

  -- a survey that has not both names and marks
  pub unmixed_query : (survey : Survey) → IsSurveyOf reading query survey → (0 < survey.names × 0 < survey.marks → ⊥) →
      OnTokensIn reading query (λ ts. mixed_cause ts ≡ None)
  unmixed_query survey of never =
      let o = on_survey survey of in
      (o.0, o.1, mixed_none_of o.0 survey.names survey.marks o.2.0 o.2.1 never)

  -- a call that gives an error gives no text
  pub no_text : {A E : Type 0} (Holds : List Token → A → Type 0) (r : Result A E) (Why : E → Type 0) → IsErrAnd r Why →
      OnTokensIn reading query (λ ts. IfOk r (Holds ts))
  no_text Holds (Ok a) Why is = absurd is
  no_text Holds (Err e) Why is =
      let t = reading_exists reading query in
      (t.0, t.1, tt)

  -- values that are looked up for a query without both names and marks
  pub found_on : (given : Given) (vs : List Value) → OnTokensIn reading query (λ ts. mixed_cause ts ≡ None) →
      OnTokensIn reading query (λ ts. lookup given (names ts) ≡ Ok vs) → OnTokensIn reading query (AreFound given vs)
  found_on given vs o looked = on_both reading query (λ ts. mixed_cause ts ≡ None) (λ ts. lookup given (names ts) ≡ Ok vs) o looked

  pub survey_within : (survey : Survey) → OnTokensIn reading query (IsSurvey survey) → survey.names + survey.marks ≤ length query
  survey_within survey o =
      omega (arith, o.2.0, o.2.1, place_count-sum o.0, places_within o.0, ap length (reading_text reading query o.0 o.1))
