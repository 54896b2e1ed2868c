-- The text that is written from a measured text, and its length.
use Rattle.std.specs.Prelude.{Ok, Err, IfErr, IfOk, Result, option_map, ◌^◌}
use Rattle.std.specs.List.{All, sum, sum_by}
use Rattle.std.proofs.Common.{◌≡◌, ℕ, ◌+◌, ◌<◌, ◌≤◌, List, [], ◌∷◌, ◌++◌, length, take, drop, take_all, length-append, map, get_or, Option, Some, None, refl, sym, ap, ◌∙◌, subst, arith}
use Rattle.std.proofs.lemmas.List.{length-map, map-append, take-append-le, take_more}
use Rattle.std.proofs.lemmas.List.Elements.{All-push, All-tail}
use Rattle.std.proofs.lemmas.List.Sums.{sum-map, sum_by-cons}
use Rattle.std.proofs.lemmas.Slice.{drop-append-drop}
use Rattle.mysql_values.specs.declared.value.Value.{Value}
use Rattle.mysql_values.specs.declared.value.Value.TheVariants.{NULL}
use Rattle.mysql_values.specs.Value.{FieldsInRange}
use Rattle.mysql_values.specs.Literal.{is_float}
use Rattle.mysql_named_params.specs.Tokens.{Token, bytes_of, Name, Mark}
use Rattle.mysql_named_params.specs.Places.{place_count}
use Rattle.mysql_named_params.specs.Reading.{OnTokensIn}
use Rattle.mysql_named_params.specs.declared.places.Reading.{Reading}
use Rattle.mysql_params_core.specs.Given.{Given}
use Rattle.mysql_binding.specs.PlaceValues.{placed_values}
use Rattle.mysql_binding.specs.declared.binding.place_values.PlaceValues.{PlaceValues}
use Rattle.mysql_binding.specs.AppendedText.{AreFound}
use Rattle.mysql_binding.specs.BindErrors.{IsCauseOrMemory}
use Rattle.mysql_binding.specs.FirstCause.{first_cause, float_value, first_float_from, first_float}
use Rattle.mysql_binding.specs.LiteralForm.{Literals, LiteralFacts, LackFloats, AreWrittenAs, literal_len, written_literal}
use Rattle.mysql_binding.specs.MeasuredText.{HasGivenLength, IsLookedUp, IsMeasured, IsOfFields}
use Rattle.mysql_binding.specs.Survey.{IsSurvey}
use Rattle.mysql_binding.specs.TextInRoom.{IsTextInRoom}
use Rattle.mysql_binding.specs.TextLength.{pieces_len}
use Rattle.mysql_binding.specs.WrittenText.{IsGivenText, IsWrittenText}
use Rattle.mysql_binding.specs.declared.bind_error.BindError.{BindError}
use Rattle.mysql_binding.specs.declared.binding.literals.MeasuredText.{MeasuredText}
use Rattle.mysql_binding.specs.declared.binding.room.TextInRoom.TheVariants.{Written}
use Rattle.mysql_binding.specs.declared.binding.survey.Survey.{Survey}
use Rattle.mysql_binding.proofs.BoundText.{bound}
use Rattle.mysql_binding.proofs.BoundTextLemmas.{given_on}
use Rattle.mysql_binding.proofs.CauseLemmas.{first_by, no_float_cause, on_both, on_map, value_each}
use Rattle.mysql_binding.proofs.PieceLemmas.{joined_text-pieces_from}
use Rattle.mysql_binding.proofs.TextLengthLemmas.{plain_len, pieces_len-plain_len}
use Rattle.mysql_binding.proofs.ValueLiteralLemmas.{none_step, has_literal}

-- ---- the text, before it is written

-- the literals of values that are no floats
written_literals : (literal : Literals) → LackFloats literal → (values : List Value) (place : ℕ) → first_float_from place values ≡ None →
    All FieldsInRange values → AreWrittenAs literal IsOfFields values (map (written_literal literal) values)
written_literals literal floats [] place none range = tt
written_literals literal floats (v ∷ values) place none range =
    let step = none_step (is_float v) place (first_float_from (place + 1) values) none in
    (has_literal literal floats v step.0, range 0 v (omega arith), written_literals literal floats values (place + 1) step.1 (All-tail FieldsInRange v values range))

written_len : (literal : Literals) (values : List Value) →
    sum_by length (map (written_literal literal) values) ≡ sum_by (literal_len literal) values
written_len literal [] = refl
written_len literal (v ∷ values) =
    omega (
      arith,
      sum_by-cons length (written_literal literal v) (map (written_literal literal) values),
      sum_by-cons (literal_len literal) v values,
      written_len literal values,
    )

pub bound_len : (ts : List Token) (texts : List (List ℕ)) → length texts ≡ place_count ts →
    length (bound ts texts) ≡ plain_len ts + sum_by length texts
bound_len [] [] e = refl
bound_len [] (text ∷ texts) e = absurd (omega (arith, e))
bound_len (Name name ∷ ts) [] e = absurd (omega (arith, e))
bound_len (Name name ∷ ts) (text ∷ texts) e =
    omega (arith, length-append text (bound ts texts), sum_by-cons length text texts, bound_len ts texts (omega (arith, e)))
bound_len (Mark ∷ ts) [] e = absurd (omega (arith, e))
bound_len (Mark ∷ ts) (text ∷ texts) e =
    omega (arith, length-append text (bound ts texts), sum_by-cons length text texts, bound_len ts texts (omega (arith, e)))
bound_len (t ∷ ts) texts e = omega (arith, length-append (bytes_of t) (bound ts texts), bound_len ts texts e)

none_mapped : (r : Option ℕ) → option_map float_value r ≡ None → r ≡ None
none_mapped None e = refl
none_mapped (Some n) e = cc

no_float_among : (ts : List Token) (given : Given) (values : List Value) → IsLookedUp ts given values → first_float values ≡ None
no_float_among ts given values known = none_mapped (first_float values) (no_float_cause ts values known.2)

module _ (literal : Literals) (ts : List Token) (given : Given) (measured : MeasuredText) (is : IsMeasured literal ts given measured) where
  abbrev values : List Value
  values = placed_values measured.values

  abbrev texts : List (List ℕ)
  texts = map (written_literal literal) values

  value_for_each : length values ≡ place_count ts
  value_for_each = value_each ts given values is.looked_up.0 is.looked_up.1 is.looked_up.2

  text_for_each : length texts ≡ place_count ts
  text_for_each = length-map values (written_literal literal) ∙ value_for_each

  lens_sum : sum measured.lens.items ≡ sum_by length texts
  lens_sum = ap sum is.lens_are ∙ (sum-map (literal_len literal) values ∙ sym (written_len literal values))

  -- there is a text of the length that is measured
  pub measured_length : LackFloats literal → HasGivenLength literal ts given measured.len
  measured_length floats = (
    bound ts texts,
    record {
      no_cause = first_by ts given values None is.looked_up.0 is.looked_up.1 is.looked_up.2;
      values = values;
      looked_up = is.looked_up.1;
      written_text = record {
        literals = texts;
        written = written_literals literal floats values 0 (no_float_among ts given values is.looked_up) is.in_range;
        text_is = joined_text-pieces_from [] ts texts text_for_each;
      };
    },
    omega (arith, bound_len ts texts text_for_each, pieces_len-plain_len ts, lens_sum, is.len_is),
  )

-- the measured text that the code finds
pub is_measured : (reading : Reading) (literal : Literals) (query : List ℕ) (given : Given) (survey : Survey) (kept : PlaceValues) (measured : MeasuredText) →
    OnTokensIn reading query (IsSurvey survey) → OnTokensIn reading query (λ ts. IsLookedUp ts given (placed_values kept)) →
    measured.values ≡ kept → All FieldsInRange (placed_values kept) →
    measured.lens.items ≡ map (literal_len literal) (placed_values kept) →
    measured.len ≡ survey.piece_bytes + sum measured.lens.items → measured.len < 2 ^ 63 →
    OnTokensIn reading query (λ ts. IsMeasured literal ts given measured)
is_measured reading literal query given survey kept measured surveyed known same range lens len fits =
    let looked : OnTokensIn reading query (λ ts. IsLookedUp ts given (placed_values measured.values)) = subst (λ vs. OnTokensIn reading query (λ ts. IsLookedUp ts given (placed_values vs))) (sym same) known in
    on_map reading query (λ ts. IsSurvey survey ts × IsLookedUp ts given (placed_values measured.values)) (λ ts. IsMeasured literal ts given measured)
    (λ ts is h. record {
      looked_up = h.1;
      in_range = subst (λ vs. All FieldsInRange (placed_values vs)) (sym same) range;
      lens_are = lens ∙ ap (λ vs. map (literal_len literal) (placed_values vs)) (sym same);
      len_is = len ∙ ap (λ n. n + sum measured.lens.items) h.0.3;
      fits = fits;
    })
    (on_both reading query (IsSurvey survey) (λ ts. IsLookedUp ts given (placed_values measured.values)) surveyed looked)

-- ---- the lengths of the literals so far, with one value more

pub lens_more : (literal : Literals) (values : List Value) (i : ℕ) (v : Value) (lens lens' : List ℕ) (n : ℕ) → i < length values → v ≡ get_or values i NULL →
    lens ≡ map (literal_len literal) (take i values) → n ≡ literal_len literal v → lens' ≡ lens ++ n ∷ [] →
    lens' ≡ map (literal_len literal) (take (i + 1) values)
lens_more literal values i v lens lens' n below is before n_is pushed =
    let len = literal_len literal in
    pushed
    ∙ (ap (λ x. x ++ n ∷ []) before
    ∙ (ap (λ x. map len (take i values) ++ x ∷ []) (n_is ∙ ap len is)
    ∙ sym (ap (map len) (take_more values i NULL below) ∙ map-append len (take i values) (get_or values i NULL ∷ []))))

pub range_more : (values : List Value) (i : ℕ) (v : Value) → i < length values → v ≡ get_or values i NULL →
    All FieldsInRange (take i values) → FieldsInRange v → All FieldsInRange (take (i + 1) values)
range_more values i v below is all here =
    subst (All FieldsInRange) (sym (take_more values i NULL below ∙ ap (λ x. take i values ++ x ∷ []) (sym is)))
    (All-push FieldsInRange (take i values) v all here)

-- ---- the parts from which the text is filled

module _ (reading : Reading) (literal : Literals) (query : List ℕ) (given : Given) (measured : MeasuredText) (o : OnTokensIn reading query (λ ts. IsMeasured literal ts given measured)) where
  pub fill_no_float : first_float (placed_values measured.values) ≡ None
  fill_no_float = no_float_among o.0 given (placed_values measured.values) o.2.looked_up

  pub fill_places : OnTokensIn reading query (λ ts. length (placed_values measured.values) ≡ place_count ts)
  fill_places = (o.0, o.1, value_for_each literal o.0 given measured o.2)

  pub fill_places_of : (values : List Value) → placed_values measured.values ≡ values → OnTokensIn reading query (λ ts. length values ≡ place_count ts)
  fill_places_of vs are = subst (λ vs. OnTokensIn reading query (λ ts. length vs ≡ place_count ts)) are fill_places

  pub fill_lens : measured.lens.items ≡ map (literal_len literal) (placed_values measured.values)
  fill_lens = o.2.lens_are

  pub fill_room : (room : List ℕ) → length room ≡ measured.len → OnTokensIn reading query (λ ts. length room ≡ pieces_len ts + sum measured.lens.items)
  fill_room room exact = (o.0, o.1, exact ∙ o.2.len_is)

  pub filled_text : (IsKnown : LiteralFacts) (text : List ℕ) →
      OnTokensIn reading query (λ ts. IsWrittenText literal IsKnown ts (placed_values measured.values) text) →
      OnTokensIn reading query (λ ts. IsGivenText literal IsKnown ts given text)
  filled_text IsKnown text written =
      given_on reading literal IsKnown query given (placed_values measured.values) text (o.0, o.1, o.2.looked_up) written

  pub filled_text_of : (IsKnown : LiteralFacts) (values : List Value) (text : List ℕ) → placed_values measured.values ≡ values →
      OnTokensIn reading query (λ ts. IsWrittenText literal IsKnown ts values text) →
      OnTokensIn reading query (λ ts. IsGivenText literal IsKnown ts given text)
  filled_text_of IsKnown vs text are written =
      filled_text IsKnown text (subst (λ vs. OnTokensIn reading query (λ ts. IsWrittenText literal IsKnown ts vs text)) (sym are) written)

-- ---- its place

-- a vector whose whole length is written over
pub whole_vector : (text items : List ℕ) (n : ℕ) → length text ≡ n → take n (text ++ drop (length text) items) ≡ text
whole_vector text items n e = take-append-le n text (drop (length text) items) (omega (arith, e)) ∙ take_all n text (omega (arith, e))

-- the front of a room that is written over
pub front_text : (reading : Reading) (literal : Literals) (IsKnown : LiteralFacts) (query : List ℕ) (given : Given) (len : ℕ) (text room : List ℕ) →
    len ≤ length room → length text ≡ len → OnTokensIn reading query (λ ts. IsGivenText literal IsKnown ts given text) →
    OnTokensIn reading query (λ ts. IsTextInRoom (IsGivenText literal IsKnown ts given) (HasGivenLength literal ts given) room (text ++ drop len room) (Written len))
front_text reading literal IsKnown query given len text room fits long o =
    let front : take len (text ++ drop len room) ≡ text = take-append-le len text (drop len room) (omega (arith, long)) ∙ take_all len text (omega (arith, long)) in
    (o.0, o.1, (fits, subst (IsGivenText literal IsKnown o.0 given) (sym front) o.2, drop-append-drop len room text len (omega arith) long))

-- ---- values that are found, as `measured_values` returns them

pub measured_found : {E : Type 0} (reading : Reading) (query : List ℕ) (literal : Literals) (given : Given) (survey : Survey) (vs : List Value) (r : Result MeasuredText E) →
    IfOk r (λ measured. (reading : Reading) (query : List ℕ) (given : Given) → OnTokensIn reading query (IsSurvey survey) → OnTokensIn reading query (AreFound given vs) → OnTokensIn reading query (λ ts. IsMeasured literal ts given measured)) →
    OnTokensIn reading query (IsSurvey survey) → OnTokensIn reading query (AreFound given vs) →
    OnTokensIn reading query (λ ts. IfOk r (IsMeasured literal ts given))
measured_found reading query literal given survey vs (Ok measured) told surveyed found = told reading query given surveyed found
measured_found reading query literal given survey vs (Err e) told surveyed found = (surveyed.0, surveyed.1, tt)

pub measured_refused : {A : Type 0} (reading : Reading) (query : List ℕ) (given : Given) (survey : Survey) (vs : List Value) (r : Result A BindError) →
    IfErr r (λ error. (reading : Reading) (query : List ℕ) (given : Given) → OnTokensIn reading query (IsSurvey survey) → OnTokensIn reading query (AreFound given vs) → OnTokensIn reading query (λ ts. IsCauseOrMemory (first_cause ts given) error)) →
    OnTokensIn reading query (IsSurvey survey) → OnTokensIn reading query (AreFound given vs) →
    OnTokensIn reading query (λ ts. IfErr r (IsCauseOrMemory (first_cause ts given)))
measured_refused reading query given survey vs (Ok a) told surveyed found = (surveyed.0, surveyed.1, tt)
measured_refused reading query given survey vs (Err e) told surveyed found = told reading query given surveyed found
