-- Binding a few values by position by the spans of a query's marks.
use Rattle.std.specs.Prelude.{Ok, Err, Option, Some, None, IfSome, set}
use Rattle.std.specs.List.{sum}
use Rattle.std.proofs.Common.{◌≡◌, ◌≢◌, ℕ, ◌+◌, ◌-◌, ◌<◌, ◌≤◌, false, if◌then◌else◌, List, [], ◌∷◌, ◌++◌, length, map, take, take_all, drop, get_or, refl, sym, ap, ◌∙◌, subst, arith}
use Rattle.std.proofs.lemmas.Bool.{eq-eqb, le-leb}
use Rattle.std.proofs.lemmas.Grind.{take-set_at}
use Rattle.std.proofs.lemmas.List.{map-append, nil_from_length, take_rest}
use Rattle.mysql_wire_part.specs.Reading.{unexpected_eof}
use Rattle.mysql_value_core.specs.declared.value.Value.{Value}
use Rattle.mysql_value_core.specs.declared.value.ValueRef.{ValueRef}
use Rattle.mysql_values.specs.BorrowedValue.{owned, owned_values}
use Rattle.mysql_named_params.specs.Places.{names, place_count}
use Rattle.mysql_named_params.proofs.TokenRowLemmas.{place_count-sum}
use Rattle.mysql_named_params.specs.Reading.{OnTokensIn}
use Rattle.mysql_named_params.specs.declared.places.Reading.{Reading}
use Rattle.mysql_params_core.specs.Given.{Given, empty, positional}
use Rattle.mysql_params_core.specs.Lookup.{lookup}
use Rattle.mysql_binding.specs.FirstCause.{first_float, first_float_from, later_cause, mark_count_differs}
use Rattle.mysql_binding.specs.LiteralForm.{Literals, LiteralFacts, literal_len}
use Rattle.mysql_binding.specs.MeasuredText.{IsLookedUp}
use Rattle.mysql_binding.specs.PlaceSpans.{AreSpansOf, IsTextAt, StaysInRoom}
use Rattle.mysql_binding.specs.SpannedQuery.{HasOwnSpans}
use Rattle.mysql_binding.specs.Survey.{IsSurvey}
use Rattle.mysql_binding.specs.WrittenText.{IsGivenText, IsWrittenText}
use Rattle.mysql_binding.specs.declared.binding.room.TextInRoom.TheVariants.{Written}
use Rattle.mysql_binding.specs.declared.binding.spanned.SpannedQuery.{SpannedQuery}
use Rattle.mysql_binding.specs.declared.binding.spans.PlaceSpan.{PlaceSpan}
use Rattle.mysql_binding.specs.declared.binding.survey.Survey.{Survey}
use Rattle.mysql_binding.proofs.BoundText.{bound}
use Rattle.mysql_binding.proofs.BoundTextLemmas.{given_on}
use Rattle.mysql_binding.proofs.CauseLemmas.{later_is_float, map_none, mixed_none_of}
use Rattle.mysql_binding.proofs.PieceLemmas.{joined_text-pieces_from}
use Rattle.mysql_binding.proofs.SpanLemmas.{own_text_is}
use Rattle.mysql_binding.proofs.ValueLiteralLemmas.{as_many_texts}
use Rattle.mysql_flat_params.specs.FewValues.{IsFewBound}
use Rattle.mysql_flat_params.specs.FlatForm.{after_name, after_value, in_parameter, read_name, read_parameter, HasFirstParameter, IsFormReading}
use Rattle.mysql_flat_params.specs.RowNames.{IsReadUnder}
use Rattle.mysql_flat_params.proofs.FormLemmas.{LeadsTo, parameter_read, positional_has_first, whole_read}
use Rattle.mysql_flat_params.proofs.RowNamesLemmas.{some_bytes}

-- ---- the values of a form

-- the byte 0 is an empty name
pub no_name_read : (place position : ℕ) (bytes : List ℕ) → 1 ≤ length bytes → get_or bytes 0 0 ≡ 0 →
    read_name place position bytes ≡ Ok ([], take (length bytes - 1) (drop 1 bytes))
no_name_read place position [] some none = absurd (omega arith)
no_name_read place position (b ∷ bytes) some none =
    ap (λ n. read_name place position (n ∷ bytes)) none
    ∙ ap (λ fits. in_parameter place position 0 (if fits then Ok ([], bytes) else Err unexpected_eof)) (le-leb 0 (length bytes) (omega arith))
    ∙ ap (λ rest. Ok ([], rest)) (sym (take_rest (b ∷ bytes) 1))

-- the parameters once these values are read
abbrev pub positional_so_far : List ValueRef → Given
positional_so_far [] = empty
positional_so_far (value ∷ values) = positional (owned_values (value ∷ values))

-- a parameter by position is read
parameter_by_position : (total place : ℕ) (values : List ValueRef) (value : ValueRef) (bytes next : List ℕ) →
    IsReadUnder place (total - length bytes) [] (owned value) bytes next →
    read_parameter total place (positional_so_far values) bytes ≡ Ok (positional_so_far (values ++ value ∷ []), next)
parameter_by_position total place [] value bytes next (middle, name_is, value_is) =
    ap (after_name total place (total - length bytes) empty) name_is
    ∙ ap (after_value empty []) value_is
parameter_by_position total place (first ∷ values) value bytes next (middle, name_is, value_is) =
    ap (after_name total place (total - length bytes) (positional (owned_values (first ∷ values)))) name_is
    ∙ ap (after_value (positional (owned_values (first ∷ values))) []) value_is
    ∙ ap (λ vs. Ok (positional vs, next)) (sym (map-append owned (first ∷ values) (value ∷ [])))

-- the values up to an index are those of the form so far
pub record ReadByPosition (form : List ℕ) (values : List ValueRef) (i : ℕ) (rest : List ℕ) : Type 0 where
  pub within : length rest ≤ length form
  pub leads : LeadsTo (length form) 0 empty form i (positional_so_far (take i values)) rest

pub no_value_read : (form : List ℕ) (values : List ValueRef) → ReadByPosition form values 0 form
no_value_read form values = record {
  within = omega arith;
  leads = λ reading h. h;
}

module _ (form : List ℕ) (values : List ValueRef) (i : ℕ) (rest : List ℕ) (s : ReadByPosition form values i rest) where
  pub one_more_value : (value : ValueRef) (next : List ℕ) → i < length values →
      IsReadUnder i (length form - length rest) [] (owned value) rest next →
      ReadByPosition form (set values i value) (i + 1) next
  one_more_value value next below h =
      let step = parameter_read (length form) 0 empty form i (positional_so_far (take i values)) rest (positional_so_far (take i values ++ value ∷ [])) next (i + 1)
      s.leads (some_bytes i (length form - length rest) [] (owned value) rest next h)
      (parameter_by_position (length form) i (take i values) value rest next h) refl in
      record {
        within = omega (arith, s.within, step.1);
        leads = subst (λ vs. LeadsTo (length form) 0 empty form (i + 1) (positional_so_far vs) next) (sym (take-set_at values i (i + 1) value refl below)) step.0;
      }

  some_values : (vs : List ValueRef) → 0 < length vs → positional_so_far vs ≡ positional (owned_values vs)
  some_values [] some = absurd (omega arith)
  some_values (value ∷ vs) some = refl

  pub all_values_read : 0 < length values → length values ≤ i → rest ≡ [] → IsFormReading form (Ok (positional (owned_values values)))
  all_values_read some done none =
      subst (λ g. IsFormReading form (Ok g)) (ap positional_so_far (take_all i values done) ∙ some_values values some)
      (whole_read (length form) 0 empty form i (positional_so_far (take i values)) rest s.leads none)

-- such a form has some bytes
some_form : (form : List ℕ) (values : List Value) → IsFormReading form (Ok (positional values)) → form ≢ []
some_form [] values h e = absurd (no_first (positional_has_first [] values h))
  where
    no_first : HasFirstParameter [] → ⊥
    no_first first = cc
some_form (b ∷ form) values h e = cc

-- .. if it is bound
pub some_if : (form : List ℕ) (values : List Value) → IsFormReading form (Ok (positional values)) → (r : Option ℕ) → IfSome r (λ len. form ≢ [])
some_if form values reads None = tt
some_if form values reads (Some len) = some_form form values reads

-- ---- the lengths of the literals

-- those up to an index, and the text with them
pub record LensSoFar (literal : Literals) (values : List ValueRef) (lens : List ℕ) (piece_bytes room_len i at : ℕ) : Type 0 where
  pub lens_are : take i lens ≡ map (literal_len literal) (owned_values (take i values))
  pub at_is : at ≡ piece_bytes + sum (take i lens)
  pub fits : at ≤ room_len
  pub no_float : first_float_from i (owned_values (drop i values)) ≡ first_float (owned_values values)

-- ---- the text

-- as many marks as values
same_count : (n k v : ℕ) → n ≡ 0 → k ≡ v → mark_count_differs n k v ≡ false
same_count n k v none same = subst (λ m. mark_count_differs m k v ≡ false) (sym none) (counted k v same)
  where
    counted : (k v : ℕ) → k ≡ v → mark_count_differs 0 k v ≡ false
    counted k v e = rw (eq-eqb k v e) refl

module _ (survey : Survey) (reading : Reading) (query : List ℕ) (o : OnTokensIn reading query (IsSurvey survey)) (values : List Value)
    (no_names : survey.names ≡ 0) (as_many : survey.marks ≡ length values) where
  -- there is a value for each place
  pub value_for_each : OnTokensIn reading query (λ ts. length values ≡ place_count ts)
  value_for_each = (o.0, o.1, omega (arith, o.2.0, o.2.1, no_names, as_many, place_count-sum o.0))

  -- there is no cause to refuse
  pub values_looked_up : survey.not_alone ≡ None → first_float values ≡ None → OnTokensIn reading query (λ ts. IsLookedUp ts (positional values) values)
  values_looked_up alone no_float = (
    o.0,
    o.1,
    (
      mixed_none_of o.0 survey.names survey.marks o.2.0 o.2.1 (λ both. absurd (omega (arith, both.0, no_names))),
      ap (lookup (positional values)) (nil_from_length (names o.0) (sym o.2.0 ∙ no_names)),
      map_none Some (later_cause o.0 values) (sym (later_is_float survey o.0 values o.2 None (same_count survey.names survey.marks (length values) no_names as_many) alone (sym no_float))),
    ),
  )

module _ (survey : Survey) (spans : List PlaceSpan) (reading : Reading) (query : List ℕ) (own : AreSpansOf survey spans reading query) (values : List Value)
    (no_names : survey.names ≡ 0) (as_many : survey.marks ≡ length values) (alone : survey.not_alone ≡ None) (no_float : first_float values ≡ None) where
  -- the text is that of the query and the values
  pub text_of_values : (literal : Literals) (IsKnown : LiteralFacts) (text : List ℕ) → IsTextAt literal IsKnown spans query values text →
      OnTokensIn reading query (λ ts. IsGivenText literal IsKnown ts (positional values) text)
  text_of_values literal IsKnown text at =
      let surveyed : OnTokensIn reading query (IsSurvey survey) = (own.0, own.1, own.2.0) in
      let each : length at.0 ≡ place_count own.0 = as_many_texts literal IsKnown values at.0 at.1 ∙ omega (arith, own.2.0.0, own.2.0.1, no_names, as_many, place_count-sum own.0) in
      let text_is : text ≡ bound own.0 at.0 = at.2 ∙ own_text_is survey spans reading query own at.0 each in
      let written : IsWrittenText literal IsKnown own.0 values text = record {
        literals = at.0;
        written = at.1;
        text_is = joined_text-pieces_from [] own.0 at.0 each ∙ ap Some (sym text_is);
      } in
      given_on reading literal IsKnown query (positional values) values text (values_looked_up survey reading query surveyed values no_names as_many alone no_float) (own.0, own.1, written)

-- the text in the room
pub few_bound : (spanned : SpannedQuery) (values : List Value) (form : List ℕ) → IsFormReading form (Ok (positional values)) →
    spanned.survey.names ≡ 0 → spanned.survey.marks ≡ length values → spanned.survey.not_alone ≡ None →
    (literal : Literals) (IsKnown : LiteralFacts) (old new : List ℕ) (r : Option ℕ) →
    IfSome r (λ len. first_float values ≡ None) →
    IfSome r (λ len. IsTextAt literal IsKnown spanned.spans.now spanned.query.now values (take len new)) →
    IfSome r (λ len. StaysInRoom old new (Written len)) →
    IfSome r (λ len. (reading : Reading) → HasOwnSpans spanned reading → IsFewBound literal IsKnown reading spanned.query.now form old new len)
few_bound spanned values form reads no_names as_many alone literal IsKnown old new None no_float at room = tt
few_bound spanned values form reads no_names as_many alone literal IsKnown old new (Some len) no_float at room = λ reading own.
    let o = text_of_values spanned.survey spanned.spans.now reading spanned.query.now own values no_names as_many alone no_float literal IsKnown (take len new) at in
    (positional values, reads, (o.0, o.1, (room.0, o.2, room.2)))
