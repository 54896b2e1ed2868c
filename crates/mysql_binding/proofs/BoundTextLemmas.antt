-- The pieces of a query with the literals of values between them keep the promises.
use Rattle.std.specs.Prelude.{Result, Ok, Err, IfErr, IfOk, option_map, IsSomeAnd}
use Rattle.std.specs.Option.{option_or}
use Rattle.std.proofs.Common.{◌≡◌, ◌⊎◌, inl, inr, Bool, ℕ, ◌<◌, List, [], ◌∷◌, length, map, refl, sym, ap, subst, ◌∙◌, arith, Option, Some, None}
use Rattle.mysql_values.specs.declared.value.Value.{Value}
use Rattle.mysql_values.specs.Answer.{IsExpectedRefusal}
use Rattle.mysql_sql_text.specs.ReadLiteral.{Content, read_literal}
use Rattle.mysql_values.specs.Content.{content_of}
use Rattle.mysql_values.specs.Literal.{literal_of}
use Rattle.mysql_sql_text.specs.LiteralEnd.{ReadsBefore, continues_literal}
use Rattle.mysql_named_params.specs.Tokens.{Token, IsTokens, text_of}
use Rattle.mysql_named_params.specs.Places.{names, place_count, with_marks}
use Rattle.mysql_named_params.proofs.ReparsedLemmas.{marked_reading}
use Rattle.mysql_named_params.specs.Reading.{IsTokensIn, OnTokensIn}
use Rattle.mysql_named_params.specs.declared.places.Reading.{Reading}
use Rattle.mysql_params_core.specs.Given.{Given}
use Rattle.mysql_params_core.specs.Lookup.{LookupRefusal, lookup}
use Rattle.mysql_binding.specs.FirstCause.{Cause, mixed_query, refused_params, float_value, mixed_cause, first_float, later_cause, cause_after_lookup, first_cause}
use Rattle.mysql_binding.specs.declared.bind_error.BindError.{BindError}
use Rattle.mysql_binding.specs.declared.bind_error.BindError.TheVariants.{Mixed}
use Rattle.mysql_binding.specs.declared.binding.survey.Survey.{Survey}
use Rattle.mysql_binding.specs.Survey.{IsSurvey}
use Rattle.mysql_binding.specs.LiteralForm.{Literals, LiteralFacts, AreWrittenAs, IsPlainLiteral}
use Rattle.mysql_binding.specs.MeasuredText.{IsLookedUp}
use Rattle.mysql_binding.specs.WrittenText.{IsGivenText, IsWrittenText}
use Rattle.mysql_binding.specs.BindErrors.{IsCauseOrMemory, IsLookupError, cause_of}
use Rattle.mysql_binding.specs.Isolation.{IsBoundText}
use Rattle.mysql_binding.specs.Pieces.{pieces, joined_text}
use Rattle.mysql_binding.specs.Replaced.{AreLiterals, AreTokensOf, with_literal_tokens}
use Rattle.mysql_binding.specs.BoundAgain.{IsSameBoundAgain, IsSameByPosition}
use Rattle.mysql_binding.proofs.BoundAgainLemmas.{pieces-with_marks, same_bound_again, same_by_position, with_literal_tokens-with_marks}
use Rattle.mysql_binding.proofs.BoundText.{bound}
use Rattle.mysql_binding.proofs.CauseLemmas.{first_by, mixed_some, mixed_none_of, no_cause_parts, no_float_cause, no_place_out, on_both, on_map, value_each}
use Rattle.mysql_binding.proofs.ContentsLemmas as read
use Rattle.mysql_binding.proofs.PieceLemmas.{joined_text_count, joined_text_is}
use Rattle.mysql_binding.proofs.ValueLiteralLemmas.{mapped_literals}
use Rattle.mysql_binding.proofs.ReplacedLemmas.{isolated, literal_lists}
use Rattle.mysql_binding.proofs.SpliceLemmas.{as_many_lists}

-- the contents of the values, and that their literals read as these
pub record HaveContents (mode : Bool) (values : List Value) (texts : List (List ℕ)) : Type 0 where
  pub contents : List Content
  pub contents_are : map content_of values ≡ map Some contents
  pub reads : read.AreReadAs (read_literal mode) texts contents

pub contents_of_all : (mode : Bool) (values : List Value) (texts : List (List ℕ)) →
    AreWrittenAs (literal_of mode) (IsPlainLiteral mode) values texts → HaveContents mode values texts
contents_of_all mode [] [] h = record { contents = []; contents_are = refl; reads = tt }
contents_of_all mode [] (text ∷ texts) h = absurd h
contents_of_all mode (v ∷ values) [] h = absurd h
contents_of_all mode (v ∷ values) (text ∷ texts) h = one (content_of v) refl h.1.1.content (contents_of_all mode values texts h.2)
  where
    one : (c : Option Content) → content_of v ≡ c →
        IsSomeAnd c (ReadsBefore continues_literal mode text) → HaveContents mode values texts →
        HaveContents mode (v ∷ values) (text ∷ texts)
    one None e r more = absurd r
    one (Some content) e r more = record {
      contents = content ∷ more.contents;
      contents_are = ap (λ c. c ∷ map content_of values) e ∙ ap (λ cs. Some content ∷ cs) more.contents_are;
      reads = (r, more.reads);
    }

-- the shapes of plain literals
plain_shapes : (mode : Bool) (values : List Value) (texts : List (List ℕ)) →
    AreWrittenAs (literal_of mode) (IsPlainLiteral mode) values texts → AreLiterals mode texts
plain_shapes mode [] [] h = tt
plain_shapes mode [] (text ∷ texts) h = absurd h
plain_shapes mode (v ∷ values) [] h = absurd h
plain_shapes mode (v ∷ values) (text ∷ texts) h = (h.1.0, plain_shapes mode values texts h.2)

-- the tokens of a text with literals in the places of a query: those of the query with marks, with
-- the same literals in their places
isolated_in : (reading : Reading) (query text : List ℕ) (ts : List Token) (literals : List (List ℕ)) (lists : List (List Token)) →
    IsTokensIn reading query ts → AreLiterals reading.no_backslash_escape literals → AreTokensOf reading.no_backslash_escape literals lists →
    joined_text (pieces ts) literals ≡ Some text → IsTokens reading.no_backslash_escape text (with_literal_tokens ts lists)
isolated_in reading query text ts literals lists is shapes tokens exact =
    let mode = reading.no_backslash_escape in
    let count : length lists ≡ place_count ts = as_many_lists mode literals lists tokens ∙ joined_text_count [] ts literals text exact in
    let marked = ap (λ ps. joined_text ps literals) (pieces-with_marks [] ts) ∙ exact in
    subst (IsTokens mode text) (with_literal_tokens-with_marks ts lists count)
    (isolated mode (text_of (with_marks ts)) text (with_marks ts) literals lists (marked_reading reading query ts is) shapes tokens marked)

pub is_bound_text : (reading : Reading) (query : List ℕ) (ts : List Token) (given : Given) (text : List ℕ) →
    IsTokensIn reading query ts → IsGivenText (literal_of reading.no_backslash_escape) (IsPlainLiteral reading.no_backslash_escape) ts given text →
    IsBoundText reading.no_backslash_escape ts given text
is_bound_text reading query ts given text is g =
    let mode = reading.no_backslash_escape in
    let values = g.values in
    let texts = g.written_text.literals in
    let exact = g.written_text.text_is in
    let shapes = plain_shapes mode values texts g.written_text.written in
    let s = contents_of_all mode values texts g.written_text.written in
    let tokens = literal_lists mode texts shapes in
    let room : length texts ≡ place_count ts = joined_text_count [] ts texts text exact in
    let tokens_are : IsTokens mode text (with_literal_tokens ts tokens.0) = isolated_in reading query text ts texts tokens.0 is shapes tokens.1 exact in
    let text_is : text ≡ bound ts texts = joined_text_is ts texts text exact in
    let alone = no_place_out ts values (no_cause_parts ts given values g.no_cause g.looked_up).1 in
    record {
      no_cause = g.no_cause;
      values = values;
      looked_up = g.looked_up;
      literals = texts;
      written = mapped_literals (literal_of mode) (IsPlainLiteral mode) values texts g.written_text.written;
      shapes = shapes;
      text_is = exact;
      literal_tokens = tokens.0;
      tokens_of_literals = tokens.1;
      isolated = tokens_are;
      contents = s.contents;
      contents_are = s.contents_are;
      reads_in_place = read.in_place (read_literal mode) ts 0 [] [] texts s.contents alone s.reads room;
      read_back = rw text_is (read.contents_of_bound (read_literal mode) ts 0 [] [] texts s.contents alone s.reads room);
    }

-- ---- as the code finds them

-- a survey with names and marks
pub refused_mixed : (reading : Reading) (query : List ℕ) (given : Given) (survey : Survey) →
    OnTokensIn reading query (IsSurvey survey) → 0 < survey.names → 0 < survey.marks →
    OnTokensIn reading query (λ ts. IsCauseOrMemory (first_cause ts given) Mixed)
refused_mixed reading query given survey o some_names some_marks =
    on_map reading query (IsSurvey survey) (λ ts. IsCauseOrMemory (first_cause ts given) Mixed)
    (λ ts is h. inr (mixed_query, ap (λ x. option_or x (cause_after_lookup ts (lookup given (names ts)))) (mixed_some ts (omega (arith, h.0, some_names), omega (arith, h.1, some_marks))), refl))
    o

pub unmixed_survey : (reading : Reading) (query : List ℕ) (survey : Survey) →
    OnTokensIn reading query (IsSurvey survey) → (0 < survey.names × 0 < survey.marks → ⊥) →
    OnTokensIn reading query (λ ts. (survey.names ≡ length (names ts)) × (mixed_cause ts ≡ None))
unmixed_survey reading query survey o never =
    on_map reading query (IsSurvey survey) _
    (λ ts is h. (h.0, mixed_none_of ts survey.names survey.marks h.0 h.1 never)) o

-- ---- a lookup that refuses

-- an error is no refusal, or the one that is expected
pub no_refusal_or_expected : {Seen Refusal : Type 0} (expected : Result Seen Refusal) (Takes : Type 0)
    (refusal : Option Refusal) → IsExpectedRefusal expected Takes refusal →
    (refusal ≡ None) ⊎ ((why : Refusal) × (expected ≡ Err why) × (refusal ≡ Some why))
no_refusal_or_expected expected Takes None e = inl refl
no_refusal_or_expected expected Takes (Some why) e = inr (why, e, refl)

pub refused_lookup : (reading : Reading) (query : List ℕ) (given : Given) (count : ℕ) (ns : List (List ℕ)) (error : BindError) →
    OnTokensIn reading query (λ ts. (count ≡ length (names ts)) × (mixed_cause ts ≡ None)) →
    OnTokensIn reading query (λ ts. ns ≡ names ts) →
    ((refusal : LookupRefusal) × (lookup given ns ≡ Err refusal) × (cause_of error ≡ Some (refused_params refusal))) →
    OnTokensIn reading query (λ ts. IsCauseOrMemory (first_cause ts given) error)
refused_lookup reading query given count ns error unmixed listed r =
    on_map reading query (λ ts. ((count ≡ length (names ts)) × (mixed_cause ts ≡ None)) × (ns ≡ names ts)) (λ ts. IsCauseOrMemory (first_cause ts given) error)
    (λ ts is h. inr (refused_params r.0, ap (λ x. option_or x (cause_after_lookup ts (lookup given (names ts)))) h.0.1 ∙ ap (cause_after_lookup ts) (ap (lookup given) (sym h.1) ∙ r.1), r.2))
    (on_both reading query _ (λ ts. ns ≡ names ts) unmixed listed)

-- an error of a lookup of the names that are listed
pub lookup_told : {A : Type 0} (reading : Reading) (query : List ℕ) (given : Given) (count : ℕ) (ns : List (List ℕ)) (r : Result A BindError) →
    OnTokensIn reading query (λ ts. (count ≡ length (names ts)) × (mixed_cause ts ≡ None)) →
    OnTokensIn reading query (λ ts. ns ≡ names ts) → IfErr r (IsLookupError given ns) →
    IfErr r (λ error. OnTokensIn reading query (λ ts. IsCauseOrMemory (first_cause ts given) error))
lookup_told reading query given count ns (Ok a) unmixed listed told = tt
lookup_told reading query given count ns (Err error) unmixed listed (inl memory) = (unmixed.0, unmixed.1, inl memory)
lookup_told reading query given count ns (Err error) unmixed listed (inr r) = refused_lookup reading query given count ns error unmixed listed r

pub looked_up_names : (reading : Reading) (query : List ℕ) (given : Given) (ns : List (List ℕ)) (values : List Value) →
    OnTokensIn reading query (λ ts. ns ≡ names ts) → lookup given ns ≡ Ok values →
    OnTokensIn reading query (λ ts. lookup given (names ts) ≡ Ok values)
looked_up_names reading query given ns values listed looked =
    on_map reading query (λ ts. ns ≡ names ts) _ (λ ts is h. ap (lookup given) (sym h) ∙ looked) listed

-- a cause that is found after the values is the first one
pub cause_after_values : (ts : List Token) (given : Given) (values : List Value) (error : BindError) →
    mixed_cause ts ≡ None → lookup given (names ts) ≡ Ok values →
    (r : Option Cause) → later_cause ts values ≡ r →
    Some (cause_of error) ≡ option_map Some r → IsCauseOrMemory (first_cause ts given) error
cause_after_values ts given values error mixed found None r e = cc
cause_after_values ts given values error mixed found (Some why) r e =
    let same : cause_of error ≡ Some why = cc in
    inr (why, first_by ts given values (Some why) mixed found r, same)

module _ (reading : Reading) (query : List ℕ) (given : Given) (survey : Survey) (values : List Value) (surveyed : OnTokensIn reading query (IsSurvey survey)) (never : 0 < survey.names × 0 < survey.marks → ⊥) (looked : OnTokensIn reading query (λ ts. lookup given (names ts) ≡ Ok values)) where
  known : OnTokensIn reading query (λ ts. IsSurvey survey ts × (lookup given (names ts) ≡ Ok values))
  known = on_both reading query (IsSurvey survey) (λ ts. lookup given (names ts) ≡ Ok values) surveyed looked

  pub refused_later : (error : BindError) →
      ((ts : List Token) → IsSurvey survey ts → Some (cause_of error) ≡ option_map Some (later_cause ts values)) →
      OnTokensIn reading query (λ ts. IsCauseOrMemory (first_cause ts given) error)
  refused_later error later =
      on_map reading query _ (λ ts. IsCauseOrMemory (first_cause ts given) error)
      (λ ts is h. cause_after_values ts given values error (mixed_none_of ts survey.names survey.marks h.0.0 h.0.1 never) h.1 (later_cause ts values) refl (later ts h.0)) known

  -- if there is no later cause
  pub looked_up : ((ts : List Token) → IsSurvey survey ts → None ≡ option_map Some (later_cause ts values)) →
      OnTokensIn reading query (λ ts. IsLookedUp ts given values)
  looked_up later =
      on_map reading query _ (λ ts. IsLookedUp ts given values)
      (λ ts is h. (mixed_none_of ts survey.names survey.marks h.0.0 h.0.1 never, h.1, no_cause_is (later_cause ts values) (later ts h.0))) known
    where
      no_cause_is : (r : Option Cause) → None ≡ option_map Some r → r ≡ None
      no_cause_is None e = refl
      no_cause_is (Some why) e = cc

-- there is a value for each place, and none is a float
pub value_for_each : (reading : Reading) (query : List ℕ) (given : Given) (values : List Value) →
    OnTokensIn reading query (λ ts. IsLookedUp ts given values) →
    OnTokensIn reading query (λ ts. length values ≡ place_count ts)
value_for_each reading query given values h =
    on_map reading query (λ ts. IsLookedUp ts given values) (λ ts. length values ≡ place_count ts)
    (λ ts is k. value_each ts given values k.0 k.1 k.2) h

pub no_float_among : (reading : Reading) (query : List ℕ) (given : Given) (values : List Value) →
    OnTokensIn reading query (λ ts. IsLookedUp ts given values) → first_float values ≡ None
no_float_among reading query given values h = none_mapped (first_float values) (no_float_cause h.0 values h.2.2)
  where
    none_mapped : (r : Option ℕ) → option_map float_value r ≡ None → r ≡ None
    none_mapped None e = refl
    none_mapped (Some n) e = cc

-- ---- the promises about a text

pub given_on : (reading : Reading) (literal : Literals) (IsKnown : LiteralFacts) (query : List ℕ) (given : Given) (values : List Value)
    (text : List ℕ) → OnTokensIn reading query (λ ts. IsLookedUp ts given values) →
    OnTokensIn reading query (λ ts. IsWrittenText literal IsKnown ts values text) →
    OnTokensIn reading query (λ ts. IsGivenText literal IsKnown ts given text)
given_on reading literal IsKnown query given values text h written =
    on_map reading query (λ ts. IsLookedUp ts given values × IsWrittenText literal IsKnown ts values text) (λ ts. IsGivenText literal IsKnown ts given text)
    (λ ts is k. record {
      no_cause = first_by ts given values None k.0.0 k.0.1 k.0.2;
      values = values;
      looked_up = k.0.1;
      written_text = k.1;
    })
    (on_both reading query (λ ts. IsLookedUp ts given values) (λ ts. IsWrittenText literal IsKnown ts values text) h written)

bound_on : (reading : Reading) (query : List ℕ) (given : Given) (text : List ℕ) →
    OnTokensIn reading query (λ ts. IsGivenText (literal_of reading.no_backslash_escape) (IsPlainLiteral reading.no_backslash_escape) ts given text) →
    OnTokensIn reading query (λ ts. IsBoundText reading.no_backslash_escape ts given text)
bound_on reading query given text o =
    let mode = reading.no_backslash_escape in
    on_map reading query (λ ts. IsGivenText (literal_of mode) (IsPlainLiteral mode) ts given text) (λ ts. IsBoundText mode ts given text)
    (λ ts is g. is_bound_text reading query ts given text is g) o

-- the promises of the calls that write the literals of a mode
module _ {A E : Type 0} (items : A → List ℕ) (reading : Reading) (query : List ℕ) (given : Given) where
  abbrev pub GivesText : Result A E → Type 0
  GivesText r = OnTokensIn reading query (λ ts. IfOk r (λ text. IsGivenText (literal_of reading.no_backslash_escape) (IsPlainLiteral reading.no_backslash_escape) ts given (items text)))

  pub answer_bound : (r : Result A E) → GivesText r →
      OnTokensIn reading query (λ ts. IfOk r (λ text. IsBoundText reading.no_backslash_escape ts given (items text)))
  answer_bound (Ok text) o = bound_on reading query given (items text) o
  answer_bound (Err e) o = o

  pub answer_bound_again : (r : Result A E) → GivesText r → IfOk r (λ text. IsSameBoundAgain reading.no_backslash_escape (items text))
  answer_bound_again (Ok text) o = same_bound_again reading query (items text) given (bound_on reading query given (items text) o)
  answer_bound_again (Err e) o = tt

  pub answer_by_position : (r : Result A E) → GivesText r →
      OnTokensIn reading query (λ ts. IfOk r (λ text. IsSameByPosition reading.no_backslash_escape ts given (items text)))
  answer_by_position (Ok text) o = same_by_position reading query (items text) given (bound_on reading query given (items text) o)
  answer_by_position (Err e) o = o
