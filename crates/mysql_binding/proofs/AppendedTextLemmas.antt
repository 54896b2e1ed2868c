-- A text that is written to the end of another one.
use Rattle.std.specs.Prelude.{Result, Ok, Err, IfErr, IsErrAnd, OnOk, option_map}
use Rattle.std.proofs.Common.{◌≡◌, ◌≤◌, ℕ, List, ◌++◌, length, take, drop, take_all, Option, Some, None, refl, sym, ap, ◌∙◌, subst, arith}
use Rattle.std.proofs.lemmas.List.{take-append-le}
use Rattle.mysql_values.specs.Literal.{literal_of}
use Rattle.mysql_values.specs.declared.value.Value.{Value}
use Rattle.mysql_named_params.specs.Tokens.{Token}
use Rattle.mysql_named_params.specs.Reading.{OnTokensIn}
use Rattle.mysql_named_params.specs.declared.places.Reading.{Reading}
use Rattle.mysql_params_core.specs.Given.{Given}
use Rattle.mysql_binding.specs.AppendedText.{AreFound}
use Rattle.mysql_binding.specs.BindErrors.{IsCauseOrMemory, cause_of}
use Rattle.mysql_binding.specs.BoundPairs.{IsBoundAfterIn}
use Rattle.mysql_binding.specs.FirstCause.{Cause, later_cause, first_cause}
use Rattle.mysql_binding.specs.LiteralForm.{IsPlainLiteral}
use Rattle.mysql_binding.specs.MeasuredText.{IsLookedUp}
use Rattle.mysql_binding.specs.Survey.{IsSurvey}
use Rattle.mysql_binding.specs.WrittenText.{IsGivenText}
use Rattle.mysql_binding.specs.declared.bind_error.BindError.{BindError}
use Rattle.mysql_binding.specs.declared.binding.survey.Survey.{Survey}
use Rattle.mysql_binding.proofs.BoundTextLemmas.{answer_bound, cause_after_values}
use Rattle.mysql_binding.proofs.CauseLemmas.{on_both, on_map}
use Rattle.mysql_binding.proofs.MeasuredTextLemmas.{whole_vector}

-- values that are found, if there is no later cause
pub found_looked_up : (reading : Reading) (query : List ℕ) (given : Given) (survey : Survey) (values : List Value) →
    OnTokensIn reading query (IsSurvey survey) → OnTokensIn reading query (AreFound given values) →
    ((ts : List Token) → IsSurvey survey ts → None ≡ option_map Some (later_cause ts values)) →
    OnTokensIn reading query (λ ts. IsLookedUp ts given values)
found_looked_up reading query given survey values surveyed found later =
    on_map reading query (λ ts. IsSurvey survey ts × AreFound given values ts) (λ ts. IsLookedUp ts given values)
    (λ ts is h. (h.1.0, h.1.1, no_cause_is (later_cause ts values) (later ts h.0)))
    (on_both reading query (IsSurvey survey) (AreFound given values) surveyed found)
  where
    no_cause_is : (r : Option Cause) → None ≡ option_map Some r → r ≡ None
    no_cause_is None e = refl
    no_cause_is (Some why) e = cc

-- values that are refused for a later cause
pub found_refused : (reading : Reading) (query : List ℕ) (given : Given) (survey : Survey) (values : List Value) (error : BindError) →
    OnTokensIn reading query (IsSurvey survey) → OnTokensIn reading query (AreFound given values) →
    ((ts : List Token) → IsSurvey survey ts → Some (cause_of error) ≡ option_map Some (later_cause ts values)) →
    OnTokensIn reading query (λ ts. IsCauseOrMemory (first_cause ts given) error)
found_refused reading query given survey values error surveyed found later =
    on_map reading query (λ ts. IsSurvey survey ts × AreFound given values ts) (λ ts. IsCauseOrMemory (first_cause ts given) error)
    (λ ts is h. cause_after_values ts given values error h.1.0 h.1.1 (later_cause ts values) refl (later ts h.0))
    (on_both reading query (IsSurvey survey) (AreFound given values) surveyed found)

-- an error that is passed on
pub handed_on : {A E : Type 0} (P : E → Type 0) (r : Result A E) (e : E) → IsErrAnd r (λ t. t ≡ e) → P e → IfErr r P
handed_on P (Ok a) e same h = absurd same
handed_on P (Err t) e same h = subst P (sym same) h

-- the bytes of a vector that is longer and filled from an index on
pub appended_bytes : (old resized text more zeros slice : List ℕ) (at end n k : ℕ) → length text ≡ n → end ≡ n → at ≡ length old → slice ≡ resized → at ≤ k →
    resized ≡ take k old ++ zeros → take end text ≡ take at slice ++ more → take n (text ++ drop (length text) resized) ≡ old ++ more
appended_bytes old resized text more zeros slice at end n k long is start same below longer filled =
    let all : take k old ≡ old = take_all k old (omega (arith, start, below)) in
    let front : take at slice ≡ old =
    ap (take at) (same ∙ (longer ∙ ap (λ u. u ++ zeros) all)) ∙ (take-append-le at old zeros (omega (arith, start)) ∙ take_all at old (omega (arith, start))) in
    whole_vector text resized n long ∙ (sym (take_all end text (omega (arith, long, is))) ∙ (filled ∙ ap (λ u. u ++ more) front))

-- the text that is written after another one, with plain literals, is the bound text
pub bound_after : {A E : Type 0} (reading : Reading) (query : List ℕ) (given : Given) (before after : List ℕ) (r : Result A E) →
    OnOk r ((more : List ℕ) × (after ≡ before ++ more) × OnTokensIn reading query (λ ts. IsGivenText (literal_of reading.no_backslash_escape) (IsPlainLiteral reading.no_backslash_escape) ts given more)) →
    OnOk r (IsBoundAfterIn reading query given before after)
bound_after reading query given before after (Ok done) (more, is, o) = (more, is, answer_bound {E = BindError} (λ (x : List ℕ). x) reading query given (Ok more) o)
bound_after reading query given before after (Err e) h = tt
