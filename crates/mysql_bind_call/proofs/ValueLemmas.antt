-- The text of values that is written for an accepted query is the one that the scope promises.
use Rattle.std.specs.Prelude.{Bool, true, false, Result, Ok, Err, IfErr, IfOk, IsErrOf, Some}
use Rattle.std.proofs.Common.{◌≡◌, ℕ, List, sym, subst}
use Rattle.mysql_values.specs.Literal.{literal_of}
use Rattle.mysql_named_params.specs.Tokens.{Token}
use Rattle.mysql_named_params.specs.Reading.{OnTokensIn, reading_with}
use Rattle.mysql_portable.specs.Steady.{HoldNoEscapes}
use Rattle.mysql_params_core.specs.Given.{Given}
use Rattle.mysql_binding.specs.LiteralForm.{IsPlainLiteral}
use Rattle.mysql_binding.specs.WrittenText.{IsGivenText}
use Rattle.mysql_binding.proofs.BoundTextLemmas.{is_bound_text}
use Rattle.mysql_binding.proofs.CauseLemmas.{on_both}
use Rattle.mysql_steady_text.specs.SteadyLiteral.{steady_literal_of}
use Rattle.mysql_steady_text.specs.SteadyLiterals.{IsSteadyFor}
use Rattle.mysql_steady_text.specs.BothModesText.{IsTextInBothModes}
use Rattle.mysql_steady_text.proofs.BothModesAnswerLemmas.{Agree}
use Rattle.mysql_steady_text.proofs.BothModesTextLemmas.{in_both_modes}
use Rattle.mysql_steady_text.proofs.WideSteadyLemmas.{is_steady_text_in}
use Rattle.mysql_steady_text.proofs.WideBothModesLemmas.{is_wide_text}
use Rattle.mysql_bind_call.specs.BoundTexts.{IsValuesText}
use Rattle.mysql_bind_call.specs.Accepted.{IsAccepted, OnQuery}
use Rattle.mysql_steady_text.specs.declared.purpose.Purpose.{Purpose}
use Rattle.mysql_steady_text.specs.declared.purpose.Scope.{Scope}
use Rattle.mysql_steady_text.specs.declared.purpose.Scope.TheVariants.{OneMode, EitherMode, AnyConnection}
use Rattle.mysql_bind_call.proofs.ResultLemmas.{ok_to}
use Rattle.mysql_bind_call.proofs.ScopeLemmas.{accepted_steady, either_agree, in_any, in_either, in_own}

-- the query with steady literals, as it is read without backslash escapes
abbrev pub HasSteady : Bool → List ℕ → Given → List ℕ → Type 0
HasSteady wide query given text =
    OnTokensIn (reading_with wide true) query (λ ts. IsGivenText steady_literal_of IsSteadyFor ts given text)

both_modes_text : (wide : Bool) (query : List ℕ) (given : Given) (text : List ℕ) → Agree query → HasSteady wide query given text →
    OnTokensIn (reading_with wide true) query (λ ts. IsTextInBothModes ts given text)
both_modes_text false query given text agree o =
    let b = on_both (reading_with false true) query HoldNoEscapes _ agree o in
    (b.0, b.1, in_both_modes query b.0 given text b.1 b.2.0 b.2.1)
both_modes_text true query given text agree o = (o.0, o.1, is_wide_text query o.0 given text agree o.1 o.2)

module _ {A E : Type 0} (items : A → List ℕ) (r : Result A E) (purpose : Purpose) (query : List ℕ) (given : Given) where
  abbrev pub Bound : Type 0
  Bound = IfOk r (λ text. OnQuery purpose query (λ ts. IsValuesText purpose.scope ts given (items text)))

  -- in this scope
  said : (scope : Scope) → purpose.scope ≡ scope → (ts : List Token) (text : List ℕ) → IsValuesText scope ts given text → IsValuesText purpose.scope ts given text
  said scope e ts text t = subst (λ s. IsValuesText s ts given text) (sym e) t

  pub one_mode_bound : (mode : Bool) → purpose.scope ≡ OneMode mode →
      IfOk r (λ text. OnTokensIn (reading_with purpose.wide_names mode) query (λ ts. IsGivenText (literal_of mode) (IsPlainLiteral mode) ts given (items text))) → Bound
  one_mode_bound mode e h =
      ok_to _ _ r (λ text o. in_own purpose query _ mode e
      (o.0, o.1, said (OneMode mode) e o.0 (items text) (is_bound_text (reading_with purpose.wide_names mode) query o.0 given (items text) o.1 o.2))) h

  pub either_bound : purpose.scope ≡ EitherMode → IsAccepted purpose query → IfOk r (λ text. HasSteady purpose.wide_names query given (items text)) → Bound
  either_bound e accepted h =
      ok_to _ _ r (λ text o.
      let t = both_modes_text purpose.wide_names query given (items text) (either_agree purpose query accepted e) o in
      in_either purpose query _ e accepted (t.0, t.1, said EitherMode e t.0 (items text) t.2)) h

  pub any_bound : purpose.scope ≡ AnyConnection → IsAccepted purpose query → IfOk r (λ text. HasSteady purpose.wide_names query given (items text)) → Bound
  any_bound e accepted h =
      ok_to _ _ r (λ text o. in_any purpose query _ e accepted
      (o.0, o.1, said AnyConnection e o.0 (items text) (is_steady_text_in (reading_with purpose.wide_names true) query o.0 given (items text) o.1 (accepted_steady purpose query accepted e) o.2))) h
