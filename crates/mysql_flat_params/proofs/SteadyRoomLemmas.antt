-- Texts with steady literals in a room of the caller.
use Rattle.std.specs.Prelude.{Bool, false, true, Option, Ok, option_map}
use Rattle.std.specs.Option.{option_or}
use Rattle.std.proofs.Common.{◌≡◌, ℕ, List, Some, None, ap, length, take, refl, sym, ◌∙◌, subst, arith}
use Rattle.std.proofs.lemmas.List.{length-take-le}
use Rattle.mysql_named_params.specs.LoweredNames.{lower_names}
use Rattle.mysql_named_params.specs.Tokens.{Token}
use Rattle.mysql_named_params.specs.Reading.{IsTokensIn, OnTokensIn, grammar_reading, reading_with, wide_reading}
use Rattle.mysql_portable.specs.FirstUnportable.{first_unportable}
use Rattle.mysql_portable.specs.Steady.{first_unsteady}
use Rattle.mysql_portable.specs.declared.portable.Unportable.{Unportable}
use Rattle.mysql_portable.proofs.SteadyLemmas.{none_unsteady, steady_other}
use Rattle.mysql_portable.proofs.UnportableLemmas.{none_is_portable}
use Rattle.mysql_params_core.specs.Given.{Given}
use Rattle.mysql_binding.specs.MeasuredText.{HasGivenLength}
use Rattle.mysql_binding.specs.TextInRoom.{HasTextOf, IsTextInRoom}
use Rattle.mysql_binding.specs.WrittenText.{IsGivenText}
use Rattle.mysql_binding.specs.declared.binding.room.TextInRoom.{TextInRoom}
use Rattle.mysql_binding.specs.declared.binding.room.TextInRoom.TheVariants.{Written, TooShort}
use Rattle.mysql_binding.proofs.CauseLemmas.{on_both}
use Rattle.mysql_binding.proofs.TextInRoomLemmas.{each_in_room, known_text}
use Rattle.mysql_steady_text.specs.SteadyLiteral.{steady_literal_of}
use Rattle.mysql_steady_text.specs.FirstBackslash.{first_backslash}
use Rattle.mysql_steady_text.specs.Purposes as purposes
use Rattle.mysql_steady_text.specs.Purposes.{reading_for}
use Rattle.mysql_steady_text.specs.declared.purpose.Purpose.{Purpose}
use Rattle.mysql_steady_text.specs.declared.purpose.QueryRefusal.{QueryRefusal}
use Rattle.mysql_steady_text.specs.declared.purpose.QueryRefusal.TheVariants as refusal
use Rattle.mysql_steady_text.specs.SteadyLiterals.{IsSteadyFor}
use Rattle.mysql_steady_text.specs.SteadyText.{IsSteadyText}
use Rattle.mysql_steady_text.specs.WideBothModes.{IsWideTextInBothModes}
use Rattle.mysql_steady_text.proofs.BackslashLemmas.{hold_no_escapes}
use Rattle.mysql_steady_text.proofs.BothModesAnswerLemmas.{Agree, portable_answer}
use Rattle.mysql_steady_text.proofs.BothModesTextLemmas.{in_both_modes}
use Rattle.mysql_steady_text.proofs.PurposeLemmas.{steady_agree}
use Rattle.mysql_steady_text.proofs.QueryRefusalLemmas as refused
use Rattle.mysql_steady_text.proofs.QueryRefusalLemmas.{agreed, first_told, judged_anywhere, judged_in_both}
use Rattle.mysql_steady_text.proofs.SteadyTextLemmas.{is_anywhere_text, steady_given}
use Rattle.mysql_steady_text.proofs.WideBothModesLemmas.{agree_of_wide, in_each_wide, is_wide_both, is_wide_text}
use Rattle.mysql_steady_text.proofs.WideSteadyLemmas.{is_steady_text_in, is_wide_anywhere_text, wide_other}
use Rattle.mysql_flat_params.specs.FlatForm.{IsFormReading}
use Rattle.mysql_flat_params.specs.Outcomes.{IfDone, text_outcome}
use Rattle.mysql_flat_params.specs.SteadyIntoRoom.{IsSteadyForm, IsSteadyOutcomeIn, unportable_outcome}
use Rattle.mysql_flat_params.specs.Steadiness.{IsBoundAs, purpose_of, refusal_as, refusal_outcome}
use Rattle.mysql_flat_params.specs.declared.steady_room.Steadiness.{Steadiness}
use Rattle.mysql_flat_params.specs.declared.steady_room.Steadiness.TheVariants.{Anywhere, BothModes}
use Rattle.mysql_flat_params.specs.declared.outcome.Outcome.{Outcome}
use Rattle.mysql_flat_params.specs.declared.outcome.Outcome.TheVariants as variant
use Rattle.mysql_steady_text.proofs.BothModesTextLemmas.{steady_known}

-- ---- a query that isn't refused on its own

pub none_told : (f : ℕ → Outcome) (byte : Option ℕ) (found : Option Unportable) →
    option_or (option_map f byte) (option_map unportable_outcome found) ≡ None → (byte ≡ None) × (found ≡ None)
none_told f (Some at) found e = cc
none_told f None (Some found) e = cc
none_told f None None e = (refl, refl)

mapped : (f : ℕ → QueryRefusal) (byte : Option ℕ) (found : Option Unportable) →
    option_map refusal_outcome (first_told f byte found) ≡ option_or (option_map (λ at. refusal_outcome (f at)) byte) (option_map unportable_outcome found)
mapped f (Some at) found = refl
mapped f None (Some found) = refl
mapped f None None = refl

-- the refusal of a query for the purpose of a call
abbrev IsToldFor : List ℕ → Option QueryRefusal → Purpose → Type 0
IsToldFor query told purpose = (mode : Bool) → OnTokensIn (reading_for purpose mode) query (λ ts. told ≡ purposes.query_refusal purpose query ts)

outcome_for : (wide : Bool) (steadiness : Steadiness) (query : List ℕ) (told : Option QueryRefusal) → IsToldFor query told (purpose_of wide steadiness) → (mode : Bool) →
    OnTokensIn (reading_with wide mode) query (λ ts. option_map refusal_outcome told ≡ refusal_as wide steadiness query ts)
outcome_for false Anywhere query told t mode =
    let o = judged_anywhere mode query told (t mode) in
    (o.0, o.1, ap (option_map refusal_outcome) o.2 ∙ mapped refusal.Unsteady (first_unsteady query) (first_unportable o.0))
outcome_for false BothModes query told t mode =
    let o = judged_in_both mode query told (t mode) in
    (o.0, o.1, ap (option_map refusal_outcome) o.2 ∙ mapped refusal.Backslash (first_backslash o.0) (first_unportable o.0))
outcome_for true Anywhere query told t mode =
    let o = t mode in
    (o.0, o.1, ap (option_map refusal_outcome) o.2 ∙ mapped refusal.Unsteady (first_unsteady query) (first_unportable (lower_names o.0)))
outcome_for true BothModes query told t mode =
    let o = t mode in
    (o.0, o.1, ap (option_map refusal_outcome) o.2 ∙ mapped refusal.Backslash (first_backslash o.0) (first_unportable (lower_names o.0)))

agree_for : (wide : Bool) (steadiness : Steadiness) (query : List ℕ) → IsToldFor query None (purpose_of wide steadiness) → Agree query
agree_for wide Anywhere query t =
    let o = t true in
    steady_agree query ((none_unsteady query).0 (refused.none_told refusal.Unsteady (first_unsteady query) (first_unportable (lower_names o.0)) o.2).0)
agree_for false BothModes query t = agreed query None refl (t true)
agree_for true BothModes query t =
    let o = t true in
    agree_of_wide query o.0 o.1 (refused.none_told refusal.Backslash (first_backslash o.0) (first_unportable (lower_names o.0)) o.2).0

module _ (wide : Bool) (steadiness : Steadiness) (query : List ℕ) (told : Option QueryRefusal) (purpose : Purpose) (is : purpose ≡ purpose_of wide steadiness) (t : IsToldFor query told purpose) where
  -- the outcome for the refusal, if there is one
  pub outcome_told : (wanted : Option QueryRefusal) → told ≡ wanted → (mode : Bool) →
      OnTokensIn (reading_with wide mode) query (λ ts. option_map refusal_outcome wanted ≡ refusal_as wide steadiness query ts)
  outcome_told wanted e = outcome_for wide steadiness query wanted (subst (λ r. IsToldFor query r (purpose_of wide steadiness)) e (subst (IsToldFor query told) is t))

  -- the modes agree on a query that isn't refused
  pub agree_told : told ≡ None → Agree query
  agree_told e = agree_for wide steadiness query (subst (λ r. IsToldFor query r (purpose_of wide steadiness)) e (subst (IsToldFor query told) is t))

-- ---- the text

module _ (query : List ℕ) (given : Given) (ts : List Token) (text : List ℕ) (g : IsGivenText steady_literal_of IsSteadyFor ts given text) where
  bound_as : (wide : Bool) → IsTokensIn (reading_with wide true) query ts → (steadiness : Steadiness) →
      refusal_as wide steadiness query ts ≡ None → IsBoundAs wide steadiness query given text
  bound_as false is Anywhere none = λ mode.
      let n = none_told variant.Unsteady (first_unsteady query) (first_unportable ts) none in
      let steady = (none_unsteady query).0 n.0 in
      let o = on_both (grammar_reading mode) query (λ us. first_unportable us ≡ None) (λ us. IsSteadyText us given text)
      (ts, steady_other true mode query ts steady is, n.1)
      (steady_given query given text steady (ts, steady_other true false query ts steady is, g) mode) in
      (o.0, o.1, is_anywhere_text query o.0 given text (steady_other mode true query o.0 steady o.1) steady (none_is_portable o.0 o.2.0) o.2.1)
  bound_as false is BothModes none =
      let n = none_told variant.Backslash (first_backslash ts) (first_unportable ts) none in
      let escapes = hold_no_escapes ts 0 n.0 in
      portable_answer query given text (ts, is, escapes) (ts, is, in_both_modes query ts given text is escapes g) (ts, is, n.1)
  bound_as true is Anywhere none = λ mode.
      let n = none_told variant.Unsteady (first_unsteady query) (first_unportable (lower_names ts)) none in
      let steady = (none_unsteady query).0 n.0 in
      (ts, wide_other true mode query ts steady is, is_wide_anywhere_text query ts given text is steady (none_is_portable (lower_names ts) n.1) (is_steady_text_in (wide_reading true) query ts given text is steady g))
  bound_as true is BothModes none =
      let n = none_told variant.Backslash (first_backslash ts) (first_unportable (lower_names ts)) none in
      let agreed = agree_of_wide query ts is n.0 in
      in_each_wide query (λ us. IsWideTextInBothModes us given text) agreed
      (ts, is, is_wide_both query ts given text agreed is (none_is_portable (lower_names ts) n.1) (is_wide_text query ts given text agreed is g))

pub steady_in_room : (wide : Bool) (steadiness : Steadiness) (query : List ℕ) (given : Given) (old new : List ℕ) (text : TextInRoom) →
    OnTokensIn (reading_with wide true) query (λ ts. refusal_as wide steadiness query ts ≡ None) →
    OnTokensIn (reading_with wide true) query (λ ts. IsTextInRoom (IsGivenText steady_literal_of IsSteadyFor ts given) (HasGivenLength steady_literal_of ts given) old new text) →
    IsTextInRoom (IsBoundAs wide steadiness query given) (HasTextOf (IsBoundAs wide steadiness query given)) old new text
steady_in_room wide steadiness query given old new text none h =
    let (ts, is, both) = on_both (reading_with wide true) query (λ ts. refusal_as wide steadiness query ts ≡ None) (λ ts. IsTextInRoom (IsGivenText steady_literal_of IsSteadyFor ts given) (HasGivenLength steady_literal_of ts given) old new text) none h in
    each_in_room _ _ _ old new text (λ x g. bound_as query given ts x g wide is steadiness both.0)
    (λ len (x, g, long). (x, bound_as query given ts x (known_text steady_literal_of IsSteadyFor steady_known ts given x g) wide is steadiness both.0, long)) both.1

-- ---- as an outcome

module _ (wide : Bool) (IsBound : Given → List ℕ → Type 0) (refusal : List Token → Option Outcome) (query form : List ℕ) (given : Given) (reads : IsFormReading form (Ok given)) (old new : List ℕ) where
  told : length new ≡ length old → (text : TextInRoom) → IsTextInRoom (IsBound given) (HasTextOf (IsBound given)) old new text →
      IsSteadyOutcomeIn wide IsBound refusal query form (text_outcome text)
  told same (Written len) h = (take len new, (given, reads, h.1), length-take-le len new (omega (arith, h.0, same)))
  told same (TooShort len) h = (h.1.0, (given, reads, h.1.1), h.1.2)

  written : (text : TextInRoom) → IsTextInRoom (IsBound given) (HasTextOf (IsBound given)) old new text →
      IfDone (text_outcome text) (λ len. IsSteadyForm IsBound form (take len new))
  written (Written len) h = (given, reads, h.1)
  written (TooShort len) h = tt

  module _ (text : TextInRoom) (outcome : Outcome) (is : outcome ≡ text_outcome text) (h : IsTextInRoom (IsBound given) (HasTextOf (IsBound given)) old new text) where
    pub steady_told : length new ≡ length old → IsSteadyOutcomeIn wide IsBound refusal query form outcome
    steady_told same = subst (IsSteadyOutcomeIn wide IsBound refusal query form) (sym is) (told same text h)

    pub steady_written : IfDone outcome (λ len. IsSteadyForm IsBound form (take len new))
    steady_written = subst (λ o. IfDone o (λ len. IsSteadyForm IsBound form (take len new))) (sym is) (written text h)
