-- The meaning of an outcome of a call that writes steady literals, from the results of the calls
-- below.
use Rattle.std.specs.Prelude.{Bool, true, Option, Some, None, Ok, option_map, ⊤}
use Rattle.std.specs.Option.{option_or}
use Rattle.std.proofs.Common.{◌≡◌, ℕ, List, refl, sym, ◌∙◌, subst}
use Rattle.mysql_named_params.specs.Reading.{OnTokensIn, reading_with}
use Rattle.mysql_named_params.specs.Tokens.{Token}
use Rattle.mysql_portable.specs.declared.portable.Unportable.{Unportable}
use Rattle.mysql_portable.specs.FirstUnportable.{first_unportable}
use Rattle.mysql_portable.specs.Steady.{first_unsteady}
use Rattle.mysql_params_core.specs.Given.{Given}
use Rattle.mysql_binding.specs.FirstCause.{Cause, first_cause}
use Rattle.mysql_steady_text.proofs.BothModesAnswerLemmas.{Agree}
use Rattle.mysql_steady_text.proofs.WideBothModesLemmas.{in_each_reading}
use Rattle.mysql_flat_params.specs.FlatForm.{IsFormReading}
use Rattle.mysql_flat_params.specs.IntoRoom.{IsBindOutcomeIn, IsRefusedForIn}
use Rattle.mysql_flat_params.specs.NamePlace.{IsFirstOfName}
use Rattle.mysql_flat_params.specs.Outcomes.{HasNoAnswer}
use Rattle.mysql_flat_params.specs.SteadyIntoRoom.{IsSteadyOutcomeIn, unportable_outcome}
use Rattle.mysql_flat_params.specs.Steadiness.{byte_refusal, refusal_as}
use Rattle.mysql_flat_params.specs.WideSteadyIntoRoom.{portable_tokens}
use Rattle.mysql_flat_params.specs.declared.steady_room.Steadiness.{Steadiness}
use Rattle.mysql_flat_params.specs.declared.steady_room.Steadiness.TheVariants.{Anywhere, BothModes}
use Rattle.mysql_flat_params.specs.declared.outcome.Outcome.{Outcome}
use Rattle.mysql_flat_params.specs.declared.outcome.Outcome.TheVariants.{Done, OutOfMemory, Room, FormEnd, FormLengthLead, FormType, FormMixed, FormRepeated, Mixed, Missing, NamedForPositional, PositionalForNamed, MarkCount, NotAlone, Float, Unsteady, Backslash}
use Rattle.mysql_flat_params.specs.declared.outcome.Outcome.TheVariants as variant
use Rattle.mysql_steady_text.specs.FirstBackslash.{first_backslash}

-- ---- the outcome for a query that is refused with any parameters

-- the outcomes for such a query
abbrev pub IsQueryRefusal : Outcome → Type 0
IsQueryRefusal (Unsteady position) = ⊤
IsQueryRefusal (variant.Unportable number position) = ⊤
IsQueryRefusal (Backslash position) = ⊤
IsQueryRefusal outcome = ⊥

pub told_first : (P : Outcome → Type 0) (f : ℕ → Outcome) → ((at : ℕ) → P (f at)) → ((found : Unportable) → P (unportable_outcome found)) →
    (byte : Option ℕ) (found : Option Unportable) (outcome : Outcome) →
    option_or (option_map f byte) (option_map unportable_outcome found) ≡ Some outcome → P outcome
told_first P f is un (Some at) found outcome e = let same : f at ≡ outcome = cc in subst P same (is at)
told_first P f is un None (Some found) outcome e =
    let same : unportable_outcome found ≡ outcome = cc in subst P same (un found)
told_first P f is un None None outcome e = cc

pub is_query_refusal : (wide : Bool) (steadiness : Steadiness) (query : List ℕ) (ts : List Token) (outcome : Outcome) →
    refusal_as wide steadiness query ts ≡ Some outcome → IsQueryRefusal outcome
is_query_refusal wide Anywhere query ts outcome e = told_first IsQueryRefusal variant.Unsteady (λ at. tt) (λ found. tt) (first_unsteady query) (first_unportable (portable_tokens wide ts)) outcome e
is_query_refusal wide BothModes query ts outcome e = told_first IsQueryRefusal variant.Backslash (λ at. tt) (λ found. tt) (first_backslash ts) (first_unportable (portable_tokens wide ts)) outcome e

-- the outcome for a byte is that of the query
pub byte_first : (wide : Bool) (steadiness : Steadiness) (query : List ℕ) (ts : List Token) (outcome : Outcome) →
    byte_refusal steadiness query ts ≡ Some outcome → refusal_as wide steadiness query ts ≡ Some outcome
byte_first wide steadiness query ts outcome e = rw e refl

-- the query isn't refused on its own, in each mode
pub none_of : (wide : Bool) (steadiness : Steadiness) (query : List ℕ) (told : Option Outcome) →
    ((mode : Bool) → OnTokensIn (reading_with wide mode) query (λ ts. told ≡ refusal_as wide steadiness query ts)) → told ≡ None →
    (mode : Bool) → OnTokensIn (reading_with wide mode) query (λ ts. refusal_as wide steadiness query ts ≡ None)
none_of wide steadiness query told t none mode = let o = t mode in (o.0, o.1, sym o.2 ∙ none)

module _ (wide : Bool) (IsBound : Given → List ℕ → Type 0) (refusal : List Token → Option Outcome) (query form : List ℕ) where
  pub refusal_told : (given : Given) → IsFormReading form (Ok given) → (outcome : Outcome) → IsQueryRefusal outcome →
      ((mode : Bool) → OnTokensIn (reading_with wide mode) query (λ ts. refusal ts ≡ Some outcome)) → IsSteadyOutcomeIn wide IsBound refusal query form outcome
  refusal_told given reads (Unsteady position) is h = ((given, reads), h)
  refusal_told given reads (variant.Unportable number position) is h = ((given, reads), h)
  refusal_told given reads (Backslash position) is h = ((given, reads), h)
  refusal_told given reads outcome is h = absurd is

  -- ---- a refusal for the given parameters

  module _ (agree : Agree query) (none : (mode : Bool) → OnTokensIn (reading_with wide mode) query (λ ts. refusal ts ≡ None)) where
    either : (cause : Cause) → IsRefusedForIn (reading_with wide true) query form cause → (mode : Bool) → IsRefusedForIn (reading_with wide mode) query form cause
    either cause (given, reads, o) mode = (given, reads, in_each_reading wide query (λ ts. first_cause ts given ≡ Some cause) agree o mode)

    pub cause_told : (outcome : Outcome) → HasNoAnswer outcome → IsBindOutcomeIn (reading_with wide true) query form outcome → IsSteadyOutcomeIn wide IsBound refusal query form outcome
    cause_told (Done len) no_answer is = absurd no_answer
    cause_told (Room len) no_answer is = absurd no_answer
    cause_told OutOfMemory no_answer is = tt
    cause_told (FormEnd place position) no_answer is = is
    cause_told (FormLengthLead place position lead) no_answer is = is
    cause_told (FormType place position number) no_answer is = is
    cause_told (FormMixed place position) no_answer is = is
    cause_told (FormRepeated place position len) no_answer is = is
    cause_told Mixed no_answer is = (none, either _ is)
    cause_told (Missing place position len) no_answer (name, refused, told) = (
      none,
      λ mode. (
        name,
        either _ refused mode,
        (told.0, in_each_reading wide query (λ ts. IsFirstOfName ts name place position) agree told.1 mode),
      ),
    )
    cause_told NamedForPositional no_answer is = (none, either _ is)
    cause_told PositionalForNamed no_answer is = (none, either _ is)
    cause_told (MarkCount marks values) no_answer is = (none, either _ is)
    cause_told (NotAlone place position) no_answer is = (none, either _ is)
    cause_told (Float place) no_answer is = (none, either _ is)
    cause_told (Unsteady position) no_answer is = absurd is
    cause_told (variant.Unportable number position) no_answer is = absurd is
    cause_told (Backslash position) no_answer is = absurd is
