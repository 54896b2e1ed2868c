-- The text in a room, or after another one, from the text that is written for an accepted query.
use Rattle.std.specs.Prelude.{Bool, true, Result, Ok, IfErr, IfOk, IsErrOf}
use Rattle.std.specs.Borrow.{Bor}
use Rattle.std.proofs.Common.{◌≡◌, ◌⊎◌, ◌++◌, ℕ, List, Some, inr, refl, sym, take, subst}
use Rattle.mysql_values.specs.Literal.{literal_of}
use Rattle.mysql_named_params.specs.Tokens.{Token}
use Rattle.mysql_named_params.specs.Reading.{OnTokensIn, reading_with}
use Rattle.mysql_params_core.specs.Given.{Given}
use Rattle.mysql_params_core.specs.GivenBorrowed.{given_by_borrowed}
use Rattle.mysql_params_core.specs.declared.params.borrowed.BorrowedParams.{BorrowedParams}
use Rattle.mysql_binding.specs.LiteralForm.{IsPlainLiteral}
use Rattle.mysql_binding.specs.MeasuredText.{HasGivenLength}
use Rattle.mysql_binding.specs.TextInRoom.{HasTextOf, IsTextInRoom}
use Rattle.mysql_binding.specs.WrittenText.{IsGivenText}
use Rattle.mysql_binding.specs.declared.binding.room.TextInRoom.{TextInRoom}
use Rattle.mysql_binding.specs.declared.binding.room.TextInRoom.TheVariants.{Written, TooShort}
use Rattle.mysql_binding.proofs.TextInRoomLemmas.{known_text, plain_known}
use Rattle.mysql_steady_text.specs.Purposes.{mode_in, reading_for}
use Rattle.mysql_steady_text.specs.SteadyLiteral.{steady_literal_of}
use Rattle.mysql_steady_text.specs.SteadyLiterals.{IsSteadyFor}
use Rattle.mysql_steady_text.specs.declared.purpose.Purpose.{Purpose}
use Rattle.mysql_steady_text.specs.declared.purpose.Scope.{Scope}
use Rattle.mysql_steady_text.specs.declared.purpose.Scope.TheVariants.{OneMode, EitherMode, AnyConnection}
use Rattle.mysql_steady_text.proofs.BothModesTextLemmas.{steady_known}
use Rattle.mysql_bind_call.specs.Accepted.{IsAccepted, OnQuery}
use Rattle.mysql_fragments.specs.GivenFragments.{given_fragments}
use Rattle.mysql_fragments.specs.declared.fragment.Fragments.{Fragments}
use Rattle.mysql_bind_call.specs.AnyGiven.{AnyGiven, values, fragments}
use Rattle.mysql_bind_call.specs.BoundTexts.{IsAppended, IsValuesText}
use Rattle.mysql_bind_call.specs.GivenBy.{IsGivenBy}
use Rattle.mysql_bind_call.specs.Refusals.{IsCauseOrMemory, IsRefusalFor, early_refusal, mixed_refusal}
use Rattle.mysql_bind_call.specs.declared.given.BorrowedGiven.{BorrowedGiven}
use Rattle.mysql_bind_call.specs.declared.given.BorrowedGiven.TheVariants as borrowed
use Rattle.mysql_bind_call.specs.declared.refusal.BindRefusal.{BindRefusal}
use Rattle.mysql_bind_call.proofs.ResultLemmas.{cause_told, early_mixed, err_to, ok_to}
use Rattle.mysql_bind_call.proofs.ScopeLemmas.{in_any, in_either, in_own, on_query_both, on_query_map}
use Rattle.mysql_bind_call.proofs.ValueLemmas.{any_bound, either_bound, one_mode_bound}

-- ---- refusals after an accepted query

module _ {A : Type 0} (r : Result A BindRefusal) (purpose : Purpose) (query : List ℕ) (accepted : IsAccepted purpose query) (Gives GivenBy : AnyGiven → Type 0)
    (by : (given : AnyGiven) → Gives given → GivenBy given) where
  pub refused_after : (Own : BindRefusal → Type 0) (Made : Type 0) → Made →
      IfErr r (λ refusal. (given : AnyGiven) → GivenBy given → OnQuery purpose query (λ ts. IsCauseOrMemory purpose.scope ts given refusal)) →
      IfErr r (λ refusal. Own refusal ⊎ (Made × ((given : AnyGiven) → Gives given → OnQuery purpose query (λ ts. IsRefusalFor purpose query ts given refusal))))
  refused_after Own Made made told =
      err_to _ _ r
      (λ refusal h. inr (
        made,
        λ given gives.
            on_query_map purpose query _ _ (λ ts k. cause_told purpose query ts given refusal k.0 k.1) (on_query_both purpose query _ _ accepted (h given (by given gives))),
      ))
      told

  pub early_after :
      ((given : AnyGiven) → GivenBy given → OnQuery purpose query (λ ts. (refusal : BindRefusal) → mixed_refusal ts given ≡ Some refusal → IsErrOf r refusal)) →
      (given : AnyGiven) → Gives given → OnQuery purpose query (λ ts. (refusal : BindRefusal) → early_refusal purpose query ts given ≡ Some refusal → IsErrOf r refusal)
  early_after told given gives =
      on_query_map purpose query _ _ (λ ts k refusal e. k.1 refusal (early_mixed purpose query ts given refusal e k.0))
      (on_query_both purpose query _ _ accepted (told given (by given gives)))

-- ---- from the reading of a purpose without backslash escapes to all of its readings

module _ (purpose : Purpose) (query : List ℕ) (P : List Token → Type 0) where
  read_in : (scope : Scope) → purpose.scope ≡ scope → OnTokensIn (reading_for purpose true) query P → OnTokensIn (reading_with purpose.wide_names (mode_in scope true)) query P
  read_in scope e o = subst (λ s. OnTokensIn (reading_with purpose.wide_names (mode_in s true)) query P) e o

  pub in_all : IsAccepted purpose query → OnTokensIn (reading_for purpose true) query P → OnQuery purpose query P
  in_all accepted o = go purpose.scope refl
    where
      go : (scope : Scope) → purpose.scope ≡ scope → OnQuery purpose query P
      go (OneMode own) e = in_own purpose query P own e (read_in (OneMode own) e o)
      go EitherMode e = in_either purpose query P e accepted (read_in EitherMode e o)
      go AnyConnection e = in_any purpose query P e accepted (read_in AnyConnection e o)

-- ---- texts that are written

module _ (purpose : Purpose) (query : List ℕ) (P Q : List Token → List ℕ → Type 0)
    (to : (x : List ℕ) → OnTokensIn (reading_for purpose true) query (λ ts. P ts x) → OnQuery purpose query (λ ts. Q ts x)) where
  pub text_in_room : (HasLength : List Token → ℕ → Type 0) → ((ts : List Token) (len : ℕ) → HasLength ts len → HasTextOf (P ts) len) → (old new : List ℕ) (told : TextInRoom) →
      OnTokensIn (reading_for purpose true) query (λ ts. IsTextInRoom (P ts) (HasLength ts) old new told) →
      OnQuery purpose query (λ ts. IsTextInRoom (Q ts) (HasTextOf (Q ts)) old new told)
  text_in_room HasLength known old new (Written len) (ts, is, (fits, text, rest)) =
      on_query_map purpose query _ _ (λ us t. (fits, t, rest)) (to (take len new) (ts, is, text))
  text_in_room HasLength known old new (TooShort len) (ts, is, (long, has, same)) =
      let k = known ts len has in
      on_query_map purpose query _ _ (λ us t. (long, (k.0, t, k.2), same)) (to k.0 (ts, is, k.1))

  pub text_after : (old new : List ℕ) → ((more : List ℕ) × (new ≡ old ++ more) × OnTokensIn (reading_for purpose true) query (λ ts. P ts more)) →
      OnQuery purpose query (λ ts. IsAppended (Q ts) old new)
  text_after old new (more, is, o) = on_query_map purpose query _ _ (λ ts t. (more, is, t)) (to more o)

-- ---- the text of values

module _ (purpose : Purpose) (query : List ℕ) (given : Given) where
  abbrev pub Values : List ℕ → Type 0
  Values x = OnQuery purpose query (λ ts. IsValuesText purpose.scope ts given x)

  pub one_mode_text : (mode : Bool) → purpose.scope ≡ OneMode mode → (x : List ℕ) →
      OnTokensIn (reading_for purpose true) query (λ ts. IsGivenText (literal_of mode) (IsPlainLiteral mode) ts given x) → Values x
  one_mode_text mode e x o = one_mode_bound {E = BindRefusal} (λ y. y) (Ok x) purpose query given mode e (read_in purpose query _ (OneMode mode) e o)

  module _ (accepted : IsAccepted purpose query) (x : List ℕ) (o : OnTokensIn (reading_for purpose true) query (λ ts. IsGivenText steady_literal_of IsSteadyFor ts given x)) where
    pub either_text : purpose.scope ≡ EitherMode → Values x
    either_text e = either_bound {E = BindRefusal} (λ y. y) (Ok x) purpose query given e accepted (read_in purpose query _ EitherMode e o)

    pub any_text : purpose.scope ≡ AnyConnection → Values x
    any_text e = any_bound {E = BindRefusal} (λ y. y) (Ok x) purpose query given e accepted (read_in purpose query _ AnyConnection e o)

-- the length of a text whose literals are plain, and of one whose literals are steady
pub plain_length : (mode : Bool) (given : Given) (ts : List Token) (len : ℕ) → HasGivenLength (literal_of mode) ts given len →
    HasTextOf (IsGivenText (literal_of mode) (IsPlainLiteral mode) ts given) len
plain_length mode given ts len (x, g, long) = (x, known_text (literal_of mode) (IsPlainLiteral mode) (plain_known mode) ts given x g, long)

pub steady_length : (given : Given) (ts : List Token) (len : ℕ) → HasGivenLength steady_literal_of ts given len →
    HasTextOf (IsGivenText steady_literal_of IsSteadyFor ts given) len
steady_length given ts len (x, g, long) = (x, known_text steady_literal_of IsSteadyFor steady_known ts given x g, long)

-- ---- what is given, borrowed

pub by_values : (given : BorrowedGiven) (params : BorrowedParams) → given ≡ borrowed.Values params → (what : AnyGiven) → IsGivenBy given what → what ≡ values (given_by_borrowed params)
by_values given params e what is = subst (λ g. IsGivenBy g what) e is

pub by_list : (given : BorrowedGiven) (list : Bor Fragments) → given ≡ borrowed.Fragments list → (what : AnyGiven) → IsGivenBy given what → what ≡ fragments (given_fragments list.now)
by_list given list e what is = subst (λ g. IsGivenBy g what) e is

-- a fact about what is given is one about all that is given by the same
module _ (GivenBy : AnyGiven → Type 0) (given : AnyGiven) (one : (what : AnyGiven) → GivenBy what → what ≡ given) where
  pub of_given : (P : AnyGiven → Type 0) → P given → (what : AnyGiven) → GivenBy what → P what
  of_given P h what is = subst P (sym (one what is)) h

  pub of_given_ok : {A E : Type 0} (P : AnyGiven → A → Type 0) (r : Result A E) → IfOk r (P given) → IfOk r (λ a. (what : AnyGiven) → GivenBy what → P what a)
  of_given_ok P r h = ok_to _ _ r (λ a k. of_given (λ what. P what a) k) h

  pub of_given_err : {A E : Type 0} (P : AnyGiven → E → Type 0) (r : Result A E) → IfErr r (P given) → IfErr r (λ e. (what : AnyGiven) → GivenBy what → P what e)
  of_given_err P r h = err_to _ _ r (λ e k. of_given (λ what. P what e) k) h
