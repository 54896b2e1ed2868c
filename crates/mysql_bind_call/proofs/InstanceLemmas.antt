-- The clauses of `bind` for one kind of values and one purpose, as the call for these says them.
use Rattle.std.specs.Prelude.{Bool, true, false, Result, Ok, Err, IfOk, IfErr, IsErrOf, alloc_error, option_map, ⊤}
use Rattle.std.specs.Option.{option_or}
use Rattle.std.proofs.Common.{◌≡◌, ◌⊎◌, ℕ, List, Option, Some, None, refl, sym, ap, subst, ◌∙◌, inl, inr}
use Rattle.mysql_named_params.specs.LoweredNames.{lower_names}
use Rattle.mysql_named_params.specs.Tokens.{Token, IsTokens, OnTokens}
use Rattle.mysql_named_params.specs.Places.{HasMark, HasName}
use Rattle.mysql_named_params.specs.Reading.{OnTokensIn, reading_with}
use Rattle.mysql_portable.specs.FirstUnportable.{first_unportable}
use Rattle.mysql_portable.specs.Portable.{IsPortable}
use Rattle.mysql_portable.specs.Steady.{first_unsteady, IsSteady}
use Rattle.mysql_portable.specs.declared.portable.Unportable.{Unportable}
use Rattle.mysql_portable.proofs.SteadyLemmas.{none_unsteady}
use Rattle.mysql_portable.proofs.UnportableLemmas.{none_is_portable}
use Rattle.mysql_portable.proofs.WideWalkLemmas.{grammar_lowered}
use Rattle.mysql_params_core.specs.Given.{Given}
use Rattle.mysql_binding.specs.BindErrors as bound
use Rattle.mysql_binding.specs.FirstCause.{Cause, first_cause}
use Rattle.mysql_binding.specs.declared.bind_error.BindError.TheVariants as bind
use Rattle.mysql_binding.proofs.CauseLemmas.{map_none, mixed_some, or_none}
use Rattle.mysql_steady_text.specs.BothModesErrors.{IsBothModesRefusal}
use Rattle.mysql_steady_text.specs.BothModesText.{IsPortableInBothModes}
use Rattle.mysql_steady_text.specs.FirstBackslash.{first_backslash}
use Rattle.mysql_steady_text.specs.Purposes.{first_construct, query_refusal}
use Rattle.mysql_steady_text.specs.SteadyText.{IsAnywhereText}
use Rattle.mysql_steady_text.specs.SteadyTextErrors.{IsSteadyRefusal}
use Rattle.mysql_steady_text.specs.declared.both_modes_error.BothModesError.TheVariants as both
use Rattle.mysql_steady_text.specs.declared.steady_text_error.SteadyTextError.TheVariants as steady
use Rattle.mysql_steady_text.specs.declared.purpose.Portability.{Portability}
use Rattle.mysql_steady_text.specs.declared.purpose.Portability.TheVariants.{Any, Servers, Clients}
use Rattle.mysql_steady_text.specs.declared.purpose.Purpose.{Purpose}
use Rattle.mysql_steady_text.specs.declared.purpose.QueryRefusal.{QueryRefusal}
use Rattle.mysql_steady_text.specs.declared.purpose.QueryRefusal.TheVariants as refusal
use Rattle.mysql_steady_text.specs.declared.purpose.Scope.TheVariants.{OneMode, EitherMode, AnyConnection}
use Rattle.mysql_steady_text.proofs.BothModesAnswerLemmas as modes
use Rattle.mysql_steady_text.proofs.SteadyTextLemmas.{anywhere_answer}
use Rattle.mysql_steady_text.proofs.QueryRefusalLemmas.{as_judged}
use Rattle.mysql_bind_call.specs.Accepted.{IsAccepted, OnQuery}
use Rattle.mysql_bind_call.specs.AnyGiven.{AnyGiven, values, fragments}
use Rattle.mysql_bind_call.specs.BoundTexts.{IsTextFor}
use Rattle.mysql_bind_call.specs.Errors.{with_error}
use Rattle.mysql_bind_call.specs.InstanceErrors.{bind_error, both_modes_error, steady_text_error}
use Rattle.mysql_bind_call.specs.Refusals.{IsCauseOrMemory, IsRefusalFor, early_refusal, mixed_of, mixed_refusal}
use Rattle.mysql_bind_call.specs.declared.refusal.BindRefusal.{BindRefusal}
use Rattle.mysql_bind_call.specs.declared.refusal.BindRefusal.TheVariants.{Redefined, Query, Values, Fragments, UnsteadyFragment, Memory}
use Rattle.mysql_bind_call.proofs.ScopeLemmas.{accepted_steady, either_agree, no_construct, on_query_all, on_query_map}

-- ---- the purposes

abbrev pub one_mode : Bool → Purpose
one_mode mode = record { scope = OneMode mode; portability = Any; wide_names = false }

abbrev pub any_connection : Portability → Bool → Purpose
any_connection portability wide = record { scope = AnyConnection; portability = portability; wide_names = wide }

abbrev pub either_mode : Purpose
either_mode = record { scope = EitherMode; portability = Servers; wide_names = false }

-- ---- the clauses of `bind`, of what is given as these values, with no test of its own

module _ {A : Type 0} (items : A → List ℕ) (purpose : Purpose) (query : List ℕ) (what : AnyGiven) where
  abbrev pub Bound : Result A BindRefusal → Type 0
  Bound r = IfOk r (λ text. ⊤ × ((g : AnyGiven) → g ≡ what → OnQuery purpose query (λ ts. IsTextFor purpose.scope ts g (items text))))

  abbrev pub Refused : Result A BindRefusal → Type 0
  Refused r = IfErr r (λ e. ⊥ ⊎ (⊤ × ((g : AnyGiven) → g ≡ what → OnQuery purpose query (λ ts. IsRefusalFor purpose query ts g e))))

  pub plain_bound : {F : Type 0} (f : BindRefusal → F) (r : Result A BindRefusal) → Bound r →
      OnQuery purpose query (λ ts. IfOk (with_error f r) (λ text. IsTextFor purpose.scope ts what (items text)))
  plain_bound f (Ok text) b = b.1 what refl
  plain_bound f (Err e) b = on_query_all purpose query _ (λ ts. tt)

  pub plain_refused : {F : Type 0} (f : BindRefusal → F) (Q : List Token → F → Type 0) (r : Result A BindRefusal) →
      ((ts : List Token) (e : BindRefusal) → IsRefusalFor purpose query ts what e → Q ts (f e)) → Refused r →
      OnQuery purpose query (λ ts. IfErr (with_error f r) (Q ts))
  plain_refused f Q (Ok text) h b = on_query_all purpose query _ (λ ts. tt)
  plain_refused f Q (Err e) h (inl never) = absurd never
  plain_refused f Q (Err e) h (inr told) = on_query_map purpose query _ _ (λ ts. h ts e) (told.1 what refl)

-- ---- the refusals for which nothing is allocated

module _ (purpose : Purpose) (query : List ℕ) (ts : List Token) (what : AnyGiven) where
  pub early_query : (why : QueryRefusal) → query_refusal purpose query ts ≡ Some why → early_refusal purpose query ts what ≡ Some (Query why)
  early_query why is = ap (λ q. option_or (option_map Query q) (mixed_refusal ts what)) is

  pub early_names : query_refusal purpose query ts ≡ None → HasName ts × HasMark ts → early_refusal purpose query ts what ≡ Some (mixed_of what)
  early_names none names =
      ap (λ q. option_or (option_map Query q) (mixed_refusal ts what)) none ∙ ap (option_map (λ why. mixed_of what)) (mixed_some ts names)

pub mixed_in_mode : (mode : Bool) (query : List ℕ) (ts : List Token) (what : AnyGiven) → HasName ts × HasMark ts →
    early_refusal (one_mode mode) query ts what ≡ Some (mixed_of what)
mixed_in_mode mode query ts what names = early_names (one_mode mode) query ts what refl names

module _ (portability : Portability) (wide : Bool) (query : List ℕ) (ts : List Token) where
  any_by : (unsteady : Option ℕ) → first_unsteady query ≡ unsteady → (found : Option Unportable) → first_construct portability ts ≡ found →
      query_refusal (any_connection portability wide) query ts ≡ option_or (option_map refusal.Unsteady unsteady) (option_map refusal.Unportable found)
  any_by unsteady u found e =
      ap (λ x. option_or (option_map refusal.Unsteady x) (option_map refusal.Unportable (first_construct portability ts))) u
      ∙ ap (λ x. option_or (option_map refusal.Unsteady unsteady) (option_map refusal.Unportable x)) e

  pub unsteady_early : (what : AnyGiven) (at : ℕ) → first_unsteady query ≡ Some at →
      early_refusal (any_connection portability wide) query ts what ≡ Some (Query (refusal.Unsteady at))
  unsteady_early what at u =
      early_query (any_connection portability wide) query ts what (refusal.Unsteady at) (any_by (Some at) u (first_construct portability ts) refl)

  pub construct_early : (what : AnyGiven) → IsSteady query → (found : Unportable) → first_construct portability ts ≡ Some found →
      early_refusal (any_connection portability wide) query ts what ≡ Some (Query (refusal.Unportable found))
  construct_early what s found e =
      early_query (any_connection portability wide) query ts what (refusal.Unportable found) (any_by None ((none_unsteady query).1 s) (Some found) e)

  pub mixed_early : (what : AnyGiven) → IsSteady query → first_construct portability ts ≡ None → HasName ts × HasMark ts →
      early_refusal (any_connection portability wide) query ts what ≡ Some (mixed_of what)
  mixed_early what s e names =
      early_names (any_connection portability wide) query ts what (any_by None ((none_unsteady query).1 s) None e) names

module _ (query : List ℕ) (ts : List Token) (what : AnyGiven) where
  either_by : (backslash : Option ℕ) → first_backslash ts ≡ backslash → (found : Option Unportable) → first_unportable (lower_names ts) ≡ found →
      query_refusal either_mode query ts ≡ option_or (option_map refusal.Backslash backslash) (option_map refusal.Unportable found)
  either_by backslash b found e =
      ap (λ x. option_or (option_map refusal.Backslash x) (option_map refusal.Unportable (first_unportable (lower_names ts)))) b
      ∙ ap (λ x. option_or (option_map refusal.Backslash backslash) (option_map refusal.Unportable x)) e

  pub backslash_early : (at : ℕ) → first_backslash ts ≡ Some at → early_refusal either_mode query ts what ≡ Some (Query (refusal.Backslash at))
  backslash_early at b = early_query either_mode query ts what (refusal.Backslash at) (either_by (Some at) b (first_unportable (lower_names ts)) refl)

  pub either_construct : first_backslash ts ≡ None → (found : Unportable) → first_unportable (lower_names ts) ≡ Some found →
      early_refusal either_mode query ts what ≡ Some (Query (refusal.Unportable found))
  either_construct b found e = early_query either_mode query ts what (refusal.Unportable found) (either_by None b (Some found) e)

  pub either_mixed : first_backslash ts ≡ None → first_unportable (lower_names ts) ≡ None → HasName ts × HasMark ts →
      early_refusal either_mode query ts what ≡ Some (mixed_of what)
  either_mixed b e names = early_names either_mode query ts what (either_by None b None e) names

-- the same construct, of the tokens of the grammar
pub low_construct : (mode : Bool) (query : List ℕ) (ts : List Token) → IsTokens mode query ts → (found : Option Unportable) →
    first_unportable ts ≡ found → first_unportable (lower_names ts) ≡ found
low_construct mode query ts is found e = ap first_unportable (grammar_lowered mode ts is.each) ∙ e

-- ---- a refusal of values as the error of one purpose

none_some : {A : Type 0} {x : A} → None ≡ Some x → ⊥
none_some e = cc

-- the first cause, or out of memory
module _ (scope : _) (ts : List Token) (given : Given) where
  pub cause_back : (e : BindRefusal) → IsCauseOrMemory scope ts (values given) e → bound.IsCauseOrMemory (first_cause ts given) (bind_error e)
  cause_back e (inl is) = inl (ap bind_error is)
  cause_back (Values error) (inr w) = inr w
  cause_back e (inr w) = absurd w

module _ (query : List ℕ) (ts : List Token) (given : Given) where
  pub mode_error : (mode : Bool) (e : BindRefusal) → IsRefusalFor (one_mode mode) query ts (values given) e →
      bound.IsCauseOrMemory (first_cause ts given) (bind_error e)
  mode_error mode (Query why) h = absurd (none_some h)
  mode_error mode (Redefined index) h = cause_back (OneMode mode) ts given (Redefined index) h.1
  mode_error mode (Values error) h = cause_back (OneMode mode) ts given (Values error) h.1
  mode_error mode (Fragments error) h = cause_back (OneMode mode) ts given (Fragments error) h.1
  mode_error mode (UnsteadyFragment place) h = cause_back (OneMode mode) ts given (UnsteadyFragment place) h.1
  mode_error mode (Memory error) h = cause_back (OneMode mode) ts given (Memory error) h.1

  steady_by : (unsteady : Option ℕ) → first_unsteady query ≡ unsteady → (found : Option Unportable) (why : QueryRefusal) →
      option_or (option_map refusal.Unsteady unsteady) (option_map refusal.Unportable found) ≡ Some why →
      IsSteadyRefusal query found (first_cause ts given) (steady_text_error (Query why))
  steady_by (Some at) u found (refusal.Unsteady k) e = let same : at ≡ k = cc in u ∙ ap Some same
  steady_by (Some at) u found (refusal.Backslash k) e = cc
  steady_by (Some at) u found (refusal.Unportable k) e = cc
  steady_by None u (Some found) (refusal.Unsteady k) e = cc
  steady_by None u (Some found) (refusal.Backslash k) e = cc
  steady_by None u (Some found) (refusal.Unportable k) e = let same : found ≡ k = cc in (u, ap Some same)
  steady_by None u None why e = cc

  pub steady_error : (portability : Portability) (wide : Bool) (e : BindRefusal) → IsRefusalFor (any_connection portability wide) query ts (values given) e →
      IsSteadyRefusal query (first_construct portability ts) (first_cause ts given) (steady_text_error e)
  steady_error portability wide e h = go e h
    where
      after : (none : query_refusal (any_connection portability wide) query ts ≡ None) (e : BindRefusal) →
          IsCauseOrMemory AnyConnection ts (values given) e →
          IsSteadyRefusal query (first_construct portability ts) (first_cause ts given) (steady.Bind (bind_error e))
      after none e c =
          let parts = or_none _ _ none in
          (map_none _ _ parts.0, map_none _ _ parts.1, cause_back AnyConnection ts given e c)

      go : (e : BindRefusal) → IsRefusalFor (any_connection portability wide) query ts (values given) e →
          IsSteadyRefusal query (first_construct portability ts) (first_cause ts given) (steady_text_error e)
      go (Query why) h = steady_by (first_unsteady query) refl (first_construct portability ts) why h
      go (Redefined index) h = after h.0 (Redefined index) h.1
      go (Values error) h = after h.0 (Values error) h.1
      go (Fragments error) h = after h.0 (Fragments error) h.1
      go (UnsteadyFragment place) h = after h.0 (UnsteadyFragment place) h.1
      go (Memory error) h = after h.0 (Memory error) h.1

  both_by : (backslash : Option ℕ) (found : Option Unportable) (why : QueryRefusal) →
      option_or (option_map refusal.Backslash backslash) (option_map refusal.Unportable found) ≡ Some why →
      IsBothModesRefusal backslash found (first_cause ts given) (both_modes_error (Query why))
  both_by (Some at) found (refusal.Backslash k) e = let same : at ≡ k = cc in ap Some same
  both_by (Some at) found (refusal.Unsteady k) e = cc
  both_by (Some at) found (refusal.Unportable k) e = cc
  both_by None (Some found) (refusal.Unsteady k) e = cc
  both_by None (Some found) (refusal.Backslash k) e = cc
  both_by None (Some found) (refusal.Unportable k) e = let same : found ≡ k = cc in (refl, ap Some same)
  both_by None None why e = cc

  after_both : (none : query_refusal either_mode query ts ≡ None) (e : BindRefusal) → IsCauseOrMemory EitherMode ts (values given) e →
      IsBothModesRefusal (first_backslash ts) (first_unportable (lower_names ts)) (first_cause ts given) (both.Bind (bind_error e))
  after_both none e c =
      let parts = or_none _ _ none in
      (map_none _ _ parts.0, map_none _ _ parts.1, cause_back EitherMode ts given e c)

  pub both_error : (e : BindRefusal) → IsRefusalFor either_mode query ts (values given) e →
      IsBothModesRefusal (first_backslash ts) (first_unportable (lower_names ts)) (first_cause ts given) (both_modes_error e)
  both_error (Query why) h = both_by (first_backslash ts) (first_unportable (lower_names ts)) why h
  both_error (Redefined index) h = after_both h.0 (Redefined index) h.1
  both_error (Values error) h = after_both h.0 (Values error) h.1
  both_error (Fragments error) h = after_both h.0 (Fragments error) h.1
  both_error (UnsteadyFragment place) h = after_both h.0 (UnsteadyFragment place) h.1
  both_error (Memory error) h = after_both h.0 (Memory error) h.1

-- ---- the texts of portable queries

pub portable_query : (purpose : Purpose) (query : List ℕ) → purpose.portability ≡ Servers → IsAccepted purpose query →
    OnQuery purpose query (λ ts. IsPortable (lower_names ts))
portable_query purpose query e accepted =
    on_query_map purpose query _ _ (λ ts h. none_is_portable (lower_names ts) (subst (λ p. first_construct p ts ≡ None) e h)) (no_construct purpose query accepted)

pub narrow_portable : (mode : Bool) (query : List ℕ) → OnTokens mode query (λ ts. IsPortable (lower_names ts)) → OnTokens mode query IsPortable
narrow_portable mode query o = as_judged mode query (λ ts us. IsPortable us) o

module _ {A F : Type 0} (items : A → List ℕ) (query : List ℕ) (given : Given) (f : BindRefusal → F) where
  pub anywhere_bound : (r : Result A BindRefusal) → Bound items (any_connection Servers false) query (values given) r →
      IfOk r (λ text. IsAccepted (any_connection Servers false) query) → (mode : Bool) →
      OnTokens mode query (λ ts. IfOk (with_error f r) (λ text. IsAnywhereText ts given (items text)))
  anywhere_bound (Ok text) b accepted mode =
      anywhere_answer {A = A} {E = F} items (Ok text) query given (accepted_steady (any_connection Servers false) query accepted refl)
      (narrow_portable false query (portable_query (any_connection Servers false) query refl accepted false)) (λ m. b.1 (values given) refl m) mode
  anywhere_bound (Err e) b accepted mode = on_query_all (any_connection Servers false) query _ (λ ts. tt) mode

  pub both_modes_bound : (r : Result A BindRefusal) → Bound items either_mode query (values given) r →
      IfOk r (λ text. IsAccepted either_mode query) → (mode : Bool) →
      OnTokens mode query (λ ts. IfOk (with_error f r) (λ text. IsPortableInBothModes ts given (items text)))
  both_modes_bound (Ok text) b accepted mode =
      modes.portable_answer query given (items text) (either_agree either_mode query accepted refl) (b.1 (values given) refl true)
      (as_judged true query (λ ts us. first_unportable us ≡ None) (no_construct either_mode query accepted true)) mode
  both_modes_bound (Err e) b accepted mode = on_query_all either_mode query _ (λ ts. tt) mode
