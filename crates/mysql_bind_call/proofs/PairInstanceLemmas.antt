-- The clauses of `bind` for pairs and one purpose, as the call for these says them.
use Rattle.std.specs.Prelude.{Bool, true, false, Result, Ok, Err, IfOk, IfErr, alloc_error}
use Rattle.std.specs.Borrow.{Bor}
use Rattle.std.proofs.Common.{◌≡◌, ◌⊎◌, ℕ, List, Option, None, refl, sym, ap, subst, ◌∙◌, inl, inr}
use Rattle.mysql_values.specs.declared.value.ValueRef.{ValueRef}
use Rattle.mysql_named_params.specs.Tokens.{Token, OnTokens}
use Rattle.mysql_named_params.specs.Reading.{reading_with}
use Rattle.mysql_portable.specs.FirstUnportable.{first_unportable}
use Rattle.mysql_portable.specs.declared.portable.Unportable.{Unportable}
use Rattle.mysql_params_core.specs.Given.{Given, named}
use Rattle.mysql_params_core.specs.GivenBorrowed.{pair_map}
use Rattle.mysql_binding.specs.BoundPairs.{IsPairsRefusalIn, OfPairs}
use Rattle.mysql_binding.specs.FirstCause.{first_cause}
use Rattle.mysql_binding.specs.declared.bind_error.BindError.TheVariants as bind
use Rattle.mysql_steady_text.specs.BothModesErrors.{IsBothModesRefusal}
use Rattle.mysql_steady_text.specs.BothModesText.{IsPortableInBothModes}
use Rattle.mysql_steady_text.specs.FirstBackslash.{first_backslash}
use Rattle.mysql_steady_text.specs.Purposes.{first_construct}
use Rattle.mysql_steady_text.specs.SteadyPairs.{IsBothModesPairsRefusal, IsSteadyPairsRefusal}
use Rattle.mysql_steady_text.specs.SteadyText.{IsAnywhereText}
use Rattle.mysql_steady_text.specs.SteadyTextErrors.{IsSteadyRefusal}
use Rattle.mysql_steady_text.specs.declared.both_modes_error.BothModesError.TheVariants as both
use Rattle.mysql_steady_text.specs.declared.steady_text_error.SteadyTextError.{SteadyTextError}
use Rattle.mysql_steady_text.specs.declared.steady_text_error.SteadyTextError.TheVariants as steady
use Rattle.mysql_steady_text.specs.declared.purpose.Portability.{Portability}
use Rattle.mysql_steady_text.specs.declared.purpose.Portability.TheVariants.{Any, Servers}
use Rattle.mysql_steady_text.specs.declared.purpose.Purpose.{Purpose}
use Rattle.mysql_steady_text.proofs.QueryRefusalLemmas.{as_judged}
use Rattle.mysql_bind_call.specs.Accepted.{IsAccepted, OnQuery}
use Rattle.mysql_bind_call.specs.AnyGiven.{AnyGiven, values}
use Rattle.mysql_bind_call.specs.BoundTexts.{IsTextFor}
use Rattle.mysql_bind_call.specs.Errors.{with_error}
use Rattle.mysql_bind_call.specs.InstanceErrors.{bind_pairs_error, both_modes_error, both_modes_pairs_error, steady_pairs_error, steady_text_error}
use Rattle.mysql_bind_call.specs.Pairs.{ArePairs, ArePairsMade, IsPairsRefusal}
use Rattle.mysql_bind_call.specs.Refusals.{IsRefusalFor}
use Rattle.mysql_bind_call.specs.declared.refusal.BindRefusal.{BindRefusal}
use Rattle.mysql_bind_call.specs.declared.refusal.BindRefusal.TheVariants.{Redefined, Query, Values, Fragments, UnsteadyFragment, Memory}
use Rattle.mysql_bind_call.proofs.InstanceLemmas.{any_connection, anywhere_bound, both_error, both_modes_bound, either_mode, mode_error, one_mode, steady_error}

module _ {A : Type 0} (items : A → List ℕ) (purpose : Purpose) (query : List ℕ) (pairs : List (Bor (List ℕ) × ValueRef)) where
  abbrev pub Bound : Result A BindRefusal → Type 0
  Bound r = IfOk r (λ text. ArePairsMade pairs × ((g : AnyGiven) → ArePairs pairs g → OnQuery purpose query (λ ts. IsTextFor purpose.scope ts g (items text))))

  abbrev pub Refused : Result A BindRefusal → Type 0
  Refused r = IfErr r (λ e. IsPairsRefusal pairs e ⊎ (ArePairsMade pairs × ((g : AnyGiven) → ArePairs pairs g → OnQuery purpose query (λ ts. IsRefusalFor purpose query ts g e))))

  pub pairs_bound : {F : Type 0} (f : BindRefusal → F) (r : Result A BindRefusal) → Bound r →
      IfOk (with_error f r) (λ text. OfPairs pairs (λ given. OnQuery purpose query (λ ts. IsTextFor purpose.scope ts (values given) (items text))))
  pairs_bound f (Ok text) b = (named (pair_map pairs), b.0, b.1 (values (named (pair_map pairs))) b.0)
  pairs_bound f (Err e) b = tt

-- the text that all servers read alike
module _ {A F : Type 0} (items : A → List ℕ) (query : List ℕ) (pairs : List (Bor (List ℕ) × ValueRef)) (f : BindRefusal → F) where
  pub pairs_anywhere_bound : (r : Result A BindRefusal) → Bound items (any_connection Servers false) query pairs r →
      IfOk r (λ text. IsAccepted (any_connection Servers false) query) →
      IfOk (with_error f r) (λ text. OfPairs pairs (λ given. (mode : Bool) → OnTokens mode query (λ ts. IsAnywhereText ts given (items text))))
  pairs_anywhere_bound (Ok text) b accepted =
      let given = named (pair_map pairs) in
      (given, b.0, λ mode. anywhere_bound {A = A} {F = F} items query given f (Ok text) (tt, λ g is. subst (λ (w : AnyGiven). OnQuery (any_connection Servers false) query (λ ts. IsTextFor (any_connection Servers false).scope ts w (items text))) (sym is) (b.1 (values given) b.0)) accepted mode)
  pairs_anywhere_bound (Err e) b accepted = tt

  pub pairs_both_bound : (r : Result A BindRefusal) → Bound items either_mode query pairs r →
      IfOk r (λ text. IsAccepted either_mode query) →
      IfOk (with_error f r) (λ text. OfPairs pairs (λ given. (mode : Bool) → OnTokens mode query (λ ts. IsPortableInBothModes ts given (items text))))
  pairs_both_bound (Ok text) b accepted =
      let given = named (pair_map pairs) in
      (given, b.0, λ mode. both_modes_bound {A = A} {F = F} items query given f (Ok text) (tt, λ g is. subst (λ (w : AnyGiven). OnQuery either_mode query (λ ts. IsTextFor either_mode.scope ts w (items text))) (sym is) (b.1 (values given) b.0)) accepted mode)
  pairs_both_bound (Err e) b accepted = tt

module _ {A : Type 0} (items : A → List ℕ) (query : List ℕ) (pairs : List (Bor (List ℕ) × ValueRef)) where
  -- no text of pairs that are made is refused as a pair
  not_redefined : (purpose : Purpose) (index : ℕ) (Q : Type 0) →
      ((g : AnyGiven) → ArePairs pairs g → OnQuery purpose query (λ ts. IsRefusalFor purpose query ts g (Redefined index))) → ArePairsMade pairs → Q
  not_redefined purpose index Q told made =
      let o = told (values (named (pair_map pairs))) made true in absurd (never o.2.1)
    where
      never : (Redefined index ≡ Memory alloc_error) ⊎ ⊥ → ⊥
      never (inl is) = cc
      never (inr w) = w

  pub mode_refused : (mode : Bool) (r : Result A BindRefusal) → Refused items (one_mode mode) query pairs r →
      IfErr (with_error bind_pairs_error r) (IsPairsRefusalIn (reading_with false mode) query pairs)
  mode_refused mode (Ok text) b = tt
  mode_refused mode (Err (Redefined index)) (inl own) = own
  mode_refused mode (Err (Memory error)) (inl own) = inl (own.0, ap bind.Memory own.1)
  mode_refused mode (Err e) (inl own) = absurd own
  mode_refused mode (Err (Redefined index)) (inr told) = not_redefined (one_mode mode) index _ told.1 told.0
  mode_refused mode (Err (Query why)) (inr told) =
      let o = told.1 (values (named (pair_map pairs))) told.0 true in inr (named (pair_map pairs), told.0, (o.0, o.1, mode_error query o.0 (named (pair_map pairs)) mode (Query why) o.2))
  mode_refused mode (Err (Values error)) (inr told) =
      let o = told.1 (values (named (pair_map pairs))) told.0 true in inr (named (pair_map pairs), told.0, (o.0, o.1, mode_error query o.0 (named (pair_map pairs)) mode (Values error) o.2))
  mode_refused mode (Err (Fragments error)) (inr told) =
      let o = told.1 (values (named (pair_map pairs))) told.0 true in inr (named (pair_map pairs), told.0, (o.0, o.1, mode_error query o.0 (named (pair_map pairs)) mode (Fragments error) o.2))
  mode_refused mode (Err (UnsteadyFragment place)) (inr told) =
      let o = told.1 (values (named (pair_map pairs))) told.0 true in inr (named (pair_map pairs), told.0, (o.0, o.1, mode_error query o.0 (named (pair_map pairs)) mode (UnsteadyFragment place) o.2))
  mode_refused mode (Err (Memory error)) (inr told) =
      let o = told.1 (values (named (pair_map pairs))) told.0 true in inr (named (pair_map pairs), told.0, (o.0, o.1, mode_error query o.0 (named (pair_map pairs)) mode (Memory error) o.2))

  -- the refusal of pairs that are made
  module _ (portability : Portability) (unportable : List Token → Option Unportable)
      (narrow : (e : SteadyTextError) → ((mode : Bool) → OnTokens mode query (λ ts. IsSteadyRefusal query (first_construct portability ts) (first_cause ts (named (pair_map pairs))) e)) →
      (mode : Bool) → OnTokens mode query (λ ts. IsSteadyRefusal query (unportable ts) (first_cause ts (named (pair_map pairs))) e)) where
    told_steady : (e : BindRefusal) → ((g : AnyGiven) → ArePairs pairs g → OnQuery (any_connection portability false) query (λ ts. IsRefusalFor (any_connection portability false) query ts g e)) →
        ArePairsMade pairs → OfPairs pairs (λ given. (mode : Bool) → OnTokens mode query (λ ts. IsSteadyRefusal query (unportable ts) (first_cause ts given) (steady_text_error e)))
    told_steady e told made =
        (named (pair_map pairs), made, narrow (steady_text_error e) (λ mode. let o = told (values (named (pair_map pairs))) made mode in (o.0, o.1, steady_error query o.0 (named (pair_map pairs)) portability false e o.2)))

    pub steady_refused : (r : Result A BindRefusal) → Refused items (any_connection portability false) query pairs r →
        IfErr (with_error steady_pairs_error r) (IsSteadyPairsRefusal query unportable pairs)
    steady_refused (Ok text) b = tt
    steady_refused (Err (Redefined index)) (inl own) = own
    steady_refused (Err (Memory error)) (inl own) = inl (own.0, ap (λ e. steady.Bind (bind.Memory e)) own.1)
    steady_refused (Err e) (inl own) = absurd own
    steady_refused (Err (Redefined index)) (inr told) = not_redefined (any_connection portability false) index _ told.1 told.0
    steady_refused (Err (Query why)) (inr told) = inr (told_steady (Query why) told.1 told.0)
    steady_refused (Err (Values error)) (inr told) = inr (told_steady (Values error) told.1 told.0)
    steady_refused (Err (Fragments error)) (inr told) = inr (told_steady (Fragments error) told.1 told.0)
    steady_refused (Err (UnsteadyFragment place)) (inr told) = inr (told_steady (UnsteadyFragment place) told.1 told.0)
    steady_refused (Err (Memory error)) (inr told) = inr (told_steady (Memory error) told.1 told.0)

  narrow_steady : (e : SteadyTextError) → ((mode : Bool) → OnTokens mode query (λ ts. IsSteadyRefusal query (first_construct Servers ts) (first_cause ts (named (pair_map pairs))) e)) →
      (mode : Bool) → OnTokens mode query (λ ts. IsSteadyRefusal query (first_unportable ts) (first_cause ts (named (pair_map pairs))) e)
  narrow_steady e o mode =
      as_judged mode query (λ ts us. IsSteadyRefusal query (first_unportable us) (first_cause ts (named (pair_map pairs))) e) (o mode)

  pub anywhere_refused : (r : Result A BindRefusal) → Refused items (any_connection Servers false) query pairs r →
      IfErr (with_error steady_pairs_error r) (IsSteadyPairsRefusal query first_unportable pairs)
  anywhere_refused = steady_refused Servers first_unportable narrow_steady

  pub any_mode_refused : (r : Result A BindRefusal) → Refused items (any_connection Any false) query pairs r →
      IfErr (with_error steady_pairs_error r) (IsSteadyPairsRefusal query (λ ts. None) pairs)
  any_mode_refused = steady_refused Any (λ ts. None) (λ e o. o)

  -- for either mode
  told_both : (e : BindRefusal) → ((g : AnyGiven) → ArePairs pairs g → OnQuery either_mode query (λ ts. IsRefusalFor either_mode query ts g e)) →
      ArePairsMade pairs → OfPairs pairs (λ given. (mode : Bool) → OnTokens mode query (λ ts. IsBothModesRefusal (first_backslash ts) (first_unportable ts) (first_cause ts given) (both_modes_error e)))
  told_both e told made = (
    named (pair_map pairs),
    made,
    λ mode.
        as_judged mode query (λ ts us. IsBothModesRefusal (first_backslash ts) (first_unportable us) (first_cause ts (named (pair_map pairs))) (both_modes_error e))
        (let o = told (values (named (pair_map pairs))) made mode in (o.0, o.1, both_error query o.0 (named (pair_map pairs)) e o.2)),
  )

  pub both_refused : (r : Result A BindRefusal) → Refused items either_mode query pairs r →
      IfErr (with_error both_modes_pairs_error r) (IsBothModesPairsRefusal query pairs)
  both_refused (Ok text) b = tt
  both_refused (Err (Redefined index)) (inl own) = own
  both_refused (Err (Memory error)) (inl own) = inl (own.0, ap (λ e. both.Bind (bind.Memory e)) own.1)
  both_refused (Err e) (inl own) = absurd own
  both_refused (Err (Redefined index)) (inr told) = not_redefined either_mode index _ told.1 told.0
  both_refused (Err (Query why)) (inr told) = inr (told_both (Query why) told.1 told.0)
  both_refused (Err (Values error)) (inr told) = inr (told_both (Values error) told.1 told.0)
  both_refused (Err (Fragments error)) (inr told) = inr (told_both (Fragments error) told.1 told.0)
  both_refused (Err (UnsteadyFragment place)) (inr told) = inr (told_both (UnsteadyFragment place) told.1 told.0)
  both_refused (Err (Memory error)) (inr told) = inr (told_both (Memory error) told.1 told.0)
