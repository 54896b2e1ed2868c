-- Facts about the results of binding, with their errors in one type or another.
use Rattle.std.specs.Prelude.{Bool, true, false, Result, Ok, Err, IfOk, IfErr, IsErrOf, nat_lt, alloc_error, option_map, ⊤}
use Rattle.std.specs.Borrow.{Bor}
use Rattle.std.specs.Option.{option_or}
use Rattle.std.proofs.Common.{◌≡◌, ◌⊎◌, ℕ, List, Option, Some, None, length, refl, sym, ap, ◌∙◌, inl, inr}
use Rattle.std.proofs.lemmas.Bool.{cases_Bool, and_parts, ltb-true}
use Rattle.mysql_values.specs.declared.value.ValueRef.{ValueRef}
use Rattle.mysql_named_params.specs.Tokens.{Token}
use Rattle.mysql_named_params.specs.Places.{HasMark, HasName, has_both, marks, names}
use Rattle.mysql_named_params.specs.Reading.{OnTokensIn}
use Rattle.mysql_named_params.specs.declared.places.Reading.{Reading}
use Rattle.mysql_params_core.specs.Given.{Given, named}
use Rattle.mysql_params_core.specs.GivenBorrowed.{pair_map}
use Rattle.mysql_binding.specs.BindErrors as bound
use Rattle.mysql_binding.specs.FirstCause.{Cause, first_cause, mixed_cause}
use Rattle.mysql_binding.specs.declared.bind_error.BindError.{BindError}
use Rattle.mysql_binding.specs.declared.bind_error.BindError.TheVariants as bind
use Rattle.mysql_bind_call.specs.AnyGiven.{AnyGiven, values, fragments}
use Rattle.mysql_bind_call.specs.Errors.{of_bind_error, with_error}
use Rattle.mysql_bind_call.specs.Pairs.{ArePairs, ArePairsMade}
use Rattle.mysql_bind_call.specs.Refusals.{IsCauseOrMemory, IsRefusalFor, early_refusal, mixed_of, mixed_refusal}
use Rattle.mysql_steady_text.specs.Purposes.{query_refusal}
use Rattle.mysql_steady_text.specs.declared.purpose.Purpose.{Purpose}
use Rattle.mysql_steady_text.specs.declared.purpose.QueryRefusal.{QueryRefusal}
use Rattle.mysql_steady_text.specs.declared.purpose.Scope.{Scope}
use Rattle.mysql_bind_call.specs.declared.refusal.BindRefusal.{BindRefusal}
use Rattle.mysql_bind_call.specs.declared.refusal.BindRefusal.TheVariants.{Redefined, Query, Values, Fragments, UnsteadyFragment, Memory}

pub ok_to : {A E : Type 0} (P Q : A → Type 0) (r : Result A E) → ((a : A) → P a → Q a) → IfOk r P → IfOk r Q
ok_to P Q (Ok a) f h = f a h
ok_to P Q (Err e) f h = tt

pub err_to : {A E : Type 0} (P Q : E → Type 0) (r : Result A E) → ((e : E) → P e → Q e) → IfErr r P → IfErr r Q
err_to P Q (Ok a) f h = tt
err_to P Q (Err e) f h = f e h

pub with_ok : {A E F : Type 0} (f : E → F) (P : A → Type 0) (r : Result A E) → IfOk r P → IfOk (with_error f r) P
with_ok f P (Ok a) h = h
with_ok f P (Err e) h = tt

pub never_err : {A E : Type 0} (a : A) (e : E) → ◌≡◌ {A = Result A E} (Ok a) (Err e) → ⊥
never_err a e is = cc

-- ---- on one list of tokens

module _ {A E F : Type 0} (f : E → F) (reading : Reading) (query : List ℕ) where
  pub ok_in : (P : List Token → A → Type 0) (r : Result A E) → OnTokensIn reading query (λ ts. IfOk r (P ts)) →
      IfOk (with_error f r) (λ a. OnTokensIn reading query (λ ts. P ts a))
  ok_in P (Ok a) o = o
  ok_in P (Err e) o = tt

  pub err_in : (P : List Token → E → Type 0) (Q : List Token → F → Type 0) → ((ts : List Token) (e : E) → P ts e → Q ts (f e)) →
      (r : Result A E) → OnTokensIn reading query (λ ts. IfErr r (P ts)) →
      IfErr (with_error f r) (λ e. OnTokensIn reading query (λ ts. Q ts e))
  err_in P Q h (Ok a) o = tt
  err_in P Q h (Err e) o = (o.0, o.1, h o.0 e o.2)

-- ---- names and marks

both_places : (ts : List Token) (why : Cause) → mixed_cause ts ≡ Some why → HasName ts × HasMark ts
both_places ts why e = elim (cases_Bool (has_both ts)) [
  | inl h ↦
      let parts = and_parts (nat_lt 0 (length (names ts))) (nat_lt 0 (marks ts)) h in
      (ltb-true 0 (length (names ts)) parts.0, ltb-true 0 (marks ts) parts.1)
  | inr h ↦ absurd (never h)
]
  where
    never : has_both ts ≡ false → ⊥
    never h =
        let none : mixed_cause ts ≡ None = rw h refl in
        cc

-- the refusal of a query with both
mixed_is : (ts : List Token) (given : AnyGiven) (refusal : BindRefusal) → mixed_refusal ts given ≡ Some refusal →
    (HasName ts × HasMark ts) × (mixed_of given ≡ refusal)
mixed_is ts given refusal e = go (mixed_cause ts) refl e
  where
    go : (c : Option Cause) → mixed_cause ts ≡ c → option_map (λ why. mixed_of given) c ≡ Some refusal →
        (HasName ts × HasMark ts) × (mixed_of given ≡ refusal)
    go None is h = cc
    go (Some why) is h =
        let same : mixed_of given ≡ refusal = cc in
        (both_places ts why is, same)

pub mixed_on : {A E : Type 0} (f : E → BindRefusal) (mixed : E) (given : AnyGiven) (r : Result A E) (ts : List Token) →
    f mixed ≡ mixed_of given → (HasName ts × HasMark ts → IsErrOf r mixed) →
    (refusal : BindRefusal) → mixed_refusal ts given ≡ Some refusal → IsErrOf (with_error f r) refusal
mixed_on f mixed given r ts same told refusal e =
    let m = mixed_is ts given refusal e in
    ap (with_error f) (told m.0) ∙ ap (λ x. Err x) (same ∙ m.1)

-- ---- the causes of values

pub values_cause : (scope : Scope) (ts : List Token) (given : Given) (error : BindError) →
    bound.IsCauseOrMemory (first_cause ts given) error → IsCauseOrMemory scope ts (values given) (of_bind_error error)
values_cause scope ts given error (inl is) = inl (ap of_bind_error is)
values_cause scope ts given (bind.Memory e) (inr w) = absurd (none_some w.0 w.2)
  where
    none_some : (why : Cause) → None ≡ Some why → ⊥
    none_some why h = cc
values_cause scope ts given bind.Mixed (inr w) = inr w
values_cause scope ts given (bind.Params e) (inr w) = inr w
values_cause scope ts given (bind.MarkCount marks count) (inr w) = inr w
values_cause scope ts given (bind.NotAlone place at) (inr w) = inr w
values_cause scope ts given (bind.Float place) (inr w) = inr w

-- what pairs give
pub pairs_are : (pairs : List (Bor (List ℕ) × ValueRef)) (what : AnyGiven) → ArePairsMade pairs → ArePairs pairs what →
    values (named (pair_map pairs)) ≡ what
pairs_are pairs (values given) made is =
    let same : Ok (named (pair_map pairs)) ≡ Ok given = sym made ∙ is in
    let one : named (pair_map pairs) ≡ given = cc in
    ap values one
pairs_are pairs (fragments given) made is = absurd is

-- ---- the order of refusals

-- after an accepted query, a cause of what is given is the refusal
pub cause_told : (purpose : Purpose) (query : List ℕ) (ts : List Token) (given : AnyGiven) (refusal : BindRefusal) → query_refusal purpose query ts ≡ None →
    IsCauseOrMemory purpose.scope ts given refusal → IsRefusalFor purpose query ts given refusal
cause_told purpose query ts given (Query why) none (inl is) = absurd (never is)
  where
    never : {why : QueryRefusal} → Query why ≡ Memory alloc_error → ⊥
    never is = cc
cause_told purpose query ts (values given) (Query why) none (inr w) = absurd w
cause_told purpose query ts (fragments given) (Query why) none (inr w) = absurd w
cause_told purpose query ts given (Redefined index) none h = (none, h)
cause_told purpose query ts given (Values error) none h = (none, h)
cause_told purpose query ts given (Fragments error) none h = (none, h)
cause_told purpose query ts given (UnsteadyFragment place) none h = (none, h)
cause_told purpose query ts given (Memory error) none h = (none, h)

module _ (purpose : Purpose) (query : List ℕ) (ts : List Token) (given : AnyGiven) (refusal : BindRefusal) (early : early_refusal purpose query ts given ≡ Some refusal) where
  -- a refusal of the query comes first
  pub early_is : (why : QueryRefusal) → query_refusal purpose query ts ≡ Some why → Query why ≡ refusal
  early_is why is =
      let told : Some (Query why) ≡ Some refusal = ap (λ q. option_or (option_map Query q) (mixed_refusal ts given)) (sym is) ∙ early in
      cc

  -- after an accepted query, that of names and marks
  pub early_mixed : query_refusal purpose query ts ≡ None → mixed_refusal ts given ≡ Some refusal
  early_mixed none = ap (λ q. option_or (option_map Query q) (mixed_refusal ts given)) (sym none) ∙ early
