-- The meaning of an outcome, from the results of the calls below.
use Rattle.std.specs.Prelude.{Option, Some, None, Result, Ok, Err, IfSome, IsOk, alloc_error, option_map}
use Rattle.std.specs.List.{Contains}
use Rattle.std.proofs.Common.{arith, ◌≡◌, ◌⊎◌, ◌<◌, inl, inr, ℕ, zero, suc, List, [], ◌∷◌, length, take, refl, sym, ap, ◌∙◌, subst}
use Rattle.mysql_named_params.specs.Places.{names, marks, HasName, HasMark}
use Rattle.mysql_named_params.specs.Parsed.{Parsed, parsed}
use Rattle.mysql_named_params.proofs.ReadingLemmas.{one_reading as one_query_reading}
use Rattle.mysql_named_params.specs.Reading.{OnTokensIn}
use Rattle.mysql_named_params.specs.declared.places.Reading.{Reading}
use Rattle.mysql_params_core.specs.Given.{Given, empty}
use Rattle.mysql_params_core.specs.Lookup.{missing}
use Rattle.mysql_params_core.specs.Errors.{lookup_refusal}
use Rattle.mysql_params_core.specs.declared.params.errors.ParamsError.{ParamsError}
use Rattle.mysql_params_core.specs.declared.params.errors.ParamsError.TheVariants as params
use Rattle.mysql_params_core.specs.declared.params.errors.MissingNamedParameterError.{MissingNamedParameterError}
use Rattle.mysql_binding.specs.BindErrors.{IsCauseOrMemory, cause_of}
use Rattle.mysql_binding.specs.FirstCause.{Cause, first_cause, refused_params}
use Rattle.mysql_binding.specs.declared.bind_error.BindError.{BindError}
use Rattle.mysql_binding.specs.declared.bind_error.BindError.TheVariants as bind
use Rattle.mysql_flat_params.specs.FlatForm.{FormRefusal, IsReadFrom, IsFormReading, read_parameter, read_to_end, refused_at, read_on}
use Rattle.mysql_flat_params.specs.FormErrors.{IsFormRefusal}
use Rattle.mysql_flat_params.specs.declared.form_error.FormError.{FormError}
use Rattle.mysql_flat_params.specs.declared.form_error.FormError.TheVariants.{Memory}
use Rattle.mysql_flat_params.proofs.FormLemmas.{one_reading}
use Rattle.mysql_flat_params.specs.IntoRoom.{IsBindOutcomeIn, IsInRoom, IsMissingNameIn, IsNamesAnswerIn, IsNamesOutcomeIn, IsRefusedForIn}
use Rattle.mysql_flat_params.specs.NamesAnswer.{names_answer}
use Rattle.mysql_flat_params.specs.Outcomes.{IfDone}
use Rattle.mysql_flat_params.specs.declared.outcome.Outcome.{Outcome}
use Rattle.mysql_flat_params.specs.declared.outcome.Outcome.TheVariants.{Done, Room, Missing}
use Rattle.mysql_flat_params.proofs.MissingLemmas.{missing_is_name}

-- an error with a cause is that of the first cause
module _ (error : BindError) (cause : Cause) (is : cause_of error ≡ Some cause) where
  cause_is_first : (first : Option Cause) → IsCauseOrMemory first error → first ≡ Some cause
  cause_is_first first (inl memory) =
      let never : Some cause ≡ None = sym is ∙ ap cause_of memory in
      cc
  cause_is_first first (inr why) = why.1 ∙ (sym why.2 ∙ is)

  pub refused_for : (reading : Reading) (query form : List ℕ) (given : Given) → IsFormReading form (Ok given) →
      OnTokensIn reading query (λ ts. IsCauseOrMemory (first_cause ts given) error) → IsRefusedForIn reading query form cause
  refused_for reading query form given reads o = (given, reads, (o.0, o.1, cause_is_first (first_cause o.0 given) o.2))

-- the cause of an error that holds a missing name
pub is_missing : (error : BindError) (why : ParamsError) (held : MissingNamedParameterError) (name : List ℕ) →
    error ≡ bind.Params why → why ≡ params.Missing held → name ≡ held.0.items →
    cause_of error ≡ Some (refused_params (missing name))
is_missing error why held name is why_is name_is =
    ap cause_of is ∙ (ap (λ w. option_map refused_params (lookup_refusal w)) why_is
    ∙ ap (λ n. Some (refused_params (missing n))) (sym name_is))

-- a name that is missing is one of the query's
pub name_is_there : (reading : Reading) (query name : List ℕ) (error : BindError) → cause_of error ≡ Some (refused_params (missing name)) →
    ((given : Given) × OnTokensIn reading query (λ ts. IsCauseOrMemory (first_cause ts given) error)) →
    OnTokensIn reading query (λ ts. Contains (names ts) name)
name_is_there reading query name error is (given, o) =
    (o.0, o.1, missing_is_name o.0 given name (cause_is_first error (refused_params (missing name)) is (first_cause o.0 given) o.2))

pub name_is_not_there : (reading : Reading) (query name : List ℕ) → OnTokensIn reading query (λ ts. Contains (names ts) name) →
    OnTokensIn reading query (λ ts. Contains (names ts) name → ⊥) → ⊥
name_is_not_there reading query name o none =
    let same : o.0 ≡ none.0 = one_query_reading reading query o.0 none.0 o.1 none.1 in
    none.2 (subst (λ ts. Contains (names ts) name) same o.2)

-- the outcome reports its place
pub missing_told : (reading : Reading) (query form name : List ℕ) (told : Option Outcome) → IsRefusedForIn reading query form (refused_params (missing name)) →
    IfSome told (IsMissingNameIn reading query name) → IfSome told (IsBindOutcomeIn reading query form)
missing_told reading query form name None refused at = tt
missing_told reading query form name (Some outcome) refused at = here outcome at
  where
    here : (outcome : Outcome) → IsMissingNameIn reading query name outcome → IsBindOutcomeIn reading query form outcome
    here (Missing place position len) at = (name, refused, at)
    here outcome at = absurd at

-- the empty form is not refused
pub empty_not_refused : {X : Type 0} (form : List ℕ) (error : FormError) → form ≡ [] → IsFormRefusal form error →
    (◌≡◌ {A = Result X FormError} (Err error) (Err (Memory alloc_error)) → IsOk (read_parameter (length form) 0 empty form)) → ⊥
empty_not_refused [] error none (inl memory) allocates =
    let never : IsOk (read_parameter 0 0 empty []) = allocates (ap (λ e. Err e) memory) in
    cc
empty_not_refused [] error none (inr why) allocates =
    let same : Err why.0 ≡ Ok empty = one_reading 0 0 empty [] (Err why.0) (Ok empty) why.1 (read_to_end 0 0 empty) in
    cc
empty_not_refused (b ∷ form) error none refused allocates = cc

-- a form that is read is empty, or its first parameter is read
first_read : (total place : ℕ) (given : Given) (bytes : List ℕ) (reading : Result Given FormRefusal) (more : Given) →
    IsReadFrom total place given bytes reading → reading ≡ Ok more → (bytes ≡ []) ⊎ IsOk (read_parameter total place given bytes)
first_read total place given [] _ more (read_to_end _ _ _) h = inl refl
first_read total place given (b ∷ bytes) _ more (refused_at _ _ _ _ _ refusal is) h = cc
first_read total place given (b ∷ bytes) _ more (read_on _ _ _ _ _ next rest reading is reads) h = inr (rw is refl)

pub first_stands : (form : List ℕ) (given : Given) → IsFormReading form (Ok given) →
    (form ≡ []) ⊎ IsOk (read_parameter (length form) 0 empty form)
first_stands form given reads = first_read (length form) 0 empty form (Ok given) given reads refl

-- ---- names

-- a query that is not refused has no names or no marks
pub unmixed : {X E : Type 0} (reading : Reading) (query : List ℕ) (x : X) (e : E) →
    OnTokensIn reading query (λ ts. HasName ts × HasMark ts → ◌≡◌ {A = Result X E} (Ok x) (Err e)) →
    OnTokensIn reading query (λ ts. HasName ts × HasMark ts → ⊥)
unmixed {X = X} {E = E} reading query x e o = (o.0, o.1, λ both. never (o.2 both))
  where
    never : ◌≡◌ {A = Result X E} (Ok x) (Err e) → ⊥
    never h = cc

pub is_names_answer : (reading : Reading) (query text : List ℕ) (p : Parsed) → OnTokensIn reading query (λ ts. p ≡ parsed ts) →
    OnTokensIn reading query (λ ts. HasName ts × HasMark ts → ⊥) → text ≡ names_answer p → IsNamesAnswerIn reading query text
is_names_answer reading query text p o unmixed is =
    let same : unmixed.0 ≡ o.0 = one_query_reading reading query unmixed.0 o.0 unmixed.1 o.1 in
    (o.0, o.1, (subst (λ ts. HasName ts × HasMark ts → ⊥) same unmixed.2, is ∙ ap names_answer o.2))

one_or_more : {A : Type 0} (xs : List A) → (xs ≡ [] → ⊥) → 0 < length xs
one_or_more [] some = absurd (some refl)
one_or_more (x ∷ xs) some = omega arith

none_at_all : (n : ℕ) → (0 < n → ⊥) → n ≡ 0
none_at_all zero none = refl
none_at_all (suc n) none = absurd (none (omega arith))

-- a query that is not refused and has names has no marks
pub names_alone : (reading : Reading) (query : List ℕ) (p : Parsed) → OnTokensIn reading query (λ ts. p ≡ parsed ts) →
    OnTokensIn reading query (λ ts. HasName ts × HasMark ts → ⊥) → (p.params ≡ [] → ⊥) →
    OnTokensIn reading query (λ ts. HasName ts × (marks ts ≡ 0))
names_alone reading query p o unmixed named =
    let same : unmixed.0 ≡ o.0 = one_query_reading reading query unmixed.0 o.0 unmixed.1 o.1 in
    let not_both : HasName o.0 × HasMark o.0 → ⊥ = subst (λ ts. HasName ts × HasMark ts → ⊥) same unmixed.2 in
    let name : HasName o.0 = one_or_more (names o.0) (λ none. named (ap (λ q. q.params) o.2 ∙ none)) in
    (o.0, o.1, (name, none_at_all (marks o.0) (λ mark. not_both (name, mark))))

module _ (reading : Reading) (query answer old new : List ℕ) where
  pub names_told : (outcome : Outcome) → IsNamesAnswerIn reading query answer → IsInRoom answer old new outcome → IsNamesOutcomeIn reading query outcome
  names_told (Done len) is room = (answer, is, room.0)
  names_told (Room len) is room = (answer, is, room.0)
  names_told outcome is room = absurd room

  pub names_written : (outcome : Outcome) → IsNamesAnswerIn reading query answer → IsInRoom answer old new outcome →
      IfDone outcome (λ len. IsNamesAnswerIn reading query (take len new))
  names_written (Done len) is room = subst (IsNamesAnswerIn reading query) (sym room.2) is
  names_written (Room len) is room = tt
  names_written outcome is room = absurd room
