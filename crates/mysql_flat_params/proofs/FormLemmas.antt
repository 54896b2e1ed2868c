-- A form has one reading. After each parameter, it is the reading of the bytes that are left.
use Rattle.std.specs.Prelude.{Result, Ok, Err, ⊤, IsOk, alloc_error, IfOk, IfErr, IsErrAnd, IsTrue, ◌==◌}
use Rattle.std.specs.FinMap as finite
use Rattle.std.proofs.Common.{◌≡◌, ◌≢◌, ℕ, zero, suc, ◌+◌, ◌-◌, ◌<◌, ◌≤◌, List, [], ◌∷◌, ◌++◌, length, take, get_or, inl, inr, true, false, refl, sym, ap, ◌∙◌, subst, arith}
use Rattle.std.proofs.lemmas.List.{map-append, take_more}
use Rattle.mysql_value_core.specs.declared.value.Value.{Value}
use Rattle.mysql_value_core.specs.declared.value.ValueRef.{ValueRef}
use Rattle.mysql_values.specs.BorrowedValue.{owned, owned_values}
use Rattle.mysql_params_core.specs.Given.{Given, empty, named, positional}
use Rattle.mysql_flat_params.specs.FlatForm.{FormRefusal, FormReading, read_name, read_value, with_parameter, after_value, after_name, read_parameter, HasFirstParameter, IsReadFrom, IsFormReading, read_to_end, refused_at, read_on}
use Rattle.std.proofs.lemmas.Bool.{eqb-true}
use Rattle.mysql_wire_part.specs.Answer.{IsAnswer, IsExpectedRefusal}
use Rattle.mysql_wire_part.proofs.AnswerLemmas.{refusal_expected_too}
use Rattle.mysql_flat_params.specs.FormErrors.{form_refusal, IsRefusalFrom, IsFormRefusal}
use Rattle.mysql_flat_params.specs.declared.form_error.FormError.{FormError}
use Rattle.mysql_flat_params.specs.declared.form_error.FormError.TheVariants.{End, LengthLead, UnsupportedType, Mixed, Repeated, Memory}
use Rattle.mysql_flat_params.proofs.LeavesLemmas.{Leaves, leaves_parameter}

abbrev Readings : (total place : ℕ) → Given → List ℕ → Type 0
Readings total place given bytes = (reading : Result Given FormRefusal) × IsReadFrom total place given bytes reading

-- a reading of the bytes after a parameter is one with the parameter
reading_with : (total place : ℕ) (given : Given) (b : ℕ) (bytes : List ℕ) (read : FormReading Given) →
    read_parameter total place given (b ∷ bytes) ≡ read → Leaves (length bytes) read →
    ((more : Given) (rest : List ℕ) → length rest ≤ length bytes → Readings total (place + 1) more rest) →
    Readings total place given (b ∷ bytes)
reading_with total place given b bytes (Err refusal) is leaves go = (Err refusal, refused_at total place given b bytes refusal is)
reading_with total place given b bytes (Ok read) is leaves go =
    let next = go read.0 read.1 leaves in
    (next.0, read_on total place given b bytes read.0 read.1 next.0 is next.1)

reading_within : (bound total place : ℕ) (given : Given) (bytes : List ℕ) → length bytes ≤ bound → Readings total place given bytes
reading_within bound total place given [] h = (Ok given, read_to_end total place given)
reading_within zero total place given (b ∷ bytes) h = absurd (omega arith)
reading_within (suc bound) total place given (b ∷ bytes) h =
    reading_with total place given b bytes (read_parameter total place given (b ∷ bytes)) refl
    (leaves_parameter total place given b bytes)
    (λ more rest fewer. reading_within bound total (place + 1) more rest (omega arith))

-- each end of a form is read
pub is_read : (total place : ℕ) (given : Given) (bytes : List ℕ) → Readings total place given bytes
is_read total place given bytes = reading_within (length bytes) total place given bytes (omega arith)

-- and has no other reading
pub one_reading : (total place : ℕ) (given : Given) (bytes : List ℕ) (x y : Result Given FormRefusal) →
    IsReadFrom total place given bytes x → IsReadFrom total place given bytes y → x ≡ y
one_reading total place given bytes x y (read_to_end _ _ _) (read_to_end _ _ _) = refl
one_reading total place given bytes x y (refused_at _ _ _ b bs why is) (refused_at _ _ _ _ _ why' is') =
    let same : why ≡ why' = cc in
    ap (λ e. Err e) same
one_reading total place given bytes x y (refused_at _ _ _ b bs why is) (read_on _ _ _ _ _ more rest _ is' h) = cc
one_reading total place given bytes x y (read_on _ _ _ b bs more rest _ is h) (refused_at _ _ _ _ _ why is') = cc
one_reading total place given bytes x y (read_on _ _ _ b bs more rest _ is h) (read_on _ _ _ _ _ more' rest' _ is' h') =
    let both : ◌≡◌ {A = Given × List ℕ} (more, rest) (more', rest') = cc (is, is') in
    let same : more ≡ more' = ap (λ p. p.0) both in
    let left : rest ≡ rest' = ap (λ p. p.1) both in
    one_reading total (place + 1) more rest x y h
    (subst (λ g. IsReadFrom total (place + 1) g rest y) (sym same) (subst (λ r. IsReadFrom total (place + 1) more' r y) (sym left) h'))

-- each reading of the bytes that are left is one of all the bytes
abbrev pub LeadsTo : (total place : ℕ) (given : Given) (bytes : List ℕ) (place' : ℕ) (given' : Given) (rest : List ℕ) → Type 0
LeadsTo total place given bytes place' given' rest =
    (reading : Result Given FormRefusal) → IsReadFrom total place' given' rest reading → IsReadFrom total place given bytes reading

-- one parameter more is read, and it took at least a byte
pub parameter_read : (total place : ℕ) (given : Given) (bytes : List ℕ) (place' : ℕ) (given' : Given) (rest : List ℕ) (more : Given) (next : List ℕ) (n : ℕ) →
    LeadsTo total place given bytes place' given' rest → rest ≢ [] →
    read_parameter total place' given' rest ≡ Ok (more, next) → n ≡ place' + 1 →
    LeadsTo total place given bytes n more next × (length next < length rest)
parameter_read total place given bytes place' given' [] more next n leads some is n_is = absurd (some refl)
parameter_read total place given bytes place' given' (b ∷ rest) more next n leads some is n_is =
    let fewer : length next ≤ length rest = subst (Leaves (length rest)) is (leaves_parameter total place' given' b rest) in
    (λ reading h. leads reading (read_on total place' given' b rest more next reading is (subst (λ k. IsReadFrom total k more next reading) n_is h)), omega arith)

-- the next parameter is refused
pub parameter_refused : (total place : ℕ) (given : Given) (bytes : List ℕ) (place' : ℕ) (given' : Given) (rest : List ℕ) (error : FormError) →
    LeadsTo total place given bytes place' given' rest → rest ≢ [] →
    IsExpectedRefusal (read_parameter total place' given' rest) ⊤ (form_refusal error) →
    IsRefusalFrom total place given bytes error
parameter_refused total place given bytes place' given' [] error leads some is = absurd (some refl)
parameter_refused total place given bytes place' given' (b ∷ rest) error leads some is = by_error error is
  where
    by_error : (e : FormError) → IsExpectedRefusal (read_parameter total place' given' (b ∷ rest)) ⊤ (form_refusal e) → IsRefusalFrom total place given bytes e
    by_error (Memory m) h = inl refl
    by_error (End p q) h = inr (_, leads _ (refused_at total place' given' b rest _ h), refl)
    by_error (LengthLead p q l) h = inr (_, leads _ (refused_at total place' given' b rest _ h), refl)
    by_error (UnsupportedType p q n) h = inr (_, leads _ (refused_at total place' given' b rest _ h), refl)
    by_error (Mixed p q) h = inr (_, leads _ (refused_at total place' given' b rest _ h), refl)
    by_error (Repeated p q l) h = inr (_, leads _ (refused_at total place' given' b rest _ h), refl)

-- nothing is left
pub whole_read : (total place : ℕ) (given : Given) (bytes : List ℕ) (place' : ℕ) (given' : Given) (rest : List ℕ) →
    LeadsTo total place given bytes place' given' rest → rest ≡ [] → IsReadFrom total place given bytes (Ok given')
whole_read total place given bytes place' given' [] leads none = leads _ (read_to_end total place' given')
whole_read total place given bytes place' given' (b ∷ rest) leads none = absurd (omega (arith, ap length none))

-- an error that is out of memory is returned if memory is asked for
pub out_of_memory : {X Seen : Type 0} (expected : Result Seen FormRefusal) (Takes : Type 0) (error : FormError) →
    IsExpectedRefusal expected Takes (form_refusal error) → ◌≡◌ {A = Result X FormError} (Err error) (Err (Memory alloc_error)) → Takes
out_of_memory {X = X} expected Takes error answer is =
    let same : error ≡ Memory alloc_error = cc in
    subst (λ e. IsExpectedRefusal expected Takes (form_refusal e)) same answer

-- a `?` hands on the error as it is
pub handed_on : {A : Type 0} (P : FormError → Type 0) (r : Result A FormError) (e : FormError) →
    IsErrAnd r (λ t. t ≡ e) → P e → IfErr r P
handed_on P (Ok a) e same h = absurd same
handed_on P (Err t) e same h = subst P (sym same) h

-- .. which is the answer still
pub answer_handed_on : {A Seen : Type 0} (seen : A → Seen) (expected : Result Seen FormRefusal) (Takes : Type 0) (r : Result A FormError) (e : FormError) →
    IsErrAnd r (λ t. t ≡ e) → IsExpectedRefusal expected Takes (form_refusal e) → IsAnswer seen form_refusal expected Takes r
answer_handed_on seen expected Takes (Ok a) e same answer = absurd same
answer_handed_on seen expected Takes (Err t) e same answer =
    subst (λ x. IsExpectedRefusal expected Takes (form_refusal x)) (sym same) answer

-- .. and an error that is out of memory only if memory is asked for
pub memory_handed_on : {A Seen : Type 0} (expected : Result Seen FormRefusal) (Takes : Type 0) (r : Result A FormError) (e : FormError) →
    IsErrAnd r (λ t. t ≡ e) → IsExpectedRefusal expected Takes (form_refusal e) →
    ◌≡◌ {A = Result A FormError} r (Err (Memory alloc_error)) → Takes
memory_handed_on expected Takes (Ok a) e same answer is = absurd same
memory_handed_on expected Takes (Err t) e same answer is =
    out_of_memory expected Takes t (subst (λ x. IsExpectedRefusal expected Takes (form_refusal x)) (sym same) answer) is

-- ---- the first parameter

module _ (form : List ℕ) where
  first_parameter : (read : FormReading (List ℕ)) → read_name 0 0 form ≡ read →
      read_parameter (length form) 0 empty form ≡ after_name (length form) 0 0 empty read
  first_parameter read is =
      let start : length form - length form ≡ 0 = omega arith in
      ap (λ p. after_name (length form) 0 p empty (read_name 0 p form)) start ∙ ap (after_name (length form) 0 0 empty) is

  all_of_it : LeadsTo (length form) 0 empty form 0 empty form
  all_of_it reading h = h

  -- its name is refused
  pub first_name_refused : (error : FormError) → form ≢ [] →
      IsExpectedRefusal (read_name 0 0 form) ⊥ (form_refusal error) → IsFormRefusal form error
  first_name_refused error some answer =
      parameter_refused (length form) 0 empty form 0 empty form error all_of_it some
      (refusal_expected_too (read_name 0 0 form) (read_parameter (length form) 0 empty form) ⊥ ⊤ (form_refusal error)
      (λ why is. first_parameter (Err why) is) (λ _. tt) answer)

  module _ (name rest : List ℕ) (is : read_name 0 0 form ≡ Ok (name, rest)) where
    -- its value is refused
    pub first_value_refused : (error : FormError) → form ≢ [] →
        IsExpectedRefusal (read_value 0 0 rest) ⊥ (form_refusal error) → IsFormRefusal form error
    first_value_refused error some answer =
        parameter_refused (length form) 0 empty form 0 empty form error all_of_it some
        (refusal_expected_too (read_value 0 0 rest) (read_parameter (length form) 0 empty form) ⊥ ⊤ (form_refusal error)
        (λ why e. first_parameter (Ok (name, rest)) is ∙ ap (after_value empty name) e) (λ _. tt) answer)

    parameter_is_ok : (value : FormReading Value) → read_value 0 0 rest ≡ value → IsOk value → IsOk (read_parameter (length form) 0 empty form)
    parameter_is_ok (Ok read) e ok = subst (λ r. IsOk r) (sym (first_parameter (Ok (name, rest)) is ∙ ap (after_value empty name) e)) refl
    parameter_is_ok (Err why) e ok = cc

    -- if its value is read, it is read
    pub first_is_ok : IsOk (read_value 0 0 rest) → IsOk (read_parameter (length form) 0 empty form)
    first_is_ok ok = parameter_is_ok (read_value 0 0 rest) refl ok

    module _ (value : Value) (next : List ℕ) (value_is : read_value 0 0 rest ≡ Ok (value, next)) (some : form ≢ []) where
      first_read : LeadsTo (length form) 0 empty form 1 (with_parameter empty name value) next
      first_read =
          (parameter_read (length form) 0 empty form 0 empty form (with_parameter empty name value) next 1 all_of_it some
          (first_parameter (Ok (name, rest)) is ∙ ap (after_value empty name) value_is) refl).0

      -- the bytes after it give the parameters, or refuse them
      pub params_after_first : {X : Type 0} (seen : X → Given) (first : Given) → with_parameter empty name value ≡ first → (result : Result X FormError) →
          IfOk result (λ params. IsReadFrom (length form) 1 first next (Ok (seen params))) →
          IfOk result (λ params. IsFormReading form (Ok (seen params)))
      params_after_first seen first same (Ok params) h =
          first_read _ (subst (λ g. IsReadFrom (length form) 1 g next (Ok (seen params))) (sym same) h)
      params_after_first seen first same (Err error) h = h

      pub refused_after_first : {X : Type 0} (first : Given) → with_parameter empty name value ≡ first → (result : Result X FormError) →
          IfErr result (IsRefusalFrom (length form) 1 first next) → IfErr result (IsFormRefusal form)
      refused_after_first first same (Ok params) h = h
      refused_after_first first same (Err error) (inl memory) = inl memory
      refused_after_first first same (Err error) (inr why) =
          inr (why.0, first_read _ (subst (λ g. IsReadFrom (length form) 1 g next (Err why.0)) (sym same) why.1), why.2)

-- the first parameter by name
pub first_by_name : (name : List ℕ) (value : Value) → false ≡ (length name == 0) → with_parameter empty name value ≡ named (finite.insert finite.empty name value)
first_by_name [] value some = cc
first_by_name (b ∷ name) value some = refl

-- the first parameter by position
pub first_by_position : (name : List ℕ) (value : Value) → true ≡ (length name == 0) → with_parameter empty name value ≡ positional (value ∷ [])
first_by_position [] value none = refl
first_by_position (b ∷ name) value none =
    absurd (omega (arith, eqb-true (length (b ∷ name)) 0 (sym none)))

-- the empty form gives nothing
pub nothing_read : (form : List ℕ) → form ≡ [] → IsFormReading form (Ok empty)
nothing_read form none = whole_read (length form) 0 empty form 0 empty form (λ reading h. h) none

-- a list that a test finds not empty
pub not_empty : (xs : List ℕ) → (xs ≡ [] → IsTrue false) → xs ≢ []
not_empty xs h e =
    let never : false ≡ true = h e in
    cc

-- a form with values has a first parameter
values_have_first : (total place : ℕ) (given : Given) (bytes : List ℕ) (reading : Result Given FormRefusal) →
    IsReadFrom total place given bytes reading → given ≡ empty → (values : List Value) → reading ≡ Ok (positional values) →
    IsOk (read_parameter total place given bytes)
values_have_first total place given bytes reading (read_to_end _ _ _) none values says = cc
values_have_first total place given bytes reading (refused_at _ _ _ b bs why is) none values says = cc
values_have_first total place given bytes reading (read_on _ _ _ b bs more rest _ is h) none values says =
    subst (λ r. IsOk r) (sym is) refl

pub positional_has_first : (form : List ℕ) (values : List Value) → IsFormReading form (Ok (positional values)) → HasFirstParameter form
positional_has_first form values h = values_have_first (length form) 0 empty form _ h refl values refl

-- one more value of its own bytes
pub owned_more : (values : List ValueRef) (i : ℕ) (d : ValueRef) → i < length values →
    (items more : List Value) (value : Value) → items ≡ owned_values (take i values) → value ≡ owned (get_or values i d) →
    more ≡ items ++ value ∷ [] → more ≡ owned_values (take (i + 1) values)
owned_more values i d below items more value before is pushed =
    pushed
    ∙ ap (λ xs. xs ++ value ∷ []) before
    ∙ ap (λ v. owned_values (take i values) ++ v ∷ []) is
    ∙ sym (map-append owned (take i values) (get_or values i d ∷ []))
    ∙ sym (ap owned_values (take_more values i d below))
