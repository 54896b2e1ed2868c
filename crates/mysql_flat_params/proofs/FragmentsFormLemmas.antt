-- After each parameter, the reading of a form is the reading of the bytes that are left.
use Rattle.std.specs.Prelude.{Result, Ok, ⊤}
use Rattle.std.proofs.Common.{◌≡◌, ◌≢◌, ℕ, ◌+◌, ◌-◌, ◌<◌, ◌≤◌, List, [], ◌∷◌, length, take, drop, get_or, inl, inr, refl, sym, ap, ◌∙◌, subst, arith}
use Rattle.std.proofs.lemmas.List.{take_rest}
use Rattle.mysql_wire_part.specs.Answer.{IsExpectedRefusal}
use Rattle.mysql_fragments.specs.GivenFragments.{GivenFragments, positional}
use Rattle.mysql_fragments.specs.declared.fragment.Fragment.{Fragment}
use Rattle.mysql_flat_params.specs.FlatForm.{FormRefusal}
use Rattle.mysql_flat_params.specs.FormErrors.{form_refusal}
use Rattle.mysql_flat_params.specs.declared.form_error.FormError.{FormError}
use Rattle.mysql_flat_params.specs.declared.form_error.FormError.TheVariants.{End, LengthLead, UnsupportedType, Mixed, Repeated, Memory}
use Rattle.mysql_flat_params.proofs.LeavesLemmas.{Leaves}
use Rattle.mysql_flat_params.specs.FlatFragments.{IsFormReading, IsReadFrom, layout_type, read_fragment, read_fragment_of, read_on, read_parameter, read_to_end, refused_at, with_parameter}
use Rattle.mysql_flat_params.specs.FragmentContent.{content_of}
use Rattle.mysql_flat_params.specs.FragmentsFormErrors.{IsFormRefusal}
use Rattle.mysql_flat_params.proofs.FragmentLeavesLemmas.{leaves_parameter}

-- each reading of the bytes that are left is one of all the bytes
abbrev pub LeadsTo : (form : List ℕ) (place : ℕ) (given : GivenFragments) (rest : List ℕ) → Type 0
LeadsTo form place given rest =
    (reading : Result GivenFragments FormRefusal) → IsReadFrom (length form) place given rest reading → IsFormReading form reading

-- before the first parameter
pub all_of_it : (form : List ℕ) (given : GivenFragments) → given ≡ positional [] → LeadsTo form 0 given form
all_of_it form given none reading h = subst (λ g. IsReadFrom (length form) 0 g form reading) none h

-- one parameter more is read, and it took at least a byte
pub parameter_read : (form : List ℕ) (place : ℕ) (given : GivenFragments) (rest : List ℕ) (name : List ℕ) (fragment : Fragment) (more : GivenFragments) (next : List ℕ) →
    LeadsTo form place given rest → rest ≢ [] → read_parameter (length form) place given rest ≡ Ok ((name, content_of fragment), next) →
    more ≡ with_parameter given name fragment → LeadsTo form (place + 1) more next × (length next < length rest)
parameter_read form place given [] name fragment more next leads some is more_is = absurd (some refl)
parameter_read form place given (b ∷ rest) name fragment more next leads some is more_is =
    let fewer : length next ≤ length rest = subst (Leaves (length rest)) is (leaves_parameter (length form) place given b rest) in
    (λ reading h. leads reading (read_on (length form) place given b rest more next reading (name, fragment, is, more_is) h), omega arith)

-- the next parameter is refused
pub parameter_refused : (form : List ℕ) (place : ℕ) (given : GivenFragments) (rest : List ℕ) (error : FormError) →
    LeadsTo form place given rest → rest ≢ [] →
    IsExpectedRefusal (read_parameter (length form) place given rest) ⊤ (form_refusal error) → IsFormRefusal form error
parameter_refused form place given [] error leads some is = absurd (some refl)
parameter_refused form place given (b ∷ rest) error leads some is = by_error error is
  where
    by_error : (e : FormError) → IsExpectedRefusal (read_parameter (length form) place given (b ∷ rest)) ⊤ (form_refusal e) → IsFormRefusal form e
    by_error (Memory m) h = inl refl
    by_error (End p q) h = inr (_, leads _ (refused_at (length form) place given b rest _ h), refl)
    by_error (LengthLead p q l) h = inr (_, leads _ (refused_at (length form) place given b rest _ h), refl)
    by_error (UnsupportedType p q n) h = inr (_, leads _ (refused_at (length form) place given b rest _ h), refl)
    by_error (Mixed p q) h = inr (_, leads _ (refused_at (length form) place given b rest _ h), refl)
    by_error (Repeated p q l) h = inr (_, leads _ (refused_at (length form) place given b rest _ h), refl)

-- nothing is left
pub whole_read : (form : List ℕ) (place : ℕ) (given : GivenFragments) (rest : List ℕ) →
    LeadsTo form place given rest → rest ≡ [] → IsFormReading form (Ok given)
whole_read form place given [] leads none = leads _ (read_to_end (length form) place given)
whole_read form place given (b ∷ rest) leads none = absurd (omega (arith, ap length none))

-- of the empty form nothing is left
pub never_left : {X : Type 0} (form rest : List ℕ) (place : ℕ) → form ≡ [] → place + length rest ≤ length form → rest ≢ [] → X
never_left form [] place none within some = absurd (some refl)
never_left form (b ∷ rest) place none within some = absurd (omega (arith, ap length none))

-- bytes that begin with a type and flags
pub fragment_typed : (place position : ℕ) (bytes : List ℕ) (layout : ℕ) → layout ≡ layout_type (get_or bytes 0 0) → 2 ≤ length bytes →
    read_fragment place position bytes
    ≡ read_fragment_of place position layout (get_or bytes 1 0) (take (length bytes - 2) (drop 2 bytes))
fragment_typed place position [] layout is two = absurd (omega arith)
fragment_typed place position (type ∷ []) layout is two = absurd (omega arith)
fragment_typed place position (type ∷ flags ∷ bytes) layout is two =
    ap (λ n. read_fragment_of place position n flags bytes) (sym is)
    ∙ ap (read_fragment_of place position layout flags) (sym (take_rest (type ∷ flags ∷ bytes) 2))
