-- The first place that may not have its list or rows, on the tokens of a query.
use Rattle.std.specs.Prelude.{Option, None, true}
use Rattle.std.proofs.Common.{◌≡◌, ℕ, zero, suc, List, [], ◌∷◌, map, get_or, length, refl, sym, ap, ◌∙◌, arith}
use Rattle.mysql_named_params.specs.Places.{names}
use Rattle.mysql_named_params.specs.Reading.{IsTokensIn, OnTokensIn}
use Rattle.mysql_named_params.specs.Tokens.{Token}
use Rattle.mysql_named_params.specs.declared.places.Reading.{Reading}
use Rattle.mysql_named_params.proofs.ReadingLemmas.{one_reading}
use Rattle.mysql_fragments.specs.Brackets.{first_unbracketed}
use Rattle.mysql_fragments.specs.FragmentErrors.{IsCauseOrMemory, first_cause, mixed_cause}
use Rattle.mysql_fragments.specs.GivenFragments.{GivenFragments}
use Rattle.mysql_fragments.specs.declared.brackets.Implicit.{Implicit}
use Rattle.mysql_fragments.specs.declared.brackets.Implicit.TheVariants.{No}
use Rattle.mysql_fragments.specs.declared.fragment_ref.FragmentRef.{FragmentRef}
use Rattle.mysql_fragments.specs.declared.fragments_error.FragmentsError.{FragmentsError}
use Rattle.mysql_fragments.proofs.BracketLawLemmas.{none_implicit, same_kinds}
use Rattle.mysql_flat_params.specs.FormCauses.{IsFormCauseOrMemory, first_form_cause, unbracketed_place}
use Rattle.mysql_flat_params.specs.FormInPlace.{AreGivenTo, IsEarly}
use Rattle.mysql_flat_params.specs.FormKinds.{FormKinds, kinds_for}
use Rattle.mysql_flat_params.specs.KindsInPlace.{AreKeptKinds, kind_under}
use Rattle.mysql_flat_params.specs.declared.form_refusal.KeptError.TheVariants.{Fragments}
use Rattle.mysql_flat_params.specs.declared.kinds_in_place.KindsInPlace.{KindsInPlace}
use Rattle.mysql_flat_params.proofs.FormCauseLemmas.{early_refused, none_of_both}

pub unmixed_on : (reading : Reading) (query : List ℕ) (given : GivenFragments) (placed : List FragmentRef) →
    OnTokensIn reading query (AreGivenTo given placed) → OnTokensIn reading query (λ ts. mixed_cause ts ≡ None)
unmixed_on reading query given placed p = (p.0, p.1, p.2.0)

pub early_on : (reading : Reading) (query : List ℕ) (kinds : FormKinds) (given : GivenFragments) (error : FragmentsError) → IsEarly error →
    OnTokensIn reading query (λ ts. IsCauseOrMemory (first_cause true ts given) error) →
    OnTokensIn reading query (λ ts. IsFormCauseOrMemory (first_form_cause kinds ts given) (Fragments error))
early_on reading query kinds given error early o = (o.0, o.1, early_refused kinds o.0 given error early o.2)

pub stand_on : (reading : Reading) (query : List ℕ) (kinds : FormKinds) (given : GivenFragments) →
    OnTokensIn reading query (λ ts. first_form_cause kinds ts given ≡ None) → OnTokensIn reading query (λ ts. unbracketed_place kinds ts ≡ None)
stand_on reading query kinds given o = (o.0, o.1, (none_of_both (unbracketed_place kinds o.0) (first_cause true o.0 given) o.2).0)

-- ---- by what is kept

-- nothing is kept
no_places : (kept : KindsInPlace) (known : FormKinds) → AreKeptKinds kept known → kept.by_place.items ≡ [] → (place : ℕ) → known.at_place place ≡ No
no_places kept known k none place = sym (k.places place) ∙ ap (λ l. get_or l place No) none

no_names : (kept : KindsInPlace) (known : FormKinds) → AreKeptKinds kept known → kept.by_name.entries ≡ [] → (name : List ℕ) → known.under_name name ≡ No
no_names kept known k none name = sym (k.names name) ∙ ap (λ es. kind_under es name) none

each_no : (under : List ℕ → Implicit) → ((name : List ℕ) → under name ≡ No) → (ns : List (List ℕ)) (place : ℕ) → get_or (map under ns) place No ≡ No
each_no under none [] place = refl
each_no under none (n ∷ ns) zero = none n
each_no under none (n ∷ ns) (suc place) = each_no under none ns place

none_for : (known : FormKinds) → ((place : ℕ) → known.at_place place ≡ No) → ((name : List ℕ) → known.under_name name ≡ No) →
    (ns : List (List ℕ)) (place : ℕ) → kinds_for known ns place ≡ No
none_for known places names [] place = places place
none_for known places names (n ∷ ns) place = each_no known.under_name names (n ∷ ns) place

pub nothing_kept : (kept : KindsInPlace) (known : FormKinds) (ts : List Token) → AreKeptKinds kept known → kept.by_place.items ≡ [] → kept.by_name.entries ≡ [] →
    None ≡ unbracketed_place known ts
nothing_kept kept known ts k places names_are =
    sym (none_implicit (kinds_for known (names ts)) (none_for known (no_places kept known k places) (no_names kept known k names_are) (names ts)) ts)

-- a query without names
no_name_kinds : (known : FormKinds) (ns : List (List ℕ)) → length ns ≡ 0 → (place : ℕ) → kinds_for known ns place ≡ known.at_place place
no_name_kinds known [] none place = refl
no_name_kinds known (n ∷ ns) none place = absurd (omega (arith, none))

pub kept_by_place : (kept : KindsInPlace) (known : FormKinds) (ts : List Token) → AreKeptKinds kept known → length (names ts) ≡ 0 →
    first_unbracketed (λ place. get_or kept.by_place.items place No) ts ≡ unbracketed_place known ts
kept_by_place kept known ts k none =
    same_kinds (λ place. get_or kept.by_place.items place No) (kinds_for known (names ts)) (λ place. k.places place ∙ sym (no_name_kinds known (names ts) none place)) ts 0 0 []

-- a query with names
same_map : (f g : List ℕ → Implicit) → ((name : List ℕ) → f name ≡ g name) → (ns : List (List ℕ)) → map f ns ≡ map g ns
same_map f g same [] = refl
same_map f g same (n ∷ ns) = ap (λ k. k ∷ map f ns) (same n) ∙ ap (λ ks. g n ∷ ks) (same_map f g same ns)

name_kinds : (known : FormKinds) (ns : List (List ℕ)) → (length ns ≡ 0 → ⊥) → (place : ℕ) → kinds_for known ns place ≡ get_or (map known.under_name ns) place No
name_kinds known [] some place = absurd (some refl)
name_kinds known (n ∷ ns) some place = refl

pub kept_by_name : (kept : KindsInPlace) (known : FormKinds) (ts : List Token) (list : List Implicit) → AreKeptKinds kept known → (length (names ts) ≡ 0 → ⊥) →
    list ≡ map (kind_under kept.by_name.entries) (names ts) →
    first_unbracketed (λ place. get_or list place No) ts ≡ unbracketed_place known ts
kept_by_name kept known ts list k some is =
    let all : list ≡ map known.under_name (names ts) = is ∙ same_map (kind_under kept.by_name.entries) known.under_name k.names (names ts) in
    same_kinds (λ place. get_or list place No) (kinds_for known (names ts))
    (λ place. ap (λ l. get_or l place No) all ∙ sym (name_kinds known (names ts) some place)) ts 0 0 []

pub named_on : (reading : Reading) (query : List ℕ) (kept : KindsInPlace) (known : FormKinds) → AreKeptKinds kept known → (list slice : List Implicit) (found : Option (ℕ × ℕ)) → slice ≡ list →
    ((ts : List Token) → IsTokensIn reading query ts → length (names ts) ≡ 0 → ⊥) →
    OnTokensIn reading query (λ ts. list ≡ map (kind_under kept.by_name.entries) (names ts)) →
    OnTokensIn reading query (λ ts. found ≡ first_unbracketed (λ place. get_or slice place No) ts) →
    OnTokensIn reading query (λ ts. found ≡ unbracketed_place known ts)
named_on reading query kept known k list slice found same some n f =
    let kinds : slice ≡ map (kind_under kept.by_name.entries) (names f.0) =
    same ∙ (n.2 ∙ ap (λ ts. map (kind_under kept.by_name.entries) (names ts)) (one_reading reading query n.0 f.0 n.1 f.1)) in
    (f.0, f.1, f.2 ∙ kept_by_name kept known f.0 slice k (some f.0 f.1) kinds)
