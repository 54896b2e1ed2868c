-- What is known of a form's fragments, parameter by parameter.
use Rattle.std.specs.Prelude.{Ok, Option, Some, replicate}
use Rattle.std.specs.Borrow.{Bor}
use Rattle.std.specs.Map.{lookup, KeepsOthers}
use Rattle.std.specs.Str.{bytes_eq}
use Rattle.std.proofs.Common.{◌≡◌, ◌≢◌, ◌+◌, ◌-◌, ◌<◌, ◌≤◌, ◌==◌, inl, inr, ℕ, Bool, true, false, cond, List, [], ◌∷◌, ◌++◌, length, take, get_or, if◌then◌else◌, arith, refl, sym, ap, ◌∙◌, subst, length-append, take_all, eqb-true}
use Rattle.std.proofs.lemmas.Bool.{cases_Bool, cases_lt, eqb-false}
use Rattle.std.proofs.lemmas.List.{get_or_append_left, get_or-append_right, get_or-replicate, get_or_past, length-replicate}
use Rattle.std.proofs.lemmas.Map.Text.{is_eq-slice_cmp}
use Rattle.mysql_params_core.proofs.SortedPairLemmas.{by_order, lookup-either, tied}
use Rattle.mysql_fragments.specs.GivenFragments.{GivenFragments, positional}
use Rattle.mysql_fragments.specs.declared.brackets.Implicit.{Implicit}
use Rattle.mysql_fragments.specs.declared.brackets.Implicit.TheVariants.{No, List as AList, Rows}
use Rattle.mysql_flat_params.specs.FlatForm.{FormReading, read_name}
use Rattle.mysql_flat_params.specs.FlatFragments.{IsOneMore}
use Rattle.mysql_flat_params.specs.FormKinds.{AreKindsFrom, FormKinds, kind_of_type, known_on, known_to_end, no_kinds, with_kind, with_name, with_place, with_read}
use Rattle.mysql_flat_params.specs.KindsInPlace.{AreKeptKinds, kind_or_no, kind_under}
use Rattle.mysql_flat_params.specs.declared.kinds_in_place.KindsInPlace.{KindsInPlace}

-- ---- one more by position

-- the kinds up to the last implicit one, and one more at this number
kept_at_place : (old mid new : List Implicit) (place : ℕ) (kind : Implicit) → length old ≤ place →
    mid ≡ take place old ++ replicate (place - length old) No → new ≡ mid ++ kind ∷ [] → (i : ℕ) →
    get_or new i No ≡ (if i == place then kind else get_or old i No)
kept_at_place old mid new place kind fits mid_is new_is i = elim (cases_Bool (i == place)) [
  | inl here ↦
      let same : i ≡ place = eqb-true i place here in
      rw here (ap (λ l. get_or l i No) new_is
      ∙ (get_or-append_right mid (kind ∷ []) (length mid) i No refl (omega (arith, same, mid_len))
      ∙ ap (λ n. get_or (kind ∷ []) n No) (at_end same)))
  | inr other ↦ rw other (elim (cases_lt i place) [
    | inl before ↦
        ap (λ l. get_or l i No) new_is
        ∙ (get_or_append_left mid (kind ∷ []) No i (omega (arith, before, mid_len))
        ∙ (ap (λ l. get_or l i No) mid_is' ∙ earlier before))
    | inr past ↦
        get_or_past new i No (omega (arith, past, eqb-false i place other, ap length new_is, length-append mid (kind ∷ []), mid_len))
        ∙ sym (get_or_past old i No (omega (arith, past, fits)))
  ])
]
  where
    mid_is' : mid ≡ old ++ replicate (place - length old) No
    mid_is' = mid_is ∙ ap (λ l. l ++ replicate (place - length old) No) (take_all place old fits)

    mid_len : length mid ≡ place
    mid_len = omega (arith, ap length mid_is', length-append old (replicate (place - length old) No), length-replicate (place - length old) No, fits)

    at_end : i ≡ place → i - length mid ≡ 0
    at_end same = omega (arith, same, mid_len)

    earlier : i < place → get_or (old ++ replicate (place - length old) No) i No ≡ get_or old i No
    earlier before = elim (cases_lt i (length old)) [
      | inl within ↦ get_or_append_left old (replicate (place - length old) No) No i within
      | inr past ↦
          get_or-append_right old (replicate (place - length old) No) (length old) i No refl past
          ∙ (get_or-replicate (place - length old) (i - length old) No No (omega (arith, before, past)) ∙ sym (get_or_past old i No past))
    ]

pub padded_length : (old mid new : List Implicit) (place : ℕ) (kind : Implicit) → length old ≤ place →
    mid ≡ take place old ++ replicate (place - length old) No → new ≡ mid ++ kind ∷ [] → length new ≤ place + 1
padded_length old mid new place kind fits mid_is new_is =
    omega (arith, ap length new_is, length-append mid (kind ∷ []), ap length mid_is, length-append (take place old) (replicate (place - length old) No), length-replicate (place - length old) No, ap length (take_all place old fits), fits)

-- ---- one more by name

either : (b : Bool) (kind : Implicit) (o : Option Implicit) → kind_or_no (cond b (Some kind) o) ≡ (if b then kind else kind_or_no o)
either true kind o = refl
either false kind o = refl

kept_under_name : (es fs : List (Bor (List ℕ) × Implicit)) (k : Bor (List ℕ)) (kind : Implicit) →
    KeepsOthers by_order (by_order k) es fs → lookup (by_order k) fs ≡ Some kind → (name : List ℕ) →
    kind_under fs name ≡ (if bytes_eq name k.now then kind else kind_under es name)
kept_under_name es fs k kind keeps inserted name =
    ap kind_or_no (lookup-either es fs k kind keeps inserted name (tied name k) refl)
    ∙ (either (tied name k) kind _ ∙ ap (λ b. if b then kind else kind_under es name) (is_eq-slice_cmp name k.now))

-- ---- what is known

by_position : (kinds : FormKinds) (place : ℕ) (name : List ℕ) (kind : Implicit) → (kind ≡ No → ⊥) → name ≡ [] →
    with_kind kinds place name kind ≡ with_place kinds place kind
by_position kinds place [] No some none = absurd (some refl)
by_position kinds place [] AList some none = refl
by_position kinds place [] Rows some none = refl
by_position kinds place (b ∷ name) kind some none = cc

by_its_name : (kinds : FormKinds) (place : ℕ) (name : List ℕ) (kind : Implicit) → (kind ≡ No → ⊥) → (name ≡ [] → ⊥) →
    with_kind kinds place name kind ≡ with_name kinds name kind
by_its_name kinds place (b ∷ name) No some named = absurd (some refl)
by_its_name kinds place (b ∷ name) AList some named = refl
by_its_name kinds place (b ∷ name) Rows some named = refl
by_its_name kinds place [] kind some named = absurd (named refl)

module _ (old new : KindsInPlace) (kinds : FormKinds) (place : ℕ) (kind : Implicit) (some : kind ≡ No → ⊥) (kept : AreKeptKinds old kinds) where
  pub place_kept : (name : List ℕ) (mid : List Implicit) → name ≡ [] → length old.by_place.items ≤ place →
      mid ≡ take place old.by_place.items ++ replicate (place - length old.by_place.items) No → new.by_place.items ≡ mid ++ kind ∷ [] →
      new.by_name.entries ≡ old.by_name.entries → AreKeptKinds new (with_kind kinds place name kind)
  place_kept name mid none fits mid_is new_is same = subst (AreKeptKinds new) (sym (by_position kinds place name kind some none)) (record {
    places = λ i.
        kept_at_place old.by_place.items mid new.by_place.items place kind fits mid_is new_is i
        ∙ ap (λ other. if i == place then kind else other) (kept.places i);
    names = λ other. ap (λ es. kind_under es other) same ∙ kept.names other;
  })

  pub name_kept : (k : Bor (List ℕ)) → (k.now ≡ [] → ⊥) → KeepsOthers by_order (by_order k) old.by_name.entries new.by_name.entries →
      lookup (by_order k) new.by_name.entries ≡ Some kind → new.by_place.items ≡ old.by_place.items → AreKeptKinds new (with_kind kinds place k.now kind)
  name_kept k named keeps inserted same = subst (AreKeptKinds new) (sym (by_its_name kinds place k.now kind some named)) (record {
    places = λ i. ap (λ l. get_or l i No) same ∙ kept.places i;
    names = λ other.
        kept_under_name old.by_name.entries new.by_name.entries k kind keeps inserted other
        ∙ ap (λ later. if bytes_eq other k.now then kind else later) (kept.names other);
  })

-- ---- all parameters

-- what is known of the bytes that are left leads to what is known of all the bytes
abbrev pub KnownLeadsTo : (form : List ℕ) (place : ℕ) (given : GivenFragments) (kinds : FormKinds) (rest : List ℕ) → Type 0
KnownLeadsTo form place given kinds rest =
    (all : FormKinds) → AreKindsFrom (length form) place given kinds rest all → AreKindsFrom (length form) 0 (positional []) no_kinds form all

pub parameter_known : (form : List ℕ) (place : ℕ) (given : GivenFragments) (kinds : FormKinds) (rest : List ℕ) (name : List ℕ) (kind : Implicit) (more : GivenFragments) (next : List ℕ) →
    KnownLeadsTo form place given kinds rest → rest ≢ [] → IsOneMore (length form) place given rest more next →
    with_read kinds place (read_name place (length form - length rest) rest) ≡ with_kind kinds place name kind →
    KnownLeadsTo form (place + 1) more (with_kind kinds place name kind) next
parameter_known form place given kinds [] name kind more next leads some one is = absurd (some refl)
parameter_known form place given kinds (b ∷ rest) name kind more next leads some one is = λ all h.
    leads all (known_on (length form) place given kinds b rest more next all one (subst (λ k. AreKindsFrom (length form) (place + 1) more k next all) (sym is) h))

pub whole_known : (form : List ℕ) (place : ℕ) (given : GivenFragments) (kinds : FormKinds) (rest : List ℕ) →
    KnownLeadsTo form place given kinds rest → rest ≡ [] → AreKindsFrom (length form) 0 (positional []) no_kinds form kinds
whole_known form place given kinds [] leads none = leads kinds (known_to_end (length form) place given kinds)
whole_known form place given kinds (b ∷ rest) leads none = absurd (omega (arith, ap length none))

-- the kind of a parameter whose name is read
pub kind_read : (kinds : FormKinds) (place : ℕ) (reading : FormReading (List ℕ)) (name rest : List ℕ) (kind : Implicit) →
    reading ≡ Ok (name, rest) → kind ≡ kind_of_type (get_or rest 0 0) → with_read kinds place reading ≡ with_kind kinds place name kind
kind_read kinds place reading name rest kind read is = ap (with_read kinds place) read ∙ ap (with_kind kinds place name) (sym is)

pub nothing_known : (kept : KindsInPlace) → kept.by_place.items ≡ [] → kept.by_name.entries ≡ [] → AreKeptKinds kept no_kinds
nothing_known kept places names = record {
  places = λ place. ap (λ l. get_or l place No) places;
  names = λ name. ap (λ es. kind_under es name) names;
}
