-- The first cause for which binding is refused.
use Rattle.std.specs.Prelude.{Result, Ok, Err, ok_or, option_map, nat_lt}
use Rattle.std.specs.Option.{option_or, option_and_then}
use Rattle.std.specs.FinMap.{get}
use Rattle.std.proofs.Common.{◌≡◌, ◌≢◌, ◌⊎◌, ◌==◌, inl, inr, Bool, true, false, ℕ, zero, suc, ◌+◌, ◌<◌, All, List, [], ◌∷◌, length, refl, sym, ap, ◌∙◌, arith, subst, Option, Some, None, eq-eqb, true≢false}
use Rattle.std.proofs.lemmas.Bool.{cases_Bool, eqb-true, and_from, and_parts, ltb-true}
use Rattle.std.proofs.lemmas.Bool.Decides.{nat_tests}
use Rattle.std.proofs.lemmas.List.{nil_from_length}
use Rattle.mysql_values.specs.declared.value.Value.{Value}
use Rattle.mysql_named_params.specs.Tokens.{Token}
use Rattle.mysql_named_params.specs.Places.{names, marks, with_marks, place_count, has_both, HasName, HasMark}
use Rattle.mysql_named_params.proofs.TokenRowLemmas.{place_count-sum}
use Rattle.mysql_named_params.proofs.ReparsedLemmas.{names-with_marks, marks-with_marks}
use Rattle.mysql_named_params.specs.Reading.{IsTokensIn, OnTokensIn}
use Rattle.mysql_named_params.specs.WideNames.{IsWideName}
use Rattle.mysql_named_params.specs.declared.places.Reading.{Reading}
use Rattle.mysql_named_params.proofs.ReadingLemmas.{one_reading}
use Rattle.mysql_params_core.specs.Given.{Given, ValueMap, empty, named, positional}
use Rattle.mysql_params_core.specs.Lookup.{lookup, values_at}
use Rattle.mysql_binding.specs.FirstCause.{Cause, mixed_query, mark_count, not_alone, float_value, mixed_cause, mark_count_differs, count_cause, not_alone_cause, first_float, float_cause, later_cause, cause_after_lookup, first_cause}
use Rattle.mysql_binding.specs.StandsAlone.{first_not_alone}
use Rattle.mysql_binding.specs.Survey.{IsSurvey}
use Rattle.mysql_binding.specs.declared.binding.survey.Survey.{Survey}
use Rattle.mysql_binding.proofs.RenamedPlaceLemmas.{first_not_alone-with_marks, no_place_alone}

-- ---- facts about the tokens of one query that several calls state

pub on_both : (reading : Reading) (query : List ℕ) (P Q : List Token → Type 0) →
    OnTokensIn reading query P → OnTokensIn reading query Q → OnTokensIn reading query (λ ts. P ts × Q ts)
on_both reading query P Q a b = (a.0, a.1, (a.2, subst Q (one_reading reading query b.0 a.0 b.1 a.1) b.2))

pub on_map : (reading : Reading) (query : List ℕ) (P Q : List Token → Type 0) →
    ((ts : List Token) → IsTokensIn reading query ts → P ts → Q ts) →
    OnTokensIn reading query P → OnTokensIn reading query Q
on_map reading query P Q f a = (a.0, a.1, f a.0 a.1 a.2)

-- ---- options

pub or_none : {A : Type 0} (a b : Option A) → option_or a b ≡ None → (a ≡ None) × (b ≡ None)
or_none None b e = (refl, e)
or_none (Some x) b e = cc

pub map_none : {A B : Type 0} (f : A → B) (x : Option A) → option_map f x ≡ None → x ≡ None
map_none f None e = refl
map_none f (Some x) e = cc

some_none : {A : Type 0} (x : A) → Some x ≢ None
some_none x e = cc

-- ---- names and marks in one query

-- tokens that have not both kinds of places are found not to
pub has_both-not : (ts : List Token) → (HasName ts × HasMark ts → ⊥) → has_both ts ≡ false
has_both-not ts not_both =
    elim (cases_Bool (has_both ts)) [
      | inl h ↦
          let parts = and_parts (nat_lt 0 (length (names ts))) (nat_lt 0 (marks ts)) h in
          absurd (not_both (ltb-true 0 (length (names ts)) parts.0, ltb-true 0 (marks ts) parts.1))
      | inr h ↦ h
    ]

pub mixed_none : (ts : List Token) → (HasName ts × HasMark ts → ⊥) → mixed_cause ts ≡ None
mixed_none ts h = rw (has_both-not ts h) refl

pub mixed_some : (ts : List Token) → HasName ts × HasMark ts → mixed_cause ts ≡ Some mixed_query
mixed_some ts h = rw (and_from _ _ (less _ h.0) (less _ h.1)) refl
  where
    less : (n : ℕ) → 0 < n → nat_lt 0 n ≡ true
    less n h = grind (arith, nat_tests)

-- without the cause there is no name, or no mark
pub unmixed : (ts : List Token) → mixed_cause ts ≡ None → (length (names ts) ≡ 0) ⊎ (marks ts ≡ 0)
unmixed ts e = go (length (names ts)) (marks ts) refl refl
  where
    go : (n k : ℕ) → length (names ts) ≡ n → marks ts ≡ k → (n ≡ 0) ⊎ (k ≡ 0)
    go zero k a b = inl refl
    go (suc n) zero a b = inr refl
    go (suc n) (suc k) a b = absurd (some_none mixed_query (sym (mixed_some ts (omega (arith, a), omega (arith, b))) ∙ e))

-- a query without names, or without marks, as they were counted
pub mixed_none_of : (ts : List Token) (n k : ℕ) → n ≡ length (names ts) → k ≡ marks ts →
    (0 < n × 0 < k → ⊥) → mixed_cause ts ≡ None
mixed_none_of ts n k en ek never = mixed_none ts (λ both. never (omega (arith, en, both.0), omega (arith, ek, both.1)))

-- ---- the number of marks

counts_same : (k v : ℕ) → k ≡ v → mark_count_differs 0 k v ≡ false
counts_same k v e = rw (eq-eqb k v e) refl

pub same_counts : (k v : ℕ) → mark_count_differs 0 k v ≡ false → k ≡ v
same_counts k v e = elim (cases_Bool (k == v)) [ inl h ↦ eqb-true k v h | inr h ↦ absurd (apart h) ]
  where
    apart : (k == v) ≡ false → ⊥
    apart h =
        let is : mark_count_differs 0 k v ≡ true = rw h refl in
        true≢false (sym is ∙ e)

count_some : (ts : List Token) (values : List Value) →
    mark_count_differs (length (names ts)) (marks ts) (length values) ≡ true →
    count_cause ts values ≡ Some (mark_count (marks ts) (length values))
count_some ts values e = rw e refl

count_none : (ts : List Token) (values : List Value) →
    mark_count_differs (length (names ts)) (marks ts) (length values) ≡ false → count_cause ts values ≡ None
count_none ts values e = rw e refl

none_count : (ts : List Token) (values : List Value) → count_cause ts values ≡ None →
    mark_count_differs (length (names ts)) (marks ts) (length values) ≡ false
none_count ts values e =
    elim (cases_Bool (mark_count_differs (length (names ts)) (marks ts) (length values))) [
      | inl h ↦ absurd (some_none _ (sym (count_some ts values h) ∙ e))
      | inr h ↦ h
    ]

-- ---- the causes after the lookup, as the code finds them

later_by : (ts : List Token) (values : List Value) (a b c : Option Cause) →
    count_cause ts values ≡ a →
    not_alone_cause ts ≡ b → float_cause values ≡ c → later_cause ts values ≡ option_or a (option_or b c)
later_by ts values a b c e f g =
    ap (λ x. option_or x (option_or (not_alone_cause ts) (float_cause values))) e
    ∙ (ap (λ x. option_or a (option_or x (float_cause values))) f ∙ ap (λ x. option_or a (option_or b x)) g)

module _ (survey : Survey) (ts : List Token) (values : List Value) (is : IsSurvey survey ts) where
  count_of_survey : (b : Bool) → mark_count_differs survey.names survey.marks (length values) ≡ b →
      mark_count_differs (length (names ts)) (marks ts) (length values) ≡ b
  count_of_survey b e = ap (λ x. mark_count_differs x (marks ts) (length values)) (sym is.0) ∙ (ap (λ x. mark_count_differs survey.names x (length values)) (sym is.1) ∙ e)

  pub later_is_count : mark_count_differs survey.names survey.marks (length values) ≡ true →
      Some (Some (mark_count survey.marks (length values))) ≡ option_map Some (later_cause ts values)
  later_is_count e =
      let first : count_cause ts values ≡ Some (mark_count survey.marks (length values)) = count_some ts values (count_of_survey true e) ∙ ap (λ x. Some (mark_count x (length values))) (sym is.1) in
      sym (ap (option_map Some) (later_by ts values _ _ _ first refl refl))

  pub later_is_alone : (place at : ℕ) → mark_count_differs survey.names survey.marks (length values) ≡ false →
      survey.not_alone ≡ Some (place, at) →
      Some (Some (not_alone place at)) ≡ option_map Some (later_cause ts values)
  later_is_alone place at e found =
      let found' : first_not_alone ts ≡ Some (place, at) = sym is.2 ∙ found in
      sym (ap (option_map Some) (later_by ts values None (Some (not_alone place at)) _ (count_none ts values (count_of_survey false e)) (ap (option_map (λ p. not_alone p.0 p.1)) found') refl))

  pub later_is_float : (place : Option ℕ) → mark_count_differs survey.names survey.marks (length values) ≡ false →
      survey.not_alone ≡ None → place ≡ first_float values →
      option_map Some (option_map float_value place) ≡ option_map Some (later_cause ts values)
  later_is_float place e found f =
      let found' : first_not_alone ts ≡ None = sym is.2 ∙ found in
      sym (ap (option_map Some) (later_by ts values None None (option_map float_value place) (count_none ts values (count_of_survey false e)) (ap (option_map (λ p. not_alone p.0 p.1)) found') (ap (option_map float_value) (sym f))))

-- ---- no cause

pub no_place_out : (ts : List Token) (values : List Value) → later_cause ts values ≡ None →
    first_not_alone ts ≡ None
no_place_out ts values e = map_none _ (first_not_alone ts) (or_none (not_alone_cause ts) (float_cause values) (or_none (count_cause ts values) _ e).1).0

pub no_float_cause : (ts : List Token) (values : List Value) → later_cause ts values ≡ None →
    float_cause values ≡ None
no_float_cause ts values e = (or_none (not_alone_cause ts) (float_cause values) (or_none (count_cause ts values) _ e).1).1

pub first_by : (ts : List Token) (given : Given) (values : List Value) (r : Option Cause) →
    mixed_cause ts ≡ None → lookup given (names ts) ≡ Ok values → later_cause ts values ≡ r →
    first_cause ts given ≡ r
first_by ts given values r a b c =
    ap (λ x. option_or x (cause_after_lookup ts (lookup given (names ts)))) a ∙ (ap (cause_after_lookup ts) b ∙ c)

no_later : (ts : List Token) (values : List Value) → count_cause ts values ≡ None →
    first_not_alone ts ≡ None → float_cause values ≡ None → later_cause ts values ≡ None
no_later ts values a b c = later_by ts values None None None a (ap (option_map (λ p. not_alone p.0 p.1)) b) c

-- if there is no cause and the values were looked up, there is no later cause
pub no_cause_parts : (ts : List Token) (given : Given) (values : List Value) →
    first_cause ts given ≡ None → lookup given (names ts) ≡ Ok values →
    (mixed_cause ts ≡ None) × (later_cause ts values ≡ None)
no_cause_parts ts given values none looked =
    let parts = or_none (mixed_cause ts) (cause_after_lookup ts (lookup given (names ts))) none in
    (parts.0, ap (cause_after_lookup ts) (sym looked) ∙ parts.1)

-- there is no cause to refuse a text without places
pub no_cause_left : (us : List Token) → place_count us ≡ 0 → first_cause us empty ≡ None
no_cause_left us h =
    let all : place_count us ≡ length (names us) + marks us = place_count-sum us in
    let none : names us ≡ [] = nil_from_length (names us) (omega (arith, h, all)) in
    let no_mark : marks us ≡ 0 = omega (arith, h, all) in
    let count : count_cause us [] ≡ None = count_none us [] (ap (λ ns. mark_count_differs (length ns) (marks us) 0) none ∙ counts_same (marks us) 0 no_mark) in
    first_by us empty [] None (mixed_none us (λ both. absurd (omega (arith, both.1, no_mark)))) (ap (lookup empty) none)
    (no_later us [] count (no_place_alone us 0 [] h) refl)

-- nor one to refuse the renamed query with as many values
pub no_cause_renamed : (ts : List Token) (values : List Value) →
    All IsWideName (names ts) → length values ≡ place_count ts → first_not_alone ts ≡ None →
    float_cause values ≡ None → first_cause (with_marks ts) (positional values) ≡ None
no_cause_renamed ts values each room alone floats =
    let all : place_count ts ≡ length (names ts) + marks ts = place_count-sum ts in
    let sum : marks (with_marks ts) ≡ marks ts + length (names ts) = marks-with_marks ts in
    let same : marks (with_marks ts) ≡ length values = omega (arith, all, sum, room) in
    let none : names (with_marks ts) ≡ [] = names-with_marks ts in
    let count : count_cause (with_marks ts) values ≡ None = count_none (with_marks ts) values (ap (λ ns. mark_count_differs (length ns) (marks (with_marks ts)) (length values)) none ∙ counts_same _ _ same) in
    first_by (with_marks ts) (positional values) values None
    (mixed_none (with_marks ts) (λ both. absurd (omega (arith, both.0, ap length none)))) (ap (lookup (positional values)) none)
    (no_later (with_marks ts) values count (first_not_alone-with_marks ts 0 0 [] [] each (λ e. e) alone) floats)

-- ---- a value for each place

values_each : (values : ValueMap) (ns : List (List ℕ)) (list : List Value) →
    values_at values ns ≡ Some list → length list ≡ length ns
values_each values [] list e = let same : [] ≡ list = cc in ap length (sym same)
values_each values (n ∷ ns) list e =
    one_more (get values n) (values_at values ns) list (length ns) (λ more r. values_each values ns more r) e
  where
    one_more : (v : Option Value) (rest : Option (List Value)) (list : List Value) (count : ℕ) →
        ((more : List Value) → rest ≡ Some more → length more ≡ count) →
        option_and_then (λ value. option_map (λ more. value ∷ more) rest) v ≡ Some list →
        length list ≡ suc count
    one_more None rest list count each e = cc
    one_more (Some v) None list count each e = cc
    one_more (Some v) (Some more) list count each e =
        let same : v ∷ more ≡ list = cc in
        ap length (sym same) ∙ ap suc (each more refl)

pub ok_of : {A E : Type 0} (o : Option A) (error : E) (a : A) → ok_or o error ≡ Ok a → o ≡ Some a
ok_of None error a e = cc
ok_of (Some x) error a e = cc

pub lookup_each : (given : Given) (n : List ℕ) (ns : List (List ℕ)) (values : List Value) →
    lookup given (n ∷ ns) ≡ Ok values → length values ≡ length (n ∷ ns)
lookup_each empty n ns values e = cc
lookup_each (positional list) n ns values e = cc
lookup_each (named map) n ns values e = values_each map (n ∷ ns) values (ok_of _ _ values e)

pub value_each : (ts : List Token) (given : Given) (values : List Value) → mixed_cause ts ≡ None →
    lookup given (names ts) ≡ Ok values → later_cause ts values ≡ None →
    length values ≡ place_count ts
value_each ts given values mixed looked later = by (names ts) refl
  where
    by : (ns : List (List ℕ)) → names ts ≡ ns → length values ≡ place_count ts
    by [] e =
        let differ = none_count ts values (or_none (count_cause ts values) _ later).0 in
        let same : marks ts ≡ length values = same_counts (marks ts) (length values) (ap (λ n. mark_count_differs (length n) (marks ts) (length values)) (sym e) ∙ differ) in
        let none : length (names ts) ≡ 0 = ap length e in
        let all : place_count ts ≡ length (names ts) + marks ts = place_count-sum ts in
        omega (arith, none, same, all)
    by (n ∷ ns) e =
        let each : length values ≡ length (n ∷ ns) = lookup_each given n ns values (ap (lookup given) (sym e) ∙ looked) in
        let some : length (names ts) ≡ length (n ∷ ns) = ap length e in
        let all : place_count ts ≡ length (names ts) + marks ts = place_count-sum ts in
        let none : marks ts ≡ 0 = no_mark (unmixed ts mixed) some in
        omega (arith, each, some, none, all)
      where
        no_mark : (length (names ts) ≡ 0) ⊎ (marks ts ≡ 0) → length (names ts) ≡ length (n ∷ ns) →
            marks ts ≡ 0
        no_mark (inl a) b = absurd (omega (arith, a, b))
        no_mark (inr a) b = a

-- a result that is there isn't refused
pub never_refused : {T E X : Type 0} → (a : T) (e : E) → ◌≡◌ {A = Result T E} (Ok a) (Err e) → X
never_refused {T = T} {E = E} a e h = absurd (apart h)
  where
    apart : ◌≡◌ {A = Result T E} (Ok a) (Err e) → ⊥
    apart h = cc
