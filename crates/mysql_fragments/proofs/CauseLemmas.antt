-- The first cause for which fragments are refused.
use Rattle.std.specs.Prelude.{Ok, Err, option_map, nat_lt, Result}
use Rattle.std.specs.Option.{option_or}
use Rattle.std.specs.FinMap.{get}
use Rattle.std.specs.List.{flat_map, list_any}
use Rattle.std.proofs.Common.{◌≡◌, ◌==◌, ◌||◌, inl, inr, Bool, true, false, ℕ, zero, suc, ◌+◌, ◌++◌, ◌<◌, List, [], ◌∷◌, length, refl, sym, ap, ◌∙◌, arith, Option, Some, None, if◌then◌else◌, true≢false}
use Rattle.std.proofs.lemmas.Bool.{and_from, cases_Bool, eqb-true}
use Rattle.std.proofs.lemmas.Bool.Decides.{nat_tests}
use Rattle.mysql_values.specs.declared.value.Value.{Value}
use Rattle.mysql_values.specs.Literal.{is_float}
use Rattle.mysql_named_params.specs.Tokens.{Token}
use Rattle.mysql_named_params.specs.Places.{names, marks, place_count, has_both, HasName, HasMark}
use Rattle.mysql_named_params.proofs.TokenRowLemmas.{place_count-sum}
use Rattle.mysql_binding.specs.FirstCause.{mark_count_differs}
use Rattle.mysql_binding.specs.FirstCause as bound
use Rattle.mysql_binding.specs.StandsAlone.{first_not_alone}
use Rattle.mysql_binding.specs.Survey.{IsSurvey}
use Rattle.mysql_binding.specs.declared.binding.survey.Survey.{Survey}
use Rattle.mysql_binding.proofs.CauseLemmas.{has_both-not, or_none, map_none}
use Rattle.mysql_fragments.specs.FragmentErrors.{Cause, mixed_query, refused_fragments, mark_count, not_alone, float_value, faulty, mixed_cause, count_cause, not_alone_cause, is_float_item, has_float, first_float_from, literal_float, float_cause, first_fault_from, fault_cause, later_cause, cause_of_places, first_cause}
use Rattle.mysql_fragments.specs.FragmentText.{assignment_values, item_values, fragment_values, all_values}
use Rattle.mysql_fragments.specs.GivenFragments.{FragmentMap, GivenFragments, PlaceRefusal, named, positional, fragments_at, fragments_for, with_first}
use Rattle.mysql_fragments.specs.declared.fragment.Item.{Item}
use Rattle.mysql_fragments.specs.declared.fragment.Item.TheVariants as item
use Rattle.mysql_fragments.specs.declared.fragment.Fragment.{Fragment}
use Rattle.mysql_fragments.specs.declared.fragment.Fragment.TheVariants as one
use Rattle.mysql_fragments.specs.declared.fragments_error.FragmentFault.{FragmentFault}

pub mixed_none : (ts : List Token) → (HasName ts × HasMark ts → ⊥) → mixed_cause ts ≡ None
mixed_none ts h = rw (has_both-not ts h) refl

both : (ts : List Token) → HasName ts × HasMark ts → has_both ts ≡ true
both ts h = and_from _ _ (less _ h.0) (less _ h.1)
  where
    less : (n : ℕ) → 0 < n → nat_lt 0 n ≡ true
    less n h = grind (arith, nat_tests)

pub mixed_some : (ts : List Token) → HasName ts × HasMark ts → mixed_cause ts ≡ Some mixed_query
mixed_some ts h = rw (both ts h) refl

-- ---- the number of marks

pub same_counts : (k v : ℕ) → mark_count_differs 0 k v ≡ false → k ≡ v
same_counts k v e = elim (cases_Bool (k == v)) [ inl h ↦ eqb-true k v h | inr h ↦ absurd (apart h) ]
  where
    apart : (k == v) ≡ false → ⊥
    apart h =
        let is : mark_count_differs 0 k v ≡ true = rw h refl in
        true≢false (sym is ∙ e)

count_some : (ts : List Token) (fragments : List Fragment) →
    mark_count_differs (length (names ts)) (marks ts) (length fragments) ≡ true →
    count_cause ts fragments ≡ Some (mark_count (marks ts) (length fragments))
count_some ts fragments e = rw e refl

count_none : (ts : List Token) (fragments : List Fragment) →
    mark_count_differs (length (names ts)) (marks ts) (length fragments) ≡ false → count_cause ts fragments ≡ None
count_none ts fragments e = rw e refl

none_count : (ts : List Token) (fragments : List Fragment) → count_cause ts fragments ≡ None →
    mark_count_differs (length (names ts)) (marks ts) (length fragments) ≡ false
none_count ts fragments e =
    elim (cases_Bool (mark_count_differs (length (names ts)) (marks ts) (length fragments))) [
      | inl h ↦ absurd (apart (sym (count_some ts fragments h) ∙ e))
      | inr h ↦ h
    ]
  where
    apart : {A : Type 0} {x : A} → Some x ≡ None → ⊥
    apart e = cc

-- ---- the causes after the lookup, as the code finds them

later_by : (as_literals : Bool) (ts : List Token) (fragments : List Fragment) (a b c d : Option Cause) →
    count_cause ts fragments ≡ a → not_alone_cause ts ≡ b → float_cause as_literals fragments ≡ c →
    fault_cause fragments ≡ d → later_cause as_literals ts fragments ≡ option_or a (option_or b (option_or c d))
later_by as_literals ts fragments a b c d e f g h = rw (e, f, g, h) refl

module _ (as_literals : Bool) (survey : Survey) (ts : List Token) (fragments : List Fragment) (is : IsSurvey survey ts) where
  count_of_survey : (b : Bool) → mark_count_differs survey.names survey.marks (length fragments) ≡ b →
      mark_count_differs (length (names ts)) (marks ts) (length fragments) ≡ b
  count_of_survey b e = ap (λ x. mark_count_differs x (marks ts) (length fragments)) (sym is.0) ∙ (ap (λ x. mark_count_differs survey.names x (length fragments)) (sym is.1) ∙ e)

  pub later_is_count : mark_count_differs survey.names survey.marks (length fragments) ≡ true →
      Some (Some (mark_count survey.marks (length fragments))) ≡ option_map Some (later_cause as_literals ts fragments)
  later_is_count e =
      let first : count_cause ts fragments ≡ Some (mark_count survey.marks (length fragments)) = count_some ts fragments (count_of_survey true e) ∙ ap (λ x. Some (mark_count x (length fragments))) (sym is.1) in
      sym (ap (option_map Some) (later_by as_literals ts fragments _ _ _ _ first refl refl refl))

  pub later_is_alone : (place at : ℕ) → mark_count_differs survey.names survey.marks (length fragments) ≡ false →
      survey.not_alone ≡ Some (place, at) →
      Some (Some (not_alone place at)) ≡ option_map Some (later_cause as_literals ts fragments)
  later_is_alone place at e found =
      let found' : first_not_alone ts ≡ Some (place, at) = sym is.2 ∙ found in
      sym (ap (option_map Some) (later_by as_literals ts fragments None (Some (not_alone place at)) _ _ (count_none ts fragments (count_of_survey false e)) (ap (option_map (λ p. not_alone p.0 p.1)) found') refl refl))

  pub later_is_float : (place : ℕ) → mark_count_differs survey.names survey.marks (length fragments) ≡ false →
      survey.not_alone ≡ None → Some place ≡ literal_float as_literals fragments →
      Some (Some (float_value place)) ≡ option_map Some (later_cause as_literals ts fragments)
  later_is_float place e found f =
      let found' : first_not_alone ts ≡ None = sym is.2 ∙ found in
      sym (ap (option_map Some) (later_by as_literals ts fragments None None (Some (float_value place)) _ (count_none ts fragments (count_of_survey false e)) (ap (option_map (λ p. not_alone p.0 p.1)) found') (ap (option_map float_value) (sym f)) refl))

  pub later_is_fault : (fault : Option (ℕ × FragmentFault)) → mark_count_differs survey.names survey.marks (length fragments) ≡ false →
      survey.not_alone ≡ None → None ≡ literal_float as_literals fragments → fault ≡ first_fault_from 0 fragments →
      option_map Some (option_map (λ found. faulty found.0 found.1) fault) ≡ option_map Some (later_cause as_literals ts fragments)
  later_is_fault fault e found f g =
      let found' : first_not_alone ts ≡ None = sym is.2 ∙ found in
      sym (ap (option_map Some) (later_by as_literals ts fragments None None None (option_map (λ found. faulty found.0 found.1) fault) (count_none ts fragments (count_of_survey false e)) (ap (option_map (λ p. not_alone p.0 p.1)) found') (ap (option_map float_value) (sym f)) (ap (option_map (λ found. faulty found.0 found.1)) (sym g))))

-- ---- no cause

pub no_later_parts : (as_literals : Bool) (ts : List Token) (fragments : List Fragment) → later_cause as_literals ts fragments ≡ None →
    (count_cause ts fragments ≡ None) × (first_not_alone ts ≡ None) × (literal_float as_literals fragments ≡ None)
    × (first_fault_from 0 fragments ≡ None)
no_later_parts as_literals ts fragments e =
    let a = or_none (count_cause ts fragments) _ e in
    let b = or_none (not_alone_cause ts) _ a.1 in
    let c = or_none (float_cause as_literals fragments) (fault_cause fragments) b.1 in
    (a.0, map_none _ (first_not_alone ts) b.0, map_none _ (literal_float as_literals fragments) c.0, map_none _ (first_fault_from 0 fragments) c.1)

pub first_by : (as_literals : Bool) (ts : List Token) (given : GivenFragments) (fragments : List Fragment) (r : Option Cause) →
    mixed_cause ts ≡ None → fragments_for given (names ts) ≡ Ok fragments → later_cause as_literals ts fragments ≡ r →
    first_cause as_literals ts given ≡ r
first_by as_literals ts given fragments r a b c =
    ap (λ x. option_or x (cause_of_places as_literals ts (fragments_for given (names ts)))) a ∙ (ap (cause_of_places as_literals ts) b ∙ c)

pub first_refused : (as_literals : Bool) (ts : List Token) (given : GivenFragments) (why : PlaceRefusal) →
    mixed_cause ts ≡ None → fragments_for given (names ts) ≡ Err why →
    first_cause as_literals ts given ≡ Some (refused_fragments why)
first_refused as_literals ts given why a b =
    ap (λ x. option_or x (cause_of_places as_literals ts (fragments_for given (names ts)))) a ∙ ap (cause_of_places as_literals ts) b

-- ---- a fragment for each place

fragments_each : (m : FragmentMap) (ns : List (List ℕ)) (fragments : List Fragment) → fragments_at m ns ≡ Ok fragments →
    length fragments ≡ length ns
fragments_each m [] fragments e = let same : [] ≡ fragments = cc in ap length (sym same)
fragments_each m (n ∷ ns) fragments e =
    one_more (get m n) (fragments_at m ns) fragments (length ns) (λ more r. fragments_each m ns more r) e
  where
    one_more : (f : Option Fragment) (rest : Result (List Fragment) PlaceRefusal) (fragments : List Fragment) (count : ℕ) →
        ((more : List Fragment) → rest ≡ Ok more → length more ≡ count) →
        with_first n f rest ≡ Ok fragments → length fragments ≡ suc count
    one_more None rest fragments count each e = cc
    one_more (Some f) (Err why) fragments count each e = cc
    one_more (Some f) (Ok more) fragments count each e =
        let same : f ∷ more ≡ fragments = cc in
        ap length (sym same) ∙ ap suc (each more refl)

given_each : (given : GivenFragments) (n : List ℕ) (ns : List (List ℕ)) (fragments : List Fragment) →
    fragments_for given (n ∷ ns) ≡ Ok fragments → length fragments ≡ length (n ∷ ns)
given_each (positional list) n ns fragments e = cc
given_each (named m) n ns fragments e = fragments_each m (n ∷ ns) fragments e

pub fragment_each : (ts : List Token) (given : GivenFragments) (fragments : List Fragment) →
    (HasName ts × HasMark ts → ⊥) → fragments_for given (names ts) ≡ Ok fragments → count_cause ts fragments ≡ None →
    length fragments ≡ place_count ts
fragment_each ts given fragments not_both looked count = by (names ts) refl
  where
    by : (ns : List (List ℕ)) → names ts ≡ ns → length fragments ≡ place_count ts
    by [] e =
        let same : marks ts ≡ length fragments = same_counts (marks ts) (length fragments) (ap (λ n. mark_count_differs (length n) (marks ts) (length fragments)) (sym e) ∙ none_count ts fragments count) in
        let none : length (names ts) ≡ 0 = ap length e in
        omega (arith, none, same, place_count-sum ts)
    by (n ∷ ns) e =
        let each : length fragments ≡ length (n ∷ ns) = given_each given n ns fragments (ap (fragments_for given) (sym e) ∙ looked) in
        let some : length (names ts) ≡ length (n ∷ ns) = ap length e in
        let none : marks ts ≡ 0 = no_mark (marks ts) refl some in
        omega (arith, each, some, none, place_count-sum ts)
      where
        no_mark : (k : ℕ) → marks ts ≡ k → length (names ts) ≡ length (n ∷ ns) → k ≡ 0
        no_mark zero a b = refl
        no_mark (suc k) a b = absurd (not_both (omega (arith, b), omega (arith, a)))

-- ---- floats

pub or_false : (a b : Bool) → (a || b) ≡ false → (a ≡ false) × (b ≡ false)
or_false true b e = absurd (true≢false e)
or_false false b e = (refl, e)

any_append : (xs ys : List Value) → list_any is_float xs ≡ false → list_any is_float ys ≡ false → list_any is_float (xs ++ ys) ≡ false
any_append [] ys h k = k
any_append (x ∷ xs) ys h k =
    let p = or_false (is_float x) (list_any is_float xs) h in
    rw p.0 (any_append xs ys p.1 k)

any_flat : {X : Type 0} (values : X → List Value) (test : X → Bool) →
    ((x : X) → test x ≡ false → list_any is_float (values x) ≡ false) → (xs : List X) → list_any test xs ≡ false →
    list_any is_float (flat_map values xs) ≡ false
any_flat values test f [] h = refl
any_flat values test f (x ∷ xs) h =
    let p = or_false (test x) (list_any test xs) h in
    any_append (values x) (flat_map values xs) (f x p.0) (any_flat values test f xs p.1)

item_no_float : (x : Item) → is_float_item x ≡ false → list_any is_float (item_values x) ≡ false
item_no_float (item.Value value) h = rw h refl
item_no_float (item.Decimal number) h = refl
item_no_float (item.Double double) h = refl

fragment_no_float : (fragment : Fragment) → has_float fragment ≡ false → list_any is_float (fragment_values fragment) ≡ false
fragment_no_float (one.Value value) h = rw h refl
fragment_no_float (one.List items) h = any_flat item_values is_float_item item_no_float items.items h
fragment_no_float (one.Rows rows) h =
    any_flat (λ row. flat_map item_values row.items) (λ row. list_any is_float_item row.items) (λ row. any_flat item_values is_float_item item_no_float row.items) rows.items h
fragment_no_float (one.Decimal number) h = refl
fragment_no_float (one.Double double) h = refl
fragment_no_float (one.Identifier name) h = refl
fragment_no_float (one.Qualified names) h = refl
fragment_no_float (one.Keyword keyword) h = refl
fragment_no_float (one.Identifiers columns) h = refl
fragment_no_float (one.Assignments assignments) h =
    any_flat assignment_values (λ assignment. is_float_item assignment.item) (λ assignment. item_no_float assignment.item) assignments.items h

pub if_none : {A : Type 0} (b : Bool) (x : A) (y : Option A) → (if b then Some x else y) ≡ None → (b ≡ false) × (y ≡ None)
if_none true x y e = cc
if_none false x y e = (refl, e)

all_no_float : (place : ℕ) (fragments : List Fragment) → first_float_from place fragments ≡ None →
    list_any is_float (all_values fragments) ≡ false
all_no_float place [] h = refl
all_no_float place (fragment ∷ fragments) h =
    let p = if_none (has_float fragment) place _ h in
    any_append (fragment_values fragment) (all_values fragments) (fragment_no_float fragment p.0) (all_no_float (place + 1) fragments p.1)

none_first : (place : ℕ) (values : List Value) → list_any is_float values ≡ false → bound.first_float_from place values ≡ None
none_first place [] h = refl
none_first place (value ∷ values) h =
    let p = or_false (is_float value) (list_any is_float values) h in
    rw p.0 (none_first (place + 1) values p.1)

pub no_first_float : (fragments : List Fragment) → first_float_from 0 fragments ≡ None → bound.first_float (all_values fragments) ≡ None
no_first_float fragments h = none_first 0 (all_values fragments) (all_no_float 0 fragments h)

-- an error that is returned has a cause
pub some_cause : (x y : Option Cause) → Some x ≡ option_map Some y → (why : Cause) × (y ≡ Some why) × (x ≡ Some why)
some_cause x None e = cc
some_cause x (Some why) e = (why, refl, cc)

pub no_error : (y : Option Cause) → None ≡ option_map (λ x. Some x) y → y ≡ None
no_error None e = refl
no_error (Some why) e = cc
