-- Values that are looked for among pairs are those that a map of the pairs gives.
use Rattle.std.specs.Prelude.{Option, Some, None, Ok, is_none, fold, nat_eq}
use Rattle.std.specs.Option.{option_or}
use Rattle.std.specs.Borrow.{Bor}
use Rattle.std.specs.Cmp.{unsigned_ties}
use Rattle.std.specs.Cmp.Lexicographic.{slice_cmp, pointwise, bytes_decides, lists_ties, nat_list_cmp_total}
use Rattle.std.specs.FinMap as finite
use Rattle.std.specs.FinMap.{get, insert, get-empty, get-insert}
use Rattle.std.specs.Ordering.{nat_cmp}
use Rattle.std.proofs.Common.{◌≡◌, ◌+◌, ◌<◌, ◌++◌, ℕ, Bool, true, cond, List, [], ◌∷◌, length, map, take, get_or, inl, inr, refl, sym, ap, ◌∙◌, arith, true≢false}
use Rattle.std.proofs.lemmas.Bool.{and_parts, cases_Bool}
use Rattle.std.proofs.lemmas.List.{map-append}
use Rattle.mysql_values.specs.declared.value.Value.{Value}
use Rattle.mysql_values.specs.ValueOf.{Meaning}
use Rattle.mysql_named_params.specs.Places.{names}
use Rattle.mysql_named_params.specs.Reading.{OnWideTokens, wide_reading}
use Rattle.mysql_params_core.specs.Given.{Given, ValueMap, named}
use Rattle.mysql_params_core.specs.Lookup.{lookup}
use Rattle.mysql_params_core.specs.Made.{by_name, with_pair}
use Rattle.mysql_params_core.specs.Referents.{referents}
use Rattle.mysql_params_core.proofs.BorrowedLemmas.{take-referents}
use Rattle.mysql_params_core.proofs.WalkLemmas.{values_at-from}
use Rattle.mysql_binding.specs.AppendedText.{AreFound}
use Rattle.mysql_binding.specs.FirstCause.{mixed_cause}
use Rattle.mysql_binding.proofs.CauseLemmas.{on_both, on_map}
use Rattle.mysql_bind_core.specs.Assignments.{given_of}
use Rattle.mysql_bind_core.specs.FoundPairs.{AreValuesIn, are_distinct, value_in}

-- ---- the map of pairs

-- a pair as a maker of parameters takes it
abbrev pub meant : List ℕ × Value → List ℕ × Meaning
meant pair = (pair.0, Ok pair.1)

pub some_is : {A : Type 0} (o : Option A) → is_none o ≡ true → o ≡ None
some_is None e = refl
some_is (Some a) e = absurd (true≢false (sym e))

pub same_names : (xs ys : List ℕ) → pointwise nat_eq xs ys ≡ true → xs ≡ ys
same_names xs ys e = (bytes_decides xs ys).0 e

pub itself : (xs : List ℕ) → pointwise nat_eq xs xs ≡ true
itself xs = (bytes_decides xs xs).1 refl

-- no pair has the name of an entry
abbrev pub AreNew : ValueMap → List (List ℕ × Value) → Type 0
AreNew m pairs = (name : List ℕ) (v : Value) → value_in pairs name ≡ Some v → get m name ≡ None

-- what an insertion gives
pub inserted : (m : ValueMap) (k : List ℕ) (v : Value) (name : List ℕ) →
    get (insert m k v) name ≡ cond (pointwise nat_eq name k) (Some v) (get m name)
inserted m k v name =
    get-insert nat_list_cmp_total m k v name ∙ ap (λ b. cond b (Some v) (get m name)) (sym (lists_ties nat_cmp unsigned_ties name k))

-- the first pair is new
pub head_new : (m : ValueMap) (pair : List ℕ × Value) (pairs : List (List ℕ × Value)) → AreNew m (pair ∷ pairs) → get m pair.0 ≡ None
head_new m pair pairs new = new pair.0 pair.1 (ap (λ b. cond b (Some pair.1) (value_in pairs pair.0)) (itself pair.0))

-- and the others are, once it is inserted
tail_new : (m : ValueMap) (pair : List ℕ × Value) (pairs : List (List ℕ × Value)) → is_none (value_in pairs pair.0) ≡ true → AreNew m (pair ∷ pairs) →
    AreNew (insert m pair.0 pair.1) pairs
tail_new m pair pairs apart new name v e =
    elim (cases_Bool (pointwise nat_eq name pair.0)) [
      | inl h ↦
          let none : value_in pairs name ≡ None = ap (value_in pairs) (same_names name pair.0 h) ∙ some_is (value_in pairs pair.0) apart in
          let bad : Some v ≡ None = sym e ∙ none in cc
      | inr h ↦
          inserted m pair.0 pair.1 name ∙ (ap (λ b. cond b (Some pair.1) (get m name)) h ∙ new name v (ap (λ b. cond b (Some pair.1) (value_in pairs name)) h ∙ e))
    ]

-- what the pairs and then the map have under a name
found_step : (m : ValueMap) (pair : List ℕ × Value) (pairs : List (List ℕ × Value)) (name : List ℕ) → is_none (value_in pairs pair.0) ≡ true →
    option_or (value_in pairs name) (get (insert m pair.0 pair.1) name) ≡ option_or (value_in (pair ∷ pairs) name) (get m name)
found_step m pair pairs name apart =
    ap (option_or (value_in pairs name)) (inserted m pair.0 pair.1 name) ∙ elim (cases_Bool (pointwise nat_eq name pair.0)) [
      | inl h ↦
          let none : value_in pairs name ≡ None = ap (value_in pairs) (same_names name pair.0 h) ∙ some_is (value_in pairs pair.0) apart in
          rw (h, none) refl
      | inr h ↦ rw h refl
    ]

-- the map that distinct pairs make
made : (pairs : List (List ℕ × Value)) (m : ValueMap) → are_distinct pairs ≡ true → AreNew m pairs →
    (n : ValueMap) × (fold with_pair (Ok m) (map meant pairs) ≡ Ok n)
    × ((name : List ℕ) → get n name ≡ option_or (value_in pairs name) (get m name))
made [] m distinct new = (m, refl, λ name. refl)
made (pair ∷ pairs) m distinct new =
    let p = and_parts (is_none (value_in pairs pair.0)) (are_distinct pairs) distinct in
    let one : with_pair (Ok m) (meant pair) ≡ Ok (insert m pair.0 pair.1) = rw (head_new m pair pairs new) refl in
    let more = made pairs (insert m pair.0 pair.1) p.1 (tail_new m pair pairs p.0 new) in
    (more.0, ap (λ r. fold with_pair r (map meant pairs)) one ∙ more.1, λ name. more.2 name ∙ found_step m pair pairs name p.0)

or_none : {A : Type 0} (o : Option A) → option_or o None ≡ o
or_none None = refl
or_none (Some a) = refl

-- what distinct pairs give
pub pairs_give : (pairs : List (List ℕ × Value)) → 0 < length pairs → are_distinct pairs ≡ true →
    (m : ValueMap) × (given_of pairs ≡ Ok (named m)) × ((name : List ℕ) → get m name ≡ value_in pairs name)
pairs_give [] some distinct = absurd (omega arith)
pairs_give (pair ∷ pairs) some distinct =
    let n = made (pair ∷ pairs) finite.empty distinct (λ name v e. get-empty (slice_cmp nat_cmp) name) in
    (n.0, ap by_name n.1, λ name. n.2 name ∙ (ap (option_or (value_in (pair ∷ pairs) name)) (get-empty (slice_cmp nat_cmp) name) ∙ or_none (value_in (pair ∷ pairs) name)))

-- ---- the values of names

same_found : (m : ValueMap) (pairs : List (List ℕ × Value)) → ((name : List ℕ) → get m name ≡ value_in pairs name) → (ns : List (List ℕ)) →
    map (get m) ns ≡ map (value_in pairs) ns
same_found m pairs e [] = refl
same_found m pairs e (name ∷ ns) = ap (λ o. o ∷ map (get m) ns) (e name) ∙ ap (λ os. value_in pairs name ∷ os) (same_found m pairs e ns)

lookup_named : (m : ValueMap) (ns : List (List ℕ)) (values : List Value) → 0 < length ns → map (get m) ns ≡ map (λ v. Some v) values →
    lookup (named m) ns ≡ Ok values
lookup_named m [] values some e = absurd (omega arith)
lookup_named m (name ∷ ns) values some e = rw (values_at-from m (name ∷ ns) values e) refl

-- what the pairs give, and the values that are found for the names of a query
pub found_on : (mode : Bool) (query : List ℕ) (pairs : List (List ℕ × Value)) (ns : List (List ℕ)) (values : List Value) → 0 < length pairs →
    are_distinct pairs ≡ true → 0 < length ns → AreValuesIn pairs ns values → OnWideTokens mode query (λ ts. mixed_cause ts ≡ None) →
    OnWideTokens mode query (λ ts. ns ≡ names ts) → (given : Given) × (given_of pairs ≡ Ok given) × OnWideTokens mode query (AreFound given values)
found_on mode query pairs ns values some distinct many found unmixed listed =
    let m = pairs_give pairs some distinct in
    let looked : lookup (named m.0) ns ≡ Ok values = lookup_named m.0 ns values many (same_found m.0 pairs m.2 ns ∙ found) in (
      named m.0,
      m.1,
      on_map (wide_reading mode) query (λ ts. (mixed_cause ts ≡ None) × (ns ≡ names ts)) (AreFound (named m.0) values)
          (λ ts is h. (h.0, ap (lookup (named m.0)) (sym h.1) ∙ looked))
          (on_both (wide_reading mode) query (λ ts. mixed_cause ts ≡ None) (λ ts. ns ≡ names ts) unmixed listed),
    )

-- one name more
pub values_more : (pairs : List (List ℕ × Value)) (ns : List (Bor (List ℕ))) (i : ℕ) (d : Bor (List ℕ)) (vs vs' : List (Bor Value)) (v : Bor Value) → i < length ns →
    AreValuesIn pairs (take i (referents ns)) (referents vs) → value_in pairs (get_or ns i d).now ≡ Some v.now → vs' ≡ vs ++ v ∷ [] →
    AreValuesIn pairs (take (i + 1) (referents ns)) (referents vs')
values_more pairs ns i d vs vs' v below so_far e pushed =
    ap (map (value_in pairs)) (take-referents ns i d below)
    ∙ map-append (value_in pairs) (take i (referents ns)) ((get_or ns i d).now ∷ [])
    ∙ ap (λ os. os ++ value_in pairs (get_or ns i d).now ∷ []) so_far
    ∙ ap (λ o. map (λ x. Some x) (referents vs) ++ o ∷ []) e
    ∙ sym (map-append (λ x. Some x) (referents vs) (v.now ∷ []))
    ∙ ap (map (λ x. Some x)) (sym (ap referents pushed ∙ map-append (λ r. r.now) vs (v ∷ [])))
