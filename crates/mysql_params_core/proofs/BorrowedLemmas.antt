-- Lookups of names that are slices, which give borrowed values.
use Rattle.std.proofs.Common.{◌≡◌, ◌<◌, ◌+◌, ◌&&◌, ℕ, true, List, [], ◌∷◌, ◌++◌, map, length, take, get_or, refl, sym, ap, ◌∙◌, arith}
use Rattle.std.specs.Prelude.{Some, None, is_some, ok_or}
use Rattle.std.specs.Borrow.{Bor}
use Rattle.std.specs.List.{list_all}
use Rattle.std.specs.FinMap.{contains_key, get}
use Rattle.std.proofs.lemmas.List.{take_more, get_or-map, length-map, map-append, take_all}
use Rattle.mysql_value_core.specs.declared.value.Value.{Value}
use Rattle.mysql_value_core.specs.declared.value.ValueRef.{ValueRef}
use Rattle.mysql_values.specs.BorrowedValue.{owned, owned_values}
use Rattle.mysql_params_core.specs.FirstAbsent.{IsFirstAbsent}
use Rattle.mysql_params_core.specs.Given.{ValueMap, named}
use Rattle.mysql_params_core.specs.Lookup.{lookup, missing}
use Rattle.mysql_params_core.specs.Names.{missing_name}
use Rattle.mysql_params_core.specs.Referents.{referents}
use Rattle.mysql_params_core.proofs.WalkLemmas.{values_at-from}

-- the referents up to an index, and the one at that index
pub take-referents : {X : Type 0} (rs : List (Bor X)) (i : ℕ) (d : Bor X) → i < length rs →
    take (i + 1) (referents rs) ≡ take i (referents rs) ++ (get_or rs i d).now ∷ []
take-referents rs i d h =
    take_more (referents rs) i d.now (omega (arith, length-map rs (λ x. x.now), h))
    ∙ ap (λ x. take i (referents rs) ++ x ∷ []) (get_or-map (λ x. x.now) rs i d d.now h)

pub referents-push : {X : Type 0} (rs : List (Bor X)) (r : Bor X) →
    referents (rs ++ r ∷ []) ≡ referents rs ++ r.now ∷ []
referents-push rs r = map-append (λ x. x.now) rs (r ∷ [])

-- the values so far are those of the names so far
abbrev pub AreFound : ValueMap → List (List ℕ) → List ValueRef → Type 0
AreFound m ns vs = map (get m) ns ≡ map (λ x. Some x) (owned_values vs)

-- names whose values are found are in the map
found_in : (m : ValueMap) (ns : List (List ℕ)) (vs : List Value) →
    map (get m) ns ≡ map (λ x. Some x) vs → list_all (contains_key m) ns ≡ true
found_in m [] vs e = refl
found_in m (n ∷ ns) [] e = cc
found_in m (n ∷ ns) (v ∷ vs) e =
    let here : get m n ≡ Some v = cc in
    let later : map (get m) ns ≡ map (λ x. Some x) vs = cc in
    ap (λ o. is_some o && list_all (contains_key m) ns) here ∙ found_in m ns vs later

module _ (m : ValueMap) (ns : List (Bor (List ℕ))) (i : ℕ) (d : Bor (List ℕ)) (below : i < length ns) (vs : List ValueRef) (found : AreFound m (take i (referents ns)) vs) where
  -- one value more
  pub found_more : (v : ValueRef) (vs' : List ValueRef) → get m (get_or ns i d).now ≡ Some (owned v) →
      vs' ≡ vs ++ v ∷ [] → AreFound m (take (i + 1) (referents ns)) vs'
  found_more v vs' e pushed =
      ap (map (get m)) (take-referents ns i d below)
      ∙ map-append (get m) (take i (referents ns)) ((get_or ns i d).now ∷ [])
      ∙ ap (λ os. os ++ get m (get_or ns i d).now ∷ []) found
      ∙ ap (λ o. map (λ x. Some x) (owned_values vs) ++ o ∷ []) e
      ∙ sym (map-append (λ x. Some x) (owned_values vs) (owned v ∷ []))
      ∙ ap (map (λ x. Some x)) (sym (ap owned_values pushed ∙ map-append owned vs (v ∷ [])))

  -- a name without a value is the first
  pub first_absent : get m (get_or ns i d).now ≡ None → IsFirstAbsent m (referents ns) (Some i)
  first_absent none = (
    omega (arith, length-map ns (λ x. x.now), below),
    found_in m (take i (referents ns)) (owned_values vs) found,
    ap (contains_key m) (get_or-map (λ x. x.now) ns i d [] below) ∙ ap is_some none,
  )

-- if all names have a value
pub found_all : (m : ValueMap) (ns : List (Bor (List ℕ))) (vs : List ValueRef) (i : ℕ) → length ns ≡ i → 0 < length ns →
    AreFound m (take i (referents ns)) vs →
    lookup (named m) (referents ns) ≡ ok_or (Some (owned_values vs)) (missing (missing_name m (referents ns)))
found_all m [] vs i e some found = absurd (omega (arith, some))
found_all m (n ∷ ns) vs i e some found =
    ap (λ o. ok_or o (missing (missing_name m (referents (n ∷ ns)))))
    (values_at-from m (referents (n ∷ ns)) (owned_values vs)
    (ap (map (get m)) (sym (take_all i (referents (n ∷ ns)) (omega (arith, length-map (n ∷ ns) (λ x. x.now), e)))) ∙ found))
