-- A name that is missing is one of the query's.
use Rattle.std.specs.Prelude.{Option, Some, None, Result, Ok, Err, is_some, unwrap_or, find, option_map}
use Rattle.std.specs.Option.{option_or, option_and_then, ok_or}
use Rattle.std.specs.List.{Contains}
use Rattle.std.specs.FinMap.{contains_key, get}
use Rattle.std.proofs.Common.{◌≡◌, ℕ, suc, ◌-◌, ◌<◌, Bool, true, false, not, cond, if◌then◌else◌, List, [], ◌∷◌, length, refl, sym, ap, subst, arith}
use Rattle.std.proofs.lemmas.List.{get_or_default}
use Rattle.mysql_value_core.specs.declared.value.Value.{Value}
use Rattle.mysql_named_params.specs.Tokens.{Token}
use Rattle.mysql_named_params.specs.Places.{names, has_both}
use Rattle.mysql_params_core.specs.Given.{ValueMap, Given, empty, named, positional}
use Rattle.mysql_params_core.specs.Names.{is_prefix, last_name, first_missing, missing_name}
use Rattle.mysql_params_core.specs.Lookup.{LookupRefusal, missing, lookup, values_at}
use Rattle.mysql_binding.specs.StandsAlone.{first_not_alone}
use Rattle.mysql_binding.specs.FirstCause.{Cause, mixed_query, refused_params, mark_count, not_alone, float_value, count_cause, not_alone_cause, float_cause, first_float, later_cause, cause_after_lookup, first_cause, mark_count_differs}
use Rattle.mysql_named_params.specs.Places.{marks}
use Rattle.mysql_binding.proofs.CauseLemmas.{map_none}

-- ---- elements of lists

contains_first : {X : Type 0} (x : X) (xs : List X) → Contains (x ∷ xs) x
contains_first x xs = (0, omega arith, refl)

contains_later : {X : Type 0} (y : X) (xs : List X) (x : X) → Contains xs x → Contains (y ∷ xs) x
contains_later y xs x (k, h, e) = (suc k, omega arith, e)

contains_last : (name : List ℕ) (names : List (List ℕ)) → Contains (name ∷ names) (last_name (name ∷ names))
contains_last name names =
    let below : length (name ∷ names) - 1 < length (name ∷ names) = omega arith in
    (length (name ∷ names) - 1, below, get_or_default (name ∷ names) (length (name ∷ names) - 1) _ [] below)

contains_if : (b : Bool) (names : List (List ℕ)) (x y : List ℕ) → Contains names x → Contains names y → Contains names (if b then x else y)
contains_if true names x y in_x in_y = in_x
contains_if false names x y in_x in_y = in_y

-- ---- names without a value

first_missing_by : (entries : ValueMap) (name : List ℕ) (names : List (List ℕ)) (o : Option Value) → get entries name ≡ o →
    values_at entries (name ∷ names) ≡ None → (values_at entries names ≡ None → Contains names (first_missing entries names)) →
    Contains (name ∷ names) (first_missing entries (name ∷ names))
first_missing_by entries name names None e none later =
    subst (λ o. Contains (name ∷ names) (unwrap_or (cond (not (is_some o)) (Some name) (find (λ n. not (contains_key entries n)) names)) []))
    (sym e) (contains_first name names)
first_missing_by entries name names (Some value) e none later =
    subst (λ o. Contains (name ∷ names) (unwrap_or (cond (not (is_some o)) (Some name) (find (λ n. not (contains_key entries n)) names)) []))
    (sym e)
    (contains_later name names _ (later (map_none (λ rest. value ∷ rest) (values_at entries names)
    (subst (λ o. option_and_then (λ v. option_map (λ rest. v ∷ rest) (values_at entries names)) o ≡ None) e none))))

first_missing_in : (entries : ValueMap) (names : List (List ℕ)) → values_at entries names ≡ None → Contains names (first_missing entries names)
first_missing_in entries [] none = cc
first_missing_in entries (name ∷ names) none =
    first_missing_by entries name names (get entries name) refl none (first_missing_in entries names)

missing_in : (entries : ValueMap) (name : List ℕ) (names : List (List ℕ)) → values_at entries (name ∷ names) ≡ None →
    Contains (name ∷ names) (missing_name entries (name ∷ names))
missing_in entries name names none =
    contains_if (is_prefix (contains_key entries) (name ∷ names)) (name ∷ names) _ _
    (contains_last name names) (first_missing_in entries (name ∷ names) none)

same_missing : (a b : List ℕ) → ◌≡◌ {A = Result (List Value) LookupRefusal} (Err (missing a)) (Err (missing b)) → a ≡ b
same_missing a b e = cc

named_missing : (entries : ValueMap) (name : List ℕ) (names : List (List ℕ)) (absent : List ℕ) (o : Option (List Value)) →
    values_at entries (name ∷ names) ≡ o → ok_or o (missing (missing_name entries (name ∷ names))) ≡ Err (missing absent) →
    Contains (name ∷ names) absent
named_missing entries name names absent None is e =
    subst (Contains (name ∷ names)) (same_missing _ absent e) (missing_in entries name names is)
named_missing entries name names absent (Some values) is e = cc

lookup_missing : (given : Given) (names : List (List ℕ)) (absent : List ℕ) → lookup given names ≡ Err (missing absent) → Contains names absent
lookup_missing empty [] absent e = cc
lookup_missing empty (name ∷ names) absent e =
    subst (Contains (name ∷ names)) (same_missing name absent e) (contains_first name names)
lookup_missing (positional values) [] absent e = cc
lookup_missing (positional values) (name ∷ names) absent e = cc
lookup_missing (named entries) [] absent e = cc
lookup_missing (named entries) (name ∷ names) absent e = named_missing entries name names absent (values_at entries (name ∷ names)) refl e

-- ---- the cause that a name is missing

abbrev IsNoLookup : Option Cause → LookupRefusal → Type 0
IsNoLookup cause refusal = cause ≡ Some (refused_params refusal) → ⊥

no_lookup_or : (a b : Option Cause) (refusal : LookupRefusal) → IsNoLookup a refusal → IsNoLookup b refusal → IsNoLookup (option_or a b) refusal
no_lookup_or None b refusal no_a no_b = no_b
no_lookup_or (Some cause) b refusal no_a no_b = no_a

no_lookup_if : (b : Bool) (m n : ℕ) (refusal : LookupRefusal) → IsNoLookup (if b then Some (mark_count m n) else None) refusal
no_lookup_if true m n refusal e = cc
no_lookup_if false m n refusal e = cc

no_lookup_place : (o : Option (ℕ × ℕ)) (refusal : LookupRefusal) → IsNoLookup (option_map (λ found. not_alone found.0 found.1) o) refusal
no_lookup_place None refusal e = cc
no_lookup_place (Some found) refusal e = cc

no_lookup_float : (o : Option ℕ) (refusal : LookupRefusal) → IsNoLookup (option_map float_value o) refusal
no_lookup_float None refusal e = cc
no_lookup_float (Some place) refusal e = cc

no_lookup_later : (ts : List Token) (values : List Value) (refusal : LookupRefusal) → IsNoLookup (later_cause ts values) refusal
no_lookup_later ts values refusal =
    no_lookup_or (count_cause ts values) _ refusal
    (no_lookup_if (mark_count_differs (length (names ts)) (marks ts) (length values)) (marks ts) (length values) refusal)
    (no_lookup_or (not_alone_cause ts) (float_cause values) refusal
    (no_lookup_place (first_not_alone ts) refusal) (no_lookup_float (first_float values) refusal))

unmixed : (b : Bool) (cause : Option Cause) (refusal : LookupRefusal) →
    option_or (if b then Some mixed_query else None) cause ≡ Some (refused_params refusal) → cause ≡ Some (refused_params refusal)
unmixed true cause refusal e = cc
unmixed false cause refusal e = e

same_refusal : (a b : LookupRefusal) → ◌≡◌ {A = Option Cause} (Some (refused_params a)) (Some (refused_params b)) → a ≡ b
same_refusal a b e = cc

refused_lookup : (ts : List Token) (r : Result (List Value) LookupRefusal) (refusal : LookupRefusal) →
    cause_after_lookup ts r ≡ Some (refused_params refusal) → r ≡ Err refusal
refused_lookup ts (Err why) refusal e = ap (λ x. Err x) (same_refusal why refusal e)
refused_lookup ts (Ok values) refusal e = absurd (no_lookup_later ts values refusal e)

-- if the first cause is that a name is missing, the name is one of the query's
pub missing_is_name : (ts : List Token) (given : Given) (absent : List ℕ) →
    first_cause ts given ≡ Some (refused_params (missing absent)) → Contains (names ts) absent
missing_is_name ts given absent e =
    lookup_missing given (names ts) absent
    (refused_lookup ts (lookup given (names ts)) (missing absent) (unmixed (has_both ts) _ (missing absent) e))
