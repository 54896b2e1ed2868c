-- The parameters that pairs with new names make, and the values that these give to names of the
-- pairs.
use Rattle.std.specs.Prelude.{Bool, is_some, ok_or, fold, Ok, Err, unwrap_or}
use Rattle.std.proofs.Common.{◌≡◌, ◌<◌, ℕ, ◌+◌, true, false, not, List, [], ◌∷◌, ◌++◌, length, map, Option, Some, None, refl, sym, ap, ◌∙◌, subst, inl, inr, arith, append_assoc, append-nil, true≢false}
use Rattle.std.specs.List.{list_all}
use Rattle.std.proofs.lemmas.Bool.{cases_Bool, and_parts, not-true}
use Rattle.std.specs.Ordering.{eq_by_cmp, nat_cmp}
use Rattle.std.specs.Cmp.Lexicographic.{slice_cmp, nat_list_cmp_total}
use Rattle.std.specs.FinMap.{find, get, insert, empty, contains_key, from_entries, get-from_entries, from_entries_push, nat_cmp-IsAntisymmetric, slice_cmp-IsAntisymmetric}
use Rattle.std.specs.FinMap.Entries.{is_some-find}
use Rattle.mysql_values.specs.declared.value.Value.{Value}
use Rattle.mysql_values.specs.declared.value.Value.TheVariants.{NULL}
use Rattle.mysql_values.specs.Literal.{is_float}
use Rattle.mysql_values.specs.ValueOf.{Meaning}
use Rattle.mysql_params_core.specs.Lookup.{lookup, values_at, missing}
use Rattle.mysql_params_core.specs.Names.{missing_name}
use Rattle.mysql_params_core.specs.Made.{with_pair, pairs_made}
use Rattle.mysql_binding.specs.FirstCause.{first_float_from}
use Rattle.mysql_fixed_query.specs.Bindable.{pair_names, is_among, are_new, have_literals, valued, given_by}
use Rattle.mysql_fixed_query.specs.FixedText.{value_named}

abbrev pub Pairs : Type 0
Pairs = List (List ℕ × Value)

-- no value of the pairs is a float
abbrev have_no_float : Pairs → Bool
have_no_float pairs = list_all (λ pair. not (is_float pair.1)) pairs

-- a pair with its value as the meaning of a thing
abbrev meant : List ℕ × Value → List ℕ × Meaning
meant pair = (pair.0, Ok pair.1)

-- ---- the parameters that are made

-- a map of pairs has the names of the pairs
has_name-from_entries : (pairs : Pairs) (name : List ℕ) →
    contains_key {R = slice_cmp nat_cmp} (from_entries pairs) name ≡ is_among (pair_names pairs) name
has_name-from_entries pairs name =
    ap is_some (get-from_entries nat_list_cmp_total pairs name)
    ∙ is_some-find (slice_cmp nat_cmp) name pairs

none_of_not_some : {A : Type 0} (o : Option A) → is_some o ≡ false → o ≡ None
none_of_not_some None e = refl
none_of_not_some (Some a) e = absurd (true≢false e)

pair_names-push : (pairs : Pairs) (pair : List ℕ × Value) →
    pair_names (pairs ++ pair ∷ []) ≡ pair_names pairs ++ pair.0 ∷ []
pair_names-push [] pair = refl
pair_names-push (first ∷ pairs) pair = ap (λ x. first.0 ∷ x) (pair_names-push pairs pair)

-- one pair more, of a new name
with_pair-new : (done : Pairs) (pair : List ℕ × Value) → is_among (pair_names done) pair.0 ≡ false →
    with_pair (Ok (from_entries done)) (meant pair) ≡ Ok (from_entries (done ++ pair ∷ []))
with_pair-new done pair is_new =
    let absent : contains_key {R = slice_cmp nat_cmp} (from_entries done) pair.0 ≡ false =
    has_name-from_entries done pair.0 ∙ is_new in
    let none : find (slice_cmp nat_cmp) pair.0 done ≡ None =
    none_of_not_some _ (is_some-find (slice_cmp nat_cmp) pair.0 done ∙ is_new) in
    let pushed : from_entries (done ++ pair ∷ []) ≡ insert (from_entries done) pair.0 pair.1 =
    from_entries_push nat_list_cmp_total (slice_cmp-IsAntisymmetric nat_cmp-IsAntisymmetric)
    done pair.0 pair.1 none in
    rw (absent, pushed) refl

-- pairs of new names, one after another
fold-with_pair : (done rest : Pairs) → are_new (pair_names done) (pair_names rest) ≡ true →
    fold with_pair (Ok (from_entries done)) (map meant rest) ≡ Ok (from_entries (done ++ rest))
fold-with_pair done [] h = ap (λ x. Ok (from_entries x)) (sym (append-nil done))
fold-with_pair done (pair ∷ rest) h =
    let parts = and_parts _ _ h in
    let is_new : is_among (pair_names done) pair.0 ≡ false =
    not-true (is_among (pair_names done) pair.0) parts.0 in
    let later = fold-with_pair (done ++ pair ∷ []) rest
    (subst (λ x. are_new x (pair_names rest) ≡ true) (sym (pair_names-push done pair)) parts.1) in
    ap (λ x. fold with_pair x (map meant rest)) (with_pair-new done pair is_new)
    ∙ (later ∙ ap (λ x. Ok (from_entries x)) (append_assoc done (pair ∷ []) rest))

-- things with literals have values
map-meant-valued : (pairs : List (List ℕ × Meaning)) → have_literals pairs ≡ true →
    map meant (valued pairs) ≡ pairs
map-meant-valued [] h = refl
map-meant-valued ((name, Ok value) ∷ pairs) h =
    ap (λ x. (name, Ok value) ∷ x) (map-meant-valued pairs (and_parts _ _ h).1)
map-meant-valued ((name, Err duration) ∷ pairs) h = absurd (true≢false (sym h))

pair_names-map-meant : (pairs : Pairs) → pair_names (map meant pairs) ≡ pair_names pairs
pair_names-map-meant [] = refl
pair_names-map-meant (pair ∷ pairs) = ap (λ x. pair.0 ∷ x) (pair_names-map-meant pairs)

pub pair_names-valued : (pairs : List (List ℕ × Meaning)) → have_literals pairs ≡ true →
    pair_names (valued pairs) ≡ pair_names pairs
pair_names-valued pairs h =
    sym (pair_names-map-meant (valued pairs)) ∙ ap pair_names (map-meant-valued pairs h)

pub pairs_made-new : (pairs : List (List ℕ × Meaning)) → have_literals pairs ≡ true →
    are_new [] (pair_names pairs) ≡ true → pairs_made pairs ≡ Ok (given_by (valued pairs))
pairs_made-new pairs h new =
    let new_too : are_new [] (pair_names (valued pairs)) ≡ true =
    rw (pair_names-valued pairs h) new in
    let made : fold with_pair (Ok empty) pairs ≡ Ok (from_entries (valued pairs)) =
    rw (map-meant-valued pairs h) at (fold-with_pair [] (valued pairs) new_too) in
    rw made refl

-- ---- the values that are given

some_of : {A : Type 0} (o : Option A) (a : A) → is_some o ≡ true → o ≡ Some (unwrap_or o a)
some_of None a e = absurd (true≢false (sym e))
some_of (Some b) a e = refl

-- names of the pairs have their values in the map
values_at-from_entries : (pairs : Pairs) (names : List (List ℕ)) →
    list_all (is_among (pair_names pairs)) names ≡ true →
    values_at (from_entries pairs) names ≡ Some (map (value_named pairs) names)
values_at-from_entries pairs [] h = refl
values_at-from_entries pairs (name ∷ names) h =
    let parts = and_parts (is_among (pair_names pairs) name) _ h in
    let here : get {R = slice_cmp nat_cmp} (from_entries pairs) name
    ≡ Some (value_named pairs name) =
    get-from_entries nat_list_cmp_total pairs name
    ∙ some_of _ NULL (is_some-find (slice_cmp nat_cmp) name pairs ∙ parts.0) in
    rw (here, values_at-from_entries pairs names parts.1) refl

pub lookup-given_by : (pairs : Pairs) (names : List (List ℕ)) → 0 < length names →
    list_all (is_among (pair_names pairs)) names ≡ true →
    lookup (given_by pairs) names ≡ Ok (map (value_named pairs) names)
lookup-given_by pairs [] some h = absurd (omega (arith, some))
lookup-given_by pairs (name ∷ names) some h =
    ap (λ o. ok_or o (missing (missing_name (from_entries pairs) (name ∷ names))))
    (values_at-from_entries pairs (name ∷ names) h)

-- ---- no floats

no_float-valued : (pairs : List (List ℕ × Meaning)) → have_literals pairs ≡ true →
    have_no_float (valued pairs) ≡ true
no_float-valued [] h = refl
no_float-valued ((name, Ok value) ∷ pairs) h =
    let parts = and_parts (not (is_float value)) _ h in
    rw parts.0 (no_float-valued pairs parts.1)
no_float-valued ((name, Err duration) ∷ pairs) h = absurd (true≢false (sym h))

is_float-value_named : (pairs : Pairs) (name : List ℕ) → have_no_float pairs ≡ true →
    is_float (value_named pairs name) ≡ false
is_float-value_named [] name h = refl
is_float-value_named (pair ∷ pairs) name h =
    let parts = and_parts (not (is_float pair.1)) _ h in
    elim (cases_Bool (eq_by_cmp (slice_cmp nat_cmp) name pair.0)) [
      | inl same ↦ rw same (not-true (is_float pair.1) parts.0)
      | inr other ↦ rw other (is_float-value_named pairs name parts.1)
    ]

first_float-values : (pairs : Pairs) → have_no_float pairs ≡ true →
    (names : List (List ℕ)) (k : ℕ) → first_float_from k (map (value_named pairs) names) ≡ None
first_float-values pairs h [] k = refl
first_float-values pairs h (name ∷ names) k =
    rw (is_float-value_named pairs name h) (first_float-values pairs h names (k + 1))

pub no_float_given : (pairs : List (List ℕ × Meaning)) → have_literals pairs ≡ true →
    (names : List (List ℕ)) → first_float_from 0 (map (value_named (valued pairs)) names) ≡ None
no_float_given pairs h names = first_float-values (valued pairs) (no_float-valued pairs h) names 0
