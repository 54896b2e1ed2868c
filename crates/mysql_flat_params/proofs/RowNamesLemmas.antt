-- Names that rows have in common: the values that are found among them. A form with values under
-- these names has exactly these values.
use Rattle.std.specs.Prelude.{nat_eq, Ok, Option, Some, None, is_some, slice_get, ◌||◌, set}
use Rattle.std.proofs.Common.{◌≡◌, ◌≢◌, ℕ, zero, suc, ◌+◌, ◌-◌, ◌<◌, ◌≤◌, Bool, true, false, cond, if◌then◌else◌, List, [], ◌∷◌, ◌++◌, length, map, take, drop, get_or, inl, inr, refl, sym, ap, ◌∙◌, subst, arith}
use Rattle.std.specs.Borrow.{Bor}
use Rattle.std.specs.Ordering.{nat_cmp}
use Rattle.std.specs.Cmp.{unsigned_ties}
use Rattle.std.specs.Cmp.Lexicographic.{slice_cmp, pointwise, lists_ties, nat_list_cmp_total, bytes_decides}
use Rattle.std.specs.FinMap as finite
use Rattle.std.specs.FinMap.{get, contains_key, get-empty, get-insert}
use Rattle.std.proofs.lemmas.Bool.{cases_lt}
use Rattle.std.proofs.lemmas.Grind.{take-set_at}
use Rattle.std.proofs.lemmas.List.{take-map, take_all, get_or-map, map-append, length-map, length-append, take-append-le, get_or_append_left, get_or_at, take_at, take_more}
use Rattle.std.specs.Option.{option_map}
use Rattle.std.proofs.lemmas.Option.{get_or_from_slice_get, slice_get_within, slice_get-map, slice_get-get_or}
use Rattle.mysql_value_core.specs.declared.value.Value.{Value}
use Rattle.mysql_value_core.specs.declared.value.ValueRef.{ValueRef}
use Rattle.mysql_values.specs.BorrowedValue.{owned, owned_values}
use Rattle.mysql_named_params.specs.Places.{names, place_count}
use Rattle.mysql_named_params.specs.FirstPlace.{IsFirstPlace}
use Rattle.mysql_named_params.specs.declared.places.FoundPlace.{FoundPlace}
use Rattle.mysql_named_params.proofs.TokenEndLemmas.{slice_from}
use Rattle.mysql_named_params.specs.Reading.{OnTokensIn}
use Rattle.mysql_named_params.specs.declared.places.Reading.{Reading}
use Rattle.mysql_params_core.specs.Given.{ValueMap, empty, named}
use Rattle.mysql_params_core.specs.GivenBorrowed.{pair_map}
use Rattle.mysql_params_core.specs.Lookup.{lookup, values_at}
use Rattle.mysql_params_core.proofs.PairLemmas.{pair_map-push}
use Rattle.mysql_binding.specs.AppendedText.{AreFound}
use Rattle.mysql_binding.specs.FirstCause.{mixed_cause}
use Rattle.mysql_binding.specs.Survey.{IsSurvey}
use Rattle.mysql_binding.specs.declared.binding.survey.Survey.{Survey}
use Rattle.mysql_binding.proofs.CauseLemmas.{on_both, on_map, mixed_none_of}
use Rattle.mysql_binding.proofs.NameListLemmas.{ListedSoFar, listed_none, name_left, listed_more, listed_all}
use Rattle.mysql_flat_params.specs.FlatForm.{name_refusal, repeated_name, with_parameter, after_value, after_name, value_unless, read_parameter, IsFormReading}
use Rattle.mysql_flat_params.specs.RowNames.{names_of_pairs, values_of_pairs, is_one_of, AreOwnNames, AreAtPlaces, AreValuesAt, AreFoundNames, IsFormOfPairs, IsReadUnder, given_so_far}
use Rattle.mysql_flat_params.specs.declared.row_names.FoundNames.{FoundNames}
use Rattle.mysql_flat_params.proofs.FormLemmas.{LeadsTo, parameter_read, whole_read}

abbrev Pair : Type 0
Pair = Bor (List ℕ) × ValueRef

-- ---- the values that are found among pairs

get-first : (pair : Pair) (pairs : List Pair) (q : List ℕ) →
    get (pair_map (pair ∷ pairs)) q ≡ cond (pointwise nat_eq q pair.0.now) (Some (owned pair.1)) (get (pair_map pairs) q)
get-first pair pairs q =
    get-insert nat_list_cmp_total (pair_map pairs) pair.0.now (owned pair.1) q
    ∙ ap (λ b. cond b (Some (owned pair.1)) (get (pair_map pairs) q))
    (sym (lists_ties nat_cmp unsigned_ties q pair.0.now))

either : (b : Bool) (value : Value) (other : Option Value) → is_some (cond b (Some value) other) ≡ (b || is_some other)
either true value other = refl
either false value other = refl

-- a name has a value if it is one of theirs
pub contains_one_of : (pairs : List Pair) (q : List ℕ) → contains_key (pair_map pairs) q ≡ is_one_of (names_of_pairs pairs) q
contains_one_of [] q = ap is_some (get-empty (slice_cmp nat_cmp) q)
contains_one_of (pair ∷ pairs) q =
    ap is_some (get-first pair pairs q)
    ∙ either (pointwise nat_eq q pair.0.now) (owned pair.1) (get (pair_map pairs) q)
    ∙ ap (λ b. pointwise nat_eq q pair.0.now || b) (contains_one_of pairs q)

neither : (a b : Bool) → (a || b) ≡ false → (a ≡ false) × (b ≡ false)
neither true b h = cc
neither false b h = (refl, h)

-- the value of a name that is none of those before it
get_at : (pairs : List Pair) (i : ℕ) (q : List ℕ) (value : ValueRef) →
    slice_get (names_of_pairs pairs) i ≡ Some q → slice_get (values_of_pairs pairs) i ≡ Some value →
    is_one_of (take i (names_of_pairs pairs)) q ≡ false → get (pair_map pairs) q ≡ Some (owned value)
get_at [] i q value is has new = cc
get_at (pair ∷ pairs) zero q value is has new =
    let name : pair.0.now ≡ q = cc in
    let same : pair.1 ≡ value = cc in
    get-first pair pairs q
    ∙ ap (λ b. cond b (Some (owned pair.1)) (get (pair_map pairs) q)) ((bytes_decides q pair.0.now).1 (sym name))
    ∙ ap (λ v. Some (owned v)) same
get_at (pair ∷ pairs) (suc i) q value is has new =
    let other = neither (pointwise nat_eq q pair.0.now) (is_one_of (take i (names_of_pairs pairs)) q) new in
    get-first pair pairs q
    ∙ ap (λ b. cond b (Some (owned pair.1)) (get (pair_map pairs) q)) other.0
    ∙ get_at pairs i q value is has other.1

-- the values at the places are those of the names that are wanted there
pub values_found : (pairs : List Pair) → AreOwnNames (names_of_pairs pairs) →
    (places : List ℕ) (wanted : List (List ℕ)) (values : List ValueRef) →
    AreAtPlaces (names_of_pairs pairs) places wanted → AreValuesAt pairs places values →
    values_at (pair_map pairs) wanted ≡ Some (owned_values values)
values_found pairs own [] [] [] at has = refl
values_found pairs own [] (name ∷ wanted) values at has = cc
values_found pairs own [] [] (value ∷ values) at has = cc
values_found pairs own (place ∷ places) [] values at has = cc
values_found pairs own (place ∷ places) (name ∷ wanted) [] at has = cc
values_found pairs own (place ∷ places) (name ∷ wanted) (value ∷ values) at has =
    let name_is : slice_get (names_of_pairs pairs) place ≡ Some name = cc in
    let value_is : slice_get (values_of_pairs pairs) place ≡ Some value = cc in
    let names_are : AreAtPlaces (names_of_pairs pairs) places wanted = cc in
    let values_are : AreValuesAt pairs places values = cc in
    let new : is_one_of (take place (names_of_pairs pairs)) name ≡ false =
    subst (λ n. is_one_of (take place (names_of_pairs pairs)) n ≡ false) (get_or_from_slice_get (names_of_pairs pairs) place name [] name_is)
    (own place (slice_get_within (names_of_pairs pairs) place name name_is)).1 in
    rw (get_at pairs place name value name_is value_is new, values_found pairs own places wanted values names_are values_are) refl

-- .. so these are looked up
lookup_found : (entries : ValueMap) (wanted : List (List ℕ)) (values : List Value) → wanted ≢ [] →
    values_at entries wanted ≡ Some values → lookup (named entries) wanted ≡ Ok values
lookup_found entries [] values some is = absurd (some refl)
lookup_found entries (name ∷ wanted) values some is = rw is refl

pub found_in_query : (reading : Reading) (query : List ℕ) (found : FoundNames) (values : List ValueRef) →
    AreFoundNames reading query found → AreValuesAt found.pairs.items found.places.items values →
    OnTokensIn reading query (AreFound (named (pair_map found.pairs.items)) (owned_values values))
found_in_query reading query found values names_found has =
    let (ts, is, (unmixed, some, at)) = names_found.at_places in (
      ts,
      is,
      (
        unmixed,
        lookup_found (pair_map found.pairs.items) (names ts) (owned_values values) some
            (values_found found.pairs.items names_found.own found.places.items (names ts) values at has),
      ),
    )

-- ---- reading under names

no_refusal : (place position at : ℕ) (pairs : List Pair) (name : List ℕ) → name ≢ [] →
    is_one_of (names_of_pairs pairs) name ≡ false → name_refusal place position at (given_so_far pairs) name ≡ None
no_refusal place position at [] name some new = refl
no_refusal place position at (pair ∷ pairs) [] some new = absurd (some refl)
no_refusal place position at (pair ∷ pairs) (b ∷ name) some new =
    ap (λ c. if c then Some (repeated_name place at (length (b ∷ name))) else None) (contains_one_of (pair ∷ pairs) (b ∷ name) ∙ new)

with_first : (name : List ℕ) (value : Value) → name ≢ [] → with_parameter empty name value ≡ named (finite.insert finite.empty name value)
with_first [] value some = absurd (some refl)
with_first (b ∷ name) value some = refl

with_more : (pairs : List Pair) (pair : Pair) → pair.0.now ≢ [] → is_one_of (names_of_pairs pairs) pair.0.now ≡ false →
    with_parameter (given_so_far pairs) pair.0.now (owned pair.1) ≡ given_so_far (pairs ++ pair ∷ [])
with_more [] pair some new =
    with_first pair.0.now (owned pair.1) some
    ∙ ap named (sym (pair_map-push [] pair (contains_one_of [] pair.0.now)))
with_more (first ∷ pairs) pair some new =
    ap named (sym (pair_map-push (first ∷ pairs) pair (contains_one_of (first ∷ pairs) pair.0.now ∙ new)))

-- a parameter under the next name is read
parameter_under : (total place : ℕ) (pairs : List Pair) (pair : Pair) (bytes next : List ℕ) →
    pair.0.now ≢ [] → is_one_of (names_of_pairs pairs) pair.0.now ≡ false →
    IsReadUnder place (total - length bytes) pair.0.now (owned pair.1) bytes next →
    read_parameter total place (given_so_far pairs) bytes ≡ Ok (given_so_far (pairs ++ pair ∷ []), next)
parameter_under total place pairs pair bytes next some new (middle, name_is, value_is) =
    let position : ℕ = total - length bytes in
    let at : ℕ = total - length middle - length pair.0.now in
    ap (after_name total place position (given_so_far pairs)) name_is
    ∙ ap (λ r. value_unless r place position (given_so_far pairs) pair.0.now middle) (no_refusal place position at pairs pair.0.now some new)
    ∙ ap (after_value (given_so_far pairs) pair.0.now) value_is
    ∙ ap (λ g. Ok (g, next)) (with_more pairs pair some new)

-- no name is read where nothing is left
pub some_bytes : (place position : ℕ) (name : List ℕ) (value : Value) (bytes next : List ℕ) →
    IsReadUnder place position name value bytes next → bytes ≢ []
some_bytes place position name value [] next (middle, name_is, value_is) e = cc
some_bytes place position name value (b ∷ bytes) next h e = cc

-- the pairs have the names that they had, and those up to an index are the pairs of the form so far
pub record ReadSoFar (form : List ℕ) (old pairs : List Pair) (i : ℕ) (rest : List ℕ) : Type 0 where
  pub names_are : names_of_pairs pairs ≡ names_of_pairs old
  pub within : length rest ≤ length form
  pub leads : LeadsTo (length form) 0 empty form i (given_so_far (take i pairs)) rest

pub none_read : (form : List ℕ) (pairs : List Pair) → ReadSoFar form pairs pairs 0 form
none_read form pairs = record {
  names_are = refl;
  within = omega arith;
  leads = λ reading h. h;
}

-- a pair with another value has its name
same_names : (pairs : List Pair) (i : ℕ) (d : Pair) (name : Bor (List ℕ)) (value : ValueRef) → i < length pairs →
    name.now ≡ (get_or pairs i d).0.now → names_of_pairs (set pairs i (name, value)) ≡ names_of_pairs pairs
same_names [] i d name value below is = absurd (omega arith)
same_names (pair ∷ pairs) zero d name value below is = ap (λ n. n ∷ names_of_pairs pairs) is
same_names (pair ∷ pairs) (suc i) d name value below is =
    ap (λ ns. pair.0.now ∷ ns) (same_names pairs i d name value (omega arith) is)

module _ (form : List ℕ) (old pairs : List Pair) (i : ℕ) (rest : List ℕ) (s : ReadSoFar form old pairs i rest) where
  pub one_more_read : AreOwnNames (names_of_pairs old) → (d : Pair) (name : Bor (List ℕ)) (value : ValueRef) (next : List ℕ) → i < length pairs →
      name.now ≡ (get_or pairs i d).0.now → IsReadUnder i (length form - length rest) name.now (owned value) rest next →
      ReadSoFar form old (set pairs i (name, value)) (i + 1) next
  one_more_read own d name value next below name_is h =
      let listed : get_or (names_of_pairs pairs) i [] ≡ name.now = get_or-map (λ (pair : Pair). pair.0.now) pairs i d [] below ∙ sym name_is in
      let within_names : i < length (names_of_pairs old) = omega (arith, below, ap length s.names_are, length-map pairs (λ (pair : Pair). pair.0.now)) in
      let here = own i within_names in
      let some : name.now ≢ [] = subst (λ n. n ≢ []) listed (subst (λ ns. get_or ns i [] ≢ []) (sym s.names_are) here.0) in
      let new_here : is_one_of (take i (names_of_pairs pairs)) (get_or (names_of_pairs pairs) i []) ≡ false =
      subst (λ ns. is_one_of (take i ns) (get_or ns i []) ≡ false) (sym s.names_are) here.1 in
      let new : is_one_of (names_of_pairs (take i pairs)) name.now ≡ false =
      subst (λ ns. is_one_of ns name.now ≡ false) (take-map (λ (pair : Pair). pair.0.now) i pairs)
      (subst (λ n. is_one_of (take i (names_of_pairs pairs)) n ≡ false) listed new_here) in
      let step = parameter_read (length form) 0 empty form i (given_so_far (take i pairs)) rest (given_so_far (take i pairs ++ (name, value) ∷ [])) next (i + 1)
      s.leads (some_bytes i (length form - length rest) name.now (owned value) rest next h)
      (parameter_under (length form) i (take i pairs) (name, value) rest next some new h) refl in
      record {
        names_are = same_names pairs i d name value below name_is ∙ s.names_are;
        within = omega (arith, s.within, step.1);
        leads = subst (λ ps. LeadsTo (length form) 0 empty form (i + 1) (given_so_far ps) next) (sym (take-set_at pairs i (i + 1) (name, value) refl below)) step.0;
      }

  some_given : (ps : List Pair) → 0 < length ps → given_so_far ps ≡ named (pair_map ps)
  some_given [] some = absurd (omega arith)
  some_given (pair ∷ ps) some = refl

  pub all_read : 0 < length pairs → length pairs ≤ i → rest ≡ [] → IsFormOfPairs form pairs
  all_read some done none =
      subst (λ g. IsFormReading form (Ok g)) (ap given_so_far (take_all i pairs done) ∙ some_given pairs some)
      (whole_read (length form) 0 empty form i (given_so_far (take i pairs)) rest s.leads none)

-- ---- names that differ

-- one name more
pub own_more : (ns : List (List ℕ)) (name : List ℕ) → AreOwnNames ns → name ≢ [] → is_one_of ns name ≡ false → AreOwnNames (ns ++ name ∷ [])
own_more ns name own some new i below =
    elim (cases_lt i (length ns)) [
      | inl before ↦
          let before_is : take i (ns ++ name ∷ []) ≡ take i ns = take-append-le i ns (name ∷ []) (omega arith) in
          let name_is : get_or (ns ++ name ∷ []) i [] ≡ get_or ns i [] = get_or_append_left ns (name ∷ []) [] i before in (
            subst (λ n. n ≢ []) (sym name_is) (own i before).0,
            ap (λ ms. is_one_of ms (get_or (ns ++ name ∷ []) i [])) before_is ∙ (ap (is_one_of (take i ns)) name_is ∙ (own i before).1),
          )
      | inr past ↦
          let here : i ≡ length ns = omega (arith, past, below, length-append ns (name ∷ [])) in
          let before_is : take i (ns ++ name ∷ []) ≡ ns = take_at ns (name ∷ []) i (sym here) in
          let name_is : get_or (ns ++ name ∷ []) i [] ≡ name = get_or_at ns name [] [] i (sym here) in (
            subst (λ n. n ≢ []) (sym name_is) some,
            ap (λ ms. is_one_of ms (get_or (ns ++ name ∷ []) i [])) before_is ∙ (ap (is_one_of ns) name_is ∙ new),
          )
    ]

-- no names
pub own_none : AreOwnNames []
own_none i below = absurd (omega arith)

-- the names of one pair more
pub names_more : (pairs : List Pair) (pair : Pair) → names_of_pairs (pairs ++ pair ∷ []) ≡ names_of_pairs pairs ++ pair.0.now ∷ []
names_more pairs pair = map-append (λ (p : Pair). p.0.now) pairs (pair ∷ [])

-- the first pair of a form
pub own_first : (pair : Pair) → pair.0.now ≢ [] → AreOwnNames (names_of_pairs (pair ∷ []))
own_first pair some = own_more [] pair.0.now own_none some refl

-- a name that has no number yet differs from the others
pub own_pair : (pairs : List Pair) (pair : Pair) → AreOwnNames (names_of_pairs pairs) → pair.0.now ≢ [] →
    contains_key (pair_map pairs) pair.0.now ≡ false → AreOwnNames (names_of_pairs (pairs ++ pair ∷ []))
own_pair pairs pair own some new =
    subst AreOwnNames (sym (names_more pairs pair))
    (own_more (names_of_pairs pairs) pair.0.now own some (sym (contains_one_of pairs pair.0.now) ∙ new))

-- .. and its number is that of the pairs
pub numbers_pair : (numbers numbers' : ValueMap) (pairs : List Pair) (pair : Pair) → numbers ≡ pair_map pairs →
    contains_key numbers pair.0.now ≡ false → numbers' ≡ finite.insert numbers pair.0.now (owned pair.1) →
    numbers' ≡ pair_map (pairs ++ pair ∷ [])
numbers_pair numbers numbers' pairs pair same new is =
    is ∙ ap (λ m. finite.insert m pair.0.now (owned pair.1)) same
    ∙ sym (pair_map-push pairs pair (subst (λ m. contains_key m pair.0.now ≡ false) same new))

-- a vector with the next pair
pub own_pushed : (pairs items : List Pair) (pair : Pair) → items ≡ pairs ++ pair ∷ [] → AreOwnNames (names_of_pairs pairs) →
    pair.0.now ≢ [] → contains_key (pair_map pairs) pair.0.now ≡ false → (0 < length items) × AreOwnNames (names_of_pairs items)
own_pushed pairs items pair pushed own some new = (
  omega (arith, ap length pushed, length-append pairs (pair ∷ [])),
  subst (λ ps. AreOwnNames (names_of_pairs ps)) (sym pushed) (own_pair pairs pair own some new),
)

pub numbers_pushed : (numbers numbers' : ValueMap) (pairs items : List Pair) (pair : Pair) → items ≡ pairs ++ pair ∷ [] →
    numbers ≡ pair_map pairs → contains_key numbers pair.0.now ≡ false →
    numbers' ≡ finite.insert numbers pair.0.now (owned pair.1) → numbers' ≡ pair_map items
numbers_pushed numbers numbers' pairs items pair pushed same new is =
    numbers_pair numbers numbers' pairs pair same new is ∙ sym (ap pair_map pushed)

-- ---- names that were found

-- with other values they are still found
pub found_kept : (reading : Reading) (query : List ℕ) (found more : FoundNames) → AreFoundNames reading query found →
    names_of_pairs more.pairs.items ≡ names_of_pairs found.pairs.items → more.places.items ≡ found.places.items →
    AreFoundNames reading query more
found_kept reading query found more f same places = record {
  some = omega (arith, f.some, ap length same, length-map more.pairs.items (λ (p : Pair). p.0.now), length-map found.pairs.items (λ (p : Pair). p.0.now));
  own = subst AreOwnNames (sym same) f.own;
  at_places = subst (λ ns. OnTokensIn reading query (λ ts. (mixed_cause ts ≡ None) × (names ts ≢ []) × AreAtPlaces ns more.places.items (names ts))) (sym same)
      (subst (λ ps. OnTokensIn reading query (λ ts. (mixed_cause ts ≡ None) × (names ts ≢ []) × AreAtPlaces (names_of_pairs found.pairs.items) ps (names ts))) (sym places) f.at_places);
}

-- a query with names and without marks
pub some_unmixed : (reading : Reading) (query : List ℕ) (survey : Survey) → OnTokensIn reading query (IsSurvey survey) → survey.names ≢ 0 → survey.marks ≤ 0 →
    OnTokensIn reading query (λ ts. (mixed_cause ts ≡ None) × (names ts ≢ []))
some_unmixed reading query survey surveyed some none =
    on_map reading query (IsSurvey survey) (λ ts. (mixed_cause ts ≡ None) × (names ts ≢ []))
    (λ ts is h. (
      mixed_none_of ts survey.names survey.marks h.0 h.1 (omega arith),
      λ e. some (h.0 ∙ ap length e),
    )) surveyed

pub places_found : (reading : Reading) (query : List ℕ) (ns : List (List ℕ)) (places : List ℕ) →
    OnTokensIn reading query (λ ts. (mixed_cause ts ≡ None) × (names ts ≢ [])) → OnTokensIn reading query (λ ts. AreAtPlaces ns places (names ts)) →
    OnTokensIn reading query (λ ts. (mixed_cause ts ≡ None) × (names ts ≢ []) × AreAtPlaces ns places (names ts))
places_found reading query ns places some at =
    on_map reading query (λ ts. ((mixed_cause ts ≡ None) × (names ts ≢ [])) × AreAtPlaces ns places (names ts))
    (λ ts. (mixed_cause ts ≡ None) × (names ts ≢ []) × AreAtPlaces ns places (names ts))
    (λ ts is h. (h.0.0, h.0.1, h.1))
    (on_both reading query (λ ts. (mixed_cause ts ≡ None) × (names ts ≢ [])) (λ ts. AreAtPlaces ns places (names ts)) some at)

-- ---- the places of a query

-- at the indices so far are the names that are listed so far
pub record NumberedSoFar (reading : Reading) (query rest : List ℕ) (count : ℕ) (ns : List (List ℕ)) (places : List ℕ) : Type 0 where
  pub list : List (List ℕ)
  pub listed : ListedSoFar reading query rest count list
  pub numbered : map (slice_get ns) places ≡ map Some list

pub numbered_none : (reading : Reading) (query : List ℕ) (count : ℕ) (ns : List (List ℕ)) (places : List ℕ) →
    OnTokensIn reading query (λ ts. (count ≡ length (names ts)) × (mixed_cause ts ≡ None)) → places ≡ [] →
    NumberedSoFar reading query query count ns places
numbered_none reading query count ns places o nil = record {
  list = [];
  listed = listed_none reading query count [] o refl;
  numbered = ap (map (slice_get ns)) nil;
}

module _ (reading : Reading) (query rest : List ℕ) (count : ℕ) (ns : List (List ℕ)) (places : List ℕ) (s : NumberedSoFar reading query rest count ns places) where
  as_long : length s.list ≡ length places
  as_long = sym (length-map s.list Some) ∙ (sym (ap length s.numbered) ∙ length-map places (slice_get ns))

  pub number_left : length places < count → OnTokensIn reading rest (λ us. place_count us ≡ 0) → ⊥
  number_left missing o = name_left reading query rest count s.list s.listed (omega (arith, missing, as_long)) o

  pub numbered_more : (place after : List ℕ) (places' : List ℕ) (number : ℕ) (name : List ℕ) (found : FoundPlace) →
      length places < count → OnTokensIn reading rest (λ us. IsFirstPlace us found) →
      place ≡ take found.len (drop found.before rest) → after ≡ drop (found.before + found.len) rest →
      places' ≡ places ++ number ∷ [] → name ≡ slice_from 1 place → slice_get ns number ≡ Some name →
      NumberedSoFar reading query after count ns places'
  numbered_more place after places' number name found missing o place_is after_is more name_is at = record {
    list = s.list ++ name ∷ [];
    listed = listed_more reading query rest count s.list s.listed place after name found
        (omega (arith, missing, as_long)) o place_is after_is name_is;
    numbered = ap (map (slice_get ns)) more
        ∙ (map-append (slice_get ns) places (number ∷ [])
        ∙ (ap (λ xs. xs ++ slice_get ns number ∷ []) s.numbered
        ∙ (ap (λ x. map Some s.list ++ x ∷ []) at
        ∙ sym (map-append Some s.list (name ∷ [])))));
  }

  pub numbered_all : count ≤ length places → OnTokensIn reading query (λ ts. AreAtPlaces ns places (names ts))
  numbered_all done =
      let (ts, is, names_are) = listed_all reading query rest count s.list s.listed (omega (arith, done, as_long)) in
      (ts, is, s.numbered ∙ ap (map Some) names_are)

-- ---- the values at places

-- an index among the names is within the pairs
pub place_within : (pairs : List Pair) (places : List ℕ) (wanted : List (List ℕ)) (k d : ℕ) → k < length places →
    AreAtPlaces (names_of_pairs pairs) places wanted → get_or places k d < length pairs
place_within pairs [] wanted k d below at = absurd (omega arith)
place_within pairs (place ∷ places) [] k d below at = cc
place_within pairs (place ∷ places) (name ∷ wanted) zero d below at =
    let name_is : slice_get (names_of_pairs pairs) place ≡ Some name = cc in
    omega (arith, slice_get_within (names_of_pairs pairs) place name name_is, length-map pairs (λ (pair : Pair). pair.0.now))
place_within pairs (place ∷ places) (name ∷ wanted) (suc k) d below at =
    let names_are : AreAtPlaces (names_of_pairs pairs) places wanted = cc in
    place_within pairs places wanted k d (omega arith) names_are

-- the name at an index
pub name_at : (pairs : List Pair) (i : ℕ) (d : Pair) (name : List ℕ) → i < length pairs → (get_or pairs i d).0.now ≡ name →
    slice_get (names_of_pairs pairs) i ≡ Some name
name_at pairs i d name below is =
    slice_get-map (λ (pair : Pair). pair.0.now) pairs i
    ∙ (ap (option_map (λ (pair : Pair). pair.0.now)) (slice_get-get_or pairs i d below)
    ∙ ap (λ n. Some n) is)

-- the value at an index
pub value_is : (pairs : List Pair) (i : ℕ) (d : Pair) (value : ValueRef) → i < length pairs → value ≡ (get_or pairs i d).1 →
    slice_get (values_of_pairs pairs) i ≡ Some value
value_is pairs i d value below is =
    slice_get-map (λ (pair : Pair). pair.1) pairs i
    ∙ (ap (option_map (λ (pair : Pair). pair.1)) (slice_get-get_or pairs i d below)
    ∙ ap (λ v. Some v) (sym is))

-- the value of one place more
pub values_more : (pairs : List Pair) (places : List ℕ) (k d : ℕ) (values values' : List ValueRef) (value : ValueRef) →
    k < length places → AreValuesAt pairs (take k places) values →
    slice_get (values_of_pairs pairs) (get_or places k d) ≡ Some value →
    values' ≡ values ++ value ∷ [] → AreValuesAt pairs (take (k + 1) places) values'
values_more pairs places k d values values' value below so_far here more =
    ap (map (slice_get (values_of_pairs pairs))) (take_more places k d below)
    ∙ (map-append (slice_get (values_of_pairs pairs)) (take k places) (get_or places k d ∷ [])
    ∙ (ap (λ xs. xs ++ slice_get (values_of_pairs pairs) (get_or places k d) ∷ []) so_far
    ∙ (ap (λ x. map Some values ++ x ∷ []) here
    ∙ (sym (map-append Some values (value ∷ []))
    ∙ ap (map Some) (sym more)))))
