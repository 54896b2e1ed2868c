-- The text of values that pairs give is that of the fragments that are these values.
use Rattle.std.specs.Prelude.{Bool, Option, option_and_then, option_map, Result, fold, if◌then◌else◌, is_some}
use Rattle.std.specs.Cmp.Lexicographic.{slice_cmp, nat_list_cmp_total}
use Rattle.std.specs.FinMap as finite
use Rattle.std.specs.FinMap.{contains_key, get, insert, get-empty, get-insert}
use Rattle.std.specs.Ordering.{eq_by_cmp, nat_cmp}
use Rattle.std.proofs.Common.{◌≡◌, ◌∙◌, ℕ, true, false, cond, All, List, [], ◌∷◌, map, None, Some, Ok, Err, refl, sym, ap, subst, true≢false}
use Rattle.mysql_values.specs.declared.value.Value.{Value}
use Rattle.mysql_values.specs.Value.{FieldsInRange}
use Rattle.mysql_values.specs.Literal.{literal_of}
use Rattle.mysql_named_params.specs.Places.{names}
use Rattle.mysql_named_params.specs.Reading.{IsTokensIn, wide_reading}
use Rattle.mysql_named_params.specs.Tokens.{Token}
use Rattle.mysql_portable.specs.SteadyBytes.{IsSteady}
use Rattle.mysql_params_core.specs.Given.{Given, ValueMap, empty, named}
use Rattle.mysql_params_core.specs.Lookup.{lookup, values_at}
use Rattle.mysql_params_core.specs.Made.{ToParamsRefusal, by_name, redefined, with_new, with_pair}
use Rattle.mysql_binding.specs.LiteralForm.{IsPlainLiteral, LiteralFacts, Literals as LiteralsOf, written_literal}
use Rattle.mysql_binding.specs.Pieces.{joined_text, pieces}
use Rattle.mysql_binding.specs.WrittenText.{IsGivenText}
use Rattle.mysql_binding.proofs.CauseLemmas.{ok_of}
use Rattle.mysql_binding.proofs.ValueLiteralLemmas.{mapped_literals}
use Rattle.mysql_steady_text.specs.SteadyLiteral.{steady_literal_of}
use Rattle.mysql_steady_text.specs.SteadyLiterals.{IsSteadyFor}
use Rattle.mysql_steady_text.proofs.WideSteadyLemmas.{is_steady_text_in}
use Rattle.mysql_fragments.specs.FragmentErrors as fragments
use Rattle.mysql_fragments.specs.FragmentText.{all_values, filled_text}
use Rattle.mysql_fragments.specs.GivenFragments as given_fragments
use Rattle.mysql_fragments.specs.GivenFragments.{FragmentMap, GivenFragments, fragments_at, fragments_for}
use Rattle.mysql_fragments.specs.ValueFragments.{same_cause}
use Rattle.mysql_fragments.specs.declared.fragment.Fragment.{Fragment}
use Rattle.mysql_fragments.specs.declared.fragment.Fragment.TheVariants as one
use Rattle.mysql_fragments.proofs.CauseLemmas.{or_false}
use Rattle.mysql_fragments.proofs.FilledLemmas.{written_in_range}
use Rattle.mysql_fragments.proofs.TextOfFragmentsLemmas.{plain_text_of, steady_text_of}
use Rattle.mysql_fragments.proofs.ValueFragmentLemmas.{of_values, same_first_cause, values_of}
use Rattle.mysql_bind_core.specs.Assignments.{given_of, pair_of, pairs_of}
use Rattle.mysql_bind_core.specs.Bound.{IsAssignedText}
use Rattle.mysql_bind_core.specs.Contents.{content, contents_of, has_fragment, is_value_type, named_content, value_content}
use Rattle.mysql_bind_core.specs.Entries.{IsAskedText, given_to, pair_said, with_fragment}
use Rattle.mysql_bind_core.specs.FoundPairs.{IsGivenFor, IsPairsText}
use Rattle.mysql_bind_core.specs.Requests.{mode_of}
use Rattle.mysql_bind_core.specs.ValueTypes.{typed_value}
use Rattle.mysql_bind_core.specs.declared.assignment.Assignment.{Assignment}
use Rattle.mysql_bind_core.specs.declared.request.Literals.{Literals}
use Rattle.mysql_bind_core.specs.declared.request.Literals.TheVariants.{Steady, Plain}
use Rattle.mysql_bind_core.specs.declared.request.Request.{Request}
use Rattle.mysql_bind_core.specs.declared.value_type.ValueType.{ValueType}
use Rattle.mysql_bind_core.specs.declared.value_type.ValueType.TheVariants.{Null, Text, Line, Bytes, Int, Uint, Number, Bool as Truth, Hex, Base64, Decimal, Double, Identifier, List as ListType}
use Rattle.mysql_bind_core.proofs.FewerTextLemmas.{written_all}
use Rattle.mysql_bind_core.proofs.FoundPairLemmas.{meant}

-- ---- contents

-- a pair with its value as a fragment
abbrev pub as_fragment : List ℕ × Value → List ℕ × Fragment
as_fragment pair = (pair.0, one.Value pair.1)

-- the content of a type that gives values
value_type_content : (t : ValueType) (bytes : List ℕ) → (if is_value_type t then false else true) ≡ false →
    content t bytes ≡ option_map value_content (typed_value t bytes)
value_type_content Null bytes e = refl
value_type_content Text bytes e = refl
value_type_content Line bytes e = refl
value_type_content Bytes bytes e = refl
value_type_content Int bytes e = refl
value_type_content Uint bytes e = refl
value_type_content Number bytes e = refl
value_type_content Truth bytes e = refl
value_type_content Hex bytes e = refl
value_type_content Base64 bytes e = refl
value_type_content Decimal bytes e = absurd (true≢false e)
value_type_content Double bytes e = absurd (true≢false e)
value_type_content Identifier bytes e = absurd (true≢false e)
value_type_content ListType bytes e = absurd (true≢false e)

mapped_content : (name : List ℕ) (v : Option Value) →
    option_map (λ c. (name, c)) (option_map value_content v) ≡ option_map (λ pair. pair_said (as_fragment pair)) (option_map (λ value. (name, value)) v)
mapped_content name None = refl
mapped_content name (Some v) = refl

pub one_content : (a : Assignment) → (if is_value_type a.value_type then false else true) ≡ false →
    named_content a ≡ option_map (λ pair. pair_said (as_fragment pair)) (pair_of a)
one_content a e =
    ap (option_map (λ c. (a.name.items, c))) (value_type_content a.value_type a.bytes.items e)
    ∙ mapped_content a.name.items (typed_value a.value_type a.bytes.items)

pub more_contents : {X Y : Type 0} (f : X → Y) (x : Option X) (xs : Option (List X)) (all : List X) →
    option_and_then (λ pair. option_map (λ pairs. pair ∷ pairs) xs) x ≡ Some all →
    (front : X) × (rest : List X) × (x ≡ Some front) × (xs ≡ Some rest) × (front ∷ rest ≡ all)
more_contents f None xs all e = absurd cc
more_contents f (Some front) None all e = absurd cc
more_contents f (Some front) (Some rest) all e = (front, rest, refl, refl, cc)

-- the contents of assignments that are all values
contents_are : (assignments : List Assignment) (pairs : List (List ℕ × Value)) → has_fragment assignments ≡ false → pairs_of assignments ≡ Some pairs →
    contents_of assignments ≡ Some (map pair_said (map as_fragment pairs))
contents_are [] pairs none e = let same : [] ≡ pairs = cc in ap (λ ps. Some (map pair_said (map as_fragment ps))) same
contents_are (a ∷ assignments) pairs none e =
    let n = or_false (if is_value_type a.value_type then false else true) (has_fragment assignments) none in
    let m = more_contents (λ pair. pair_said (as_fragment pair)) (pair_of a) (pairs_of assignments) pairs e in
    let here : named_content a ≡ Some (pair_said (as_fragment m.0)) = one_content a n.0 ∙ ap (option_map (λ pair. pair_said (as_fragment pair))) m.2 in
    let more = contents_are assignments m.1 n.1 m.3 in
    ap (λ o. option_and_then (λ y. option_map (λ ys. y ∷ ys) (contents_of assignments)) o) here
    ∙ ap (λ o. option_map (λ ys. pair_said (as_fragment m.0) ∷ ys) o) more
    ∙ ap (λ ps. Some (map pair_said (map as_fragment ps))) m.4

-- ---- maps

-- a map of fragments has the values of a map of values
abbrev pub HasValues : ValueMap → FragmentMap → Type 0
HasValues m entries = (name : List ℕ) → get entries name ≡ option_map (λ v. one.Value v) (get m name)

pub mapped_some : (v : Option Value) → is_some (option_map (λ v. one.Value v) v) ≡ is_some v
mapped_some None = refl
mapped_some (Some v) = refl

mapped_cond : (b : Bool) (v : Value) (o : Option Value) → cond b (Some (one.Value v)) (option_map (λ v. one.Value v) o) ≡ option_map (λ v. one.Value v) (cond b (Some v) o)
mapped_cond true v o = refl
mapped_cond false v o = refl

pub with_value : (m : ValueMap) (entries : FragmentMap) (k : List ℕ) (v : Value) → HasValues m entries → HasValues (insert m k v) (insert entries k (one.Value v))
with_value m entries k v h name =
    get-insert nat_list_cmp_total entries k (one.Value v) name
    ∙ (ap (λ o. cond (eq_by_cmp (slice_cmp nat_cmp) name k) (Some (one.Value v)) o) (h name)
    ∙ (mapped_cond (eq_by_cmp (slice_cmp nat_cmp) name k) v (get m name)
    ∙ ap (option_map (λ v. one.Value v)) (sym (get-insert nat_list_cmp_total m k v name))))

made_refused : (why : ToParamsRefusal) (pairs : List (List ℕ × Value)) (made : ValueMap) → fold with_pair (Err why) (map meant pairs) ≡ Ok made → ⊥
made_refused why [] made e = absurd cc
made_refused why (pair ∷ pairs) made e = made_refused why pairs made e

made_first : (m : ValueMap) (pair : List ℕ × Value) (pairs : List (List ℕ × Value)) (made : ValueMap) →
    fold with_pair (Ok m) (map meant (pair ∷ pairs)) ≡ Ok made →
    (contains_key m pair.0 ≡ false) × (fold with_pair (Ok (insert m pair.0 pair.1)) (map meant pairs) ≡ Ok made)
made_first m pair pairs made e = by (contains_key m pair.0) refl
  where
    found : (b : Bool) → contains_key m pair.0 ≡ b →
        fold with_pair (if b then Err (redefined pair.0) else with_new m pair.0 (Ok pair.1)) (map meant pairs) ≡ Ok made
    found b t = ap (λ (x : Bool). fold with_pair (if x then Err (redefined pair.0) else with_new m pair.0 (Ok pair.1)) (map meant pairs)) (sym t) ∙ e

    by : (b : Bool) → contains_key m pair.0 ≡ b →
        (contains_key m pair.0 ≡ false) × (fold with_pair (Ok (insert m pair.0 pair.1)) (map meant pairs) ≡ Ok made)
    by true t = absurd (made_refused (redefined pair.0) pairs made (found true t))
    by false t = (t, found false t)

-- pairs that make a map of values make one of fragments
entries_made : (pairs : List (List ℕ × Value)) (m n : ValueMap) (entries : FragmentMap) → HasValues m entries → fold with_pair (Ok m) (map meant pairs) ≡ Ok n →
    (made : FragmentMap) × (fold with_fragment (Ok entries) (map as_fragment pairs) ≡ Ok made) × HasValues n made
entries_made [] m n entries h e =
    let same : m ≡ n = cc in (entries, refl, subst (λ x. HasValues x entries) same h)
entries_made (pair ∷ pairs) m n entries h e =
    let first = made_first m pair pairs n e in
    let key : contains_key entries pair.0 ≡ false = ap is_some (h pair.0) ∙ (mapped_some (get m pair.0) ∙ first.0) in
    let step : with_fragment (Ok entries) (as_fragment pair) ≡ Ok (insert entries pair.0 (one.Value pair.1)) =
    ap (λ b. if b then Err pair.0 else Ok (insert entries pair.0 (one.Value pair.1))) key in
    let more = entries_made pairs (insert m pair.0 pair.1) n (insert entries pair.0 (one.Value pair.1)) (with_value m entries pair.0 pair.1 h) first.1 in
    (more.0, ap (λ r. fold with_fragment r (map as_fragment pairs)) step ∙ more.1, more.2)

-- ---- the values of names

with_first_value : (name : List ℕ) (v : Option Value) (rest : Option (List Value)) (values : List Value) (others : given_fragments.PlaceFragments) →
    ((vs : List Value) → rest ≡ Some vs → others ≡ Ok (of_values vs)) →
    option_and_then (λ value. option_map (λ vs. value ∷ vs) rest) v ≡ Some values →
    given_fragments.with_first name (option_map (λ v. one.Value v) v) others ≡ Ok (of_values values)
with_first_value name None rest values others h e = absurd cc
with_first_value name (Some v) None values others h e = absurd cc
with_first_value name (Some v) (Some vs) values others h e =
    let same : v ∷ vs ≡ values = cc in rw (h vs refl) (ap (λ z. Ok (of_values z)) same)

found_at : (m : ValueMap) (entries : FragmentMap) → HasValues m entries → (ns : List (List ℕ)) (values : List Value) → values_at m ns ≡ Some values →
    fragments_at entries ns ≡ Ok (of_values values)
found_at m entries h [] values e = let same : [] ≡ values = cc in ap (λ z. Ok (of_values z)) same
found_at m entries h (name ∷ ns) values e =
    ap (λ o. given_fragments.with_first name o (fragments_at entries ns)) (h name)
    ∙ with_first_value name (get m name) (values_at m ns) values (fragments_at entries ns) (found_at m entries h ns) e

-- what pairs give to a query is given to it as fragments
pairs_given : (assignments : List Assignment) (pairs : List (List ℕ × Value)) (params : Given) → pairs_of assignments ≡ Some pairs → given_of pairs ≡ Ok params →
    (entries : FragmentMap) × (fold with_fragment (Ok finite.empty) (map as_fragment pairs) ≡ Ok entries)
    × ((ns : List (List ℕ)) (values : List Value) → lookup params ns ≡ Ok values → fragments_for (given_to assignments entries ns) ns ≡ Ok (of_values values))
pairs_given [] [] params p e = (finite.empty, refl, λ ns values l. none ns values l)
  where
    nothing : empty ≡ params
    nothing = cc

    go : (ns : List (List ℕ)) (values : List Value) → lookup empty ns ≡ Ok values → fragments_for (given_to [] finite.empty ns) ns ≡ Ok (of_values values)
    go [] values l = let same : [] ≡ values = cc in ap (λ z. Ok (of_values z)) same
    go (n ∷ ns) values l = absurd cc

    none : (ns : List (List ℕ)) (values : List Value) → lookup params ns ≡ Ok values → fragments_for (given_to [] finite.empty ns) ns ≡ Ok (of_values values)
    none ns values l = go ns values (ap (λ g. lookup g ns) nothing ∙ l)
pairs_given [] (pair ∷ pairs) params p e = absurd cc
pairs_given (a ∷ assignments) [] params p e =
    let m = more_contents (λ pair. pair) (pair_of a) (pairs_of assignments) [] p in absurd (cons_nil m.4)
  where
    cons_nil : {X : Type 0} {x : X} {xs : List X} → x ∷ xs ≡ [] → ⊥
    cons_nil h = absurd cc
pairs_given (a ∷ assignments) (pair ∷ pairs) params p e =
    let made = of_named (fold with_pair (Ok finite.empty) (map meant (pair ∷ pairs))) params e in
    let entries = entries_made (pair ∷ pairs) finite.empty made.0 finite.empty nothing_has made.1 in
    (entries.0, entries.1, λ ns values l. found made.0 entries.0 entries.2 ns values (subst (λ g. lookup g ns ≡ Ok values) (sym made.2) l))
  where
    of_named : (made : Result ValueMap ToParamsRefusal) (g : Given) → by_name made ≡ Ok g → (n : ValueMap) × (made ≡ Ok n) × (named n ≡ g)
    of_named (Ok n) g h = (n, refl, cc)
    of_named (Err why) g h = absurd cc

    nothing_has : HasValues finite.empty finite.empty
    nothing_has name = get-empty (slice_cmp nat_cmp) name ∙ ap (option_map (λ v. one.Value v)) (sym (get-empty (slice_cmp nat_cmp) name))

    found : (m : ValueMap) (made : FragmentMap) → HasValues m made → (ns : List (List ℕ)) (values : List Value) → lookup (named m) ns ≡ Ok values →
        fragments_for (given_fragments.named made) ns ≡ Ok (of_values values)
    found m made h [] values l = absurd cc
    found m made h (n ∷ ns) values l = found_at m made h (n ∷ ns) values (ok_of (values_at m (n ∷ ns)) _ values l)

-- ---- the text

pub filled_values : (write : Value → List ℕ) (values : List Value) → map (filled_text write) (of_values values) ≡ map write values
filled_values write [] = refl
filled_values write (v ∷ values) = ap (λ ts. write v ∷ ts) (filled_values write values)

module _ (literal : LiteralsOf) (IsKnown : LiteralFacts) (range : (v : Value) (text : List ℕ) → IsKnown v text → FieldsInRange v)
    (ts : List Token) (params : Given) (text : List ℕ) (g : IsGivenText literal IsKnown ts params text) where
  given_range : All FieldsInRange (all_values (of_values g.values))
  given_range =
      subst (All FieldsInRange) (sym (values_of g.values)) (written_in_range literal IsKnown range g.values g.written_text.literals g.written_text.written)

  given_text : joined_text (pieces ts) (map (filled_text (written_literal literal)) (of_values g.values)) ≡ Some text
  given_text =
      ap (joined_text (pieces ts)) (filled_values (written_literal literal) g.values
      ∙ written_all literal g.values g.written_text.literals (mapped_literals literal IsKnown g.values g.written_text.literals g.written_text.written))
      ∙ g.written_text.text_is

  given_cause : (given : GivenFragments) → fragments_for given (names ts) ≡ Ok (of_values g.values) → fragments.first_cause true ts given ≡ None
  given_cause given looked = same_first_cause ts given params g.values looked g.looked_up ∙ ap (option_map same_cause) g.no_cause

-- the text of given values is that of the fragments that are these values
text_of_values : (asked : Literals) (query text : List ℕ) (ts : List Token) (params : Given) (given : GivenFragments) →
    IsTokensIn (wide_reading (mode_of asked)) query ts → (asked ≡ Steady → IsSteady query) →
    ((values : List Value) → lookup params (names ts) ≡ Ok values → fragments_for given (names ts) ≡ Ok (of_values values)) →
    IsGivenFor asked ts params text → IsAskedText asked ts given text
text_of_values Steady query text ts params given is steady looked g =
    let l = looked g.values g.looked_up in
    let steady_text = (is_steady_text_in (wide_reading false) query ts params text is (steady refl) g).steady in
    let range : (v : Value) (text : List ℕ) → IsSteadyFor v text → FieldsInRange v = λ v text k. k.3 in
    record {
      placed = steady_text_of (wide_reading false) query text ts given (of_values g.values) is l
          (given_cause steady_literal_of IsSteadyFor range ts params text g given l) (given_range steady_literal_of IsSteadyFor range ts params text g)
          (given_text steady_literal_of IsSteadyFor range ts params text g) steady_text;
      steady = λ e. steady_text;
    }
text_of_values (Plain mode) query text ts params given is steady looked g =
    let l = looked g.values g.looked_up in
    let range : (v : Value) (text : List ℕ) → IsPlainLiteral mode v text → FieldsInRange v = λ v text k. k.2 in
    record {
      placed = plain_text_of (wide_reading mode) query text ts given (of_values g.values) is l
          (given_cause (literal_of mode) (IsPlainLiteral mode) range ts params text g given l) (given_range (literal_of mode) (IsPlainLiteral mode) range ts params text g)
          (given_text (literal_of mode) (IsPlainLiteral mode) range ts params text g);
      steady = λ e. absurd cc;
    }

-- the text of the pairs of assignments is that of the assignments
pub pairs_assigned : (request : Request) (query : List ℕ) (assignments : List Assignment) (pairs : List (List ℕ × Value)) (text : List ℕ) →
    (request.literals ≡ Steady → IsSteady query) → has_fragment assignments ≡ false → pairs_of assignments ≡ Some pairs →
    IsPairsText request query pairs text → IsAssignedText request query assignments text
pairs_assigned request query assignments pairs text steady none p x =
    let m = pairs_given assignments pairs x.given p x.given_is in
    let o = x.bound in
    record {
      pairs = map as_fragment pairs;
      entries = m.0;
      contents_are = contents_are assignments pairs none p;
      entries_are = m.1;
      bound = (o.0, o.1, text_of_values request.literals query text o.0 x.given (given_to assignments m.0 (names o.0)) o.1 steady (m.2 (names o.0)) o.2);
    }
