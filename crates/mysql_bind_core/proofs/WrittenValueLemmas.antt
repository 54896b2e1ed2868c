-- A text that is written for assignments that are all values is the one of these values.
use Rattle.std.specs.Prelude.{Bool, Option, if◌then◌else◌, ok_or, option_and_then, option_map, fold, is_some}
use Rattle.std.specs.Cmp.Lexicographic.{slice_cmp}
use Rattle.std.specs.FinMap as finite
use Rattle.std.specs.FinMap.{contains_key, get, insert, get-empty}
use Rattle.std.specs.Ordering.{nat_cmp}
use Rattle.std.proofs.Common.{◌≡◌, ◌∙◌, ◌+◌, ℕ, true, false, All, List, [], ◌∷◌, map, None, Some, Ok, Err, refl, sym, ap, subst, arith}
use Rattle.std.proofs.lemmas.List.Elements.{All-tail}
use Rattle.mysql_values.specs.declared.value.Value.{Value}
use Rattle.mysql_values.specs.Literal.{is_float}
use Rattle.mysql_values.specs.Value.{FieldsInRange}
use Rattle.mysql_named_params.specs.Places.{names}
use Rattle.mysql_named_params.specs.Reading.{IsTokensIn, OnWideTokens, wide_reading}
use Rattle.mysql_named_params.specs.Tokens.{Token}
use Rattle.mysql_portable.specs.SteadyBytes.{IsSteady}
use Rattle.mysql_params_core.specs.Given.{Given, ValueMap, empty, named}
use Rattle.mysql_params_core.specs.Lookup.{lookup, values_at}
use Rattle.mysql_params_core.specs.Made.{by_name, redefined, with_new, with_pair}
use Rattle.mysql_binding.specs.FirstCause as bound
use Rattle.mysql_binding.specs.Isolation.{IsBoundText}
use Rattle.mysql_binding.specs.LiteralForm.{AreWrittenAs}
use Rattle.mysql_binding.proofs.CauseLemmas.{map_none, no_cause_parts, no_float_cause}
use Rattle.mysql_binding.proofs.ValueLiteralLemmas.{has_literal, none_step}
use Rattle.mysql_binding.specs.Pieces.{joined_text, pieces}
use Rattle.mysql_steady_text.specs.SteadyLiteral.{steady_literal_of, steady_literal_text}
use Rattle.mysql_steady_text.specs.SteadyLiterals.{IsSteadyFor}
use Rattle.mysql_steady_text.specs.SteadyText.{IsSteadyText}
use Rattle.mysql_steady_text.proofs.BothModesTextLemmas.{steady_known}
use Rattle.mysql_steady_text.proofs.SteadyLiteralLemmas.{steady_float}
use Rattle.mysql_steady_text.proofs.WideSteadyLemmas.{is_steady_text_in}
use Rattle.mysql_fragments.specs.FragmentText.{all_values, filled_text}
use Rattle.mysql_fragments.specs.GivenFragments as given_fragments
use Rattle.mysql_fragments.specs.GivenFragments.{FragmentMap, GivenFragments, PlaceFragments, fragments_at, fragments_for, missing, with_first}
use Rattle.mysql_fragments.specs.ValueFragments.{same_cause}
use Rattle.mysql_fragments.specs.declared.fragment.Fragment.{Fragment}
use Rattle.mysql_fragments.specs.declared.fragment.Fragment.TheVariants as one
use Rattle.mysql_fragments.proofs.CauseLemmas.{or_false}
use Rattle.mysql_fragments.proofs.ValueFragmentLemmas.{of_values, same_first_cause, same_text, values_of}
use Rattle.mysql_bind_core.specs.Assignments.{given_of, pair_of, pairs_of}
use Rattle.mysql_bind_core.specs.Bound.{IsAssignedText}
use Rattle.mysql_bind_core.specs.Contents.{contents_of, has_fragment, is_value_type, named_content, said, value_content}
use Rattle.mysql_bind_core.specs.Entries.{IsAskedText, given_to, pair_said, with_fragment}
use Rattle.mysql_bind_core.specs.Requests.{mode_of}
use Rattle.mysql_bind_core.specs.declared.assignment.Assignment.{Assignment}
use Rattle.mysql_bind_core.specs.declared.request.Literals.{Literals}
use Rattle.mysql_bind_core.specs.declared.request.Literals.TheVariants.{Plain, Steady}
use Rattle.mysql_bind_core.specs.declared.request.Request.{Request}
use Rattle.mysql_bind_core.proofs.FoundPairLemmas.{meant}
use Rattle.mysql_bind_core.proofs.FragmentTextLemmas.{bound_for}
use Rattle.mysql_bind_core.proofs.OneWrittenLemmas.{inserted_first}
use Rattle.mysql_bind_core.proofs.PairsTextLemmas.{HasValues, as_fragment, filled_values, mapped_some, more_contents, one_content, with_value}

-- ---- the values of assignments

-- a fragment that says a value is this value
said_value : (f : Fragment) (v : Value) → said f ≡ value_content v → f ≡ one.Value v
said_value (one.Value w) v e = let same : w ≡ v = cc in ap (λ x. one.Value x) same
said_value (one.Decimal text) v e = absurd cc
said_value (one.Double double) v e = absurd cc
said_value (one.List items) v e = absurd cc
said_value (one.Rows rows) v e = absurd cc
said_value (one.Identifier name) v e = absurd cc
said_value (one.Qualified names) v e = absurd cc
said_value (one.Keyword word) v e = absurd cc
said_value (one.Identifiers columns) v e = absurd cc
said_value (one.Assignments assignments) v e = absurd cc

value_from : (o : Option (List ℕ × Value)) (p : List ℕ × Fragment) → option_map (λ pair. pair_said (as_fragment pair)) o ≡ Some (pair_said p) →
    (w : List ℕ × Value) × (o ≡ Some w) × (p ≡ as_fragment w)
value_from None p e = absurd cc
value_from (Some w) p e =
    let both : pair_said (as_fragment w) ≡ pair_said p = cc in
    let name : w.0 ≡ p.0 = ap (λ z. z.0) both in
    let content : value_content w.1 ≡ said p.1 = ap (λ z. z.1) both in
    let fragment : p.1 ≡ one.Value w.1 = said_value p.1 w.1 (sym content) in
    (w, refl, λ i. (sym name i, fragment i))

-- the fragments of assignments that are all values are their values
values_from : (assignments : List Assignment) (pairs : List (List ℕ × Fragment)) → has_fragment assignments ≡ false →
    contents_of assignments ≡ Some (map pair_said pairs) →
    (values : List (List ℕ × Value)) × (pairs_of assignments ≡ Some values) × (pairs ≡ map as_fragment values)
values_from [] [] none e = ([], refl, refl)
values_from [] (p ∷ pairs) none e = absurd cc
values_from (a ∷ assignments) [] none e =
    let m = more_contents (λ c. c) (named_content a) (contents_of assignments) [] e in
    let bad = m.4 in absurd cc
values_from (a ∷ assignments) (p ∷ pairs) none e =
    let n = or_false (if_fragment a) (has_fragment assignments) none in
    let m = more_contents (λ c. c) (named_content a) (contents_of assignments) (map pair_said (p ∷ pairs)) e in
    let parts = m.4 in
    let head : m.0 ≡ pair_said p = cc in
    let tail : m.1 ≡ map pair_said pairs = cc in
    let here = value_from (pair_of a) p (sym (one_content a n.0) ∙ (m.2 ∙ ap Some head)) in
    let more = values_from assignments pairs n.1 (m.3 ∙ ap Some tail) in (
      here.0 ∷ more.0,
      ap (option_and_then (λ pair. option_map (λ ps. pair ∷ ps) (pairs_of assignments))) here.1 ∙ ap (option_map (λ ps. here.0 ∷ ps)) more.1,
      λ i. here.2 i ∷ more.2 i,
    )
  where
    if_fragment : Assignment → Bool
    if_fragment b = if is_value_type b.value_type then false else true

-- ---- maps

-- pairs that make a map of fragments make one of their values
values_made : (pairs : List (List ℕ × Value)) (m : ValueMap) (entries made : FragmentMap) → HasValues m entries →
    fold with_fragment (Ok entries) (map as_fragment pairs) ≡ Ok made →
    (n : ValueMap) × (fold with_pair (Ok m) (map meant pairs) ≡ Ok n) × HasValues n made
values_made [] m entries made h e =
    let same : entries ≡ made = cc in (m, refl, subst (HasValues m) same h)
values_made (pair ∷ pairs) m entries made h e =
    let first = inserted_first entries (as_fragment pair) (map as_fragment pairs) made e in
    let key : contains_key m pair.0 ≡ false = sym (mapped_some (get m pair.0)) ∙ (ap is_some (sym (h pair.0)) ∙ first.0) in
    let step : with_pair (Ok m) (meant pair) ≡ Ok (insert m pair.0 pair.1) =
    ap (λ b. if b then Err (redefined pair.0) else with_new m pair.0 (Ok pair.1)) key in
    let more = values_made pairs (insert m pair.0 pair.1) (insert entries pair.0 (one.Value pair.1)) made (with_value m entries pair.0 pair.1 h) first.1 in
    (more.0, ap (λ r. fold with_pair r (map meant pairs)) step ∙ more.1, more.2)

-- ---- the values of names

first_looked : (name : List ℕ) (v : Option Value) (others : PlaceFragments) (fragments : List Fragment) (rest : Option (List Value)) →
    ((fs : List Fragment) → others ≡ Ok fs → (vs : List Value) × (rest ≡ Some vs) × (fs ≡ of_values vs)) →
    with_first name (option_map (λ v. one.Value v) v) others ≡ Ok fragments →
    (values : List Value) × (option_and_then (λ value. option_map (λ vs. value ∷ vs) rest) v ≡ Some values) × (fragments ≡ of_values values)
first_looked name None others fragments rest h e = absurd cc
first_looked name (Some v) (Err why) fragments rest h e = absurd cc
first_looked name (Some v) (Ok fs) fragments rest h e =
    let x = h fs refl in
    let same : one.Value v ∷ fs ≡ fragments = cc in
    (v ∷ x.0, ap (option_map (λ vs. v ∷ vs)) x.1, sym same ∙ ap (λ z. one.Value v ∷ z) x.2)

looked_at : (m : ValueMap) (entries : FragmentMap) → HasValues m entries → (ns : List (List ℕ)) (fragments : List Fragment) →
    fragments_at entries ns ≡ Ok fragments → (values : List Value) × (values_at m ns ≡ Some values) × (fragments ≡ of_values values)
looked_at m entries h [] fragments e = let same : [] ≡ fragments = cc in ([], refl, sym same)
looked_at m entries h (name ∷ ns) fragments e =
    first_looked name (get m name) (fragments_at entries ns) fragments (values_at m ns) (looked_at m entries h ns)
    (ap (λ o. with_first name o (fragments_at entries ns)) (sym (h name)) ∙ e)

-- values that are given to a query are those of the fragments that are given to it
AreLooked : Given → List Assignment → FragmentMap → Type 0
AreLooked params assignments entries = (ns : List (List ℕ)) (fragments : List Fragment) → fragments_for (given_to assignments entries ns) ns ≡ Ok fragments →
    (values : List Value) × (lookup params ns ≡ Ok values) × (fragments ≡ of_values values)

given_values : (assignments : List Assignment) (pairs : List (List ℕ × Value)) (entries : FragmentMap) → pairs_of assignments ≡ Some pairs →
    fold with_fragment (Ok finite.empty) (map as_fragment pairs) ≡ Ok entries →
    (params : Given) × (given_of pairs ≡ Ok params) × AreLooked params assignments entries
unfolding AreLooked
given_values [] [] entries p e = (empty, refl, λ ns fragments l. go ns fragments l)
  where
    nothing : finite.empty ≡ entries
    nothing = cc

    none : (name : List ℕ) → get entries name ≡ None
    none name = ap (λ m. get m name) (sym nothing) ∙ get-empty (slice_cmp nat_cmp) name

    go : (ns : List (List ℕ)) (fragments : List Fragment) → fragments_for (given_to [] entries ns) ns ≡ Ok fragments →
        (values : List Value) × (lookup empty ns ≡ Ok values) × (fragments ≡ of_values values)
    go [] fragments l = let same : [] ≡ fragments = cc in ([], refl, sym same)
    go (n ∷ ns) fragments l =
        let bad : Err (missing n) ≡ Ok fragments = ap (λ o. with_first n o (fragments_at entries ns)) (sym (none n)) ∙ l in absurd cc
given_values [] (pair ∷ pairs) entries p e = absurd cc
given_values (a ∷ assignments) [] entries p e =
    let m = more_contents (λ pair. pair) (pair_of a) (pairs_of assignments) [] p in
    let bad = m.4 in absurd cc
given_values (a ∷ assignments) (pair ∷ pairs) entries p e =
    let made = values_made (pair ∷ pairs) finite.empty finite.empty entries nothing_has e in
    (named made.0, ap by_name made.1, λ ns fragments l. found made.0 made.2 ns fragments l)
  where
    nothing_has : HasValues finite.empty finite.empty
    nothing_has name = get-empty (slice_cmp nat_cmp) name ∙ ap (option_map (λ v. one.Value v)) (sym (get-empty (slice_cmp nat_cmp) name))

    of_some : {A E : Type 0} (o : Option A) (why : E) (v : A) → o ≡ Some v → ok_or o why ≡ Ok v
    of_some o why v h = ap (λ z. ok_or z why) h

    found : (m : ValueMap) → HasValues m entries → (ns : List (List ℕ)) (fragments : List Fragment) →
        fragments_for (given_fragments.named entries) ns ≡ Ok fragments → (values : List Value) × (lookup (named m) ns ≡ Ok values) × (fragments ≡ of_values values)
    found m h [] fragments l = absurd cc
    found m h (n ∷ ns) fragments l =
        let x = looked_at m entries h (n ∷ ns) fragments l in
        (x.0, of_some (values_at m (n ∷ ns)) _ x.0 x.1, x.2)

-- ---- the text

steady_written : (place : ℕ) (values : List Value) → All FieldsInRange values → bound.first_float_from place values ≡ None →
    AreWrittenAs steady_literal_of IsSteadyFor values (map steady_literal_text values)
steady_written place [] range none = tt
steady_written place (v ∷ values) range none =
    let step = none_step (is_float v) place (bound.first_float_from (place + 1) values) none in
    let is = has_literal steady_literal_of steady_float v step.0 in
    (is, steady_known v (steady_literal_text v) (range 0 v (omega arith)) is, steady_written (place + 1) values (All-tail FieldsInRange v values range) step.1)

-- the text of a query with the values that are given to it, with the literals that are asked for
pub IsValueText : Literals → List Token → Given → List ℕ → Type 0
IsValueText Steady ts params text = IsSteadyText ts params text
IsValueText (Plain mode) ts params text = IsBoundText mode ts params text

value_text : (asked : Literals) (query text : List ℕ) (ts : List Token) (params : Given) (given : GivenFragments) (values : List Value) →
    IsTokensIn (wide_reading (mode_of asked)) query ts → (asked ≡ Steady → IsSteady query) → lookup params (names ts) ≡ Ok values →
    fragments_for given (names ts) ≡ Ok (of_values values) → IsAskedText asked ts given text → IsValueText asked ts params text
unfolding IsValueText
value_text (Plain mode) query text ts params given values is steady l f b =
    same_text mode ts given params values text f l (bound_for (Plain mode) query text ts given is b)
value_text Steady query text ts params given values is steady l f b =
    let x = b.placed in
    let both : Ok x.fragments ≡ Ok (of_values values) = sym x.given_to_places ∙ f in
    let same : x.fragments ≡ of_values values = cc in
    let range : All FieldsInRange values = subst (All FieldsInRange) (values_of values) (subst (λ fs. All FieldsInRange (all_values fs)) same x.in_range) in
    let none : bound.first_cause ts params ≡ None = map_none same_cause (bound.first_cause ts params) (sym (same_first_cause ts given params values f l) ∙ x.no_cause) in
    let later = (no_cause_parts ts params values none l).1 in
    let no_float : bound.first_float_from 0 values ≡ None = map_none bound.float_value (bound.first_float values) (no_float_cause ts values later) in
    is_steady_text_in (wide_reading false) query ts params text is (steady refl) (record {
      no_cause = none;
      values = values;
      looked_up = l;
      written_text = record {
        literals = map steady_literal_text values;
        written = steady_written 0 values range no_float;
        text_is = ap (joined_text (pieces ts)) (sym (filled_values steady_literal_text values)) ∙ subst (λ fs. joined_text (pieces ts) (map (filled_text steady_literal_text) fs) ≡ Some text) same x.text_is;
      };
    })

-- the text of assignments that are all values
pub record IsTextOfValues (request : Request) (query : List ℕ) (assignments : List Assignment) (text : List ℕ) : Type 0 where
  pub pairs : List (List ℕ × Value)
  pub given : Given
  pub pairs_are : pairs_of assignments ≡ Some pairs
  pub given_is : given_of pairs ≡ Ok given
  pub bound : OnWideTokens (mode_of request.literals) query (λ ts. IsValueText request.literals ts given text)

pub text_of_assigned : (request : Request) (query : List ℕ) (assignments : List Assignment) (text : List ℕ) → (request.literals ≡ Steady → IsSteady query) →
    has_fragment assignments ≡ false → IsAssignedText request query assignments text → IsTextOfValues request query assignments text
unfolding AreLooked
text_of_assigned request query assignments text steady none x =
    let v = values_from assignments x.pairs none x.contents_are in
    let g = given_values assignments v.0 x.entries v.1 (ap (fold with_fragment (Ok finite.empty)) (sym v.2) ∙ x.entries_are) in
    let o = x.bound in
    let ts = o.0 in
    let l = g.2 (names ts) o.2.placed.fragments o.2.placed.given_to_places in
    record {
      pairs = v.0;
      given = g.0;
      pairs_are = v.1;
      given_is = g.1;
      bound = (
        ts,
        o.1,
        value_text request.literals query text ts g.0 (given_to assignments x.entries (names ts)) l.0 o.1 steady l.1 (o.2.placed.given_to_places ∙ ap Ok l.2) o.2,
      );
    }

pub plain_values : (mode : Bool) (asked : Literals) (query text : List ℕ) (given : Given) → asked ≡ Plain mode →
    OnWideTokens (mode_of asked) query (λ ts. IsValueText asked ts given text) → OnWideTokens mode query (λ ts. IsBoundText mode ts given text)
unfolding IsValueText
plain_values mode asked query text given e o = subst (λ a. OnWideTokens (mode_of a) query (λ ts. IsValueText a ts given text)) e o

pub steady_values : (asked : Literals) (query text : List ℕ) (given : Given) → asked ≡ Steady →
    OnWideTokens (mode_of asked) query (λ ts. IsValueText asked ts given text) → OnWideTokens false query (λ ts. IsSteadyText ts given text)
unfolding IsValueText
steady_values asked query text given e o = subst (λ a. OnWideTokens (mode_of a) query (λ ts. IsValueText a ts given text)) e o
