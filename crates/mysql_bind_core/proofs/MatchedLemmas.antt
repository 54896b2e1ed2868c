-- Columns that are matched with places: the values of the columns with the numbers of the places
-- are those that the pairs of all columns give to the names of the query.
use Rattle.std.specs.Prelude.{Option, Some, None, Result, Ok, Err, is_none, is_some, fold, if◌then◌else◌, nat_eq}
use Rattle.std.specs.List.{slice_get}
use Rattle.std.specs.Borrow.{Bor}
use Rattle.std.specs.Cmp.Lexicographic.{pointwise}
use Rattle.std.specs.FinMap as finite
use Rattle.std.specs.FinMap.{contains_key, get, insert}
use Rattle.std.proofs.Common.{◌≡◌, ◌<◌, ◌≤◌, ◌+◌, ◌-◌, ◌++◌, ◌&&◌, ◌∙◌, ℕ, suc, zero, Bool, true, false, cond, List, [], ◌∷◌, length, map, take, drop, get_or, inl, inr, refl, sym, ap, append-nil, append_assoc, take-append-drop, subst, arith, length-drop, true≢false}
use Rattle.std.proofs.Math.Seq.{drop-append_seam}
use Rattle.std.proofs.lemmas.Bool.{and_parts, cases_Bool}
use Rattle.std.proofs.lemmas.List.{at_drop_all, get_or-map, length-map, map-append, take_more}
use Rattle.mysql_values.specs.declared.value.Value.{Value}
use Rattle.mysql_values.specs.declared.value.Value.TheVariants.{NULL}
use Rattle.mysql_named_params.specs.Places.{names}
use Rattle.mysql_named_params.specs.Reading.{OnWideTokens}
use Rattle.mysql_params_core.specs.Given.{Given, ValueMap}
use Rattle.mysql_params_core.specs.Referents.{referents}
use Rattle.mysql_params_core.specs.Made.{ToParamsRefusal, by_name, redefined, pairs_made, with_pair}
use Rattle.mysql_values.specs.ValueOf.{Meaning}
use Rattle.mysql_binding.specs.AppendedText.{AreFound}
use Rattle.mysql_binding.specs.ParsedQuery.{QueryInMode}
use Rattle.mysql_bind_core.specs.Assignments.{given_of}
use Rattle.mysql_bind_core.specs.Bound.{IsTaken}
use Rattle.mysql_bind_core.specs.Cells.{AreNumbersOf, Said, are_distinct_names, assignment_said, cells_said}
use Rattle.mysql_bind_core.specs.FoundPairs.{are_distinct, value_in}
use Rattle.mysql_bind_core.specs.MatchedQuery.{HaveNumbers}
use Rattle.mysql_bind_core.specs.Requests.{mode_of}
use Rattle.mysql_bind_core.specs.declared.assignment.Assignment.{Assignment}
use Rattle.mysql_bind_core.specs.declared.cell.Cell.{Cell}
use Rattle.mysql_bind_core.specs.declared.request.Request.{Request}
use Rattle.mysql_bind_core.specs.declared.value_type.ValueType.{ValueType}
use Rattle.mysql_bind_core.proofs.AppendedRowLemmas.{unmixed}
use Rattle.mysql_bind_core.proofs.CellLemmas.{paired, heads}
use Rattle.mysql_bind_core.proofs.FoundPairLemmas.{AreNew, found_on, inserted, itself, meant, same_names}
use Rattle.mysql_query_core.proofs.WordLemmas.{drop_index}

-- ---- loops that find one after another

-- what is found of one more
pub found_more : {X Y V : Type 0} (f : X → Option Y) (g : V → Y) (xs : List X) (i : ℕ) (d x : X) (vs vs' : List V) (v : V) →
    i < length xs → x ≡ get_or xs i d → map f (take i xs) ≡ map (λ w. Some (g w)) vs → f x ≡ Some (g v) → vs' ≡ vs ++ v ∷ [] →
    map f (take (i + 1) xs) ≡ map (λ w. Some (g w)) vs'
found_more f g xs i d x vs vs' v below is so_far found pushed =
    ap (map f) (take_more xs i d below ∙ ap (λ y. take i xs ++ y ∷ []) (sym is))
    ∙ map-append f (take i xs) (x ∷ [])
    ∙ ap (λ os. os ++ f x ∷ []) so_far
    ∙ ap (λ o. map (λ w. Some (g w)) vs ++ o ∷ []) found
    ∙ sym (ap (map (λ w. Some (g w))) pushed ∙ map-append (λ w. Some (g w)) vs (v ∷ []))

-- what is found of each is a value
pub found_values : {V Y : Type 0} (g : V → Y) (vs : List V) → map (λ w. Some (g w)) vs ≡ map (λ y. Some y) (map g vs)
found_values g [] = refl
found_values g (v ∷ vs) = ap (λ os. Some (g v) ∷ os) (found_values g vs)

-- ---- names of which none stands twice

absent_step : (b : Bool) (v w : Value) (x y : Option Value) → is_none x ≡ is_none y → is_none (cond b (Some v) x) ≡ is_none (cond b (Some w) y)
absent_step true v w x y e = refl
absent_step false v w x y e = e

absent_paired : (ns : List (List ℕ)) (vs : List Value) → length vs ≡ length ns → (name : List ℕ) →
    is_none (value_in (paired ns vs) name) ≡ is_none (value_in (map (λ n. (n, NULL)) ns) name)
absent_paired [] vs e name = refl
absent_paired (n ∷ ns) [] e name = absurd (omega (arith, e))
absent_paired (n ∷ ns) (v ∷ vs) e name =
    let same : length vs ≡ length ns = omega (arith, e) in
    absent_step (pointwise nat_eq name n) v NULL (value_in (paired ns vs) name) (value_in (map (λ m. (m, NULL)) ns) name) (absent_paired ns vs same name)

pub distinct_paired : (ns : List (List ℕ)) (vs : List Value) → length vs ≡ length ns → are_distinct (paired ns vs) ≡ are_distinct_names ns
distinct_paired [] vs e = refl
distinct_paired (n ∷ ns) [] e = absurd (omega (arith, e))
distinct_paired (n ∷ ns) (v ∷ vs) e =
    let same : length vs ≡ length ns = omega (arith, e) in
    ap (λ b. b && are_distinct (paired ns vs)) (absent_paired ns vs same n)
    ∙ ap (λ b. is_none (value_in (map (λ m. (m, NULL)) ns) n) && b) (distinct_paired ns vs same)

pub length_paired : (ns : List (List ℕ)) (vs : List Value) → length vs ≡ length ns → length (paired ns vs) ≡ length ns
length_paired [] vs e = refl
length_paired (n ∷ ns) [] e = absurd (omega (arith, e))
length_paired (n ∷ ns) (v ∷ vs) e = let more = length_paired ns vs (omega (arith, e)) in omega (arith, more)

not_none : {X : Type 0} (o : Option X) (x : X) → o ≡ Some x → is_none o ≡ true → ⊥
not_none None x e h = absurd cc
not_none (Some y) x e h = absurd (true≢false (sym h))

-- ---- the value of the name of a column

value_at : (ns : List (List ℕ)) (vs : List Value) (i : ℕ) (name : List ℕ) (v : Value) → are_distinct (paired ns vs) ≡ true →
    slice_get ns i ≡ Some name → slice_get vs i ≡ Some v → value_in (paired ns vs) name ≡ Some v
value_at [] vs i name v distinct e f = absurd cc
value_at (n ∷ ns) [] i name v distinct e f = absurd cc
value_at (n ∷ ns) (w ∷ vs) zero name v distinct e f =
    let same : n ≡ name = cc in
    let value : w ≡ v = cc in
    ap (λ b. cond b (Some w) (value_in (paired ns vs) name)) (subst (λ m. pointwise nat_eq name m ≡ true) (sym same) (itself name))
    ∙ ap (λ x. Some x) value
value_at (n ∷ ns) (w ∷ vs) (suc i) name v distinct e f =
    let p = and_parts (is_none (value_in (paired ns vs) n)) (are_distinct (paired ns vs)) distinct in
    let found = value_at ns vs i name v p.1 e f in
    elim (cases_Bool (pointwise nat_eq name n)) [
      | inl h ↦ absurd (not_none (value_in (paired ns vs) n) v (ap (value_in (paired ns vs)) (sym (same_names name n h)) ∙ found) p.0)
      | inr h ↦ ap (λ b. cond b (Some w) (value_in (paired ns vs) name)) h ∙ found
    ]

values_at : (columns : List (List ℕ)) (vs : List Value) → are_distinct (paired columns vs) ≡ true → (ns : List (List ℕ)) (numbers : List ℕ) (placed : List Value) →
    AreNumbersOf columns ns numbers → map (slice_get vs) numbers ≡ map (λ v. Some v) placed →
    map (value_in (paired columns vs)) ns ≡ map (λ v. Some v) placed
values_at columns vs distinct [] [] [] e f = refl
values_at columns vs distinct [] [] (v ∷ placed) e f = absurd cc
values_at columns vs distinct [] (i ∷ numbers) placed e f = absurd cc
values_at columns vs distinct (n ∷ ns) [] placed e f = absurd cc
values_at columns vs distinct (n ∷ ns) (i ∷ numbers) [] e f = absurd cc
values_at columns vs distinct (n ∷ ns) (i ∷ numbers) (v ∷ placed) e f =
    let a = heads (slice_get columns i) (Some n) (map (slice_get columns) numbers) (map (λ m. Some m) ns) e in
    let b = heads (slice_get vs i) (Some v) (map (slice_get vs) numbers) (map (λ w. Some w) placed) f in
    ap (λ o. o ∷ map (value_in (paired columns vs)) ns) (value_at columns vs i n v distinct a.0 b.0)
    ∙ ap (λ os. Some v ∷ os) (values_at columns vs distinct ns numbers placed a.1 b.1)

-- what the columns give, and the values of the places
pub cells_found : (q : QueryInMode) (request : Request) (columns : List (List ℕ)) (numbers : List ℕ) (vs placed : List Value) →
    IsTaken request q.query → q.mode ≡ mode_of request.literals → HaveNumbers q columns numbers → length vs ≡ length columns →
    map (slice_get vs) numbers ≡ map (λ v. Some v) placed →
    (given : Given) × (given_of (paired columns vs) ≡ Ok given) × OnWideTokens q.mode q.query (AreFound given placed)
cells_found q request columns numbers vs placed taken mode have same found =
    let o = have.are in
    let ns = names o.0 in
    let distinct : are_distinct (paired columns vs) ≡ true = distinct_paired columns vs same ∙ have.distinct in
    let counts : length numbers ≡ length ns = sym (length-map numbers (slice_get columns)) ∙ ap length o.2 ∙ length-map ns (λ n. Some n) in
    found_on q.mode q.query (paired columns vs) ns placed
    (omega (arith, have.some, length_paired columns vs same)) distinct (omega (arith, have.asked, counts))
    (values_at columns vs distinct ns numbers placed o.2 found)
    (unmixed request q.query taken q.mode mode) (o.0, o.1, refl)

-- ---- pairs that make a map have distinct names

made_of_refused : (pairs : List (List ℕ × Value)) (why : ToParamsRefusal) (n : ValueMap) → fold with_pair (Err why) (map meant pairs) ≡ Ok n → ⊥
made_of_refused [] why n e = absurd cc
made_of_refused (pair ∷ pairs) why n e = made_of_refused pairs why n e

pub absent_key : {X : Type 0} (o : Option X) → is_some o ≡ false → o ≡ None
absent_key None e = refl
absent_key (Some x) e = absurd (true≢false e)

or_absent : {X : Type 0} (o : Option X) → ((x : X) → o ≡ Some x → ⊥) → is_none o ≡ true
or_absent None none = refl
or_absent (Some x) none = absurd (none x refl)

-- what pairs make behind one whose name is there, or isn't
abbrev Behind : ValueMap → List ℕ × Value → List (List ℕ × Value) → ValueMap → Bool → Type 0
Behind m pair pairs n there =
    fold with_pair (if there then Err (redefined pair.0) else Ok (insert m pair.0 pair.1)) (map meant pairs) ≡ Ok n

new_before : (m : ValueMap) (pair : List ℕ × Value) (pairs : List (List ℕ × Value)) → contains_key m pair.0 ≡ false →
    AreNew (insert m pair.0 pair.1) pairs → AreNew m (pair ∷ pairs)
new_before m pair pairs h new name v f =
    elim (cases_Bool (pointwise nat_eq name pair.0)) [
      | inl k ↦ ap (get m) (same_names name pair.0 k) ∙ absent_key (get m pair.0) h
      | inr k ↦
          let there : value_in pairs name ≡ Some v = ap (λ b. cond b (Some pair.1) (value_in pairs name)) (sym k) ∙ f in
          ap (λ b. cond b (Some pair.1) (get m name)) (sym k) ∙ sym (inserted m pair.0 pair.1 name) ∙ new name v there
    ]

there_is : (m : ValueMap) (pair : List ℕ × Value) (pairs : List (List ℕ × Value)) → AreNew (insert m pair.0 pair.1) pairs → (v : Value) →
    value_in pairs pair.0 ≡ Some v → ⊥
there_is m pair pairs new v f =
    let here : get (insert m pair.0 pair.1) pair.0 ≡ Some pair.1 =
    inserted m pair.0 pair.1 pair.0 ∙ ap (λ b. cond b (Some pair.1) (get m pair.0)) (itself pair.0) in
    let none : get (insert m pair.0 pair.1) pair.0 ≡ None = new pair.0 v f in
    let bad : Some pair.1 ≡ None = sym here ∙ none in absurd cc

distinct_step : (m : ValueMap) (pair : List ℕ × Value) (pairs : List (List ℕ × Value)) (n : ValueMap) →
    ((k : ValueMap) → fold with_pair (Ok k) (map meant pairs) ≡ Ok n → (are_distinct pairs ≡ true) × AreNew k pairs) →
    (b : Bool) → contains_key m pair.0 ≡ b → Behind m pair pairs n b → (are_distinct (pair ∷ pairs) ≡ true) × AreNew m (pair ∷ pairs)
distinct_step m pair pairs n rest true h f = absurd (made_of_refused pairs (redefined pair.0) n f)
distinct_step m pair pairs n rest false h f =
    let more = rest (insert m pair.0 pair.1) f in (
      ap (λ b. b && are_distinct pairs) (or_absent (value_in pairs pair.0) (there_is m pair pairs more.1)) ∙ more.0,
      new_before m pair pairs h more.1,
    )

distinct_made : (pairs : List (List ℕ × Value)) (m n : ValueMap) → fold with_pair (Ok m) (map meant pairs) ≡ Ok n →
    (are_distinct pairs ≡ true) × AreNew m pairs
distinct_made [] m n e = (refl, λ name v h. absurd cc)
distinct_made (pair ∷ pairs) m n e = distinct_step m pair pairs n (λ k f. distinct_made pairs k n f) (contains_key m pair.0) refl e

-- a name with NULL, as a maker of parameters takes it
abbrev pub with_nothing : List ℕ → List ℕ × Meaning
with_nothing name = (name, Ok NULL)

nothing_meant : (ns : List (List ℕ)) → map with_nothing ns ≡ map meant (map (λ n. (n, NULL)) ns)
nothing_meant [] = refl
nothing_meant (n ∷ ns) = ap (λ ps. with_nothing n ∷ ps) (nothing_meant ns)

map_of_named : (made : Result ValueMap ToParamsRefusal) (m : Given) → by_name made ≡ Ok m → (n : ValueMap) × (made ≡ Ok n)
map_of_named (Ok n) m e = (n, refl)
map_of_named (Err why) m e = absurd cc

pub distinct_from_made : (pairs : List (List ℕ × Value)) (m : Given) → by_name (fold with_pair (Ok finite.empty) (map meant pairs)) ≡ Ok m →
    are_distinct pairs ≡ true
distinct_from_made pairs m e =
    let made = map_of_named (fold with_pair (Ok finite.empty) (map meant pairs)) m e in
    (distinct_made pairs finite.empty made.0 made.1).0

-- names that make a map are distinct
pub distinct_names_made : (ns : List (List ℕ)) (pairs : List (List ℕ × Meaning)) (m : Given) → pairs ≡ map with_nothing ns →
    pairs_made pairs ≡ Ok m → are_distinct_names ns ≡ true
distinct_names_made ns pairs m are made =
    distinct_from_made (map (λ n. (n, NULL)) ns) m
    (ap (λ ps. by_name (fold with_pair (Ok finite.empty) ps)) (sym (are ∙ nothing_meant ns)) ∙ made)

-- ---- what cells say, one after another

all_dropped : {X : Type 0} (xs : List X) (i : ℕ) → length xs ≤ i → drop i xs ≡ []
all_dropped xs i past = at_drop_all (λ ys. ys) xs i past

-- one more assignment
pub said_more : (columns : List (List ℕ)) (cells : List Cell) (i : ℕ) (name d : List ℕ) (cell k : Cell) (assigned more : List Assignment) (a : Assignment) →
    i < length columns → i < length cells → name ≡ get_or columns i d → cell ≡ get_or cells i k →
    assignment_said a ≡ (name, (cell.value_type, cell.bytes.now)) → more ≡ assigned ++ a ∷ [] →
    map assignment_said assigned ++ cells_said (drop i columns) (drop i cells) ≡ cells_said columns cells →
    map assignment_said more ++ cells_said (drop (i + 1) columns) (drop (i + 1) cells) ≡ cells_said columns cells
said_more columns cells i name d cell k assigned more a below within name_is cell_is said pushed so_far =
    ap (λ ss. ss ++ cells_said (drop (i + 1) columns) (drop (i + 1) cells)) (ap (map assignment_said) pushed ∙ map-append assignment_said assigned (a ∷ []))
    ∙ append_assoc (map assignment_said assigned) (assignment_said a ∷ []) (cells_said (drop (i + 1) columns) (drop (i + 1) cells))
    ∙ ap (λ s. map assignment_said assigned ++ s ∷ cells_said (drop (i + 1) columns) (drop (i + 1) cells)) said
    ∙ ap (λ ss. map assignment_said assigned ++ ss) (sym (split name_is cell_is))
    ∙ so_far
  where
    split : name ≡ get_or columns i d → cell ≡ get_or cells i k →
        cells_said (drop i columns) (drop i cells) ≡ (name, (cell.value_type, cell.bytes.now)) ∷ cells_said (drop (i + 1) columns) (drop (i + 1) cells)
    split n c =
        ap (λ ns. cells_said ns (drop i cells)) (drop_index columns i d below ∙ ap (λ x. x ∷ drop (i + 1) columns) (sym n))
        ∙ ap (λ cs. cells_said (name ∷ drop (i + 1) columns) cs) (drop_index cells i k within ∙ ap (λ x. x ∷ drop (i + 1) cells) (sym c))

said_no_cells : (columns : List (List ℕ)) → cells_said columns [] ≡ []
said_no_cells [] = refl
said_no_cells (n ∷ ns) = refl

pub all_taken : {X : Type 0} (xs : List X) (i : ℕ) → length xs ≤ i → take i xs ≡ xs
all_taken xs i past = sym (append-nil (take i xs)) ∙ ap (λ ys. take i xs ++ ys) (sym (all_dropped xs i past)) ∙ take-append-drop i xs

-- the part of a slice from where the old items end
pub text_behind : (start : ℕ) (old slice after text : List ℕ) → start ≡ length old → slice ≡ after → after ≡ old ++ text →
    take (length slice - start) (drop start slice) ≡ text
text_behind start old slice after text s a b =
    all_taken (drop start slice) (length slice - start) (omega (arith, length-drop start slice))
    ∙ ap (λ n. drop n slice) s ∙ ap (drop (length old)) (a ∙ b) ∙ drop-append_seam old text

-- nothing is left to say: no column, or no cell
pub all_said : (columns : List (List ℕ)) (cells : List Cell) (i : ℕ) (assigned : List Assignment) → length columns ≤ i →
    map assignment_said assigned ++ cells_said (drop i columns) (drop i cells) ≡ cells_said columns cells → map assignment_said assigned ≡ cells_said columns cells
all_said columns cells i assigned past so_far =
    sym (append-nil (map assignment_said assigned))
    ∙ ap (λ ns. map assignment_said assigned ++ cells_said ns (drop i cells)) (sym (all_dropped columns i past)) ∙ so_far

pub all_cells_said : (columns : List (List ℕ)) (cells : List Cell) (i : ℕ) (assigned : List Assignment) → length cells ≤ i →
    map assignment_said assigned ++ cells_said (drop i columns) (drop i cells) ≡ cells_said columns cells → map assignment_said assigned ≡ cells_said columns cells
all_cells_said columns cells i assigned past so_far =
    sym (append-nil (map assignment_said assigned))
    ∙ ap (λ ss. map assignment_said assigned ++ ss) (sym (said_no_cells (drop i columns)))
    ∙ ap (λ cs. map assignment_said assigned ++ cells_said (drop i columns) cs) (sym (all_dropped cells i past)) ∙ so_far

abbrev saying : List ℕ → ValueType → List ℕ → Said
saying name t bytes = (name, (t, bytes))

said_is : (x y : List ℕ) (t u : ValueType) (b c : List ℕ) → x ≡ y → t ≡ u → b ≡ c → saying x t b ≡ saying y u c
said_is x y t u b c e g f = ap (λ z. saying z t b) e ∙ ap (λ z. saying y z b) g ∙ ap (λ z. saying y u z) f

-- one more assignment, of the column and the cell of an index
pub said_next : (columns : List (Bor (List ℕ))) (cells : List Cell) (i : ℕ) (d : Bor (List ℕ)) (k : Cell) (assigned more : List Assignment) (a : Assignment) →
    i < length columns → i < length cells → more ≡ assigned ++ a ∷ [] → a.name.items ≡ (get_or columns i d).now →
    a.bytes.items ≡ (get_or cells i k).bytes.now → a.value_type ≡ (get_or cells i k).value_type →
    map assignment_said assigned ++ cells_said (drop i (referents columns)) (drop i cells) ≡ cells_said (referents columns) cells →
    map assignment_said more ++ cells_said (drop (i + 1) (referents columns)) (drop (i + 1) cells) ≡ cells_said (referents columns) cells
said_next columns cells i d k assigned more a below within pushed name bytes type so_far =
    said_more (referents columns) cells i (get_or columns i d).now d.now (get_or cells i k) k assigned more a
    (omega (arith, length-map columns (λ r. r.now), below)) within (sym (get_or-map (λ r. r.now) columns i d d.now below)) refl
    (said_is a.name.items (get_or columns i d).now a.value_type (get_or cells i k).value_type a.bytes.items (get_or cells i k).bytes.now name type bytes)
    pushed so_far
