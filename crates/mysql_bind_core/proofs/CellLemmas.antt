-- What cells assign: assignments that say the same are bound and refused alike, and the pairs of
-- those that say what cells do are the names of the columns with the values of the cells.
use Rattle.std.specs.Prelude.{Option, Some, Bool, true, false, option_map, option_and_then, if◌then◌else◌}
use Rattle.std.proofs.Common.{◌≡◌, ◌∙◌, ℕ, List, [], ◌∷◌, map, refl, sym, ap, subst, ◌||◌}
use Rattle.mysql_values.specs.declared.value.Value.{Value}
use Rattle.mysql_named_params.specs.Places.{names}
use Rattle.mysql_fragments.specs.GivenFragments.{FragmentMap}
use Rattle.mysql_bind_core.specs.Assignments.{pair_of, pairs_of}
use Rattle.mysql_bind_core.specs.Bound.{IsAssignedText, IsWritten}
use Rattle.mysql_bind_core.specs.Cells.{Said, assignment_said, cell_value, cells_said}
use Rattle.mysql_bind_core.specs.Contents.{Content, content, contents_of, has_fragment, is_value_type, named_content}
use Rattle.mysql_bind_core.specs.Entries.{IsAskedText, given_to}
use Rattle.mysql_bind_core.specs.Refusals as refusal
use Rattle.mysql_bind_core.specs.Refusals.{IsContentsRefusal, IsFragmentsRefusal, IsRefusal}
use Rattle.mysql_bind_core.specs.ValueTypes.{typed_value}
use Rattle.mysql_bind_core.specs.declared.assignment.Assignment.{Assignment}
use Rattle.mysql_bind_core.specs.declared.cell.Cell.{Cell}
use Rattle.mysql_bind_core.specs.declared.failure.Failure.{Failure}
use Rattle.mysql_bind_core.specs.declared.failure.Failure.TheVariants as failure
use Rattle.mysql_bind_core.specs.declared.request.Request.{Request}
use Rattle.mysql_bind_core.specs.declared.value_type.ValueType.{ValueType}
use Rattle.mysql_bind_core.specs.declared.value_type.ValueType.TheVariants.{Null, Text, Line, Bytes, Int, Uint, Number, Bool as Truth, Hex, Base64, Decimal, Double, Identifier, List as ListType}

-- ---- assignments that say the same

-- the pair, the content and the kind of what an assignment says
abbrev said_pair : Said → Option (List ℕ × Value)
said_pair s = option_map (λ value. (s.0, value)) (typed_value s.1.0 s.1.1)

abbrev said_content : Said → Option (List ℕ × Content)
said_content s = option_map (λ c. (s.0, c)) (content s.1.0 s.1.1)

abbrev said_fragment : Said → Bool
said_fragment s = if is_value_type s.1.0 then false else true

pub heads : {X : Type 0} (x y : X) (xs ys : List X) → x ∷ xs ≡ y ∷ ys → (x ≡ y) × (xs ≡ ys)
heads x y xs ys e = (cc, cc)

same_contents : (assigned bs : List Assignment) → map assignment_said assigned ≡ map assignment_said bs → contents_of assigned ≡ contents_of bs
same_contents [] [] e = refl
same_contents [] (b ∷ bs) e = absurd cc
same_contents (a ∷ assigned) [] e = absurd cc
same_contents (a ∷ assigned) (b ∷ bs) e =
    let h = heads (assignment_said a) (assignment_said b) (map assignment_said assigned) (map assignment_said bs) e in
    let one : named_content a ≡ named_content b = ap said_content h.0 in
    let more = same_contents assigned bs h.1 in
    ap (λ o. option_and_then (λ y. option_map (λ ys. y ∷ ys) (contents_of assigned)) o) one
    ∙ ap (λ o. option_and_then (λ y. option_map (λ ys. y ∷ ys) o) (named_content b)) more

-- assignments that say the same have the same fragments for a query
same_given : (assigned bs : List Assignment) → map assignment_said assigned ≡ map assignment_said bs → (entries : FragmentMap) (ns : List (List ℕ)) →
    given_to assigned entries ns ≡ given_to bs entries ns
same_given [] [] e entries ns = refl
same_given [] (b ∷ bs) e entries ns = absurd cc
same_given (a ∷ assigned) [] e entries ns = absurd cc
same_given (a ∷ assigned) (b ∷ bs) e entries ns = refl

module _ (request : Request) (query : List ℕ) (assigned bs : List Assignment) (e : map assignment_said assigned ≡ map assignment_said bs) where
  pub same_assigned : (text : List ℕ) → IsAssignedText request query assigned text → IsAssignedText request query bs text
  same_assigned text x = record {
    pairs = x.pairs;
    entries = x.entries;
    contents_are = sym (same_contents assigned bs e) ∙ x.contents_are;
    entries_are = x.entries_are;
    bound = (
      x.bound.0,
      x.bound.1,
      subst (λ given. IsAskedText request.literals x.bound.0 given text) (same_given assigned bs e x.entries (names x.bound.0)) x.bound.2,
    );
  }

  pub same_written : (text : List ℕ) → IsWritten request query assigned text → IsWritten request query bs text
  same_written text w = record { taken = w.taken; assigned = same_assigned text w.assigned; portable_text = w.portable_text }

  same_no_fragments : (why : Failure) → IsContentsRefusal assigned why → IsContentsRefusal bs why
  same_no_fragments failure.NoValue r = sym (same_contents assigned bs e) ∙ r
  same_no_fragments (failure.Memory error) r = tt
  same_no_fragments why r = (r.0, sym (same_contents assigned bs e) ∙ r.1, r.2)

  pub same_refusal : (why : Failure) → IsRefusal request query assigned why → IsRefusal request query bs why
  same_refusal why (refusal.of_query r) = refusal.of_query r
  same_refusal why (refusal.of_contents taken r) = refusal.of_contents taken (same_no_fragments why r)
  same_refusal why (refusal.of_fragments taken pairs entries p g r) =
      refusal.of_fragments taken pairs entries (sym (same_contents assigned bs e) ∙ p) g
      (r.0, r.1, subst (λ given. IsFragmentsRefusal request.literals r.0 given why) (same_given assigned bs e entries (names r.0)) r.2)
  same_refusal why (refusal.of_bound_text taken text a found is f) = refusal.of_bound_text taken text (same_assigned text a) found is f

-- ---- names and the values of their cells

-- the pairs of names and values, assigned far assigned both go
abbrev pub paired : List (List ℕ) → List Value → List (List ℕ × Value)
paired [] values = []
paired (name ∷ names) [] = []
paired (name ∷ names) (value ∷ values) = (name, value) ∷ paired names values

-- a type whose bytes have a value gives values
valued : (t : ValueType) (bytes : List ℕ) (v : Value) → typed_value t bytes ≡ Some v → is_value_type t ≡ true
valued Null bytes v e = refl
valued Text bytes v e = refl
valued Line bytes v e = refl
valued Bytes bytes v e = refl
valued Int bytes v e = refl
valued Uint bytes v e = refl
valued Number bytes v e = refl
valued Truth bytes v e = refl
valued Hex bytes v e = refl
valued Base64 bytes v e = refl
valued Decimal bytes v e = absurd cc
valued Double bytes v e = absurd cc
valued Identifier bytes v e = absurd cc
valued ListType bytes v e = absurd cc

abbrev AreValues : List Cell → List Value → Type 0
AreValues cells values = map cell_value cells ≡ map (λ value. Some value) values

row_said : (a : Assignment) (name : List ℕ) (cell : Cell) (v : Value) → assignment_said a ≡ (name, (cell.value_type, cell.bytes.now)) →
    cell_value cell ≡ Some v → (pair_of a ≡ Some (name, v)) × (said_fragment (assignment_said a) ≡ false)
row_said a name cell v h e = (
  ap said_pair h ∙ ap (option_map (λ value. (name, value))) e,
  ap said_fragment h ∙ ap (λ b. if b then false else true) (valued cell.value_type cell.bytes.now v e),
)

pub row_pairs : (names : List (List ℕ)) (cells : List Cell) (values : List Value) (assigned : List Assignment) →
    map assignment_said assigned ≡ cells_said names cells → AreValues cells values →
    (pairs_of assigned ≡ Some (paired names values)) × (has_fragment assigned ≡ false)
row_pairs [] cells values [] e f = (refl, refl)
row_pairs [] cells values (a ∷ assigned) e f = absurd cc
row_pairs (name ∷ names) [] [] [] e f = (refl, refl)
row_pairs (name ∷ names) [] [] (a ∷ assigned) e f = absurd cc
row_pairs (name ∷ names) [] (value ∷ values) assigned e f = absurd cc
row_pairs (name ∷ names) (cell ∷ cells) [] assigned e f = absurd cc
row_pairs (name ∷ names) (cell ∷ cells) (value ∷ values) [] e f = absurd cc
row_pairs (name ∷ names) (cell ∷ cells) (value ∷ values) (a ∷ assigned) e f =
    let h = heads (assignment_said a) (name, (cell.value_type, cell.bytes.now)) (map assignment_said assigned) (cells_said names cells) e in
    let v = heads (cell_value cell) (Some value) (map cell_value cells) (map (λ x. Some x) values) f in
    let one = row_said a name cell value h.0 v.0 in
    let more = row_pairs names cells values assigned h.1 v.1 in (
      ap (λ o. option_and_then (λ pair. option_map (λ pairs. pair ∷ pairs) (pairs_of assigned)) o) one.0
          ∙ ap (option_map (λ pairs. (name, value) ∷ pairs)) more.0,
      ap (λ k. k || has_fragment assigned) one.1 ∙ more.1,
    )
