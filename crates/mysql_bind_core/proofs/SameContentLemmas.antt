-- Fragments with the same content have the same text, fault and values. A double's value gives its text.
use Rattle.std.specs.Prelude.{Bool, Option, codes, option_and_then, option_map, ⊤}
use Rattle.std.specs.Global.{Vec}
use Rattle.std.specs.List.{flat_map, list_any}
use Rattle.std.specs.Option.{option_or}
use Rattle.std.specs.Str.{is_utf8}
use Rattle.std.proofs.Common.{◌≡◌, ◌∙◌, ◌+◌, ◌++◌, ◌||◌, ℕ, true, false, List, [], ◌∷◌, length, map, nat_eq, None, Some, refl, sym, ap, subst, if◌then◌else◌, is_none}
use Rattle.std.proofs.lemmas.List.{length-map}
use Rattle.json.specs.Json.{Json, array, document, item as json_item}
use Rattle.mysql_values.specs.declared.value.Value.{Value}
use Rattle.mysql_values.specs.Literal.{is_float}
use Rattle.mysql_float_literal.specs.DoubleText.{double_value}
use Rattle.mysql_float_literal.proofs.DoubleValueLemmas.{one_of_value}
use Rattle.mysql_fragments.specs.FragmentErrors.{has_float, is_float_item}
use Rattle.mysql_fragments.specs.FragmentFaults.{fault_of, item_fault, items_fault, list_fault, name_fault, number_fault, row_fault, rows_fault, rows_fault_from}
use Rattle.mysql_fragments.specs.FragmentText.{filled_item, filled_row, filled_text, fragment_values, identifier_text, item_values, joined}
use Rattle.mysql_fragments.specs.declared.fragment.Item.{Item}
use Rattle.mysql_fragments.specs.declared.fragment.Item.TheVariants as item
use Rattle.mysql_fragments.specs.declared.fragment.Fragment.{Fragment}
use Rattle.mysql_fragments.specs.declared.fragment.Fragment.TheVariants as one
use Rattle.mysql_fragments.specs.declared.fragments_error.FragmentFault.TheVariants.{RowLength}
use Rattle.mysql_bind_core.specs.Contents.{Content, all_of, content, contents_of, double_content, finite_double, is_number, item_of, item_said, list_content, list_of, list_of_json, name_content, named_content, number_content, other_content, said, value_content}
use Rattle.mysql_bind_core.specs.RowItems.{rows_said}
use Rattle.mysql_bind_core.specs.ValueTypes.{typed_value}
use Rattle.mysql_bind_core.specs.declared.assignment.Assignment.{Assignment}
use Rattle.mysql_bind_core.specs.declared.value_type.ValueType.{ValueType}
use Rattle.mysql_bind_core.specs.declared.value_type.ValueType.TheVariants as of_type

-- ---- items

-- both have the same text, fault and values, and both are floats or neither is
record IsSameItem (x y : Item) : Type 0 where
  text : (write : Value → List ℕ) → filled_item write x ≡ filled_item write y
  fault : (row index : ℕ) → item_fault row index x ≡ item_fault row index y
  float : is_float_item x ≡ is_float_item y
  values : item_values x ≡ item_values y

same_item : (x y : Item) → item_said x ≡ item_said y → IsSameItem x y
same_item (item.Value v) (item.Value w) e =
    let same : v ≡ w = cc in record { text = λ write. ap write same; fault = λ row index. refl; float = ap is_float same; values = ap (λ z. z ∷ []) same }
same_item (item.Decimal a) (item.Decimal b) e =
    let same : a.items ≡ b.items = cc in record { text = λ write. same; fault = λ row index. ap (number_fault row index) same; float = refl; values = refl }
same_item (item.Double a) (item.Double b) e =
    let same : double_value a ≡ double_value b = cc in record { text = λ write. one_of_value a b same; fault = λ row index. refl; float = refl; values = refl }
same_item x y e = absurd cc

-- so it is for items: one by one, as a list and as a row
record AreSameItems (xs ys : List Item) : Type 0 where
  texts : (write : Value → List ℕ) → map (filled_item write) xs ≡ map (filled_item write) ys
  faults : (row index : ℕ) → items_fault row index xs ≡ items_fault row index ys
  of_list : list_fault xs ≡ list_fault ys
  of_row : (width row : ℕ) → row_fault width row xs ≡ row_fault width row ys
  floats : list_any is_float_item xs ≡ list_any is_float_item ys
  values : flat_map item_values xs ≡ flat_map item_values ys

as_many : (xs ys : List Item) → map item_said xs ≡ map item_said ys → length xs ≡ length ys
as_many xs ys e = sym (length-map xs item_said) ∙ (ap length e ∙ length-map ys item_said)

same_items : (xs ys : List Item) → map item_said xs ≡ map item_said ys → AreSameItems xs ys
same_items [] [] e = record { texts = λ write. refl; faults = λ row index. refl; of_list = refl; of_row = λ width row. refl; floats = refl; values = refl }
same_items (x ∷ xs) (y ∷ ys) e =
    let here = same_item x y cc in
    let more = same_items xs ys cc in
    let number = as_many (x ∷ xs) (y ∷ ys) e in
    let faults : (row index : ℕ) → items_fault row index (x ∷ xs) ≡ items_fault row index (y ∷ ys) =
    λ row index i. option_or (here.fault row index i) (more.faults row (index + 1) i) in
    record {
      texts = λ write i. here.text write i ∷ more.texts write i;
      faults = faults;
      of_list = faults 0 0;
      of_row = λ width row i. if nat_eq (number i) width then faults row 0 i else Some (RowLength row);
      floats = λ i. here.float i || more.floats i;
      values = λ i. here.values i ++ more.values i;
    }
same_items xs ys e = absurd cc

-- ---- rows

-- so it is for rows
pub record AreSameRows (xs ys : List (Vec Item)) : Type 0 where
  pub texts : (write : Value → List ℕ) → map (filled_row write) xs ≡ map (filled_row write) ys
  pub faults : (width row : ℕ) → rows_fault_from width row xs ≡ rows_fault_from width row ys
  pub fault : rows_fault xs ≡ rows_fault ys
  pub floats : list_any (λ r. list_any is_float_item r.items) xs ≡ list_any (λ r. list_any is_float_item r.items) ys
  pub values : flat_map (λ r. flat_map item_values r.items) xs ≡ flat_map (λ r. flat_map item_values r.items) ys

pub same_rows : (xs ys : List (Vec Item)) → rows_said xs ≡ rows_said ys → AreSameRows xs ys
same_rows [] [] e = record { texts = λ write. refl; faults = λ width row. refl; fault = refl; floats = refl; values = refl }
same_rows (x ∷ xs) (y ∷ ys) e =
    let first : map item_said x.items ≡ map item_said y.items = cc in
    let here = same_items x.items y.items first in
    let more = same_rows xs ys cc in
    let number = as_many x.items y.items first in
    let faults : (width row : ℕ) → rows_fault_from width row (x ∷ xs) ≡ rows_fault_from width row (y ∷ ys) =
    λ width row i. option_or (here.of_row width row i) (more.faults width (row + 1) i) in
    record {
      texts = λ write i. (codes "(" ++ (joined (codes ", ") (here.texts write i) ++ codes ")")) ∷ more.texts write i;
      faults = faults;
      fault = (λ i. rows_fault_from (number i) 0 (x ∷ xs)) ∙ faults (length y.items) 0;
      floats = λ i. here.floats i || more.floats i;
      values = λ i. here.values i ++ more.values i;
    }
same_rows xs ys e = absurd cc

-- ---- fragments

-- no bytes say another content
unfoldable pub is_known : Option Content → Bool
is_known (Some other_content) = false
is_known o = true

-- both have the same text, fault and values, and both have a float or neither has
pub record IsSameFragment (f g : Fragment) : Type 0 where
  pub text : (write : Value → List ℕ) → filled_text write f ≡ filled_text write g
  pub fault : fault_of f ≡ fault_of g
  pub float : has_float f ≡ has_float g
  pub values : fragment_values f ≡ fragment_values g

pub same_fragment : (f g : Fragment) → is_known (Some (said f)) ≡ true → said f ≡ said g → IsSameFragment f g
unfolding is_known
same_fragment (one.Value v) (one.Value w) k e =
    let same : v ≡ w = cc in record { text = λ write. ap write same; fault = refl; float = ap is_float same; values = ap (λ z. z ∷ []) same }
same_fragment (one.Decimal a) (one.Decimal b) k e =
    let same : a.items ≡ b.items = cc in record { text = λ write. same; fault = ap (number_fault 0 0) same; float = refl; values = refl }
same_fragment (one.Double a) (one.Double b) k e =
    let same : double_value a ≡ double_value b = cc in record { text = λ write. one_of_value a b same; fault = refl; float = refl; values = refl }
same_fragment (one.Identifier a) (one.Identifier b) k e =
    let same : a.items ≡ b.items = cc in record { text = λ write. ap identifier_text same; fault = ap (name_fault 0) same; float = refl; values = refl }
same_fragment (one.List a) (one.List b) k e =
    let same = same_items a.items b.items cc in
    record { text = λ write. ap (joined (codes ", ")) (same.texts write); fault = same.of_list; float = same.floats; values = same.values }
same_fragment f g k e = absurd cc

-- ---- the contents of assignments

known_if : (d : Bool) (o : Option Content) → is_known o ≡ true → is_known (if d then o else None) ≡ true
unfolding is_known
known_if true o h = h
known_if false o h = refl

known_map : {X : Type 0} (f : X → Content) → ((x : X) → is_known (Some (f x)) ≡ true) → (o : Option X) → is_known (option_map f o) ≡ true
unfolding is_known
known_map f h None = refl
known_map f h (Some x) = h x

known_list : (o : Option Json) → is_known (list_of_json o) ≡ true
unfolding is_known
known_list (Some (array (json_item j js))) = known_map list_content (λ xs. refl) (all_of item_of (j ∷ list_of js))
known_list o = refl

pub never_other : (t : ValueType) (bytes : List ℕ) → is_known (content t bytes) ≡ true
unfolding is_known
never_other of_type.Decimal bytes = known_if (is_number bytes) (Some (number_content bytes)) refl
never_other of_type.Double bytes = known_map double_content (λ x. refl) (finite_double bytes)
never_other of_type.Identifier bytes =
    known_if (is_utf8 bytes) _ (known_if (is_none (name_fault 0 bytes)) (Some (name_content bytes)) refl)
never_other of_type.List bytes = known_if (is_utf8 bytes) _ (known_list (document bytes))
never_other t bytes = known_map value_content (λ v. refl) (typed_value t bytes)

-- each content is one that bytes say
unfoldable pub AllKnown : List (List ℕ × Content) → Type 0
AllKnown [] = ⊤
AllKnown (c ∷ cs) = (is_known (Some c.1) ≡ true) × AllKnown cs

-- what is found of a first element and of those after it
found_parts : {Y : Type 0} (o : Option Y) (p : Option (List Y)) (zs : List Y) → option_and_then (λ y. option_map (λ ys. y ∷ ys) p) o ≡ Some zs →
    (y : Y) × (ys : List Y) × (o ≡ Some y) × (p ≡ Some ys) × (y ∷ ys ≡ zs)
found_parts None p zs e = cc
found_parts (Some y) None zs e = cc
found_parts (Some y) (Some ys) zs e = (y, ys, refl, refl, cc)

named_known : (name : List ℕ) (o : Option Content) (c : List ℕ × Content) → option_map (λ d. (name, d)) o ≡ Some c → is_known o ≡ true →
    is_known (Some c.1) ≡ true
named_known name None c e k = cc
named_known name (Some x) c e k = let same : (name, x) ≡ c = cc in subst (λ z. is_known (Some z.1) ≡ true) same k

pub all_known : (assignments : List Assignment) (cs : List (List ℕ × Content)) → contents_of assignments ≡ Some cs → AllKnown cs
unfolding AllKnown
all_known [] cs e = let same : [] ≡ cs = cc in subst AllKnown same tt
all_known (a ∷ assignments) cs e =
    let p = found_parts (named_content a) (contents_of assignments) cs e in
    subst AllKnown p.4 (
      named_known a.name.items (content a.value_type a.bytes.items) p.0 p.2 (never_other a.value_type a.bytes.items),
      all_known assignments p.1 p.3,
    )
