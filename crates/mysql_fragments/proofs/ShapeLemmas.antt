-- The shapes of fragments that can be written.
use Rattle.std.specs.Prelude.{Bool, codes, if◌then◌else◌, nat_lt, ⊤}
use Rattle.std.specs.List.{flat_map, list_all, list_any}
use Rattle.std.specs.Global.{Vec}
use Rattle.std.specs.Char.{is_ascii_digit}
use Rattle.std.proofs.Common.{◌≡◌, cond, ◌+◌, ◌++◌, ◌==◌, ◌&&◌, not, ℕ, true, false, List, [], ◌∷◌, length, map, Some, None, Option, option_map, nat_eq, nat_le, inl, inr, refl, sym, ap, ◌∙◌, subst, append_assoc, append-nil, true≢false, length-append}
use Rattle.std.proofs.lemmas.Bool.{and_parts, and_from, cases_Bool, eqb-true}
use Rattle.mysql_values.specs.declared.value.Value.{Value}
use Rattle.mysql_sql_text.specs.LiteralShape.{AreDigits, natural_literal, negative_literal}
use Rattle.mysql_named_params.specs.Bytes.{dash, point}
use Rattle.mysql_binding.proofs.CauseLemmas.{or_none, map_none}
use Rattle.mysql_fragments.specs.FragmentErrors.{first_fault_from}
use Rattle.mysql_fragments.specs.FragmentFaults.{assignment_fault, assignments_fault, assignments_fault_from, character_count, columns_fault, columns_fault_from, digit_count, ends_in_space, escapes_end, fault_of, is_decimal, is_keyword, is_number_from, item_fault, items_fault, list_fault, name_fault, names_fault, names_fault_from, number_after, number_fault, row_fault, rows_fault, rows_fault_from}
use Rattle.mysql_fragments.specs.FragmentShape.{IsIdentifier, one_name, more_names, IsFragment, AreFragments, mark_fragment, literal_fragment, decimal_fragment, negative_decimal_fragment, double_fragment, identifier_fragment, keyword_fragment, assignment_fragment, list_fragment, row_fragment}
use Rattle.mysql_fragments.specs.FragmentText.{assignment_text, assignment_values, columns_text, filled_assignments, joined, identifier_text, item_text, item_values, items_text, mark, qualified_text, row_text, fragment_text, fragment_values, all_values, mark_number}
use Rattle.mysql_float_literal.specs.DoubleText.{double_text}
use Rattle.mysql_float_literal.proofs.DoubleValueLemmas.{double_shaped}
use Rattle.mysql_fragments.proofs.SplicedFragmentLemmas.{total}
use Rattle.mysql_fragments.specs.declared.fragment.ColumnAssignment.{ColumnAssignment}
use Rattle.mysql_fragments.specs.declared.fragment.Item.{Item}
use Rattle.mysql_fragments.specs.declared.fragment.Item.TheVariants as item
use Rattle.mysql_fragments.specs.declared.fragment.Fragment.{Fragment}
use Rattle.mysql_fragments.specs.declared.fragment.Fragment.TheVariants as one
use Rattle.mysql_fragments.specs.declared.fragments_error.FragmentFault.{FragmentFault}
use Rattle.mysql_fragments.specs.declared.fragments_error.FragmentFault.TheVariants as fault
use Rattle.mysql_sql_text.proofs.DigitLemmas.{digits_push, digits_all}

-- ---- exact numbers

-- after the point
fraction_digits : (digit : Bool) (bytes : List ℕ) → is_number_from digit true bytes ≡ true →
    (list_all is_ascii_digit bytes ≡ true) × (digit ≡ false → AreDigits bytes)
fraction_digits digit [] h = (refl, λ e. absurd (true≢false (sym h ∙ e)))
fraction_digits digit (b ∷ bytes) h =
    elim (cases_Bool (is_ascii_digit b)) [
      | inl e ↦ let all = (fraction_digits true bytes (rw e at h)).0 in (and_from _ _ e all, λ n. (e, all))
      | inr e ↦
          let k : (((b == point) && (digit && not true)) && is_number_from false true bytes) ≡ true = rw e at h in
          absurd (no_point digit (and_parts (b == point) (digit && not true) (and_parts _ _ k).0).1)
    ]
  where
    no_point : (digit : Bool) → (digit && not true) ≡ true → ⊥
    no_point true e = true≢false (sym e)
    no_point false e = true≢false (sym e)

-- a number with these bytes
pub data IsNumber : List ℕ → Type 0 where
  whole_number : (bytes : List ℕ) → AreDigits bytes → IsNumber bytes
  with_point : (whole fraction : List ℕ) → AreDigits whole → AreDigits fraction → IsNumber (whole ++ (codes "." ++ fraction))

pub number_parts : (front bytes : List ℕ) (digit : Bool) → list_all is_ascii_digit front ≡ true →
    (digit ≡ true → AreDigits front) → is_number_from digit false bytes ≡ true → IsNumber (front ++ bytes)
number_parts front [] digit all some h = subst IsNumber (sym (append-nil front)) (whole_number front (some h))
number_parts front (b ∷ bytes) digit all some h =
    elim (cases_Bool (is_ascii_digit b)) [
      | inl e ↦
          let more = digits_push front b all e in
          subst IsNumber (append_assoc front (b ∷ []) bytes) (number_parts (front ++ b ∷ []) bytes true (digits_all (front ++ b ∷ []) more) (λ t. more) (rw e at h))
      | inr e ↦
          let k : (((b == point) && (digit && not false)) && is_number_from false true bytes) ≡ true = rw e at h in
          let p = and_parts _ _ k in
          let q = and_parts (b == point) (digit && not false) p.0 in
          subst (λ x. IsNumber (front ++ x ∷ bytes)) (sym (eqb-true b (point) q.0))
          (with_point front bytes (some (and_parts digit (not false) q.1).0) ((fraction_digits false bytes p.1).1 refl))
    ]

number_fragment : (mode : Bool) (bytes : List ℕ) → IsNumber bytes → IsFragment mode 0 bytes
number_fragment mode _ (whole_number bytes h) = literal_fragment bytes (natural_literal bytes h)
number_fragment mode _ (with_point whole fraction w f) = decimal_fragment whole fraction w f

negative_fragment : (mode : Bool) (bytes : List ℕ) → IsNumber bytes → IsFragment mode 0 (codes "-" ++ bytes)
negative_fragment mode _ (whole_number bytes h) = literal_fragment (codes "-" ++ bytes) (negative_literal bytes h)
negative_fragment mode _ (with_point whole fraction w f) = negative_decimal_fragment whole fraction w f

decimal_is : (mode : Bool) (text : List ℕ) → is_decimal text ≡ true → IsFragment mode 0 text
decimal_is mode [] h = absurd (true≢false (sym h))
decimal_is mode (b ∷ bytes) h =
    elim (cases_Bool (b == dash)) [
      | inl e ↦
          subst (λ x. IsFragment mode 0 (x ∷ bytes)) (sym (eqb-true b (dash) e))
          (negative_fragment mode bytes (number_parts [] bytes false refl (λ t. absurd (true≢false (sym t))) (rw e at h)))
      | inr e ↦ number_fragment mode (b ∷ bytes) (number_parts [] (b ∷ bytes) false refl (λ t. absurd (true≢false (sym t))) (rw e at h))
    ]

-- ---- faults that there aren't

pub if_fault : (b : Bool) (x : FragmentFault) → (if b then None else Some x) ≡ None → b ≡ true
if_fault true x e = refl
if_fault false x e = cc

pub number_shape : (mode : Bool) (row index : ℕ) (text : List ℕ) → number_fault row index text ≡ None → IsFragment mode 0 text
number_shape mode row index text h =
    decimal_is mode text (and_parts (is_decimal text) (nat_le (digit_count text) 65) (if_fault (is_decimal text && nat_le (digit_count text) 65) _ h)).0

-- ---- several with commas between them

-- each has the shape of a fragment with as many marks as it has values
AllShaped : {X : Type 0} → Bool → (X → List ℕ) → (X → List Value) → List X → Type 0
AllShaped mode text values [] = ⊤
AllShaped mode text values (x ∷ xs) = IsFragment mode (length (values x)) (text x) × AllShaped mode text values xs

joined_shape : {X : Type 0} (mode : Bool) (text : X → List ℕ) (values : X → List Value) (x : X) (xs : List X) →
    AllShaped mode text values (x ∷ xs) → IsFragment mode (length (flat_map values (x ∷ xs))) (joined (codes ", ") (map text (x ∷ xs)))
unfolding AllShaped
joined_shape mode text values x [] h =
    subst (λ n. IsFragment mode n (text x ++ [])) (ap length (sym (append-nil (values x)))) (subst (IsFragment mode (length (values x))) (sym (append-nil (text x))) h.0)
joined_shape mode text values x (y ∷ ys) h =
    subst (λ n. IsFragment mode n (joined (codes ", ") (map text (x ∷ y ∷ ys)))) (sym (length-append (values x) (flat_map values (y ∷ ys))))
    (list_fragment (length (values x)) (length (flat_map values (y ∷ ys))) (text x) (joined (codes ", ") (map text (y ∷ ys))) h.0 (joined_shape mode text values y ys h.1))

pub item_shape : (mode : Bool) (row index : ℕ) (x : Item) → item_fault row index x ≡ None → IsFragment mode (length (item_values x)) (item_text x)
item_shape mode row index (item.Value value) h = mark_fragment
item_shape mode row index (item.Decimal text) h = number_shape mode row index text.items h
item_shape mode row index (item.Double double) h = double_fragment (double_text double) (double_shaped double)

item_shapes : (mode : Bool) (row index : ℕ) (items : List Item) → items_fault row index items ≡ None → AllShaped mode item_text item_values items
unfolding AllShaped
item_shapes mode row index [] h = tt
item_shapes mode row index (x ∷ items) h =
    let p = or_none (item_fault row index x) (items_fault row (index + 1) items) h in
    (item_shape mode row index x p.0, item_shapes mode row (index + 1) items p.1)

items_shape : (mode : Bool) (row : ℕ) (x : Item) (items : List Item) → items_fault row 0 (x ∷ items) ≡ None →
    IsFragment mode (length (flat_map item_values (x ∷ items))) (items_text (x ∷ items))
items_shape mode row x items h = joined_shape mode item_text item_values x items (item_shapes mode row 0 (x ∷ items) h)

pub if_row : (b : Bool) (x : Option FragmentFault) (y : FragmentFault) → (if b then x else Some y) ≡ None → x ≡ None
if_row true x y e = e
if_row false x y e = cc

-- the values of a row
abbrev row_values : Vec Item → List Value
row_values row = flat_map item_values row.items

row_shape : (mode : Bool) (width row : ℕ) (items : List Item) → row_fault width row items ≡ None →
    IsFragment mode (length (flat_map item_values items)) (codes "(" ++ (items_text items ++ codes ")"))
row_shape mode width row [] h = cc
row_shape mode width row (x ∷ items) h =
    row_fragment _ _ (items_shape mode row x items (if_row (nat_eq (length (x ∷ items)) width) _ _ h))

row_shapes : (mode : Bool) (width row : ℕ) (rows : List (Vec Item)) → rows_fault_from width row rows ≡ None →
    AllShaped mode row_text row_values rows
unfolding AllShaped
row_shapes mode width row [] h = tt
row_shapes mode width row (items ∷ rows) h =
    let p = or_none (row_fault width row items.items) (rows_fault_from width (row + 1) rows) h in
    (row_shape mode width row items.items p.0, row_shapes mode width (row + 1) rows p.1)

rows_shape : (mode : Bool) (rows : List (Vec Item)) → rows_fault rows ≡ None →
    IsFragment mode (length (flat_map row_values rows)) (joined (codes ", ") (map row_text rows))
rows_shape mode [] h = cc
rows_shape mode (row ∷ rows) h = joined_shape mode row_text row_values row rows (row_shapes mode (length row.items) 0 (row ∷ rows) h)

-- ---- identifiers

last_fault : (z l t e : Bool) (p q r s : FragmentFault) →
    ◌≡◌ {A = Option FragmentFault} (cond z (Some p) (cond l (Some q) (cond t (Some r) (cond e (Some s) None)))) None → e ≡ false
last_fault true l t e p q r s h = cc
last_fault false true t e p q r s h = cc
last_fault false false true e p q r s h = cc
last_fault false false false true p q r s h = cc
last_fault false false false false p q r s h = refl

plain_name : (part : ℕ) (name : List ℕ) → name_fault part name ≡ None → escapes_end name ≡ false
plain_name part [] h = refl
plain_name part (b ∷ bytes) h =
    last_fault (list_any (λ c. c == 0) (b ∷ bytes)) (nat_lt 64 (character_count (b ∷ bytes))) (ends_in_space (b ∷ bytes)) (escapes_end (b ∷ bytes))
    (fault.ZeroByte part) (fault.LongName part) (fault.TrailingSpace part) (fault.Backslash part) h

path_shape : (part : ℕ) (name : Vec ℕ) (names : List (Vec ℕ)) → names_fault_from part (name ∷ names) ≡ None →
    IsIdentifier (joined (codes ".") (map (λ name. identifier_text name.items) (name ∷ names)))
path_shape part name [] h =
    let p = or_none (name_fault part name.items) (names_fault_from (number_after part 1) []) h in
    subst IsIdentifier (sym (append-nil (identifier_text name.items))) (one_name name.items (plain_name part name.items p.0))
path_shape part name (next ∷ names) h =
    let p = or_none (name_fault part name.items) (names_fault_from (number_after part 1) (next ∷ names)) h in
    more_names name.items _ (plain_name part name.items p.0) (path_shape (number_after part 1) next names p.1)

pub names_shape : (part : ℕ) (names : List (Vec ℕ)) → names_fault part names ≡ None → IsIdentifier (qualified_text names)
names_shape part [] h = cc
names_shape part (name ∷ names) h = path_shape part name names h

-- ---- columns

abbrev column_text : Vec (Vec ℕ) → List ℕ
column_text names = qualified_text names.items

-- a column has no values
abbrev column_values : Vec (Vec ℕ) → List Value
column_values names = []

no_column_values : (columns : List (Vec (Vec ℕ))) → flat_map column_values columns ≡ []
no_column_values [] = refl
no_column_values (names ∷ columns) = no_column_values columns

column_shapes : (mode : Bool) (part : ℕ) (columns : List (Vec (Vec ℕ))) → columns_fault_from part columns ≡ None →
    AllShaped mode column_text column_values columns
unfolding AllShaped
column_shapes mode part [] h = tt
column_shapes mode part (names ∷ columns) h =
    let p = or_none (names_fault part names.items) (columns_fault_from (number_after part (length names.items)) columns) h in
    (identifier_fragment _ (names_shape part names.items p.0), column_shapes mode (number_after part (length names.items)) columns p.1)

columns_shape : (mode : Bool) (columns : List (Vec (Vec ℕ))) → columns_fault columns ≡ None → IsFragment mode 0 (columns_text columns)
columns_shape mode [] h = cc
columns_shape mode (names ∷ columns) h =
    subst (λ n. IsFragment mode n (columns_text (names ∷ columns))) (ap length (no_column_values (names ∷ columns)))
    (joined_shape mode column_text column_values names columns (column_shapes mode 0 (names ∷ columns) h))

-- ---- assignments

assignment_shape : (mode : Bool) (part index : ℕ) (x : ColumnAssignment) → assignment_fault part index x ≡ None →
    IsFragment mode (length (assignment_values x)) (assignment_text x)
assignment_shape mode part index x h =
    let p = or_none (names_fault part x.column.items) (item_fault 0 index x.item) h in
    assignment_fragment _ _ _ (names_shape part x.column.items p.0) (item_shape mode 0 index x.item p.1)

assignment_shapes : (mode : Bool) (part index : ℕ) (xs : List ColumnAssignment) → assignments_fault_from part index xs ≡ None →
    AllShaped mode assignment_text assignment_values xs
unfolding AllShaped
assignment_shapes mode part index [] h = tt
assignment_shapes mode part index (x ∷ xs) h =
    let p = or_none (assignment_fault part index x) (assignments_fault_from (number_after part (length x.column.items)) (index + 1) xs) h in
    (assignment_shape mode part index x p.0, assignment_shapes mode (number_after part (length x.column.items)) (index + 1) xs p.1)

assignments_shape : (mode : Bool) (xs : List ColumnAssignment) → assignments_fault xs ≡ None →
    IsFragment mode (length (flat_map assignment_values xs)) (filled_assignments mark xs)
assignments_shape mode [] h = cc
assignments_shape mode (x ∷ xs) h = joined_shape mode assignment_text assignment_values x xs (assignment_shapes mode 0 0 (x ∷ xs) h)

-- ---- fragments that can be written

pub fragment_shape : (mode : Bool) (fragment : Fragment) → fault_of fragment ≡ None →
    IsFragment mode (mark_number fragment) (fragment_text fragment)
fragment_shape mode (one.Value value) h = mark_fragment
fragment_shape mode (one.Decimal text) h = number_shape mode 0 0 text.items h
fragment_shape mode (one.Double double) h = double_fragment (double_text double) (double_shaped double)
fragment_shape mode (one.List items) h = go items.items h
  where
    go : (items : List Item) → list_fault items ≡ None → IsFragment mode (length (flat_map item_values items)) (items_text items)
    go [] h = cc
    go (x ∷ items) h = items_shape mode 0 x items h
fragment_shape mode (one.Rows rows) h = rows_shape mode rows.items h
fragment_shape mode (one.Identifier name) h = identifier_fragment (identifier_text name.items) (one_name name.items (plain_name 0 name.items h))
fragment_shape mode (one.Qualified names) h = identifier_fragment _ (names_shape 0 names.items h)
fragment_shape mode (one.Keyword keyword) h = keyword_fragment keyword.word.items (if_fault (is_keyword keyword.word.items) _ h)
fragment_shape mode (one.Identifiers columns) h = columns_shape mode columns.items h
fragment_shape mode (one.Assignments assignments) h = assignments_shape mode assignments.items h

pub fragment_shapes : (mode : Bool) (place : ℕ) (fragments : List Fragment) → first_fault_from place fragments ≡ None →
    AreFragments mode (map mark_number fragments) (map fragment_text fragments)
fragment_shapes mode place [] h = tt
fragment_shapes mode place (fragment ∷ fragments) h =
    let p = or_none (option_map (λ fault. (place, fault)) (fault_of fragment)) (first_fault_from (place + 1) fragments) h in
    (fragment_shape mode fragment (map_none _ (fault_of fragment) p.0), fragment_shapes mode (place + 1) fragments p.1)

pub mark_sum : (fragments : List Fragment) → total (map mark_number fragments) ≡ length (all_values fragments)
mark_sum [] = refl
mark_sum (fragment ∷ fragments) =
    ap (λ n. mark_number fragment + n) (mark_sum fragments) ∙ sym (length-append (fragment_values fragment) (all_values fragments))
