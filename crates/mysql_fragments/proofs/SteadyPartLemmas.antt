-- The text of a fragment is steady if and only if its numbers and names are.
use Rattle.std.specs.Prelude.{Bool, codes}
use Rattle.std.specs.List.{list_all}
use Rattle.std.specs.Global.{Vec}
use Rattle.std.proofs.Common.{◌≡◌, ◌++◌, ◌==◌, ◌&&◌, ℕ, true, false, List, [], ◌∷◌, map, inl, inr, refl, ap, ◌∙◌}
use Rattle.std.proofs.lemmas.Bool.{cases_Bool}
use Rattle.std.proofs.lemmas.List.Folds.{list_all-append}
use Rattle.mysql_named_params.specs.Bytes.{backquote}
use Rattle.mysql_portable.specs.Steady.{is_steady}
use Rattle.mysql_fragments.specs.FragmentText.{assignment_text, doubled, each_after, fragment_text, identifier_text, item_text, items_text, joined, qualified_text, row_text}
use Rattle.mysql_fragments.specs.declared.fragment.ColumnAssignment.{ColumnAssignment}
use Rattle.mysql_fragments.specs.declared.fragment.Item.{Item}
use Rattle.mysql_fragments.specs.declared.fragment.Fragment.TheVariants as one

abbrev steady : List ℕ → Bool
steady = list_all is_steady

and_true : (a : Bool) → (a && true) ≡ a
and_true true = refl
and_true false = refl

and_once : (a b : Bool) → (a && (a && b)) ≡ (a && b)
and_once true b = refl
and_once false b = refl

-- the same before a separator that is steady
each_steady : (separator : List ℕ) → steady separator ≡ true → (texts : List (List ℕ)) →
    steady (each_after separator texts) ≡ list_all (λ text. steady text) texts
each_steady separator s [] = refl
each_steady separator s (text ∷ texts) =
    list_all-append is_steady (separator ++ text) (each_after separator texts)
    ∙ (ap (λ b. b && steady (each_after separator texts)) (list_all-append is_steady separator text ∙ ap (λ b. b && steady text) s)
    ∙ ap (λ b. steady text && b) (each_steady separator s texts))

joined_steady : (separator : List ℕ) → steady separator ≡ true → (texts : List (List ℕ)) →
    steady (joined separator texts) ≡ list_all (λ text. steady text) texts
joined_steady separator s [] = refl
joined_steady separator s (text ∷ texts) =
    list_all-append is_steady text (each_after separator texts) ∙ ap (λ b. steady text && b) (each_steady separator s texts)

mapped_steady : {X : Type 0} (text : X → List ℕ) (test : X → Bool) → ((x : X) → steady (text x) ≡ test x) → (xs : List X) →
    list_all (λ text. steady text) (map text xs) ≡ list_all test xs
mapped_steady text test e [] = refl
mapped_steady text test e (x ∷ xs) = ap (λ b. b && list_all (λ text. steady text) (map text xs)) (e x) ∙ ap (λ b. test x && b) (mapped_steady text test e xs)

items_steady : (items : List Item) → steady (items_text items) ≡ list_all (λ item. steady (item_text item)) items
items_steady items = joined_steady (codes ", ") refl (map item_text items) ∙ mapped_steady item_text (λ item. steady (item_text item)) (λ item. refl) items

row_steady : (row : Vec Item) → steady (row_text row) ≡ list_all (λ item. steady (item_text item)) row.items
row_steady row = list_all-append is_steady (items_text row.items) (codes ")") ∙ (and_true (steady (items_text row.items)) ∙ items_steady row.items)

doubled_steady : (name : List ℕ) → steady (doubled name) ≡ steady name
doubled_steady [] = refl
doubled_steady (b ∷ name) =
    elim (cases_Bool (b == backquote)) [
      | inl e ↦ rw e (ap (λ a. is_steady b && (is_steady b && a)) (doubled_steady name) ∙ and_once (is_steady b) (steady name))
      | inr e ↦ rw e (ap (λ a. is_steady b && a) (doubled_steady name))
    ]

name_steady : (name : List ℕ) → steady (identifier_text name) ≡ steady name
name_steady name = list_all-append is_steady (doubled name) (codes "`") ∙ (and_true (steady (doubled name)) ∙ doubled_steady name)

abbrev steady_names : List (Vec ℕ) → Bool
steady_names names = list_all (λ name. list_all is_steady name.items) names

names_steady : (names : List (Vec ℕ)) → steady (qualified_text names) ≡ steady_names names
names_steady names =
    joined_steady (codes ".") refl (map (λ name. identifier_text name.items) names)
    ∙ mapped_steady (λ name. identifier_text name.items) (λ name. list_all is_steady name.items) (λ name. name_steady name.items) names

abbrev steady_assignment : ColumnAssignment → Bool
steady_assignment x = steady_names x.column.items && list_all is_steady (item_text x.item)

assignment_steady : (x : ColumnAssignment) → steady (assignment_text x) ≡ steady_assignment x
assignment_steady x =
    list_all-append is_steady (qualified_text x.column.items) (codes " = " ++ item_text x.item)
    ∙ ap (λ b. b && steady (item_text x.item)) (names_steady x.column.items)

-- the tests of the parts of a fragment
pub fragment_steady_list : (items : Vec Item) → steady (fragment_text (one.List items)) ≡ list_all (λ item. list_all is_steady (item_text item)) items.items
fragment_steady_list items = items_steady items.items

pub fragment_steady_rows : (rows : Vec (Vec Item)) →
    steady (fragment_text (one.Rows rows)) ≡ list_all (λ row. list_all (λ item. list_all is_steady (item_text item)) row.items) rows.items
fragment_steady_rows rows = joined_steady (codes ", ") refl (map row_text rows.items) ∙ mapped_steady row_text (λ row. list_all (λ item. steady (item_text item)) row.items) row_steady rows.items

pub fragment_steady_name : (name : Vec ℕ) → steady (fragment_text (one.Identifier name)) ≡ list_all is_steady name.items
fragment_steady_name name = name_steady name.items

pub fragment_steady_names : (names : Vec (Vec ℕ)) →
    steady (fragment_text (one.Qualified names)) ≡ list_all (λ name. list_all is_steady name.items) names.items
fragment_steady_names names = names_steady names.items

pub fragment_steady_columns : (columns : Vec (Vec (Vec ℕ))) →
    steady (fragment_text (one.Identifiers columns)) ≡ list_all (λ names. list_all (λ name. list_all is_steady name.items) names.items) columns.items
fragment_steady_columns columns =
    joined_steady (codes ", ") refl (map (λ names. qualified_text names.items) columns.items)
    ∙ mapped_steady (λ names. qualified_text names.items) (λ names. steady_names names.items) (λ names. names_steady names.items) columns.items

pub fragment_steady_assignments : (assignments : Vec ColumnAssignment) →
    steady (fragment_text (one.Assignments assignments))
    ≡ list_all (λ x. list_all (λ name. list_all is_steady name.items) x.column.items && list_all is_steady (item_text x.item)) assignments.items
fragment_steady_assignments assignments =
    joined_steady (codes ", ") refl (map assignment_text assignments.items) ∙ mapped_steady assignment_text steady_assignment assignment_steady assignments.items
