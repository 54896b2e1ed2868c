-- The names of the columns that are used.
use Rattle.std.proofs.Common.{◌≡◌, ◌∙◌, ℕ, Bool, true, false, ◌+◌, ◌<◌, ◌≤◌, List, [], ◌∷◌, ◌++◌, length, map, min, drop, get_or, inl, inr, refl, ap, sym, arith, append_assoc, append-nil}
use Rattle.std.specs.Prelude.{if◌then◌else◌}
use Rattle.std.proofs.lemmas.Bool.{cases_lt}
use Rattle.std.proofs.lemmas.List.{drop_all, get_or-map, length-map}
use Rattle.mysql_query_core.proofs.WordLemmas.{drop_index}
use Rattle.mysql_bind_core.specs.Headers.{name_of_column, used_names}
use Rattle.mysql_bind_core.specs.declared.column.Column.{Column}
use Rattle.mysql_bind_core.specs.declared.table_form.TableColumn.{TableColumn}

one_name : (used : Bool) (name : List ℕ) (names : List (List ℕ)) →
    (if used then name ∷ names else names) ≡ (if used then name ∷ [] else []) ++ names
one_name true name names = refl
one_name false name names = refl

pub names_more : (taken : List TableColumn) (columns : List Column) (i : ℕ) (d : TableColumn) (column : Column) (names more : List (List ℕ)) →
    i < length taken → i < length columns → column ≡ get_or columns i column →
    more ≡ names ++ used_names (get_or taken i d ∷ []) (name_of_column column ∷ []) →
    names ++ used_names (drop i taken) (drop i (map name_of_column columns)) ≡ used_names taken (map name_of_column columns) →
    more ++ used_names (drop (i + 1) taken) (drop (i + 1) (map name_of_column columns)) ≡ used_names taken (map name_of_column columns)
names_more taken columns i d column names more below within at pushed so_far =
    ap (λ ns. ns ++ used_names rest others) pushed
    ∙ append_assoc names (used_names (get_or taken i d ∷ []) (name_of_column column ∷ [])) (used_names rest others)
    ∙ ap (λ ns. names ++ ns) (sym (one_name (get_or taken i d).used (name_of_column column) (used_names rest others)))
    ∙ ap (λ ns. names ++ used_names (get_or taken i d ∷ rest) ns) (sym seen)
    ∙ ap (λ ts. names ++ used_names ts (drop i (map name_of_column columns))) (sym (drop_index taken i d below))
    ∙ so_far
  where
    rest : List TableColumn
    rest = drop (i + 1) taken

    others : List (List ℕ)
    others = drop (i + 1) (map name_of_column columns)

    seen : drop i (map name_of_column columns) ≡ name_of_column column ∷ others
    seen = drop_index (map name_of_column columns) i (name_of_column column) (omega (arith, length-map columns name_of_column, within))
        ∙ ap (λ n. n ∷ others) (get_or-map name_of_column columns i column (name_of_column column) within ∙ ap name_of_column (sym at))

no_names : (taken : List TableColumn) → used_names taken [] ≡ []
no_names [] = refl
no_names (t ∷ ts) = refl

pub names_all : (taken : List TableColumn) (columns : List Column) (i : ℕ) (names : List (List ℕ)) → min (length taken) (length columns) ≤ i →
    names ++ used_names (drop i taken) (drop i (map name_of_column columns)) ≡ used_names taken (map name_of_column columns) →
    names ≡ used_names taken (map name_of_column columns)
names_all taken columns i names past so_far =
    sym (append-nil names) ∙ ap (λ ns. names ++ ns) (sym none) ∙ so_far
  where
    none : used_names (drop i taken) (drop i (map name_of_column columns)) ≡ []
    none = elim (cases_lt i (length taken)) [
      | inl many ↦ ap (λ ns. used_names (drop i taken) ns) (drop_all i (map name_of_column columns) (omega (arith, length-map columns name_of_column, past, many)))
          ∙ no_names (drop i taken)
      | inr few ↦ ap (λ ts. used_names ts (drop i (map name_of_column columns))) (drop_all i taken few)
    ]
