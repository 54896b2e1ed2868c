-- Which of the fragments that borrowed ones say are steady.
use Rattle.std.specs.List.{list_all}
use Rattle.std.specs.Global.{Vec}
use Rattle.std.specs.Prelude.{Bool, false, Some, None, ⊤, if◌then◌else◌}
use Rattle.std.proofs.lemmas.List.{drop_all}
use Rattle.std.proofs.Common.{◌≡◌, ◌<◌, ◌≤◌, ◌+◌, ℕ, zero, suc, true, List, [], ◌∷◌, length, map, drop, get_or, refl, sym, ap, ◌∙◌, arith, add-one}
use Rattle.mysql_portable.specs.Steady.{is_steady}
use Rattle.mysql_values.specs.declared.value.ValueRef.{ValueRef}
use Rattle.mysql_fragments.specs.BorrowedFragments.{AreSaid, Says, cell_item, cell_rows}
use Rattle.mysql_fragments.specs.FragmentText.{fragment_text, item_text}
use Rattle.mysql_fragments.specs.declared.fragment.Item.{Item}
use Rattle.mysql_fragments.specs.declared.fragment.Fragment.{Fragment}
use Rattle.mysql_fragments.specs.declared.fragment_ref.FragmentRef.{FragmentRef}
use Rattle.mysql_fragments.specs.declared.fragment_ref.FragmentRef.TheVariants as borrowed
use Rattle.mysql_fragments.proofs.SaidLemmas.{said_count}
use Rattle.mysql_fragments.specs.SteadyFragments.{first_unsteady_from}
use Rattle.mysql_fragments.proofs.SteadyPartLemmas.{fragment_steady_list, fragment_steady_rows}

cells_steady : (cells : List ValueRef) → list_all (λ item. list_all is_steady (item_text item)) (map cell_item cells) ≡ true
cells_steady [] = refl
cells_steady (cell ∷ cells) = cells_steady cells

rows_steady : (rows : List (Vec Item)) (cells : List (List ValueRef)) → map (λ row. row.items) rows ≡ map (map cell_item) cells →
    list_all (λ row. list_all (λ item. list_all is_steady (item_text item)) row.items) rows ≡ true
rows_steady [] cells e = refl
rows_steady (row ∷ rows) [] e = cc
rows_steady (row ∷ rows) (c ∷ cells) e =
    let here : row.items ≡ map cell_item c = ap (λ l. get_or l 0 []) e in
    let this : list_all (λ item. list_all is_steady (item_text item)) row.items ≡ true = ap (list_all (λ item. list_all is_steady (item_text item))) here ∙ cells_steady c in
    rw this (rows_steady rows cells (ap (drop 1) e))

-- a fragment of values
abbrev pub IsOfValues : FragmentRef → Type 0
IsOfValues (borrowed.Owned fragment) = ⊥
IsOfValues fragment = ⊤

pub values_steady : (fragment : FragmentRef) → IsOfValues fragment → (said : Fragment) → Says fragment said → true ≡ list_all is_steady (fragment_text said)
values_steady (borrowed.Owned fragment) none said h = absurd none
values_steady (borrowed.Value value) of said h = sym (ap (λ f. list_all is_steady (fragment_text f)) h)
values_steady (borrowed.List cells) of said (items, is, cells_are) =
    sym (ap (λ f. list_all is_steady (fragment_text f)) is
    ∙ (fragment_steady_list items
    ∙ (ap (list_all (λ item. list_all is_steady (item_text item))) cells_are ∙ cells_steady cells.now)))
values_steady (borrowed.Rows rows) of said (said_rows, is, cells_are) =
    sym (ap (λ f. list_all is_steady (fragment_text f)) is ∙ (fragment_steady_rows said_rows ∙ rows_steady said_rows.items (cell_rows rows) cells_are))

-- the first of the rest
pub said_at : (fragments : List FragmentRef) (said : List Fragment) (place : ℕ) (d : FragmentRef) → AreSaid fragments said → place < length fragments →
    (one : Fragment) × (drop place said ≡ one ∷ drop (suc place) said) × Says (get_or fragments place d) one
said_at [] said place d all below = absurd (omega (arith, below))
said_at (f ∷ fragments) [] place d all below = absurd all
said_at (f ∷ fragments) (s ∷ said) zero d all below = (s, refl, all.0)
said_at (f ∷ fragments) (s ∷ said) (suc place) d all below = said_at fragments said place d all.1 (omega (arith, below))

module _ (fragments : List FragmentRef) (said : List Fragment) (place : ℕ) (d : FragmentRef) (all : AreSaid fragments said) (below : place < length fragments)
    (so_far : first_unsteady_from place (drop place said) ≡ first_unsteady_from 0 said) (steady : Bool)
    (is : (one : Fragment) → Says (get_or fragments place d) one → steady ≡ list_all is_steady (fragment_text one)) where
  here : if steady then first_unsteady_from (place + 1) (drop (place + 1) said) else Some place ≡ first_unsteady_from 0 said
  here =
      let (one, one_more, says) = said_at fragments said place d all below in
      let first : drop place said ≡ one ∷ drop (place + 1) said = rw add-one one_more in
      ap (λ b. if b then first_unsteady_from (place + 1) (drop (place + 1) said) else Some place) (is one says)
      ∙ (sym (ap (first_unsteady_from place) first) ∙ so_far)

  pub steady_here : steady ≡ true → first_unsteady_from (place + 1) (drop (place + 1) said) ≡ first_unsteady_from 0 said
  steady_here e = sym (ap (λ b. if b then first_unsteady_from (place + 1) (drop (place + 1) said) else Some place) e) ∙ here

  pub unsteady_here : steady ≡ false → Some place ≡ first_unsteady_from 0 said
  unsteady_here e = sym (ap (λ b. if b then first_unsteady_from (place + 1) (drop (place + 1) said) else Some place) e) ∙ here

pub all_steady : (fragments : List FragmentRef) (said : List Fragment) (place : ℕ) → AreSaid fragments said → length fragments ≤ place →
    first_unsteady_from place (drop place said) ≡ first_unsteady_from 0 said → None ≡ first_unsteady_from 0 said
all_steady fragments said place all past so_far =
    sym (ap (first_unsteady_from place) (drop_all place said (omega (arith, said_count fragments said all, past)))) ∙ so_far
