-- Fewer rows: the text of a fragment is a part of that of one with more rows, and no fault and no float
-- comes with fewer rows.
use Rattle.std.specs.Prelude.{codes}
use Rattle.std.specs.Global.{Vec}
use Rattle.std.specs.List.{list_any}
use Rattle.std.proofs.Common.{◌≡◌, ◌∙◌, ◌+◌, ◌++◌, ◌<◌, ℕ, false, List, [], ◌∷◌, length, map, None, refl, sym, ap, arith, append_assoc, append-nil}
use Rattle.std.proofs.lemmas.Bool.{or_parts}
use Rattle.std.proofs.lemmas.Grind.{flat_map-append}
use Rattle.std.proofs.lemmas.List.{map-append}
use Rattle.std.proofs.lemmas.List.Folds.{list_any-append}
use Rattle.mysql_values.specs.declared.value.Value.{Value}
use Rattle.mysql_binding.proofs.CauseLemmas.{or_none}
use Rattle.mysql_fragments.specs.FragmentErrors.{has_float, is_float_item}
use Rattle.mysql_fragments.specs.FragmentFaults.{fault_of, row_fault, rows_fault, rows_fault_from}
use Rattle.mysql_fragments.specs.FragmentText.{each_after, filled_row, filled_text, joined}
use Rattle.mysql_fragments.specs.declared.fragment.Item.{Item}
use Rattle.mysql_fragments.specs.declared.fragment.Fragment.{Fragment}
use Rattle.mysql_fragments.specs.declared.fragment.Fragment.TheVariants as one
use Rattle.mysql_bind_core.specs.Contents.{item_said}
use Rattle.mysql_bind_core.specs.RowItems.{RowsSaid, rows_said}
use Rattle.mysql_bind_core.proofs.SameContentLemmas.{AreSameRows, IsSameFragment, same_rows}

-- both have the same content, or the first has that of some rows of the second, from the front
pub data IsLess : Fragment → Fragment → Type 0 where
  less_same : (f g : Fragment) → IsSameFragment f g → IsLess f g
  less_rows : (xs ys : Vec (Vec Item)) (q : Vec Item) (qs more : List (Vec Item)) → AreSameRows xs.items (q ∷ qs) →
      ys.items ≡ (q ∷ qs) ++ more → IsLess (one.Rows xs) (one.Rows ys)

-- the rows that say the first part, and those behind them
split_rows : (qs : List (Vec Item)) (rs more : RowsSaid) → rows_said qs ≡ rs ++ more →
    (front : List (Vec Item)) × (back : List (Vec Item)) × (qs ≡ front ++ back) × (rows_said front ≡ rs)
split_rows qs [] more e = ([], qs, refl, refl)
split_rows [] (r ∷ rs) more e = cc
split_rows (q ∷ qs) (r ∷ rs) more e =
    let first : map item_said q.items ≡ r = cc in
    let s = split_rows qs rs more cc in
    (q ∷ s.0, s.1, (λ i. q ∷ s.2 i), (λ i. first i ∷ s.3 i))

pub fewer_rows : (xs ys : Vec (Vec Item)) (rs more : RowsSaid) → 0 < length rs → rows_said xs.items ≡ rs → rows_said ys.items ≡ rs ++ more →
    IsLess (one.Rows xs) (one.Rows ys)
fewer_rows xs ys rs more some a b = let s = split_rows ys.items rs more b in go s.0 s.1 s.2 s.3
  where
    go : (front back : List (Vec Item)) → ys.items ≡ front ++ back → rows_said front ≡ rs → IsLess (one.Rows xs) (one.Rows ys)
    go [] back e c = absurd (omega (arith, some, ap length c))
    go (q ∷ qs) back e c = less_rows xs ys q qs back (same_rows xs.items (q ∷ qs) (a ∙ sym c)) e

-- the text of more rows begins with that of fewer
pub joined-append : (separator : List ℕ) (x : List ℕ) (xs ys : List (List ℕ)) → joined separator (x ∷ xs ++ ys) ≡ joined separator (x ∷ xs) ++ each_after separator ys
joined-append separator x xs ys =
    ap (λ z. x ++ z) (flat_map-append (λ text. separator ++ text) xs ys) ∙ sym (append_assoc x (each_after separator xs) (each_after separator ys))

pub less_text : (f g : Fragment) → IsLess f g → (write : Value → List ℕ) → (more : List ℕ) × (filled_text write g ≡ filled_text write f ++ more)
less_text f g (less_same a b s) write = ([], sym (s.text write) ∙ sym (append-nil (filled_text write a)))
less_text f g (less_rows xs ys q qs more s e) write =
    let behind = each_after (codes ", ") (map (filled_row write) more) in (
      behind,
      ap (λ z. joined (codes ", ") (map (filled_row write) z)) e
          ∙ (ap (λ z. joined (codes ", ") (filled_row write q ∷ z)) (map-append (filled_row write) qs more)
          ∙ (joined-append (codes ", ") (filled_row write q) (map (filled_row write) qs) (map (filled_row write) more)
          ∙ ap (λ z. joined (codes ", ") z ++ behind) (sym (s.texts write)))),
    )

-- no fault comes with fewer rows,
pub rows_faults : (width r : ℕ) (xs ys : List (Vec Item)) → rows_fault_from width r (xs ++ ys) ≡ None →
    (rows_fault_from width r xs ≡ None) × (s : ℕ) × (rows_fault_from width s ys ≡ None)
rows_faults width r [] ys e = (refl, r, e)
rows_faults width r (x ∷ xs) ys e =
    let p = or_none (row_fault width r x.items) _ e in
    let more = rows_faults width (r + 1) xs ys p.1 in
    (rw p.0 more.0, more.1, more.2)

pub less_fault : (f g : Fragment) → IsLess f g → fault_of g ≡ None → fault_of f ≡ None
less_fault f g (less_same a b s) e = s.fault ∙ e
less_fault f g (less_rows xs ys q qs more s h) e =
    s.fault ∙ (rows_faults (length q.items) 0 (q ∷ qs) more (sym (ap rows_fault h) ∙ e)).0

-- and no float
pub less_float : (f g : Fragment) → IsLess f g → has_float g ≡ false → has_float f ≡ false
less_float f g (less_same a b s) e = s.float ∙ e
less_float f g (less_rows xs ys q qs more s h) e =
    let floats = λ (r : Vec Item). list_any is_float_item r.items in
    s.floats ∙ (or_parts (list_any floats (q ∷ qs)) (list_any floats more)
    (sym (list_any-append floats (q ∷ qs) more) ∙ (sym (ap (list_any floats) h) ∙ e))).0
