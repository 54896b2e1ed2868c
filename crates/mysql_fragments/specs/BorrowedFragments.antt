-- Borrowed fragments, and the fragments of the same content.
use Rattle.std.specs.Prelude.{◌≡◌, ◌<◌, ◌^◌, List, [], ◌∷◌, length, map, ⊤}
use Rattle.std.specs.Global.{Vec}
use Rattle.std.specs.Simd.{first_chunks}
use Rattle.mysql_value_core.specs.declared.value.ValueRef.{ValueRef}
use Rattle.mysql_values.specs.BorrowedValue.{owned}
use Rattle.mysql_fragments.specs.declared.fragment.Item.{Item}
use Rattle.mysql_fragments.specs.declared.fragment.Item.TheVariants as item
use Rattle.mysql_fragments.specs.declared.fragment.Fragment.{Fragment}
use Rattle.mysql_fragments.specs.declared.fragment.Fragment.TheVariants as one
use Rattle.mysql_fragments.specs.declared.fragment_ref.FragmentRef.{FragmentRef}
use Rattle.mysql_fragments.specs.declared.fragment_ref.FragmentRef.TheVariants as borrowed
use Rattle.mysql_fragments.specs.declared.rows_ref.RowsRef.{RowsRef}

-- the item of a borrowed value
abbrev pub cell_item : ValueRef → Item
cell_item cell = item.Value (owned cell)

-- the rows of the cells: `count` rows with `width` cells in each
abbrev pub cell_rows : RowsRef → List (List ValueRef)
cell_rows rows = first_chunks rows.width rows.count rows.cells.now

-- the fragment has the content of the borrowed one: it is the same one, or that of the same values
abbrev pub Says : FragmentRef → Fragment → Type 0
Says (borrowed.Owned fragment) said = said ≡ fragment.now
Says (borrowed.Value value) said = said ≡ one.Value (owned value)
Says (borrowed.List cells) said = (items : Vec Item) × (said ≡ one.List items)
    × (items.items ≡ map cell_item cells.now)
Says (borrowed.Rows rows) said = (said_rows : Vec (Vec Item)) × (said ≡ one.Rows said_rows)
    × (map (λ row. row.items) said_rows.items ≡ map (map cell_item) (cell_rows rows))

-- there are as many fragments, and each has the content of its borrowed one
abbrev pub AreSaid : List FragmentRef → List Fragment → Type 0
AreSaid [] [] = ⊤
AreSaid [] (said ∷ more) = ⊥
AreSaid (fragment ∷ fragments) [] = ⊥
AreSaid (fragment ∷ fragments) (said ∷ more) = Says fragment said × AreSaid fragments more

-- it has fewer cells than a vector can have
abbrev pub HasFewCells : FragmentRef → Type 0
HasFewCells (borrowed.Owned fragment) = ⊤
HasFewCells (borrowed.Value value) = ⊤
HasFewCells (borrowed.List cells) = length cells.now < 2 ^ 63
HasFewCells (borrowed.Rows rows) = length rows.cells.now < 2 ^ 63

-- each of the borrowed fragments has fewer cells than a vector can have
abbrev pub HaveFewCells : List FragmentRef → Type 0
HaveFewCells [] = ⊤
HaveFewCells (fragment ∷ fragments) = HasFewCells fragment × HaveFewCells fragments
