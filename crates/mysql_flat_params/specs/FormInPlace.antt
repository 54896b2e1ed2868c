-- Private: the fragments of a form that are kept in the form's own bytes, and the fragments of the
-- same content.
use Rattle.std.specs.Prelude.{◌≡◌, ◌⊎◌, ℕ, Bool, true, false, List, [], ◌∷◌, map, Option, Some, None, Ok, ⊤, alloc_error}
use Rattle.std.specs.Borrow.{Bor}
use Rattle.std.specs.FinMap.{get}
use Rattle.std.specs.Global.{Vec}
use Rattle.std.specs.Map.{lookup}
use Rattle.std.specs.Ordering.{nat_cmp, is_eq}
use Rattle.std.specs.Cmp.Lexicographic.{slice_cmp}
use Rattle.std.specs.Simd.{first_chunks}
use Rattle.mysql_value_core.specs.declared.value.ValueRef.{ValueRef}
use Rattle.mysql_values.specs.BorrowedValue.{owned}
use Rattle.mysql_named_params.specs.NamesAndMarks.{names}
use Rattle.mysql_named_params.specs.Tokens.{Token}
use Rattle.mysql_fragments.specs.BorrowedFragments.{AreSaid, cell_item}
use Rattle.mysql_fragments.specs.FragmentErrors.{Cause, cause_of, mixed_cause, mixed_query, refused_fragments}
use Rattle.mysql_fragments.specs.GivenFragments.{FragmentMap, GivenFragments, fragments_for, named, positional}
use Rattle.mysql_fragments.specs.declared.fragment_ref.FragmentRef.{FragmentRef}
use Rattle.mysql_fragments.specs.declared.fragments_error.FragmentsError.{FragmentsError}
use Rattle.mysql_fragments.specs.declared.fragments_error.FragmentsError.TheVariants.{Memory}
use Rattle.mysql_fragments.specs.declared.fragment.Item.{Item}
use Rattle.mysql_fragments.specs.declared.fragment.Fragment.{Fragment}
use Rattle.mysql_fragments.specs.declared.fragment.Fragment.TheVariants as one
use Rattle.mysql_flat_params.specs.FragmentContent.{ItemContent, value_item}
use Rattle.mysql_flat_params.specs.declared.fragment_in_place.FragmentInPlace.{FragmentInPlace}
use Rattle.mysql_flat_params.specs.declared.fragment_in_place.FragmentInPlace.TheVariants as kept
use Rattle.mysql_flat_params.specs.declared.rows_in_place.RowsInPlace.{RowsInPlace}
use Rattle.mysql_flat_params.specs.declared.fragments_in_place.FormInPlace.{FormInPlace}
use Rattle.mysql_flat_params.specs.declared.fragments_in_place.FormInPlace.TheVariants as whole

-- the content of a value as an item
abbrev pub cell_content : ValueRef → ItemContent
cell_content cell = value_item (owned cell)

-- the contents of cells, row by row
abbrev pub rows_content : RowsInPlace → List (List ItemContent)
rows_content rows = map (map cell_content) (first_chunks rows.width rows.count rows.cells.items)

-- the fragment is the kept one, or has the values that are kept
abbrev pub IsKeptAs : FragmentInPlace → Fragment → Type 0
IsKeptAs (kept.Value value) said = said ≡ one.Value (owned value)
IsKeptAs (kept.List cells) said = (items : Vec Item) × (said ≡ one.List items)
    × (items.items ≡ map cell_item cells.items)
IsKeptAs (kept.Rows rows) said = (said_rows : Vec (Vec Item)) × (said ≡ one.Rows said_rows)
    × (map (λ row. row.items) said_rows.items
    ≡ map (map cell_item) (first_chunks rows.width rows.count rows.cells.items))
IsKeptAs (kept.Copied fragment) said = said ≡ fragment

-- there are as many fragments, and each is the kept one
abbrev pub AreKeptAs : List FragmentInPlace → List Fragment → Type 0
AreKeptAs [] [] = ⊤
AreKeptAs [] (said ∷ more) = ⊥
AreKeptAs (fragment ∷ fragments) [] = ⊥
AreKeptAs (fragment ∷ fragments) (said ∷ more) = IsKeptAs fragment said × AreKeptAs fragments more

-- there is no fragment, and none is kept; or the fragment is the kept one
abbrev pub IsFoundAs : Option FragmentInPlace → Option Fragment → Type 0
IsFoundAs None None = ⊤
IsFoundAs None (Some said) = ⊥
IsFoundAs (Some fragment) None = ⊥
IsFoundAs (Some fragment) (Some said) = IsKeptAs fragment said

-- the fragment that is kept under a name
abbrev pub kept_at : List (Bor (List ℕ) × FragmentInPlace) → List ℕ → Option FragmentInPlace
kept_at entries name = lookup (λ key. is_eq (slice_cmp nat_cmp name key.now)) entries

-- each name has the fragment that is kept under it
abbrev pub IsMapKeptAs : List (Bor (List ℕ) × FragmentInPlace) → FragmentMap → Type 0
IsMapKeptAs entries fragments =
    (name : List ℕ) → IsFoundAs (kept_at entries name) (get fragments name)

-- these fragments are given by the kept ones
abbrev pub IsGivenAs : FormInPlace → GivenFragments → Type 0
IsGivenAs (whole.Positional list) given =
    (said : List Fragment) × (given ≡ positional said) × AreKeptAs list.items said
IsGivenAs (whole.Named entries) given =
    (fragments : FragmentMap) × (given ≡ named fragments) × IsMapKeptAs entries.entries fragments

-- the query isn't mixed, and these borrowed fragments are those that are given to its places
abbrev pub AreGivenTo : GivenFragments → List FragmentRef → List Token → Type 0
AreGivenTo given placed ts = (mixed_cause ts ≡ None) × (said : List Fragment)
    × (fragments_for given (names ts) ≡ Ok said) × AreSaid placed said

-- a cause that is found before the places of the query are looked at
abbrev pub is_early : Cause → Bool
is_early mixed_query = true
is_early (refused_fragments refusal) = true
is_early cause = false

-- the error reports such a cause, or is out of memory
abbrev pub IsEarly : FragmentsError → Type 0
IsEarly error = (error ≡ Memory alloc_error)
    ⊎ ((why : Cause) × (cause_of error ≡ Some why) × (is_early why ≡ true))
