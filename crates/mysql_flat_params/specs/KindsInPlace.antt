-- Private: what is known of a form's fragments, as `form_in_place` keeps it.
use Rattle.std.specs.Prelude.{◌≡◌, ℕ, List, get_or, Option, Some, None}
use Rattle.std.specs.Borrow.{Bor}
use Rattle.std.specs.Map.{lookup}
use Rattle.std.specs.Ordering.{nat_cmp, is_eq}
use Rattle.std.specs.Cmp.Lexicographic.{slice_cmp}
use Rattle.mysql_fragments.specs.declared.brackets.Implicit.{Implicit}
use Rattle.mysql_fragments.specs.declared.brackets.Implicit.TheVariants.{No}
use Rattle.mysql_fragments.specs.GivenFragments.{GivenFragments}
use Rattle.mysql_flat_params.specs.FormInPlace.{IsGivenAs}
use Rattle.mysql_flat_params.specs.FormKinds.{FormKinds}
use Rattle.mysql_flat_params.specs.declared.fragments_in_place.ReadForm.{ReadForm}
use Rattle.mysql_flat_params.specs.declared.kinds_in_place.KindsInPlace.{KindsInPlace}

-- what is kept, or that the fragment is no implicit list
abbrev pub kind_or_no : Option Implicit → Implicit
kind_or_no None = No
kind_or_no (Some kind) = kind

-- what is kept under a name
abbrev pub kind_under : List (Bor (List ℕ) × Implicit) → List ℕ → Implicit
kind_under entries name =
    kind_or_no (lookup (λ key. is_eq (slice_cmp nat_cmp name key.now)) entries)

-- each number and each name has what is kept of it
pub record AreKeptKinds (kept : KindsInPlace) (kinds : FormKinds) : Type 0 where
  pub places : (place : ℕ) → get_or kept.by_place.items place No ≡ kinds.at_place place
  pub names : (name : List ℕ) → kind_under kept.by_name.entries name ≡ kinds.under_name name

-- these fragments are given by what was read, and this is known of them
abbrev pub IsReadAs : ReadForm → GivenFragments → FormKinds → Type 0
IsReadAs read given kinds = IsGivenAs read.kept given × AreKeptKinds read.kinds kinds
