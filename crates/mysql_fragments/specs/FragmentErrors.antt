-- The causes for which fragments are refused, the first that holds, and the cause that each error
-- reports.
use Rattle.std.specs.Prelude.{◌≡◌, ◌⊎◌, ◌+◌, ℕ, Bool, false, List, [], ◌∷◌, length, if◌then◌else◌, Option, Some, None, option_map, Result, Ok, Err, alloc_error}
use Rattle.std.specs.List.{list_any}
use Rattle.std.specs.Option.{option_or}
use Rattle.mysql_values.specs.Literal.{is_float}
use Rattle.mysql_named_params.specs.Tokens.{Token}
use Rattle.mysql_named_params.specs.NamesAndMarks.{names, marks, has_both}
use Rattle.mysql_binding.specs.FirstCause.{mark_count_differs}
use Rattle.mysql_binding.specs.FirstNotAlone.{first_not_alone}
use Rattle.mysql_fragments.specs.FragmentFaults.{fault_of}
use Rattle.mysql_fragments.specs.GivenFragments.{GivenFragments, PlaceRefusal, missing, confused, fragments_for}
use Rattle.mysql_fragments.specs.declared.fragment.Item.{Item}
use Rattle.mysql_fragments.specs.declared.fragment.Item.TheVariants as item
use Rattle.mysql_fragments.specs.declared.fragment.Fragment.{Fragment}
use Rattle.mysql_fragments.specs.declared.fragment.Fragment.TheVariants as one
use Rattle.mysql_fragments.specs.declared.fragments_error.FragmentFault.{FragmentFault}
use Rattle.mysql_fragments.specs.declared.fragments_error.FragmentsError.{FragmentsError}
use Rattle.mysql_fragments.specs.declared.fragments_error.FragmentsError.TheVariants.{Mixed, Missing, Confusion, MarkCount, NotAlone, Float, Fault, Memory}

-- why fragments are refused
pub data Cause : Type 0 where
  -- the query has a name and a mark
  mixed_query : Cause
  -- a name has no fragment, or the fragments are of the other kind
  refused_fragments : PlaceRefusal → Cause
  -- it has no name, and this many marks for another number of fragments
  mark_count : (marks fragments : ℕ) → Cause
  -- the place of this number, at this position, doesn't stand alone
  not_alone : (place position : ℕ) → Cause
  -- the fragment for the place of this number has a float
  float_value : (place : ℕ) → Cause
  -- the fragment for the place of this number can't be written
  faulty : (place : ℕ) → FragmentFault → Cause

-- there is a name and a mark
abbrev pub mixed_cause : List Token → Option Cause
mixed_cause ts = if has_both ts then Some mixed_query else None

-- there are no names, and the marks are not as many as the fragments
abbrev pub count_cause : List Token → List Fragment → Option Cause
count_cause ts fragments =
    if mark_count_differs (length (names ts)) (marks ts) (length fragments)
    then Some (mark_count (marks ts) (length fragments))
    else None

-- the cause for the first place that doesn't stand alone
abbrev pub not_alone_cause : List Token → Option Cause
not_alone_cause ts = option_map (λ found. not_alone found.0 found.1) (first_not_alone ts)

-- the item is a float
abbrev pub is_float_item : Item → Bool
is_float_item (item.Value value) = is_float value
is_float_item (item.Decimal number) = false
is_float_item (item.Double double) = false

-- a value of the fragment is a float
abbrev pub has_float : Fragment → Bool
has_float (one.Value value) = is_float value
has_float (one.List items) = list_any is_float_item items.items
has_float (one.Rows rows) = list_any (λ row. list_any is_float_item row.items) rows.items
has_float (one.Assignments assignments) =
    list_any (λ assignment. is_float_item assignment.item) assignments.items
has_float fragment = false

-- the place of the first fragment with a float, if `place` fragments come before these
abbrev pub first_float_from : ℕ → List Fragment → Option ℕ
first_float_from place [] = None
first_float_from place (fragment ∷ fragments) =
    if has_float fragment then Some place else first_float_from (place + 1) fragments

-- the place of the first fragment with a float, if the values are to be written as literals
abbrev pub literal_float : Bool → List Fragment → Option ℕ
literal_float as_literals fragments = if as_literals then first_float_from 0 fragments else None

-- the cause for the first float
abbrev pub float_cause : Bool → List Fragment → Option Cause
float_cause as_literals fragments = option_map float_value (literal_float as_literals fragments)

-- the place of the first fragment that can't be written, and its fault, if `place` fragments come
-- before these
abbrev pub first_fault_from : ℕ → List Fragment → Option (ℕ × FragmentFault)
first_fault_from place [] = None
first_fault_from place (fragment ∷ fragments) =
    option_or (option_map (λ fault. (place, fault)) (fault_of fragment))
    (first_fault_from (place + 1) fragments)

-- the cause for the first fragment that can't be written
abbrev pub fault_cause : List Fragment → Option Cause
fault_cause fragments = option_map (λ found. faulty found.0 found.1) (first_fault_from 0 fragments)

-- the first of the causes after the fragments for the places are known
abbrev pub later_cause : Bool → List Token → List Fragment → Option Cause
later_cause as_literals ts fragments =
    option_or (count_cause ts fragments) (option_or (not_alone_cause ts)
    (option_or (float_cause as_literals fragments) (fault_cause fragments)))

-- the first cause after a mixed query
abbrev pub cause_of_places : Bool → List Token → Result (List Fragment) PlaceRefusal → Option Cause
cause_of_places as_literals ts (Err refusal) = Some (refused_fragments refusal)
cause_of_places as_literals ts (Ok fragments) = later_cause as_literals ts fragments

-- The first cause that holds of a query with these tokens and of the fragments that are given to
-- it, if any. The causes are those of `bind_text`, in its order, and then the faults of fragments.
-- A float is a cause only if the values are to be written as literals.
abbrev pub first_cause : Bool → List Token → GivenFragments → Option Cause
first_cause as_literals ts given =
    option_or (mixed_cause ts) (cause_of_places as_literals ts (fragments_for given (names ts)))

-- the cause that the error reports; none for out of memory
abbrev pub cause_of : FragmentsError → Option Cause
cause_of Mixed = Some mixed_query
cause_of (Missing error) = Some (refused_fragments (missing error.0.items))
cause_of (Confusion confusion) = Some (refused_fragments (confused confusion))
cause_of (MarkCount marks fragments) = Some (mark_count marks fragments)
cause_of (NotAlone place at) = Some (not_alone place at)
cause_of (Float place) = Some (float_value place)
cause_of (Fault place fault) = Some (faulty place fault)
cause_of (Memory error) = None

-- either there is a first cause and the error is this cause, or the error is `Memory`
abbrev pub IsCauseOrMemory : Option Cause → FragmentsError → Type 0
IsCauseOrMemory cause error = (error ≡ Memory alloc_error)
    ⊎ ((why : Cause) × (cause ≡ Some why) × (cause_of error ≡ Some why))

-- the error is the first cause if there is one; if there is none, it is `Memory`
abbrev pub IsCauseElseMemory : Option Cause → FragmentsError → Type 0
IsCauseElseMemory cause error = ((cause ≡ None) × (error ≡ Memory alloc_error))
    ⊎ ((why : Cause) × (cause ≡ Some why) × (cause_of error ≡ Some why))

-- the error is the refusal of the lookup, or out of memory
abbrev pub IsPlaceRefusal : Result (List Fragment) PlaceRefusal → FragmentsError → Type 0
IsPlaceRefusal looked_up error = (error ≡ Memory alloc_error)
    ⊎ ((why : PlaceRefusal) × (looked_up ≡ Err why)
    × (cause_of error ≡ Some (refused_fragments why)))

-- the error says that this name has no fragment, or is out of memory
abbrev pub IsMissingOrMemory : List ℕ → FragmentsError → Type 0
IsMissingOrMemory name error = (error ≡ Memory alloc_error)
    ⊎ (cause_of error ≡ Some (refused_fragments (missing name)))
