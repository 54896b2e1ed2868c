-- What a form says of its lists: two types of its own are for lists and rows that are such only
-- because a value was one.
use Rattle.std.specs.Prelude.{ℕ, ◌+◌, ◌-◌, ◌==◌, List, [], ◌∷◌, get_or, length, map, if◌then◌else◌, Ok, Err}
use Rattle.std.specs.Str.{bytes_eq}
use Rattle.mysql_fragments.specs.Brackets.{Kinds}
use Rattle.mysql_fragments.specs.GivenFragments.{GivenFragments, positional}
use Rattle.mysql_fragments.specs.declared.brackets.Implicit.{Implicit}
use Rattle.mysql_fragments.specs.declared.brackets.Implicit.TheVariants.{No, List as AList, Rows}
use Rattle.mysql_flat_params.specs.FlatForm.{FormReading, read_name}
use Rattle.mysql_flat_params.specs.FlatFragments.{IsFormReading, IsOneMore, implicit_list_type, implicit_rows_type}

-- what is known of a fragment whose type has this number
abbrev pub kind_of_type : ℕ → Implicit
kind_of_type type =
    if type == implicit_list_type then AList
    else if type == implicit_rows_type then Rows
    else No

-- what is known of a form's fragments: of those by position by their numbers, of those by name by
-- their names
pub record FormKinds : Type 0 where
  pub at_place : ℕ → Implicit
  pub under_name : List ℕ → Implicit

-- before the first parameter nothing is known
abbrev pub no_kinds : FormKinds
no_kinds = record { at_place = λ place. No; under_name = λ name. No }

-- with a parameter of this number, by position
abbrev pub with_place : FormKinds → (place : ℕ) → Implicit → FormKinds
with_place kinds place kind = record kinds {
  at_place = λ other. if other == place then kind else kinds.at_place other;
}

-- with a parameter of this name
abbrev pub with_name : FormKinds → List ℕ → Implicit → FormKinds
with_name kinds name kind = record kinds {
  under_name = λ other. if bytes_eq other name then kind else kinds.under_name other;
}

-- with the parameter of this number and this name, which is empty for one by position; only an
-- implicit one has to be kept, since no two have the same number or name
abbrev pub with_kind : FormKinds → (place : ℕ) → List ℕ → Implicit → FormKinds
with_kind kinds place name No = kinds
with_kind kinds place [] kind = with_place kinds place kind
with_kind kinds place (b ∷ name) kind = with_name kinds (b ∷ name) kind

-- with the parameter of this number, whose name was read; the number of its type is after the name
abbrev pub with_read : FormKinds → (place : ℕ) → FormReading (List ℕ) → FormKinds
with_read kinds place (Ok read) = with_kind kinds place read.0 (kind_of_type (get_or read.1 0 0))
with_read kinds place (Err refusal) = kinds

-- these bytes end a form after `place` parameters, which give this and of which this is known: what
-- is known of the parameters of the whole form
pub data AreKindsFrom : (total place : ℕ) → GivenFragments → FormKinds → List ℕ → FormKinds →
    Type 0 where
  -- nothing is left
  known_to_end : (total place : ℕ) (given : GivenFragments) (kinds : FormKinds) →
      AreKindsFrom total place given kinds [] kinds
  -- the next parameter, and then the bytes after it
  known_on : (total place : ℕ) (given : GivenFragments) (kinds : FormKinds) (b : ℕ)
      (bytes : List ℕ) (more : GivenFragments) (rest : List ℕ) (all : FormKinds) →
      IsOneMore total place given (b ∷ bytes) more rest →
      AreKindsFrom total (place + 1) more
      (with_read kinds place (read_name place (total - length (b ∷ bytes)) (b ∷ bytes))) rest all →
      AreKindsFrom total place given kinds (b ∷ bytes) all

-- the form has these fragments, and this is known of them
abbrev pub IsKnownForm : List ℕ → GivenFragments → FormKinds → Type 0
IsKnownForm form given kinds = IsFormReading form (Ok given)
    × AreKindsFrom (length form) 0 (positional []) no_kinds form kinds

-- what is known of the fragments for the places of a query with these names, in order; a query
-- without names has an empty list of names
abbrev pub kinds_for : FormKinds → List (List ℕ) → Kinds
kinds_for kinds [] = kinds.at_place
kinds_for kinds (name ∷ names) =
    λ place. get_or (map kinds.under_name (name ∷ names)) place No
