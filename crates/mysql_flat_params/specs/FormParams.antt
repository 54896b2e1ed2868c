-- Private: the form's parameters, with names in a hash map or kept in place.
use Rattle.std.specs.Prelude.{ℕ, List, []}
use Rattle.std.specs.Borrow.{Bor}
use Rattle.mysql_value_core.specs.declared.value.ValueRef.{ValueRef}
use Rattle.mysql_values.specs.BorrowedValue.{owned_values}
use Rattle.mysql_params_core.specs.GivenValues.{Given, ValueMap, empty, named, positional}
use Rattle.mysql_params_core.specs.GivenBorrowed.{pair_map}
use Rattle.mysql_flat_params.specs.declared.form.FormParams.{FormParams}
use Rattle.mysql_flat_params.specs.declared.form.FormParams.TheVariants.{Empty, Named, Positional}
use Rattle.mysql_flat_params.specs.declared.form_names.NamesInPlace.{NamesInPlace}
use Rattle.mysql_flat_params.specs.declared.form_names.NamesInPlace.TheVariants.{Pairs, Sorted}

-- the parameters, by the map that the names stand for
abbrev pub given_in_form : {M : Type 0} → (M → ValueMap) → FormParams M → Given
given_in_form values Empty = empty
given_in_form values (Named names) = named (values names)
given_in_form values (Positional list) = positional (owned_values list.items)

-- the map that names kept in place stand for
abbrev pub values_in_place : NamesInPlace → ValueMap
values_in_place (Pairs pairs) = pair_map pairs.items
values_in_place (Sorted entries) = pair_map entries.entries

-- the parameters, if the names are kept in place
abbrev pub given_in_place : FormParams NamesInPlace → Given
given_in_place = given_in_form values_in_place

-- the pairs of names that are kept so
abbrev pub pairs_of_names : NamesInPlace → List (Bor (List ℕ) × ValueRef)
pairs_of_names (Pairs pairs) = pairs.items
pairs_of_names (Sorted entries) = []

-- the pairs, if the names are kept so
abbrev pub pairs_in_place : FormParams NamesInPlace → List (Bor (List ℕ) × ValueRef)
pairs_in_place Empty = []
pairs_in_place (Named names) = pairs_of_names names
pairs_in_place (Positional list) = []
