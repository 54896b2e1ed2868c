-- What borrowed pairs give to a query, and why they can't be given to any.
use Rattle.std.specs.Prelude.{◌≡◌, ◌<◌, ℕ, List, Ok, length, map, alloc_error}
use Rattle.std.specs.Borrow.{Bor}
use Rattle.mysql_values.specs.declared.value.ValueRef.{ValueRef}
use Rattle.mysql_params_core.specs.GivenValues.{Given, named}
use Rattle.mysql_params_core.specs.GivenBorrowed.{pair_map}
use Rattle.mysql_params_core.specs.Made.{few_pairs, pairs_made, seen_pair, IsFirstRedefined}
use Rattle.mysql_bind_call.specs.AnyGiven.{AnyGiven, values, fragments}
use Rattle.mysql_bind_call.specs.declared.refusal.BindRefusal.{BindRefusal}
use Rattle.mysql_bind_call.specs.declared.refusal.BindRefusal.TheVariants.{Redefined, Memory}

-- the pairs make parameters: no name is given twice
abbrev pub ArePairsMade : List (Bor (List ℕ) × ValueRef) → Type 0
ArePairsMade pairs = pairs_made (map seen_pair pairs) ≡ Ok (named (pair_map pairs))

-- the pairs make these parameters
abbrev pub ArePairs : List (Bor (List ℕ) × ValueRef) → AnyGiven → Type 0
ArePairs pairs (values given) = pairs_made (map seen_pair pairs) ≡ Ok given
ArePairs pairs (fragments given) = ⊥

-- an earlier pair has the name of this pair; or there are many pairs, and out of memory comes
-- before their names are compared
abbrev pub IsPairsRefusal : List (Bor (List ℕ) × ValueRef) → BindRefusal → Type 0
IsPairsRefusal pairs (Redefined index) = IsFirstRedefined pairs index
IsPairsRefusal pairs (Memory error) = (few_pairs < length pairs) × (error ≡ alloc_error)
IsPairsRefusal pairs refusal = ⊥
