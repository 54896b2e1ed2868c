-- The results and refusals of binding borrowed pairs, by the parameters that the pairs make.
use Rattle.std.specs.Prelude.{◌≡◌, ◌≤◌, ◌<◌, ◌⊎◌, ◌++◌, ℕ, Bool, List, Ok, alloc_error, length, map}
use Rattle.std.specs.Borrow.{Bor}
use Rattle.mysql_values.specs.declared.value.ValueRef.{ValueRef}
use Rattle.mysql_named_params.specs.Reading.{OnTokensIn, grammar_reading, wide_reading}
use Rattle.mysql_named_params.specs.declared.places.Reading.{Reading}
use Rattle.mysql_params_core.specs.GivenValues.{Given}
use Rattle.mysql_params_core.specs.Made.{few_pairs, pairs_made, seen_pair, IsFirstRedefined}
use Rattle.mysql_binding.specs.BindErrors.{IsCauseOrMemory, AreEqualBindErrors}
use Rattle.mysql_binding.specs.FirstCause.{first_cause}
use Rattle.mysql_binding.specs.Isolation.{IsBoundText}
use Rattle.mysql_binding.specs.declared.bind_error.BindError.{BindError}
use Rattle.mysql_binding.specs.declared.bind_error.BindError.TheVariants.{Memory}
use Rattle.mysql_binding.specs.declared.bind_pairs_error.BindPairsError.{BindPairsError}
use Rattle.mysql_binding.specs.declared.bind_pairs_error.BindPairsError.TheVariants.{Redefined, Bind}

-- the pairs make parameters, and `Holds` is true for what these give
abbrev pub OfPairs : List (Bor (List ℕ) × ValueRef) → (Given → Type 0) → Type 0
OfPairs pairs Holds = (given : Given) × (pairs_made (map seen_pair pairs) ≡ Ok given) × Holds given

-- if there are few pairs and they make parameters, `Holds` is true for what these give
abbrev pub IfFewPairs : List (Bor (List ℕ) × ValueRef) → (Given → Type 0) → Type 0
IfFewPairs pairs Holds = length pairs ≤ few_pairs → (given : Given) →
    pairs_made (map seen_pair pairs) ≡ Ok given → Holds given

-- there are many pairs, and the error is out of memory, which may come before they are compared
abbrev pub IsMemoryOfMany : List (Bor (List ℕ) × ValueRef) → BindError → Type 0
IsMemoryOfMany pairs error = (few_pairs < length pairs) × (error ≡ Memory alloc_error)

-- There are three cases. The pairs make no parameters, since an earlier pair has the name of this
-- one. Or they make parameters, and the error is the first cause that refuses these for the query,
-- or out of memory. Or there are many pairs, and out of memory comes before they are compared.
abbrev pub IsPairsRefusalIn : Reading → List ℕ → List (Bor (List ℕ) × ValueRef) → BindPairsError
    → Type 0
IsPairsRefusalIn reading query pairs (Redefined index) = IsFirstRedefined pairs index
IsPairsRefusalIn reading query pairs (Bind error) =
    IsMemoryOfMany pairs error ⊎ OfPairs pairs (λ given.
    OnTokensIn reading query (λ ts. IsCauseOrMemory (first_cause ts given) error))

-- the same with the names of the grammar
abbrev pub IsPairsRefusal : Bool → List ℕ → List (Bor (List ℕ) × ValueRef) → BindPairsError
    → Type 0
IsPairsRefusal mode = IsPairsRefusalIn (grammar_reading mode)

-- the same with wide names
abbrev pub IsWidePairsRefusal : Bool → List ℕ → List (Bor (List ℕ) × ValueRef) → BindPairsError
    → Type 0
IsWidePairsRefusal mode = IsPairsRefusalIn (wide_reading mode)

-- `after` is `before`, followed by the bound text of the query
abbrev pub IsBoundAfterIn : Reading → List ℕ → Given → (before after : List ℕ) → Type 0
IsBoundAfterIn reading query given before after = (text : List ℕ) × (after ≡ before ++ text)
    × OnTokensIn reading query (λ ts. IsBoundText reading.no_backslash_escape ts given text)

-- the same with the names of the grammar
abbrev pub IsBoundAfter : Bool → List ℕ → Given → (before after : List ℕ) → Type 0
IsBoundAfter mode = IsBoundAfterIn (grammar_reading mode)

-- the same variant, and the same fields
abbrev pub AreEqualBindPairsErrors : BindPairsError → BindPairsError → Type 0
AreEqualBindPairsErrors (Bind a) (Bind b) = AreEqualBindErrors a b
AreEqualBindPairsErrors (Bind a) b = ⊥
AreEqualBindPairsErrors a b = a ≡ b
