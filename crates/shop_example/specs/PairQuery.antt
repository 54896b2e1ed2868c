-- What a query for orders is given by borrowed pairs, and why it is refused.
use Rattle.std.specs.Prelude.{◌≡◌, ◌⊎◌, ℕ, List, [], ◌∷◌, Ok, Err, codes, alloc_error}
use Rattle.mysql_values.specs.StringUnits.{with_backslashes}
use Rattle.mysql_values.specs.ValueOf.{bytes_value, uint_value}
use Rattle.mysql_params.specs.BindErrors.{IsCauseOrMemory}
use Rattle.mysql_params.specs.FirstCause.{first_cause}
use Rattle.mysql_params.specs.Given.{Given}
use Rattle.mysql_params.specs.Made.{Made, pairs_made, redefined}
use Rattle.mysql_params.specs.Tokens.{OnTokens}
use Rattle.mysql_params.specs.declared.BindError.TheVariants.{Memory}
use Rattle.mysql_params.specs.declared.BindPairsError.{BindPairsError}
use Rattle.mysql_params.specs.declared.BindPairsError.TheVariants.{Redefined, Bind}

-- what the number of a customer and a text make, by name
abbrev pub orders_made : ℕ → List ℕ → Made
orders_made customer text = pairs_made ((codes "customer", uint_value customer)
    ∷ (codes "text", bytes_value text) ∷ [])

-- A name stands twice among what was made; or the error is out of memory, or the first cause that
-- refuses the query with it.
abbrev pub IsOrdersRefusal : List ℕ → Made → BindPairsError → Type 0
IsOrdersRefusal query made (Redefined index) = (name : List ℕ) × (made ≡ Err (redefined name))
IsOrdersRefusal query made (Bind error) = (error ≡ Memory alloc_error)
    ⊎ ((values : Given) × (made ≡ Ok values)
    × OnTokens with_backslashes query (λ ts. IsCauseOrMemory (first_cause ts values) error))
