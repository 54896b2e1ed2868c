-- What a search for orders gives to a query, and why the search is refused.
use Rattle.std.specs.Prelude.{ℕ, List, [], ◌∷◌, codes, IfOk, ⊤}
use Rattle.mysql_values.specs.Answer.{IsExpectedRefusal}
use Rattle.mysql_values.specs.StringUnits.{with_backslashes}
use Rattle.mysql_values.specs.ValueOf.{bytes_value, uint_value}
use Rattle.mysql_params.specs.BindErrors.{IsCauseOrMemory}
use Rattle.mysql_params.specs.Errors.{to_params_refusal}
use Rattle.mysql_params.specs.FirstCause.{first_cause}
use Rattle.mysql_params.specs.Made.{Made, pairs_made}
use Rattle.mysql_params.specs.Tokens.{OnTokens}
use Rattle.shop_example.specs.Day.{day_value}
use Rattle.shop_example.specs.declared.day.Day.{Day}
use Rattle.shop_example.specs.declared.order_query.QueryError.{QueryError}
use Rattle.shop_example.specs.declared.order_query.QueryError.TheVariants.{Params, Bind}

-- what the number of a customer, a day and a text make, by name
abbrev pub search_made : ℕ → Day → List ℕ → Made
search_made customer from text = pairs_made ((codes "customer", uint_value customer)
    ∷ (codes "from", day_value from) ∷ (codes "text", bytes_value text) ∷ [])

-- The error is the refusal of the parameters, or out of memory; or, if they were made, the first
-- cause that refuses the query with them, or out of memory.
abbrev pub IsQueryRefusal : List ℕ → Made → QueryError → Type 0
IsQueryRefusal query made (Params error) = IsExpectedRefusal made ⊤ (to_params_refusal error)
IsQueryRefusal query made (Bind error) =
    IfOk made (λ values. OnTokens with_backslashes query (λ ts.
    IsCauseOrMemory (first_cause ts values) error))
