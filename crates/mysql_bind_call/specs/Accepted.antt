-- The queries that are accepted for a purpose.
use Rattle.std.specs.Prelude.{◌≡◌, ℕ, Bool, List, None}
use Rattle.mysql_named_params.specs.Tokens.{Token}
use Rattle.mysql_named_params.specs.Reading.{OnTokensIn}
use Rattle.mysql_steady_text.specs.Purposes.{query_refusal, reading_for}
use Rattle.mysql_steady_text.specs.declared.purpose.Purpose.{Purpose}

-- in each mode of the purpose, and by its names, the query has tokens, and `Holds` is true for them
abbrev pub OnQuery : Purpose → List ℕ → (List Token → Type 0) → Type 0
OnQuery purpose query Holds = (mode : Bool) → OnTokensIn (reading_for purpose mode) query Holds

-- the query isn't refused for the purpose
abbrev pub IsAccepted : Purpose → List ℕ → Type 0
IsAccepted purpose query = OnQuery purpose query (λ ts. query_refusal purpose query ts ≡ None)
