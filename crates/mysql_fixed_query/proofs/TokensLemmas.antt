-- The tokens of a query in a reading, as they are computed.
use Rattle.std.specs.Prelude.{Bool, true, false}
use Rattle.std.proofs.Common.{ℕ, List, refl, subst}
use Rattle.mysql_named_params.specs.Tokens.{Token}
use Rattle.mysql_named_params.specs.TokensOf.{tokens_of}
use Rattle.mysql_named_params.specs.Reading.{IsTokensIn, IsTokensWith, OnTokensIn}
use Rattle.mysql_named_params.specs.declared.places.Reading.{Reading}
use Rattle.mysql_named_params.proofs.ReadingLemmas.{one_reading}
use Rattle.mysql_named_params.proofs.TokensExistLemmas.{tokens_right}
use Rattle.mysql_fixed_query.specs.Bindable.{named_by, tokens_in}

named_right : (wide mode : Bool) (query : List ℕ) →
    IsTokensWith wide mode query (named_by wide (tokens_of mode query))
named_right false mode query = tokens_right mode query
named_right true mode query = (tokens_of mode query, tokens_right mode query, refl)

module _ (reading : Reading) (query : List ℕ) where
  pub tokens_in_right : IsTokensIn reading query (tokens_in reading query)
  tokens_in_right = named_right reading.wide_names reading.no_backslash_escape query

  -- a fact about the tokens of the contracts holds for these
  pub at_tokens : (P : List Token → Type 0) → OnTokensIn reading query P → P (tokens_in reading query)
  at_tokens P on =
      subst P (one_reading reading query on.0 (tokens_in reading query) on.1 tokens_in_right) on.2
