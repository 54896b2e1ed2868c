-- The promises about a text that is bound by wide names, for any mode and any server. The query
-- with its names in lower case has to be portable. For example, `/*+ SET_VAR(x=:A) */` in lower
-- case has the place `:a`; as it is, the grammar finds none in it. The clause `wide` of the law
-- `anywhere_texts_on_servers` says how every server reads such a text.
use Rattle.std.specs.Prelude.{ℕ, List}
use Rattle.mysql_named_params.specs.LoweredNames.{lower_names}
use Rattle.mysql_named_params.specs.Tokens.{Token}
use Rattle.mysql_portable.specs.Portable.{IsPortable}
use Rattle.mysql_params_core.specs.GivenValues.{Given}
use Rattle.mysql_binding.specs.Replaced.{with_literal_tokens}
use Rattle.mysql_steady_text.specs.SteadyText.{IsSteadyText}

-- the text, for any mode and any server, of a query with these tokens, wide names among them
pub record IsWideAnywhereText (ts : List Token) (given : Given) (text : List ℕ) : Type 0 where
  -- It is a text for any mode,
  pub steady_text : IsSteadyText ts given text
  -- the query with its names in lower case is portable, and so is the text.
  pub portable : IsPortable (lower_names ts)
  pub portable_text : IsPortable (with_literal_tokens ts steady_text.literal_tokens)
