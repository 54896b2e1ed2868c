-- The promises about a text that is bound by wide names, for both modes and any server. The query
-- with its names in lower case has to be portable, as for any mode (WideAnywhere.antt). The law
-- `texts_in_both_modes_on_servers` says how every server reads it.
use Rattle.std.specs.Prelude.{ℕ, List}
use Rattle.mysql_named_params.specs.LoweredNames.{lower_names}
use Rattle.mysql_named_params.specs.Tokens.{Token}
use Rattle.mysql_portable.specs.Portable.{IsPortable}
use Rattle.mysql_params_core.specs.GivenValues.{Given}
use Rattle.mysql_binding.specs.Replaced.{with_literal_tokens}
use Rattle.mysql_steady_text.specs.BothModesText.{IsTextInBothModes}

-- the text, for both modes and any server, of a query with these tokens, wide names among them
pub record IsWideTextInBothModes (ts : List Token) (given : Given) (text : List ℕ) : Type 0 where
  -- It is a text for both modes,
  pub text_in_both_modes : IsTextInBothModes ts given text
  -- the query with its names in lower case is portable, and so is the text.
  pub portable : IsPortable (lower_names ts)
  pub portable_text : IsPortable (with_literal_tokens ts text_in_both_modes.literal_tokens)
