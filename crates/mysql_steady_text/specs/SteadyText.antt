-- The promises about a bound text for any mode, and for any server. Each value is in one steady
-- literal, and nothing else of the query changes. `bind_text_in_any_mode` promises the first
-- record, and `bind_text_anywhere` the second. If there is no text, an error reports the cause
-- (SteadyTextErrors.antt). The law `contents_of_steady_texts` says how the literals read, and
-- `anywhere_texts_on_servers` how every server reads the text. The laws `bound_steady_texts`,
-- `bound_steady_texts_in_clients` and `bound_steady_texts_are_sent` say more.
use Rattle.std.specs.Prelude.{◌≡◌, ℕ, Bool, List, Some, None, Ok, All}
use Rattle.mysql_values.specs.declared.value.Value.{Value}
use Rattle.mysql_values.specs.Value.{FieldsInRange}
use Rattle.mysql_named_params.specs.Tokens.{Token, IsTokens}
use Rattle.mysql_named_params.specs.NamesAndMarks.{names}
use Rattle.mysql_portable.specs.Portable.{IsPortable}
use Rattle.mysql_portable.specs.SteadyBytes.{IsSteady}
use Rattle.mysql_params_core.specs.GivenValues.{Given}
use Rattle.mysql_params_core.specs.LookupValues.{lookup}
use Rattle.mysql_binding.specs.FirstCause.{first_cause}
use Rattle.mysql_binding.specs.Pieces.{pieces, joined_text}
use Rattle.mysql_binding.specs.Replaced.{AreTokensOf, with_literal_tokens}
use Rattle.mysql_steady_text.specs.SteadyLiteral.{AreSteadyLiteralsOf}

-- the text, for any mode, of a query with these tokens and the parameters that are given to it
pub record IsSteadyText (ts : List Token) (given : Given) (text : List ℕ) : Type 0 where
  -- There are the values that are given to the places, in order, the steady literal of each, and
  -- the tokens of each literal,
  pub values : List Value
  pub literals : List (List ℕ)
  pub literal_tokens : List (List Token)
  -- ISOLATION
  -- so that in either mode the tokens of the text are those of the query, with those of one literal
  -- in place of each name and mark.
  pub isolated : (mode : Bool) → IsTokens mode text (with_literal_tokens ts literal_tokens)
  -- The text is ASCII without a backslash.
  pub steady : IsSteady text
  -- THE VALUES
  -- There is no cause to refuse,
  pub no_cause : first_cause ts given ≡ None
  -- the values are those of the names, or, without names, the positional ones,
  pub looked_up : lookup given (names ts) ≡ Ok values
  -- and each field of a value is in the range of its type.
  pub in_range : All FieldsInRange values
  -- WHAT IS WRITTEN
  -- The literals are the steady ones of the values,
  pub written : AreSteadyLiteralsOf values literals
  -- and the text is exactly the pieces of the query with one literal between each and the next.
  pub text_is : joined_text (pieces ts) literals ≡ Some text
  -- In either mode the tokens of each literal are those that it has when it is read on its own.
  pub tokens_of_literals : (mode : Bool) → AreTokensOf mode literals literal_tokens

-- the text, for any mode and any server, of a query with these tokens
pub record IsAnywhereText (ts : List Token) (given : Given) (text : List ℕ) : Type 0 where
  -- It is a text for any mode,
  pub steady_text : IsSteadyText ts given text
  -- the query is portable, and so is the text.
  pub portable : IsPortable ts
  pub portable_text : IsPortable (with_literal_tokens ts steady_text.literal_tokens)
