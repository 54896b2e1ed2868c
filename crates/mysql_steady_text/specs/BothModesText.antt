-- The promises about a bound text for both modes and any server, also for a query with bytes from
-- 128 on. Each value is in one steady literal, and nothing else of the query changes.
-- `bind_text_in_both_modes` promises the second record. If there is no text, an error reports the
-- cause (BothModesErrors.antt). The law `contents_of_steady_texts` says how the literals read, and
-- `texts_in_both_modes_on_servers` how every server reads the text. The law
-- `bound_texts_in_both_modes` says more.
-- Nothing is said about character sets: a server reads here the bytes that are sent. So the
-- connection's set has to show the query's bytes as they are, as utf8mb4 does for UTF-8.
use Rattle.std.specs.Prelude.{◌≡◌, ℕ, Bool, List, Some, None, Ok, All}
use Rattle.mysql_values.specs.declared.value.Value.{Value}
use Rattle.mysql_values.specs.Value.{FieldsInRange}
use Rattle.mysql_named_params.specs.Tokens.{Token, IsTokens, OnTokens, text_of}
use Rattle.mysql_named_params.specs.NamesAndMarks.{names}
use Rattle.mysql_named_params.specs.Places.{place_count, with_marks}
use Rattle.mysql_portable.specs.Portable.{IsPortable}
use Rattle.mysql_portable.specs.Steady.{HoldNoEscapes}
use Rattle.mysql_params_core.specs.GivenValues.{Given, empty, positional}
use Rattle.mysql_params_core.specs.LookupValues.{lookup}
use Rattle.mysql_binding.specs.FirstCause.{first_cause}
use Rattle.mysql_binding.specs.Pieces.{pieces, joined_text}
use Rattle.mysql_binding.specs.Replaced.{AreTokensOf, with_literal_tokens}
use Rattle.mysql_steady_text.specs.SteadyLiteral.{AreSteadyLiteralsOf}

-- the text, for both modes, of a query with these tokens and the parameters that are given to it
pub record IsTextInBothModes (ts : List Token) (given : Given) (text : List ℕ) : Type 0 where
  -- There are the values that are given to the places, in order, the steady literal of each, and
  -- the tokens of each literal,
  pub values : List Value
  pub literals : List (List ℕ)
  pub literal_tokens : List (List Token)
  -- ISOLATION
  -- so that in either mode the tokens of the text are those of the query, with those of one literal
  -- in place of each name and mark.
  pub isolated : (mode : Bool) → IsTokens mode text (with_literal_tokens ts literal_tokens)
  -- No string of the text has a backslash.
  pub no_escapes : HoldNoEscapes (with_literal_tokens ts literal_tokens)
  -- THE VALUES
  -- There is no cause to refuse,
  pub no_cause : first_cause ts given ≡ None
  -- the values are those of the names, or, without names, the positional ones,
  pub looked_up : lookup given (names ts) ≡ Ok values
  -- and each field of a value is in the range of its type.
  pub in_range : All FieldsInRange values
  -- WHAT IS WRITTEN
  -- The literals are the steady ones of the values,
  pub written : AreSteadyLiteralsOf values literals
  -- and the text is exactly the pieces of the query with one literal between each and the next.
  pub text_is : joined_text (pieces ts) literals ≡ Some text
  -- In either mode the tokens of each literal are those that it has when it is read on its own.
  pub tokens_of_literals : (mode : Bool) → AreTokensOf mode literals literal_tokens

-- the text, for both modes and any server, of a query with these tokens
pub record IsPortableInBothModes (ts : List Token) (given : Given) (text : List ℕ) : Type 0 where
  -- It is a text for both modes,
  pub text_in_both_modes : IsTextInBothModes ts given text
  -- the query is portable, and so is the text.
  pub portable : IsPortable ts
  pub portable_text : IsPortable (with_literal_tokens ts text_in_both_modes.literal_tokens)

-- in either mode the text has no place, and bound with no parameters it is not refused and stays as
-- it is
abbrev pub IsBoundAgainInBothModes : List ℕ → Type 0
IsBoundAgainInBothModes text = (mode : Bool) → OnTokens mode text (λ us.
    (place_count us ≡ 0) × IsTextInBothModes us empty text)

-- The query with a mark in place of each name, bound by position to the values that the names are
-- given, is not refused and gives this text. Without names it is the query as it is.
abbrev pub IsByPositionInBothModes : Bool → List Token → Given → List ℕ → Type 0
IsByPositionInBothModes mode ts given text =
    (values : List Value) × (lookup given (names ts) ≡ Ok values)
    × OnTokens mode (text_of (with_marks ts)) (λ us. IsTextInBothModes us (positional values) text)
