-- The promises of binding about its text: each value is in one literal, and nothing else of the
-- query changes. A call that binds returns such a text in its mode, or an error that is the first
-- cause or out of memory (BindErrors.antt). The laws of src/laws.rt say more about such a text:
-- `isolation`, `bound_texts_on_servers`, `bound_texts_in_clients`, `bound_texts_are_sent`,
-- `no_place_is_left`, `bound_again_is_the_same`, `by_position_is_the_same` and
-- `equal_texts_say_the_same`.
use Rattle.std.specs.Prelude.{◌≡◌, ℕ, Bool, List, map, Some, None, Ok}
use Rattle.mysql_values.specs.declared.value.Value.{Value}
use Rattle.mysql_values.specs.Content.{content_of}
use Rattle.mysql_sql_text.specs.ReadLiteral.{Content, read_literal}
use Rattle.mysql_named_params.specs.Tokens.{Token, IsTokens}
use Rattle.mysql_named_params.specs.NamesAndMarks.{names}
use Rattle.mysql_params_core.specs.GivenValues.{Given}
use Rattle.mysql_params_core.specs.LookupValues.{lookup}
use Rattle.mysql_binding.specs.FirstCause.{first_cause}
use Rattle.mysql_binding.specs.Pieces.{pieces, joined_text}
use Rattle.mysql_binding.specs.Contents.{contents_between, AreReadInPlace}
use Rattle.mysql_binding.specs.Replaced.{AreLiterals, AreTokensOf, with_literal_tokens}
use Rattle.mysql_binding.specs.ValueLiterals.{AreLiteralsOf}

-- the text of a query with these tokens and parameters
pub record IsBoundText (mode : Bool) (ts : List Token) (given : Given) (text : List ℕ)
    : Type 0 where
  -- There are the values for the places, in order, the literal of each value, the tokens of each
  -- literal, and the content of each value.
  pub values : List Value
  pub literals : List (List ℕ)
  pub literal_tokens : List (List Token)
  pub contents : List Content
  -- ISOLATION
  -- The tokens of the text are those of the query, with those of one literal in place of each name
  -- and mark.
  pub isolated : IsTokens mode text (with_literal_tokens ts literal_tokens)
  -- Each literal, followed by the text after it, is read as the content of its value, and exactly
  -- that text is left.
  pub reads_in_place : AreReadInPlace (read_literal mode) (pieces ts) literals contents
  -- THE VALUES
  -- There is no cause to refuse.
  pub no_cause : first_cause ts given ≡ None
  -- The values are those of the names, or, without names, the positional values.
  pub looked_up : lookup given (names ts) ≡ Ok values
  -- WHAT IS WRITTEN
  -- The literals are those of the values.
  pub written : AreLiteralsOf mode values literals
  -- Each literal has the shape of a literal.
  pub shapes : AreLiterals mode literals
  -- The text is exactly the pieces of the query with one literal between each piece and the next.
  pub text_is : joined_text (pieces ts) literals ≡ Some text
  -- The tokens of each literal are those of the literal read by itself.
  pub tokens_of_literals : AreTokensOf mode literals literal_tokens
  -- WHAT IT SAYS
  -- The contents are those of the values.
  pub contents_are : map content_of values ≡ map Some contents
  -- Read between the pieces of the query, the text gives exactly these contents.
  pub read_back : contents_between (read_literal mode) (pieces ts) text ≡ Some contents
