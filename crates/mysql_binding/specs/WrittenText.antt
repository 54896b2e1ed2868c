-- A query with the literals of values in its places, in any form of literals: for
-- `bind_borrowed_as` and `bind_surveyed_as`.
use Rattle.std.specs.Prelude.{◌≡◌, ℕ, List, Some, None, Ok}
use Rattle.mysql_values.specs.declared.value.Value.{Value}
use Rattle.mysql_named_params.specs.Tokens.{Token}
use Rattle.mysql_named_params.specs.NamesAndMarks.{names}
use Rattle.mysql_params_core.specs.GivenValues.{Given}
use Rattle.mysql_params_core.specs.LookupValues.{lookup}
use Rattle.mysql_binding.specs.FirstCause.{first_cause}
use Rattle.mysql_binding.specs.LiteralForm.{Literals, LiteralFacts, AreWrittenAs}
use Rattle.mysql_binding.specs.Pieces.{pieces, joined_text}

-- the text is the pieces of these tokens, with the literals of the values between them
pub record IsWrittenText (literal : Literals) (IsKnown : LiteralFacts) (ts : List Token)
    (values : List Value) (text : List ℕ) : Type 0 where
  -- the literals
  pub literals : List (List ℕ)
  pub written : AreWrittenAs literal IsKnown values literals
  -- the text is exactly these literals between the pieces
  pub text_is : joined_text (pieces ts) literals ≡ Some text

-- the text of a query with these tokens and parameters
pub record IsGivenText (literal : Literals) (IsKnown : LiteralFacts) (ts : List Token)
    (given : Given) (text : List ℕ) : Type 0 where
  -- there is no cause to refuse
  pub no_cause : first_cause ts given ≡ None
  -- the values are those of the names, or, without names, the positional values
  pub values : List Value
  pub looked_up : lookup given (names ts) ≡ Ok values
  -- their literals are in the places
  pub written_text : IsWrittenText literal IsKnown ts values text
