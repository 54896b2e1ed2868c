-- The promise about a text with guarded literals. Each value is in one guarded literal, and nothing
-- else of the query changes. If there is no text, an error reports the cause. The laws
-- `bound_guarded_texts` and `bound_guarded_texts_on_servers` say more about such a text.
-- A server reads strings side by side as one (MySQL Reference Manual, "String Literals"), also a
-- literal's and the query's. Here each literal is read up to the text after it.
use Rattle.std.specs.Prelude.{◌≡◌, ℕ, Bool, not, List, map, Some, None, Ok}
use Rattle.mysql_values.specs.declared.value.Value.{Value}
use Rattle.mysql_values.specs.Content.{content_of}
use Rattle.mysql_sql_text.specs.ReadLiteral.{Content}
use Rattle.mysql_named_params.specs.Tokens.{Token, IsTokens}
use Rattle.mysql_named_params.specs.NamesAndMarks.{names}
use Rattle.mysql_portable.specs.CharacterSet.{CharacterSet}
use Rattle.mysql_params_core.specs.GivenValues.{Given}
use Rattle.mysql_params_core.specs.LookupValues.{lookup}
use Rattle.mysql_binding.specs.FirstCause.{first_cause}
use Rattle.mysql_binding.specs.Pieces.{pieces, joined_text}
use Rattle.mysql_binding.specs.Replaced.{AreTokensOf, with_literal_tokens}
use Rattle.mysql_steady_text.specs.ClientSet.{IsClientSet}
use Rattle.mysql_steady_text.specs.GuardedLiterals.{AreGuardedLiterals, AreKeptApart, AreGuardedLiteralsOf}
use Rattle.mysql_steady_text.specs.ReadGuarded.{AreReadOver, AreUpToBackslashes}
use Rattle.mysql_steady_text.specs.SeenText.{IsIsolatedOver}

-- the text, for a connection that is taken to be in this mode, of a query with these tokens and the
-- parameters that are given to it
pub record IsGuardedText (mode : Bool) (ts : List Token) (given : Given) (text : List ℕ)
    : Type 0 where
  -- There are the values that are given to the places, in order, the guarded literal of each, the
  -- tokens of each literal, the content of each value, and the content that its literal has in the
  -- other mode,
  pub values : List Value
  pub literals : List (List ℕ)
  pub literal_tokens : List (List Token)
  pub contents : List Content
  pub other_contents : List Content
  -- ISOLATION
  -- so that in either mode the tokens of the text are those of the query, with those of one literal
  -- in place of each name and mark,
  pub isolated : (read_mode : Bool) →
      IsTokens read_mode text (with_literal_tokens ts literal_tokens)
  -- and so they are over each client set: what is seen is the pieces of the query, with a text as
  -- long as each literal in its place.
  pub isolated_over : (set : CharacterSet) → IsClientSet set → IsIsolatedOver set ts literals text
  -- Over each client set each literal, followed by the text after it, reads in its mode as the
  -- content of its value and leaves exactly that text,
  pub reads_in_place : (set : CharacterSet) → IsClientSet set →
      AreReadOver set mode (pieces ts) literals contents
  -- and in the other mode as that content, or with its backslashes doubled.
  pub nearly_in_place : (set : CharacterSet) → IsClientSet set →
      AreReadOver set (not mode) (pieces ts) literals other_contents
  pub nearly : AreUpToBackslashes contents other_contents
  -- THE VALUES
  -- There is no cause to refuse,
  pub no_cause : first_cause ts given ≡ None
  -- and the values are those of the names, or, without names, the positional ones.
  pub looked_up : lookup given (names ts) ≡ Ok values
  -- WHAT IS WRITTEN
  -- The literals are the guarded ones of the values,
  pub written : AreGuardedLiteralsOf mode values literals
  -- each has the shape of a guarded literal,
  pub shapes : AreGuardedLiterals literals
  -- and keeps its backslashes apart from bytes from 128 on,
  pub kept_apart : AreKeptApart literals
  -- and the text is exactly the pieces of the query with one literal between each and the next.
  pub text_is : joined_text (pieces ts) literals ≡ Some text
  -- In either mode the tokens of each literal are those that it has when it is read on its own.
  pub tokens_of_literals : (read_mode : Bool) → AreTokensOf read_mode literals literal_tokens
  -- WHAT IT SAYS
  -- The contents are those of the values.
  pub contents_are : map content_of values ≡ map Some contents
