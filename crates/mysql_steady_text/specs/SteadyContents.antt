-- What steady literals say in the places of a query: their shapes, and how they read. For the law
-- `contents_of_steady_texts`.
use Rattle.std.specs.Prelude.{◌≡◌, ℕ, Bool, List, map, Some}
use Rattle.mysql_values.specs.declared.value.Value.{Value}
use Rattle.mysql_values.specs.Content.{content_of}
use Rattle.mysql_sql_text.specs.ReadLiteral.{Content}
use Rattle.mysql_named_params.specs.Tokens.{Token}
use Rattle.mysql_binding.specs.Pieces.{pieces}
use Rattle.mysql_binding.specs.Contents.{contents_between, AreReadInPlace}
use Rattle.mysql_steady_text.specs.SteadyReader.{read_steady_literal}
use Rattle.mysql_steady_text.specs.SteadyShape.{AreSteadyLiterals}

-- the literals of the values, in the places of a query with these tokens, say the values
pub record SayTheValues (ts : List Token) (values : List Value) (literals : List (List ℕ))
    (text : List ℕ) : Type 0 where
  -- Each literal is steady and has the shape of a steady literal.
  pub shapes : AreSteadyLiterals literals
  -- There is the content of each value.
  pub contents : List Content
  pub contents_are : map content_of values ≡ map Some contents
  -- In either mode each literal, followed by the text after it, reads as the content of its value
  -- and leaves exactly that text.
  pub reads_in_place : (mode : Bool) →
      AreReadInPlace (read_steady_literal mode) (pieces ts) literals contents
  -- Read in either mode between the pieces of the query, the text gives exactly these contents.
  pub read_back : (mode : Bool) →
      contents_between (read_steady_literal mode) (pieces ts) text ≡ Some contents
