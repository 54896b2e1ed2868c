-- The text of a query with fragments in its places, by the literal that each value is written as.
-- The laws of src/laws/filled.rt say more about such a text.
use Rattle.std.specs.Prelude.{◌≡◌, ℕ, Bool, true, List, map, Some, None, Ok, All}
use Rattle.mysql_values.specs.declared.value.Value.{Value}
use Rattle.mysql_values.specs.Value.{FieldsInRange}
use Rattle.mysql_named_params.specs.Tokens.{Token, IsTokens}
use Rattle.mysql_named_params.specs.NamesAndMarks.{names}
use Rattle.mysql_binding.specs.Pieces.{pieces, joined_text}
use Rattle.mysql_binding.specs.Replaced.{AreTokensOf, with_literal_tokens}
use Rattle.mysql_fragments.specs.FragmentErrors.{first_cause}
use Rattle.mysql_fragments.specs.FragmentText.{all_values, filled_text}
use Rattle.mysql_fragments.specs.GivenFragments.{GivenFragments, fragments_for}
use Rattle.mysql_fragments.specs.declared.fragment.Fragment.{Fragment}

-- the text, read in each of these modes, of a query with these tokens and the fragments that are
-- given to it, if `write` gives the literal of each value
pub record IsTextOfFragments (write : Value → List ℕ) (IsMode : Bool → Type 0) (ts : List Token)
    (given : GivenFragments) (text : List ℕ) : Type 0 where
  -- THE FRAGMENTS
  -- There are the fragments of the places, in order, and no cause to refuse them.
  pub fragments : List Fragment
  pub given_to_places : fragments_for given (names ts) ≡ Ok fragments
  pub no_cause : first_cause true ts given ≡ None
  -- Each field of a value is in the range of its type.
  pub in_range : All FieldsInRange (all_values fragments)
  -- WHAT IS WRITTEN
  -- The text is exactly the pieces of the query with the text of one fragment between each and the
  -- next.
  pub text_is : joined_text (pieces ts) (map (filled_text write) fragments) ≡ Some text
  -- ISOLATION
  -- There are the tokens of the text of each fragment, read on its own,
  pub lists : List (List Token)
  pub tokens_of_fragments : (mode : Bool) → IsMode mode →
      AreTokensOf mode (map (filled_text write) fragments) lists
  -- and the tokens of the text are those of the query, with those of one fragment in place of each
  -- name and mark.
  pub isolated : (mode : Bool) → IsMode mode → IsTokens mode text (with_literal_tokens ts lists)
