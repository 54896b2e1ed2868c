-- A query with fragments in its places, and the text that is bound to it.
use Rattle.std.specs.Prelude.{◌≡◌, ℕ, Bool, true, List, map, Some, None, Ok, All}
use Rattle.mysql_values.specs.declared.value.Value.{Value}
use Rattle.mysql_values.specs.Value.{FieldsInRange}
use Rattle.mysql_named_params.specs.Tokens.{Token, IsTokens}
use Rattle.mysql_named_params.specs.NamesAndMarks.{names}
use Rattle.mysql_params_core.specs.GivenValues.{positional}
use Rattle.mysql_binding.specs.Isolation.{IsBoundText}
use Rattle.mysql_binding.specs.Pieces.{pieces, joined_text}
use Rattle.mysql_binding.specs.Replaced.{AreTokensOf, with_literal_tokens}
use Rattle.mysql_fragments.specs.FragmentErrors.{first_cause}
use Rattle.mysql_fragments.specs.FragmentText.{all_values, fragment_text}
use Rattle.mysql_fragments.specs.GivenFragments.{GivenFragments, fragments_for}
use Rattle.mysql_fragments.specs.declared.fragment.Fragment.{Fragment}

-- The expanded query of a query with these tokens and of the fragments that are given to it: a
-- fragment in each of its places, with a mark for each value of the fragment. Floats are refused
-- only if the values are to be written as literals. The law `fragments_have_shapes` says more.
pub record IsExpanded (as_literals mode : Bool) (ts : List Token) (given : GivenFragments)
    (text : List ℕ) : Type 0 where
  -- there are the fragments of the places, in order,
  pub fragments : List Fragment
  pub given_to_places : fragments_for given (names ts) ≡ Ok fragments
  -- and no cause to refuse them.
  pub no_cause : first_cause as_literals ts given ≡ None
  -- The text is exactly the pieces of the query with the text of one between each and the next.
  pub text_is : joined_text (pieces ts) (map fragment_text fragments) ≡ Some text
  -- There are the tokens of the text of each fragment, read on its own,
  pub lists : List (List Token)
  pub tokens_of_fragments : AreTokensOf mode (map fragment_text fragments) lists
  -- and the tokens of the text are those of the query, with those of one fragment in place of each
  -- name and mark.
  pub isolated : IsTokens mode text (with_literal_tokens ts lists)

-- the expanded query and the values for its marks, in order
pub record IsExpandedQuery (as_literals mode : Bool) (ts : List Token) (given : GivenFragments)
    (text : List ℕ) (values : List Value) : Type 0 where
  pub expanded : IsExpanded as_literals mode ts given text
  pub values_are : values ≡ all_values expanded.fragments

-- The text that is bound to a query with fragments: the one that `bind_text` gives for the expanded
-- query and its values. So all of Isolation.antt holds of it. Each field of a value is in the range
-- of its type.
pub record IsBoundFragments (mode : Bool) (ts : List Token) (given : GivenFragments)
    (text : List ℕ) : Type 0 where
  pub query : List ℕ
  pub expanded : IsExpanded true mode ts given query
  pub bound : IsBoundText mode (with_literal_tokens ts expanded.lists)
      (positional (all_values expanded.fragments)) text
  pub in_range : All FieldsInRange (all_values expanded.fragments)
