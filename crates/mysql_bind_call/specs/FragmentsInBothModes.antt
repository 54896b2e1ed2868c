-- The promise about a text with fragments for both modes: that of BothModesText.antt (of
-- mysql_steady_text) for the expanded query and its values.
use Rattle.std.specs.Prelude.{◌≡◌, ℕ, Bool, true, List, None}
use Rattle.mysql_named_params.specs.Tokens.{Token, IsTokens}
use Rattle.mysql_portable.specs.Steady.{HoldNoEscapes}
use Rattle.mysql_params_core.specs.GivenValues.{positional}
use Rattle.mysql_binding.specs.Replaced.{with_literal_tokens}
use Rattle.mysql_steady_text.specs.BothModesText.{IsTextInBothModes}
use Rattle.mysql_fragments.specs.Expanded.{IsExpanded}
use Rattle.mysql_fragments.specs.FragmentText.{all_values}
use Rattle.mysql_fragments.specs.GivenFragments.{GivenFragments}
use Rattle.mysql_fragments.specs.SteadyFragments.{first_unsteady_from}

-- the text, for both modes, of a query with these tokens and the fragments that are given to it
pub record IsFragmentsInBothModes (ts : List Token) (given : GivenFragments) (text : List ℕ)
    : Type 0 where
  -- There is the expanded query,
  pub query : List ℕ
  pub expanded : IsExpanded true true ts given query
  -- the text of each fragment in it is steady, no string of it has a backslash, and it has the same
  -- tokens in both modes.
  pub steady_fragments : first_unsteady_from 0 expanded.fragments ≡ None
  pub no_escapes : HoldNoEscapes (with_literal_tokens ts expanded.lists)
  pub isolated : (mode : Bool) → IsTokens mode query (with_literal_tokens ts expanded.lists)
  -- The text is the one for both modes of this query and its values.
  pub bound : IsTextInBothModes (with_literal_tokens ts expanded.lists)
      (positional (all_values expanded.fragments)) text
