-- A query with fragments in its places and literals for their values, as it is written at once: for
-- `placed_fragments` and `filled_query`. FragmentText.antt has the texts of the fragments.
use Rattle.std.specs.Prelude.{◌≡◌, ◌==◌, ℕ, Bool, true, List, [], if◌then◌else◌, None, Ok}
use Rattle.mysql_named_params.specs.Tokens.{Token}
use Rattle.mysql_named_params.specs.NamesAndMarks.{names}
use Rattle.mysql_params_core.specs.GivenValues.{positional}
use Rattle.mysql_binding.specs.LiteralForm.{Literals, LiteralFacts}
use Rattle.mysql_binding.specs.Replaced.{with_literal_tokens}
use Rattle.mysql_binding.specs.WrittenText.{IsGivenText}
use Rattle.mysql_fragments.specs.Expanded.{IsExpanded}
use Rattle.mysql_fragments.specs.FragmentErrors.{mixed_cause, later_cause}
use Rattle.mysql_fragments.specs.FragmentText.{all_values}
pub use Rattle.mysql_fragments.specs.FragmentText.{filled_item, filled_items, filled_row, filled_text}
use Rattle.mysql_fragments.specs.GivenFragments.{GivenFragments, fragments_for}
use Rattle.mysql_fragments.specs.declared.fragment.Fragment.{Fragment}

-- the separator before the text of this number in a row of texts; none before the first
abbrev pub separator_before : List ℕ → ℕ → List ℕ
separator_before separator i = if i == 0 then [] else separator

-- the fragments are those for the places of a query with these tokens, and nothing refuses them
pub record ArePlaced (as_literals : Bool) (ts : List Token) (given : GivenFragments)
    (fragments : List Fragment) : Type 0 where
  pub unmixed : mixed_cause ts ≡ None
  pub given_to_places : fragments_for given (names ts) ≡ Ok fragments
  pub no_later : later_cause as_literals ts fragments ≡ None

-- the text is that of the expanded query and its values, with the literals in a form
pub record IsFilledQuery (literal : Literals) (IsKnown : LiteralFacts) (mode : Bool)
    (ts : List Token) (given : GivenFragments) (text : List ℕ) : Type 0 where
  pub query : List ℕ
  pub expanded : IsExpanded true mode ts given query
  pub filled : IsGivenText literal IsKnown (with_literal_tokens ts expanded.lists)
      (positional (all_values expanded.fragments)) text
