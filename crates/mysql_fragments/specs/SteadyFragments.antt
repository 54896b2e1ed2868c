-- The promises about a text with fragments for any mode, and for any server: those of
-- SteadyText.antt (of mysql_steady_text) for the expanded query and its values.
-- `bind_fragments_in_any_mode` promises the first record, and `bind_fragments_anywhere` the second.
-- If there is no text, an error reports the cause (SteadyFragmentsErrors.antt). The law
-- `anywhere_fragments_on_servers` says how every server reads the text.
use Rattle.std.specs.Prelude.{◌≡◌, ◌+◌, ℕ, Bool, true, List, [], ◌∷◌, if◌then◌else◌, Option, None, Some, Ok, Err}
use Rattle.std.specs.List.{list_all}
use Rattle.mysql_sql_text.specs.StringUnits.{with_backslashes}
use Rattle.mysql_named_params.specs.Tokens.{Token, IsTokens}
use Rattle.mysql_portable.specs.Portable.{IsPortable}
use Rattle.mysql_portable.specs.SteadyBytes.{is_steady, IsSteady}
use Rattle.mysql_params_core.specs.GivenValues.{positional}
use Rattle.mysql_binding.specs.Replaced.{with_literal_tokens}
use Rattle.mysql_steady_text.specs.SteadyText.{IsSteadyText}
use Rattle.mysql_fragments.specs.Expanded.{IsExpanded}
use Rattle.mysql_fragments.specs.FragmentText.{all_values, fragment_text}
use Rattle.mysql_fragments.specs.GivenFragments.{GivenFragments, PlaceFragments}
use Rattle.mysql_fragments.specs.declared.fragment.Fragment.{Fragment}

-- The place of the first fragment whose text isn't steady, if `place` fragments come before these.
-- In a fragment without a fault only a name can have a byte that isn't steady.
abbrev pub first_unsteady_from : ℕ → List Fragment → Option ℕ
first_unsteady_from place [] = None
first_unsteady_from place (fragment ∷ fragments) =
    if list_all is_steady (fragment_text fragment) then first_unsteady_from (place + 1) fragments
    else Some place

-- the place of the first fragment for the places whose text isn't steady
abbrev pub unsteady_place : PlaceFragments → Option ℕ
unsteady_place (Err refusal) = None
unsteady_place (Ok fragments) = first_unsteady_from 0 fragments

-- the text, for any mode, of a query with these tokens and the fragments that are given to it
pub record IsSteadyFragments (ts : List Token) (given : GivenFragments) (text : List ℕ)
    : Type 0 where
  -- There is the expanded query,
  pub query : List ℕ
  pub expanded : IsExpanded true with_backslashes ts given query
  -- the text of each fragment in it is steady, and so is the query, which has the same tokens in
  -- both modes.
  pub steady_fragments : first_unsteady_from 0 expanded.fragments ≡ None
  pub steady : IsSteady query
  pub isolated : (mode : Bool) → IsTokens mode query (with_literal_tokens ts expanded.lists)
  -- The text is the one for any mode of this query and its values.
  pub bound : IsSteadyText (with_literal_tokens ts expanded.lists)
      (positional (all_values expanded.fragments)) text

-- the text, for any mode and any server, of a query with these tokens and the fragments that are
-- given to it
pub record IsAnywhereFragments (ts : List Token) (given : GivenFragments) (text : List ℕ)
    : Type 0 where
  -- It is a text for any mode,
  pub steady_text : IsSteadyFragments ts given text
  -- the query is portable, and so is the text.
  pub portable : IsPortable ts
  pub portable_text : IsPortable (with_literal_tokens
      (with_literal_tokens ts steady_text.expanded.lists) steady_text.bound.literal_tokens)
