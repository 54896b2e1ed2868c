-- The promises about a text with fragments and guarded literals: those of GuardedText.antt (of
-- mysql_steady_text) for the expanded query and its values. `bind_wide_fragments_guarded` promises
-- the second record. If there is no text, an error reports the cause (WideSteadyFragments.antt).
use Rattle.std.specs.Prelude.{◌≡◌, ℕ, Bool, true, List, None}
use Rattle.mysql_sql_text.specs.StringUnits.{with_backslashes}
use Rattle.mysql_named_params.specs.LoweredNames.{lower_names}
use Rattle.mysql_named_params.specs.Tokens.{Token, IsTokens, text_of}
use Rattle.mysql_portable.specs.CharacterSet.{CharacterSet, seen}
use Rattle.mysql_portable.specs.Portable.{IsPortable, IsReadAs}
use Rattle.mysql_portable.specs.Quiet.{IsHonest, DecidesWithin}
use Rattle.mysql_portable.specs.ServerTokens.{Server, IsReadOn}
use Rattle.mysql_portable.specs.SteadyBytes.{IsSteady}
use Rattle.mysql_params_core.specs.GivenValues.{positional}
use Rattle.mysql_binding.specs.Replaced.{with_literal_tokens}
use Rattle.mysql_steady_text.specs.ClientSet.{IsClientSet}
use Rattle.mysql_steady_text.specs.GuardedText.{IsGuardedText}
use Rattle.mysql_fragments.specs.Expanded.{IsExpanded}
use Rattle.mysql_fragments.specs.FragmentText.{all_values}
use Rattle.mysql_fragments.specs.GivenFragments.{GivenFragments}
use Rattle.mysql_fragments.specs.SteadyFragments.{first_unsteady_from}

-- the text, for a connection that is taken to be in this mode, of a query with these tokens and the
-- fragments that are given to it
pub record IsGuardedFragments (mode : Bool) (ts : List Token) (given : GivenFragments)
    (text : List ℕ) : Type 0 where
  -- There is the expanded query,
  pub query : List ℕ
  pub expanded : IsExpanded true with_backslashes ts given query
  -- the text of each fragment in it is steady, and so is the query, which has the same tokens in
  -- both modes.
  pub steady_fragments : first_unsteady_from 0 expanded.fragments ≡ None
  pub steady : IsSteady query
  pub isolated : (read_mode : Bool) →
      IsTokens read_mode query (with_literal_tokens ts expanded.lists)
  -- The text is the one with guarded literals of this query and its values.
  pub bound : IsGuardedText mode (with_literal_tokens ts expanded.lists)
      (positional (all_values expanded.fragments)) text

-- the text, for any server, of a query with these tokens, wide names among them, and the fragments
-- that are given to it
pub record IsGuardedOnServers (mode : Bool) (ts : List Token) (given : GivenFragments)
    (text : List ℕ) : Type 0 where
  -- It is a text with guarded literals,
  pub guarded_text : IsGuardedFragments mode ts given text
  -- the query with its names in lower case is portable, and so is the text.
  pub portable : IsPortable (lower_names ts)
  pub portable_text : IsPortable (with_literal_tokens
      (with_literal_tokens ts guarded_text.expanded.lists) guarded_text.bound.literal_tokens)
  -- On every honest server, in either mode and over each client set, its tokens are those of the
  -- query, replaced. Each name and mark is replaced by the tokens of one fragment, and then each
  -- mark of a fragment by the tokens of one literal as it is seen. These are the tokens that the
  -- grammar reads, except for `--` before a newline and the contents of quiet comments.
  pub read : (server : Server) (read_mode : Bool) (set : CharacterSet)
      (client : IsClientSet set) (vs : List Token) → IsHonest server →
      IsReadOn server read_mode (seen set text) vs →
      IsReadAs (with_literal_tokens (with_literal_tokens ts guarded_text.expanded.lists)
      (guarded_text.bound.isolated_over set client).shown_tokens) vs
  -- If the server decides about a quiet comment by its own text, the tokens are exactly those that
  -- it reads in the query with its names in lower case, replaced.
  pub tokens : (server : Server) (read_mode : Bool) (set : CharacterSet)
      (client : IsClientSet set) (us : List Token) → IsHonest server → DecidesWithin server →
      IsReadOn server read_mode (seen set (text_of (lower_names ts))) us →
      IsReadOn server read_mode (seen set text)
      (with_literal_tokens (with_literal_tokens us guarded_text.expanded.lists)
      (guarded_text.bound.isolated_over set client).shown_tokens)
