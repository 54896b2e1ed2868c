-- The promises about a text with fragments by wide names, for any mode and any server. The query
-- with its names in lower case has to be portable, as for values (WideAnywhere.antt of
-- mysql_steady_text). The law `anywhere_fragments_on_servers` says how every server reads the text.
use Rattle.std.specs.Prelude.{ℕ, List}
use Rattle.mysql_named_params.specs.LoweredNames.{lower_names}
use Rattle.mysql_named_params.specs.Tokens.{Token}
use Rattle.mysql_portable.specs.Portable.{IsPortable}
use Rattle.mysql_binding.specs.Replaced.{with_literal_tokens}
use Rattle.mysql_fragments.specs.GivenFragments.{GivenFragments}
use Rattle.mysql_fragments.specs.SteadyFragments.{IsSteadyFragments}

-- the text, for any mode and any server, of a query with these tokens, wide names among them, and
-- the fragments that are given to it
pub record IsWideAnywhereFragments (ts : List Token) (given : GivenFragments) (text : List ℕ)
    : Type 0 where
  -- It is a text for any mode,
  pub steady_text : IsSteadyFragments ts given text
  -- the query with its names in lower case is portable, and so is the text.
  pub portable : IsPortable (lower_names ts)
  pub portable_text : IsPortable (with_literal_tokens
      (with_literal_tokens ts steady_text.expanded.lists) steady_text.bound.literal_tokens)
