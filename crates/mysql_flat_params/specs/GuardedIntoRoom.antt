-- The promises about an answer in a caller's room with guarded literals, for values, a query with
-- wide names and the form. They are those of GuardedText.antt (of mysql_steady_text), and what
-- servers read. The query with its names in lower case has to be portable.
use Rattle.std.specs.Prelude.{ℕ, Bool, List}
use Rattle.mysql_named_params.specs.LoweredNames.{lower_names}
use Rattle.mysql_named_params.specs.Reading.{OnWideTokens}
use Rattle.mysql_named_params.specs.Tokens.{Token, text_of}
use Rattle.mysql_portable.specs.CharacterSet.{CharacterSet, seen}
use Rattle.mysql_portable.specs.Portable.{IsPortable, IsReadAs}
use Rattle.mysql_portable.specs.Quiet.{IsHonest, DecidesWithin}
use Rattle.mysql_portable.specs.ServerTokens.{Server, IsReadOn}
use Rattle.mysql_params_core.specs.GivenValues.{Given}
use Rattle.mysql_binding.specs.Replaced.{with_literal_tokens}
use Rattle.mysql_steady_text.specs.ClientSet.{IsClientSet}
use Rattle.mysql_steady_text.specs.GuardedText.{IsGuardedText}
use Rattle.mysql_flat_params.specs.SteadyIntoRoom.{IsSteadyForm}

-- the text, for a connection that is taken to be in this mode, of a query with these tokens, wide
-- names among them, and the parameters that are given to it
pub record IsWideGuardedText (mode : Bool) (ts : List Token) (given : Given) (text : List ℕ)
    : Type 0 where
  -- It is a text with guarded literals,
  pub guarded_text : IsGuardedText mode ts given text
  -- the query with its names in lower case is portable, and so is the text.
  pub portable : IsPortable (lower_names ts)
  pub portable_text : IsPortable (with_literal_tokens ts guarded_text.literal_tokens)
  -- On every honest server, in either mode and over each client set, its tokens are those of the
  -- query, with those of one literal, as it is seen, in place of each name and mark. They are the
  -- tokens that the grammar reads, except for `--` before a newline and the contents of quiet
  -- comments.
  pub read : (server : Server) (read_mode : Bool) (set : CharacterSet)
      (client : IsClientSet set) (vs : List Token) → IsHonest server →
      IsReadOn server read_mode (seen set text) vs →
      IsReadAs (with_literal_tokens ts (guarded_text.isolated_over set client).shown_tokens) vs
  -- If the server decides about a quiet comment by its own text, the tokens are exactly those that
  -- it reads in the query with its names in lower case, replaced in the same way.
  pub tokens : (server : Server) (read_mode : Bool) (set : CharacterSet)
      (client : IsClientSet set) (us : List Token) → IsHonest server → DecidesWithin server →
      IsReadOn server read_mode (seen set (text_of (lower_names ts))) us →
      IsReadOn server read_mode (seen set text)
      (with_literal_tokens us (guarded_text.isolated_over set client).shown_tokens)

-- this is the query bound to the parameters that are given to it
abbrev pub IsWideBoundGuarded : (mode : Bool) → List ℕ → Given → List ℕ → Type 0
IsWideBoundGuarded mode query given text =
    (read_mode : Bool) → OnWideTokens read_mode query (λ ts. IsWideGuardedText mode ts given text)

-- the form has parameters, and this is the query bound to them
abbrev pub IsWideGuardedForm : (mode : Bool) (query form text : List ℕ) → Type 0
IsWideGuardedForm mode query = IsSteadyForm (IsWideBoundGuarded mode query)
