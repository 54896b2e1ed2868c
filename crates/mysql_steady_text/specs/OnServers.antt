-- How servers read a text, by how they read its query: for the laws `anywhere_texts_on_servers` and
-- `texts_in_both_modes_on_servers`. The tokens of a text are those of its query, with others in the
-- places.
use Rattle.std.specs.Prelude.{ℕ, Bool, List}
use Rattle.mysql_named_params.specs.Tokens.{Token}
use Rattle.mysql_portable.specs.CharacterSet.{CharacterSet, seen}
use Rattle.mysql_portable.specs.Portable.{IsReadAs}
use Rattle.mysql_portable.specs.Quiet.{IsHonest, DecidesWithin}
use Rattle.mysql_portable.specs.ServerTokens.{Server, IsReadOn}

-- The text is read alike on every server. A server sees it through the character set of the
-- connection.
pub record IsReadAnywhere (query : List ℕ) (ts : List Token) (replaced : List Token → List Token)
    (text : List ℕ) : Type 0 where
  -- On every honest server, in either mode and over every character set, its tokens are those of
  -- the query, replaced. They are the tokens that the grammar reads, except for `--` before a
  -- newline and the contents of quiet comments.
  pub read : (server : Server) (mode : Bool) (set : CharacterSet) (vs : List Token) →
      IsHonest server → IsReadOn server mode (seen set text) vs → IsReadAs (replaced ts) vs
  -- If the server decides about a quiet comment by its own text, the tokens are exactly those that
  -- it reads in the query, replaced in the same way.
  pub tokens : (server : Server) (mode : Bool) (set : CharacterSet) (us : List Token) →
      IsHonest server → DecidesWithin server → IsReadOn server mode (seen set query) us →
      IsReadOn server mode (seen set text) (replaced us)

-- the same for a server that reads the bytes that are sent
pub record IsReadInBothModes (query : List ℕ) (ts : List Token)
    (replaced : List Token → List Token) (text : List ℕ) : Type 0 where
  pub read : (server : Server) (mode : Bool) (vs : List Token) → IsHonest server →
      IsReadOn server mode text vs → IsReadAs (replaced ts) vs
  pub tokens : (server : Server) (mode : Bool) (us : List Token) → IsHonest server →
      DecidesWithin server → IsReadOn server mode query us →
      IsReadOn server mode text (replaced us)
