-- A client that keeps comments, at a text of a portable query. The lists in the query's places hold
-- no comment and no `;`.
use Rattle.std.specs.Prelude.{Bool}
use Rattle.std.proofs.Common.{◌≡◌, ℕ, List, [], length, ap, ◌∙◌}
use Rattle.mysql_named_params.specs.Tokens.{Token, IsTokens}
use Rattle.mysql_portable.specs.Client.{Client, IsReadBy, HoldNoOpener}
use Rattle.mysql_portable.specs.Portable.{AreReadAlikeBefore, IsReadAs}
use Rattle.mysql_portable.specs.Quiet.{IsHonest}
use Rattle.mysql_portable.specs.Server.{IsReadOn}
use Rattle.mysql_portable.specs.Statements.{statements}
use Rattle.mysql_portable.proofs.ClientLemmas.{reads_as_server, read_as_server}
use Rattle.mysql_portable.proofs.StatementLemmas.{read_statements}
use Rattle.mysql_binding.specs.Replaced.{with_literal_tokens}
use Rattle.mysql_binding.proofs.BoundStatementLemmas.{StayWithin, replaced_no_opener, replaced_statements, length-with_literals}
use Rattle.mysql_binding.proofs.SpliceLemmas.{Each}

module _ (ts : List Token) (lists : List (List Token)) (inside : Each StayWithin lists) where
  -- as many statements as the query has
  pub spliced_count : (vs : List Token) → IsReadAs (with_literal_tokens ts lists) vs →
      length (statements vs) ≡ length (statements ts)
  spliced_count vs r = read_statements r ∙ (ap length (replaced_statements ts lists inside) ∙ length-with_literals (statements ts) lists)

  module _ (mode : Bool) (text : List ℕ) (isolated : IsTokens mode text (with_literal_tokens ts lists)) (alike : AreReadAlikeBefore [] (with_literal_tokens ts lists)) (o : HoldNoOpener ts) (client : Client) (honest : IsHonest client.reader) where
    -- the client reads the text as its server
    pub spliced_on_reader : (vs : List Token) → IsReadBy client mode text vs → IsReadOn client.reader mode text vs
    spliced_on_reader vs v = read_as_server client mode text (with_literal_tokens ts lists) vs honest isolated alike (replaced_no_opener ts lists inside o) v

    pub spliced_by_client : (vs : List Token) → IsReadOn client.reader mode text vs → IsReadBy client mode text vs
    spliced_by_client vs v = reads_as_server client mode text (with_literal_tokens ts lists) vs honest isolated alike (replaced_no_opener ts lists inside o) v
