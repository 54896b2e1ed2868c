-- Texts of which a client doesn't send the statements as they are.
use Rattle.std.specs.Prelude.{◌≡◌, ◌≢◌, ℕ, false, List, Some}
use Rattle.mysql_sql_text.specs.StringUnits.{with_backslashes}
use Rattle.mysql_named_params.specs.Tokens.{Token}
use Rattle.mysql_named_params.specs.TokensOf.{tokens_of}
use Rattle.mysql_portable.specs.FirstUnportableInClient.{first_unportable_in_client}
use Rattle.mysql_portable.specs.declared.portable.Construct.{Construct}
use Rattle.mysql_client.specs.ClientState.{Program}
use Rattle.mysql_client.specs.Sends.{Sending, sends}
use Rattle.mysql_client.specs.SentStatements.{sent_statements}

-- the statements of a text, each as it is, without a command of the client
abbrev pub as_it_is : Program → List Token → Sending
as_it_is p ts = record { statements = sent_statements p ts; comes_to_command = false }

-- the client sends something else
abbrev pub IsSentOtherwise : Program → List ℕ → Type 0
IsSentOtherwise p text =
    sends p with_backslashes text ≢ as_it_is p (tokens_of with_backslashes text)

-- a text whose first construct is this one, at this index, and that is sent otherwise
pub record IsSentOtherwiseBy (p : Program) (text : List ℕ) (construct : Construct) (at : ℕ)
    : Type 0 where
  pub found : first_unportable_in_client (tokens_of with_backslashes text)
      ≡ Some (record { construct = construct; at = at })
  pub otherwise : IsSentOtherwise p text

-- the client sends just these statements, in the mode with backslash escapes
abbrev pub Sends : Program → List ℕ → List (List ℕ) → Type 0
Sends p text statements =
    sends p with_backslashes text ≡ record { statements = statements; comes_to_command = false }
