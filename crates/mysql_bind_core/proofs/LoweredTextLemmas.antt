-- A text that is bound to a query by wide names: what a client makes of it, by the query with these names in
-- lower case, whose tokens are of the grammar and whose places have the same literals.
use Rattle.std.specs.Prelude.{Bool}
use Rattle.std.proofs.Common.{◌≡◌, ◌∙◌, ℕ, true, List, [], None, Some, ap, subst, sym}
use Rattle.mysql_sql_text.specs.InLine.{AreInLine}
use Rattle.mysql_named_params.specs.LoweredNames.{lower_names}
use Rattle.mysql_named_params.specs.Reading.{IsTokensIn, wide_reading}
use Rattle.mysql_named_params.specs.Tokens.{Token, IsTokens, text_of}
use Rattle.mysql_named_params.proofs.LoweredLemmas.{lowered_tokens}
use Rattle.mysql_named_params.proofs.ReparsedLemmas.{names_in_reading}
use Rattle.mysql_portable.specs.FirstUnportableInClient.{IsPortableInClient}
use Rattle.mysql_portable.specs.Portable.{AreReadAlikeBefore}
use Rattle.mysql_portable.proofs.PlaceTextLemmas.{placeless_join_no_number}
use Rattle.mysql_params_core.specs.Given.{Given}
use Rattle.mysql_binding.specs.Isolation.{IsBoundText}
use Rattle.mysql_binding.specs.Pieces.{joined_text, pieces}
use Rattle.mysql_binding.specs.Replaced.{AreTokensOf, with_literal_tokens}
use Rattle.mysql_binding.specs.StandsAlone.{first_not_alone}
use Rattle.mysql_binding.proofs.BoundOnServerLemmas.{bound_portable}
use Rattle.mysql_binding.proofs.BoundSentLemmas.{bound_alone, literals_sent}
use Rattle.mysql_binding.proofs.BoundStatementLemmas.{StayWithin, literals_within, replaced_no_opener}
use Rattle.mysql_binding.proofs.ReplacedLemmas.{isolated_places}
use Rattle.mysql_binding.proofs.SentTextLemmas.{except_marks}
use Rattle.mysql_binding.proofs.SpliceLemmas.{Each}
use Rattle.mysql_steady_text.proofs.WideSteadyLemmas.{first_not_alone-lowered, pieces-lowered, with_literal_tokens-lowered}
use Rattle.mysql_bind_core.proofs.BoundLineLemmas.{places_filled}

-- ---- the query with its names in lower case

module _ (mode : Bool) (query : List ℕ) (ts : List Token) (is : IsTokensIn (wide_reading mode) query ts) where
  pub low_tokens : IsTokens mode (text_of (lower_names ts)) (lower_names ts)
  low_tokens =
      subst (λ (us : List Token). IsTokens mode (text_of (lower_names us)) (lower_names us)) (sym is.2)
      (lowered_tokens mode query is.0 is.1)

  pub low_alone : first_not_alone ts ≡ None → first_not_alone (lower_names ts) ≡ None
  low_alone = first_not_alone-lowered ts 0 [] [] (names_in_reading (wide_reading mode) query ts is) (λ h. h)

pub low_joined : (ts : List Token) (texts : List (List ℕ)) (text : List ℕ) → joined_text (pieces ts) texts ≡ Some text →
    joined_text (pieces (lower_names ts)) texts ≡ Some text
low_joined ts texts text e = ap (λ ps. joined_text ps texts) (pieces-lowered [] ts) ∙ e

pub low_replaced : (mode : Bool) (ts : List Token) (texts : List (List ℕ)) (lists : List (List Token)) (text : List ℕ) →
    AreTokensOf mode texts lists → joined_text (pieces ts) texts ≡ Some text →
    with_literal_tokens (lower_names ts) lists ≡ with_literal_tokens ts lists
low_replaced mode ts texts lists text t e = with_literal_tokens-lowered ts lists (places_filled mode ts texts lists text t e)

-- ---- literals of a mode

module _ (mode : Bool) (query text : List ℕ) (ts : List Token) (given : Given) (is : IsTokensIn (wide_reading mode) query ts) (p : IsPortableInClient (lower_names ts)) (b : IsBoundText mode ts given text) where
  inside : Each StayWithin b.literal_tokens
  inside = literals_within mode b.literals b.literal_tokens b.shapes b.tokens_of_literals

  exact : joined_text (pieces (lower_names ts)) b.literals ≡ Some text
  exact = low_joined ts b.literals text b.text_is

  same : with_literal_tokens (lower_names ts) b.literal_tokens ≡ with_literal_tokens ts b.literal_tokens
  same = low_replaced mode ts b.literals b.literal_tokens text b.tokens_of_literals b.text_is

  isolated : IsTokens mode text (with_literal_tokens (lower_names ts) b.literal_tokens)
  isolated = subst (IsTokens mode text) (sym same) b.isolated

  alike : AreReadAlikeBefore [] (with_literal_tokens (lower_names ts) b.literal_tokens)
  alike =
      bound_portable mode (text_of (lower_names ts)) text (lower_names ts) b.literals b.literal_tokens (low_tokens mode query ts is) p.portable.alike
      b.shapes b.tokens_of_literals exact

  pub plain_sent : AreInLine b.literals → IsPortableInClient (with_literal_tokens ts b.literal_tokens)
  plain_sent in_line =
      let h = low_tokens mode query ts is in
      subst IsPortableInClient same (record {
        portable = record {
          alike = alike;
          apart = placeless_join_no_number mode _ isolated.each
              (isolated_places mode text (lower_names ts) b.literals b.literal_tokens b.shapes b.tokens_of_literals exact);
        };
        no_opener = replaced_no_opener (lower_names ts) b.literal_tokens inside p.no_opener;
        sent = literals_sent mode (text_of (lower_names ts)) text (lower_names ts) b.literals b.literal_tokens h
            (low_alone mode query ts is (bound_alone mode ts given text b)) b.shapes in_line b.tokens_of_literals exact (except_marks (lower_names ts) true true p.sent);
      })
