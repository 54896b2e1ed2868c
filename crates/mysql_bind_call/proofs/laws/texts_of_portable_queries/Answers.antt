use Rattle.std.specs.Prelude.{false, true}
use Rattle.std.proofs.Common.{subst}
use Rattle.mysql_portable.specs.Steady.{HoldNoEscapes}
use Rattle.mysql_portable.proofs.OtherModeLemmas.{tokens_other}
use Rattle.mysql_portable.proofs.SteadyLemmas.{steady_other}
use Rattle.mysql_steady_text.proofs.BothModesTextLemmas.{no_escapes_out, portable_in_both}
use Rattle.mysql_steady_text.proofs.SteadyTextLemmas.{is_anywhere_text}
use Rattle.mysql_steady_text.proofs.WideBothModesLemmas.{is_wide_both, no_escapes_back}
use Rattle.mysql_steady_text.proofs.WideSteadyLemmas.{is_wide_anywhere_text, wide_other}
use Rattle.mysql_bind_call.proofs.laws.texts_of_portable_queries.Goals as goal

pub returns : goal.returns
returns c = record {
  anywhere = λ mode query text ts given is steady p t.
      is_anywhere_text query ts given text (steady_other mode true query ts steady is) steady p t;
  wide_anywhere = λ mode query text ts given is steady p t.
      is_wide_anywhere_text query ts given text (wide_other mode true query ts steady is) steady p t;
  in_both_modes = λ query text ts given is p t.
      let free = no_escapes_out ts t.literal_tokens t.no_escapes in
      portable_in_both query ts given text (λ mode. tokens_other true mode query ts free is) p t;
  wide_in_both_modes = λ query text ts given is p t.
      let free = no_escapes_out ts t.literal_tokens t.no_escapes in
      is_wide_both query ts given text (is.0, is.1, no_escapes_back false is.0 (subst HoldNoEscapes is.2 free)) is p t;
}
