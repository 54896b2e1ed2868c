use Rattle.std.proofs.Common.{subst}
use Rattle.mysql_named_params.specs.Reading.{wide_reading}
use Rattle.mysql_named_params.specs.Tokens.{IsTokens, text_of}
use Rattle.mysql_named_params.proofs.LoweredLemmas.{lowered_same}
use Rattle.mysql_named_params.proofs.ReadingLemmas.{reading_text}
use Rattle.mysql_bind_core.proofs.LoweredTextLemmas.{low_tokens}
use Rattle.mysql_bind_core.proofs.laws.lower_names_stay.Goals as goal

pub returns : goal.returns
returns c = record {
  same = lowered_same;
  grammar = λ mode query ts is h.
      subst (λ x. IsTokens mode x ts) (reading_text (wide_reading mode) query ts is)
      (subst (λ us. IsTokens mode (text_of us) us) (lowered_same ts h) (low_tokens mode query ts is));
}
