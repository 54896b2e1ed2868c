use Rattle.mysql_binding.proofs.BoundSentLemmas.{written_in_line}
use Rattle.mysql_steady_text.specs.SteadyLiteral.{steady_literal_of}
use Rattle.mysql_steady_text.proofs.SteadyLiteralLemmas.{steady_in_line}
use Rattle.mysql_steady_text.proofs.SteadyClientLemmas.{bound_alone}
use Rattle.mysql_steady_text.proofs.SteadyTextLemmas.{shapes_in}
use Rattle.mysql_steady_text.proofs.laws.bound_steady_texts_are_sent.Goals as goal

pub returns : goal.returns
returns c = λ mode query text ts given h b r o k.
    c.steady_texts_are_sent.ensures.portable mode query text ts b.literals b.literal_tokens h r o k (bound_alone ts given text b) (shapes_in b)
    (written_in_line steady_literal_of steady_in_line b.values b.literals b.written) (b.tokens_of_literals mode) b.text_is
