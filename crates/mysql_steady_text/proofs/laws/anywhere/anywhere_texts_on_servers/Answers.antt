use Rattle.std.specs.Prelude.{true}
use Rattle.mysql_named_params.specs.Reading.{grammar_reading, wide_reading}
use Rattle.mysql_portable.proofs.SteadyLemmas.{steady_other}
use Rattle.mysql_steady_text.proofs.SteadyTextLemmas.{anywhere_on_servers, steady_query}
use Rattle.mysql_steady_text.proofs.WideSteadyLemmas.{wide_anywhere_on_servers, wide_other}
use Rattle.mysql_steady_text.proofs.laws.anywhere.anywhere_texts_on_servers.Goals as goal

pub returns : goal.returns
returns c = record {
  narrow = λ mode query text ts given is b.
      let t = b.steady_text in
      let steady = steady_query (grammar_reading mode) query ts t.literals text is t.text_is t.steady in
      anywhere_on_servers query ts given text (steady_other mode true query ts steady is) steady b;
  wide = λ mode query text ts given is b.
      let t = b.steady_text in
      let steady = steady_query (wide_reading mode) query ts t.literals text is t.text_is t.steady in
      wide_anywhere_on_servers query ts given text (wide_other mode true query ts steady is) steady b;
}
