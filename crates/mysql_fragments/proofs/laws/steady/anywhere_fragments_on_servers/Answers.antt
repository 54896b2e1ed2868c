use Rattle.std.specs.Prelude.{false, map}
use Rattle.mysql_named_params.specs.Reading.{grammar_reading, wide_reading}
use Rattle.mysql_portable.proofs.SteadyLemmas.{steady_other}
use Rattle.mysql_steady_text.proofs.SteadyTextLemmas.{steady_query}
use Rattle.mysql_steady_text.proofs.WideSteadyLemmas.{wide_other}
use Rattle.mysql_fragments.specs.FragmentText.{fragment_text}
use Rattle.mysql_fragments.proofs.SteadyFragmentLemmas.{anywhere_on_servers}
use Rattle.mysql_fragments.proofs.WideFragmentLemmas.{wide_anywhere_on_servers}
use Rattle.mysql_fragments.proofs.laws.steady.anywhere_fragments_on_servers.Goals as goal

pub returns : goal.returns
returns c = record {
  narrow = λ mode query text ts given is b.
      let f = b.steady_text in
      let steady = steady_query (grammar_reading mode) query ts (map fragment_text f.expanded.fragments) f.query is f.expanded.text_is f.steady in
      anywhere_on_servers query ts given text (steady_other mode false query ts steady is) steady b.portable f;
  wide = λ mode query text ts given is b.
      let f = b.steady_text in
      let steady = steady_query (wide_reading mode) query ts (map fragment_text f.expanded.fragments) f.query is f.expanded.text_is f.steady in
      wide_anywhere_on_servers query ts given text (wide_other mode false query ts steady is) steady b.portable f;
}
