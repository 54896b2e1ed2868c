use Rattle.std.proofs.Common.{◌∙◌, false, ap, length}
use Rattle.mysql_binding.specs.BoundStatements.{statements_with_literals}
use Rattle.mysql_binding.specs.Replaced.{with_literal_tokens}
use Rattle.mysql_binding.proofs.BoundStatementLemmas.{length-with_literals}
use Rattle.mysql_portable.specs.Statements.{statements}
use Rattle.mysql_portable.proofs.ClientLemmas.{reads_as_server, read_as_server}
use Rattle.mysql_portable.proofs.SteadyLemmas.{steady_other, steady_other_on}
use Rattle.mysql_fragments.proofs.ExpandedLemmas.{expanded_alone, expanded_shapes}
use Rattle.mysql_fragments.proofs.laws.steady.steady_fragments_in_clients.Goals as goal

pub returns : goal.returns
returns c =
    let s = c.fragments_on_servers.ensures in
    let f = c.fragments_in_clients.ensures in
    let b = c.bound_steady_texts_in_clients.ensures in
    record {
      no_opener = λ text ts given x o.
          b.no_opener text _ _ x.bound (f.no_opener false ts _ _ x.expanded.lists (expanded_shapes x.expanded) x.expanded.tokens_of_fragments o);
      read = λ client mode query text ts vs given honest is q x p o v.
          b.read client mode x.query text _ vs _ honest (x.isolated mode) x.bound
          (s.portable false query x.query ts _ _ x.expanded.lists (steady_other mode false query ts q is) p (expanded_alone _ false ts given x.query x.expanded) (expanded_shapes x.expanded) x.expanded.tokens_of_fragments x.expanded.text_is)
          (f.no_opener false ts _ _ x.expanded.lists (expanded_shapes x.expanded) x.expanded.tokens_of_fragments o) v;
      count = λ client mode query text ts vs given honest is q x p o v.
          b.count client mode x.query text _ vs _ honest (x.isolated mode) x.bound
          (s.portable false query x.query ts _ _ x.expanded.lists (steady_other mode false query ts q is) p (expanded_alone _ false ts given x.query x.expanded) (expanded_shapes x.expanded) x.expanded.tokens_of_fragments x.expanded.text_is)
          (f.no_opener false ts _ _ x.expanded.lists (expanded_shapes x.expanded) x.expanded.tokens_of_fragments o) v
          ∙ (ap length (f.statements false ts _ _ x.expanded.lists (expanded_shapes x.expanded) x.expanded.tokens_of_fragments)
          ∙ length-with_literals (statements ts) x.expanded.lists);
      tokens = λ client mode query text ts us given honest decides is q x p o u.
          let h = steady_other mode false query ts q is in
          let alone = expanded_alone _ false ts given x.query x.expanded in
          let alike = s.portable false query x.query ts _ _ x.expanded.lists h p alone (expanded_shapes x.expanded) x.expanded.tokens_of_fragments x.expanded.text_is in
          let none = f.no_opener false ts _ _ x.expanded.lists (expanded_shapes x.expanded) x.expanded.tokens_of_fragments o in
          let on = s.tokens client.reader false query x.query ts us _ _ x.expanded.lists honest decides h p alone (expanded_shapes x.expanded) x.expanded.tokens_of_fragments x.expanded.text_is
          (steady_other_on client.reader mode false query us q (read_as_server client mode query ts us honest is p o u)) in
          b.tokens client mode x.query text _ (with_literal_tokens us x.expanded.lists) _ honest decides (x.isolated mode) x.bound alike none
          (reads_as_server client mode x.query (with_literal_tokens ts x.expanded.lists) (with_literal_tokens us x.expanded.lists) honest (x.isolated mode) alike none
          (steady_other_on client.reader false mode x.query (with_literal_tokens us x.expanded.lists) x.steady on));
      statements = λ text ts us given x.
          b.statements text _ (with_literal_tokens us x.expanded.lists) _ x.bound
          ∙ ap (λ z. statements_with_literals z x.bound.literal_tokens) (f.statements false us _ _ x.expanded.lists (expanded_shapes x.expanded) x.expanded.tokens_of_fragments);
    }
