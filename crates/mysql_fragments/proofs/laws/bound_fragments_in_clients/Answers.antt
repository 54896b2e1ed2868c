use Rattle.std.proofs.Common.{ap, length, ◌∙◌}
use Rattle.mysql_binding.specs.BoundStatements.{statements_with_literals}
use Rattle.mysql_binding.specs.Replaced.{with_literal_tokens}
use Rattle.mysql_binding.proofs.BoundStatementLemmas.{replaced_statements, length-with_literals}
use Rattle.mysql_portable.specs.Statements.{statements}
use Rattle.mysql_fragments.proofs.ExpandedLemmas.{expanded_alone, expanded_shapes}
use Rattle.mysql_fragments.proofs.SplicedFragmentLemmas.{fragments_within}
use Rattle.mysql_fragments.proofs.laws.bound_fragments_in_clients.Goals as goal

pub returns : goal.returns
returns c =
    let s = c.fragments_on_servers.ensures in
    let f = c.fragments_in_clients.ensures in
    let b = c.bound_texts_in_clients.ensures in
    record {
      no_opener = λ mode text ts given x o.
          b.no_opener mode text _ _ x.bound (f.no_opener mode ts _ _ x.expanded.lists (expanded_shapes x.expanded) x.expanded.tokens_of_fragments o);
      read = λ client mode query text ts vs given honest is x p o v.
          b.read client mode x.query text _ vs _ honest x.expanded.isolated x.bound
          (s.portable mode query x.query ts _ _ x.expanded.lists is p (expanded_alone _ mode ts given x.query x.expanded) (expanded_shapes x.expanded) x.expanded.tokens_of_fragments x.expanded.text_is)
          (f.no_opener mode ts _ _ x.expanded.lists (expanded_shapes x.expanded) x.expanded.tokens_of_fragments o) v;
      count = λ client mode query text ts vs given honest is x p o v.
          b.count client mode x.query text _ vs _ honest x.expanded.isolated x.bound
          (s.portable mode query x.query ts _ _ x.expanded.lists is p (expanded_alone _ mode ts given x.query x.expanded) (expanded_shapes x.expanded) x.expanded.tokens_of_fragments x.expanded.text_is)
          (f.no_opener mode ts _ _ x.expanded.lists (expanded_shapes x.expanded) x.expanded.tokens_of_fragments o) v
          ∙ (ap length (replaced_statements ts x.expanded.lists (fragments_within mode _ _ x.expanded.lists (expanded_shapes x.expanded) x.expanded.tokens_of_fragments))
          ∙ length-with_literals (statements ts) x.expanded.lists);
      tokens = λ client mode query text ts us given honest decides is x p o u.
          b.tokens client mode x.query text _ _ _ honest decides x.expanded.isolated x.bound
          (s.portable mode query x.query ts _ _ x.expanded.lists is p (expanded_alone _ mode ts given x.query x.expanded) (expanded_shapes x.expanded) x.expanded.tokens_of_fragments x.expanded.text_is)
          (f.no_opener mode ts _ _ x.expanded.lists (expanded_shapes x.expanded) x.expanded.tokens_of_fragments o)
          (f.tokens client mode query x.query ts us _ _ x.expanded.lists honest decides is p o (expanded_alone _ mode ts given x.query x.expanded) (expanded_shapes x.expanded) x.expanded.tokens_of_fragments x.expanded.text_is u);
      statements = λ mode text ts us given x.
          b.statements mode text _ (with_literal_tokens us x.expanded.lists) _ x.bound
          ∙ ap (λ z. statements_with_literals z x.bound.literal_tokens) (f.statements mode us _ _ x.expanded.lists (expanded_shapes x.expanded) x.expanded.tokens_of_fragments);
    }
