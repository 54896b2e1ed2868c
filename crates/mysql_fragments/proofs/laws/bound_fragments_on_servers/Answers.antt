use Rattle.mysql_fragments.proofs.ExpandedLemmas.{expanded_alone, expanded_shapes}
use Rattle.mysql_fragments.proofs.laws.bound_fragments_on_servers.Goals as goal

pub returns : goal.returns
returns c =
    let f = c.fragments_on_servers.ensures in
    let b = c.bound_texts_on_servers.ensures in
    record {
      portable = λ mode query text ts given is x p.
          b.portable mode x.query text _ _ x.expanded.isolated x.bound
          (f.portable mode query x.query ts _ _ x.expanded.lists is p (expanded_alone _ mode ts given x.query x.expanded) (expanded_shapes x.expanded) x.expanded.tokens_of_fragments x.expanded.text_is);
      read = λ server mode query text ts vs given honest is x p v.
          b.read server mode x.query text _ vs _ honest x.expanded.isolated x.bound
          (f.portable mode query x.query ts _ _ x.expanded.lists is p (expanded_alone _ mode ts given x.query x.expanded) (expanded_shapes x.expanded) x.expanded.tokens_of_fragments x.expanded.text_is) v;
      tokens = λ server mode query text ts us given honest within is x p u.
          b.tokens server mode x.query text _ _ _ honest within x.expanded.isolated x.bound
          (f.portable mode query x.query ts _ _ x.expanded.lists is p (expanded_alone _ mode ts given x.query x.expanded) (expanded_shapes x.expanded) x.expanded.tokens_of_fragments x.expanded.text_is)
          (f.tokens server mode query x.query ts us _ _ x.expanded.lists honest within is p (expanded_alone _ mode ts given x.query x.expanded) (expanded_shapes x.expanded) x.expanded.tokens_of_fragments x.expanded.text_is u);
    }
