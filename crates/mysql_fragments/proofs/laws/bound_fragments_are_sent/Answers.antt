use Rattle.std.proofs.Common.{true}
use Rattle.mysql_binding.proofs.SentTextLemmas.{except_marks}
use Rattle.mysql_fragments.proofs.ExpandedLemmas.{expanded_alone, expanded_shapes}
use Rattle.mysql_fragments.proofs.laws.bound_fragments_are_sent.Goals as goal

pub returns : goal.returns
returns c = λ mode query text ts given h p x k w l.
    let alone = expanded_alone _ mode ts given x.query x.expanded in
    c.bound_texts_are_sent.ensures.portable mode x.query text _ _ x.expanded.isolated x.bound l
    (c.fragments_on_servers.ensures.portable mode query x.query ts _ _ x.expanded.lists h p.portable.alike alone (expanded_shapes x.expanded) x.expanded.tokens_of_fragments x.expanded.text_is)
    (c.fragments_in_clients.ensures.no_opener mode ts _ _ x.expanded.lists (expanded_shapes x.expanded) x.expanded.tokens_of_fragments p.no_opener)
    (c.fragments_are_sent.ensures mode query x.query ts _ _ x.expanded.lists h (except_marks ts true true p.sent) alone (expanded_shapes x.expanded) k w x.expanded.tokens_of_fragments x.expanded.text_is)
