use Rattle.std.proofs.Common.{false, true}
use Rattle.mysql_portable.proofs.SteadyLemmas.{steady_other}
use Rattle.mysql_binding.proofs.SentTextLemmas.{except_marks}
use Rattle.mysql_fragments.proofs.ExpandedLemmas.{expanded_alone, expanded_shapes}
use Rattle.mysql_fragments.proofs.laws.steady.steady_fragments_are_sent.Goals as goal

pub returns : goal.returns
returns c = λ mode query text ts given is q p x k w.
    let h = steady_other mode false query ts q is in
    let alone = expanded_alone _ false ts given x.query x.expanded in
    c.bound_steady_texts_are_sent.ensures mode x.query text _ _ (x.isolated mode) x.bound
    (c.fragments_on_servers.ensures.portable false query x.query ts _ _ x.expanded.lists h p.portable.alike alone (expanded_shapes x.expanded) x.expanded.tokens_of_fragments x.expanded.text_is)
    (c.fragments_in_clients.ensures.no_opener false ts _ _ x.expanded.lists (expanded_shapes x.expanded) x.expanded.tokens_of_fragments p.no_opener)
    (c.fragments_are_sent.ensures false query x.query ts _ _ x.expanded.lists h (except_marks ts true true p.sent) alone (expanded_shapes x.expanded) k w x.expanded.tokens_of_fragments x.expanded.text_is)
