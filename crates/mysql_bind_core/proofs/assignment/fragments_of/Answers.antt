use Rattle.std.proofs.Common.{map, ◌≡◌, ◌∙◌, ◌+◌, ◌++◌, ◌∷◌, [], ap, subst, sym, drop, rules, Some}
use Rattle.std.proofs.lemmas.List.{map-append}
use Rattle.mysql_bind_core.specs.Contents.{all_of, named_content}
use Rattle.mysql_bind_core.specs.Entries.{pair_said, pair_seen}
use Rattle.mysql_bind_core.proofs.AssignmentLemmas.{ok_or-found}
use Rattle.mysql_bind_core.proofs.ContentLemmas.{before, one_more}
use Rattle.mysql_bind_core.proofs.assignment.fragments_of.Goals as goal

pub loop-assignment-preserved : goal.loop-assignment-preserved
loop-assignment-preserved c =
    let assignments = c.args.assignments.now in
    let next = c.loop-assignment.assignment-index + 1 in
    let pair = pair_said (pair_seen c.in_ok-fragment_of.field-0) in
    let found : named_content c.assignment-item.result ≡ Some pair = ok_or-found (named_content c.assignment-item.result) pair c.in_ok-fragment_of.ensures in
    let pushed : c.push.new.self.items ≡ c.loop-assignment.pairs.items ++ c.in_ok-fragment_of.field-0 ∷ [] = search rules in
    subst (λ front. all_of named_content assignments ≡ before front (all_of named_content (drop next assignments)))
    (sym (ap (map (λ pair. pair_said (pair_seen pair))) pushed ∙ map-append (λ pair. pair_said (pair_seen pair)) c.loop-assignment.pairs.items (c.in_ok-fragment_of.field-0 ∷ [])))
    (one_more named_content assignments c.loop-assignment.assignment-index c.assignment-item.result
    (map (λ pair. pair_said (pair_seen pair)) c.loop-assignment.pairs.items) c.loop-assignment-test.true c.assignment-item.is
    c.loop-assignment.invariant pair found)
