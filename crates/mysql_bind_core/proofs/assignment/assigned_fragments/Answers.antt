use Rattle.std.proofs.Common.{◌≡◌, ◌∙◌, ap, ℕ, List, map, Some, Ok}
use Rattle.mysql_fragments.specs.GivenFragments.{fragment_map}
use Rattle.mysql_fragments.specs.declared.fragment.Fragment.{Fragment}
use Rattle.mysql_bind_core.specs.Contents.{contents_of}
use Rattle.mysql_bind_core.specs.Entries.{entries_of, pair_said, pair_seen}
use Rattle.mysql_bind_core.specs.Refusals.{IsContentsRefusal, IsEntriesRefusal}
use Rattle.mysql_bind_core.proofs.AssignmentLemmas.{ok_or-found}
use Rattle.mysql_bind_core.proofs.BindingLemmas.{if_ok, if_err}
use Rattle.mysql_bind_core.proofs.EntryLemmas.{contents_refused, said_seen}
use Rattle.mysql_bind_core.proofs.assignment.assigned_fragments.Goals as goal

pub returns-clause-given : goal.returns-clause-given
returns-clause-given c =
    let assignments = c.args.assignments.now in
    let pairs = map pair_seen c.in_ok-pairs.pairs.items in
    let made : contents_of assignments ≡ Some (map pair_said pairs) =
    ok_or-found (contents_of assignments) (map (λ pair. pair_said (pair_seen pair)) c.in_ok-pairs.pairs.items) c.in_ok-pairs.ensures ∙ ap Some (said_seen c.in_ok-pairs.pairs.items) in
    if_ok c.entries_of.result (λ entries. entries_of pairs ≡ Ok (fragment_map entries.entries))
    (λ entries. (found : List (List ℕ × Fragment)) × (contents_of assignments ≡ Some (map pair_said found)) × (entries_of found ≡ Ok (fragment_map entries.entries)))
    (λ entries e. (pairs, made, e)) c.entries_of.ensures.made

pub returns-clause-refused : goal.returns-clause-refused
returns-clause-refused c =
    let assignments = c.args.assignments.now in
    let pairs = map pair_seen c.in_ok-pairs.pairs.items in
    let made : contents_of assignments ≡ Some (map pair_said pairs) =
    ok_or-found (contents_of assignments) (map (λ pair. pair_said (pair_seen pair)) c.in_ok-pairs.pairs.items) c.in_ok-pairs.ensures ∙ ap Some (said_seen c.in_ok-pairs.pairs.items) in
    if_err c.entries_of.result (IsEntriesRefusal (entries_of pairs)) (IsContentsRefusal assignments)
    (contents_refused assignments pairs made) c.entries_of.ensures.refused
