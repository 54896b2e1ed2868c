use Rattle.std.proofs.Common.{map, refl}
use Rattle.mysql_query_core.specs.WordErrors.{seen_pair}
use Rattle.mysql_bind_core.specs.Assignments.{pairs_of}
use Rattle.mysql_bind_core.proofs.AppendedRowLemmas.{done_so}
use Rattle.mysql_bind_core.proofs.AssignmentLemmas.{ok_or-found}
use Rattle.mysql_bind_core.proofs.PairsTextLemmas.{pairs_assigned}
use Rattle.mysql_bind_core.proofs.taken.TakenQuery.append_assigned.Goals as goal

pub returns-in-Ok-clause-bound : goal.returns-in-Ok-clause-bound
returns-in-Ok-clause-bound c =
    let q = c.args.self.now in
    let assignments = c.args.assignments.now in
    let pairs = map seen_pair c.in-Ok.pairs.items in
    let taken = c.request.ensures.taken in
    let none = c.if-not-are_few_values.ensures.values refl in
    done_so c.append_pairs.result _ _
    (λ t. (t.0, pairs_assigned q.request q.query assignments pairs t.0 taken.steady none (ok_or-found (pairs_of assignments) pairs c.in-Ok.ensures) t.1, (t.1.given, t.1.bound), t.2))
    (rw c.as_slice.ensures.value at c.append_pairs.ensures.bound)
