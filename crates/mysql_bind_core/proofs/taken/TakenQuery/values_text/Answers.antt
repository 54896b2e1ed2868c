use Rattle.std.specs.Prelude.{IfOk, IfSome, Option, Result, Err, Some, None}
use Rattle.std.proofs.Common.{◌≡◌, map, Ok, subst}
use Rattle.mysql_query_core.specs.WordErrors.{seen_pair}
use Rattle.mysql_bind_core.specs.Assignments.{pairs_of}
use Rattle.mysql_bind_core.specs.Bound.{IsAssignedText}
use Rattle.mysql_bind_core.specs.FoundPairs.{IsPairsText, IsValuesText}
use Rattle.mysql_bind_core.proofs.AssignmentLemmas.{ok_or-found}
use Rattle.mysql_bind_core.proofs.PairsTextLemmas.{pairs_assigned}
use Rattle.mysql_bind_core.proofs.taken.TakenQuery.values_text.Goals as goal

-- what is told of a text that is found
if_found : {A F : Type 0} (r : Result (Option A) F) (P Q : A → Type 0) → ((a : A) → P a → Q a) → IfOk r (λ found. IfSome found P) → IfOk r (λ found. IfSome found Q)
if_found (Ok (Some a)) P Q f h = f a h
if_found (Ok None) P Q f h = tt
if_found (Err e) P Q f h = tt

pub returns-clause-assigned : goal.returns-clause-assigned
returns-clause-assigned c =
    let q = c.args.self.now in
    let assignments = c.args.assignments.now in
    let pairs = map seen_pair c.in-Ok.pairs.items in
    let taken = c.request.ensures.taken in
    if_found c.pairs_text.result (λ text. IsPairsText q.request q.query pairs text.items) (λ text. IsAssignedText q.request q.query assignments text.items)
    (λ text. pairs_assigned q.request q.query assignments pairs text.items taken.steady c.requires (ok_or-found (pairs_of assignments) pairs c.in-Ok.ensures))
    (rw c.as_slice.ensures.value at c.pairs_text.ensures)

pub returns-clause-values : goal.returns-clause-values
returns-clause-values c =
    let q = c.args.self.now in
    let pairs = map seen_pair c.in-Ok.pairs.items in
    if_found c.pairs_text.result (λ text. IsPairsText q.request q.query pairs text.items) (λ text. IsValuesText q.request q.query text.items)
    (λ text x. (x.given, x.bound))
    (rw c.as_slice.ensures.value at c.pairs_text.ensures)
