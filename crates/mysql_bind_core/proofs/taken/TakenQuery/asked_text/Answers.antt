use Rattle.std.proofs.Common.{refl, subst}
use Rattle.mysql_bind_core.specs.Refusals.{IsFoundInText, of_bound_text}
use Rattle.mysql_bind_core.specs.TakenQuery.{RequestedQuery}
use Rattle.mysql_bind_core.proofs.EachModeLemmas.{IsPortableInOwn, portable_in_each}
use Rattle.mysql_bind_core.proofs.TakenQueryLemmas.{taken_seen}
use Rattle.mysql_bind_core.proofs.taken.TakenQuery.asked_text.Goals as goal

pub returns-in-None-clause-bound : goal.returns-in-None-clause-bound
returns-in-None-clause-bound c =
    let q = c.args.self.now in
    let text = c.args.text.items in record {
      taken = taken_seen c.self.inside.request c.self.inside.parsed q c.self.invariant c.self.view_is;
      assigned = c.requires;
      portable_text = portable_in_each q.request q.query c.args.assignments.now text c.requires
          (subst (λ (w : RequestedQuery). IsPortableInOwn w.request text) c.self.view_is
          (rw c.as_slice.ensures.value at (c.found_in_text.ensures.none c.in-None.is)));
    }

pub returns-in-Some-clause-refused : goal.returns-in-Some-clause-refused
returns-in-Some-clause-refused c =
    let taken = taken_seen c.self.inside.request c.self.inside.parsed c.args.self.now c.self.invariant c.self.view_is in
    let text = c.args.text.items in
    of_bound_text taken text c.requires c.in-Some.found refl
    (subst (λ (w : RequestedQuery). IsFoundInText w.request text c.in-Some.found) c.self.view_is
    (rw c.as_slice.ensures.value at c.in-Some.ensures.found))
