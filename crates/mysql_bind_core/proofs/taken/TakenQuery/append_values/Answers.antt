use Rattle.std.proofs.Common.{ap, subst, sym, ◌∙◌}
use Rattle.mysql_bind_core.specs.Requests.{mode_of}
use Rattle.mysql_bind_core.specs.TakenQuery.{RequestedQuery}
use Rattle.mysql_bind_core.proofs.EachModeLemmas.{IsPortableInOwn, portable_in_each}
use Rattle.mysql_bind_core.proofs.MatchedLemmas.{absent_key, text_behind}
use Rattle.mysql_bind_core.proofs.TakenQueryLemmas.{taken_seen}
use Rattle.mysql_bind_core.proofs.taken.TakenQuery.append_values.Goals as goal

pub returns-then-not-no_backslash_escape-clause-bound : goal.returns-then-not-no_backslash_escape-clause-bound
returns-then-not-no_backslash_escape-clause-bound c =
    λ done.
    let assigned = c.in_ok-append_assigned.ensures.bound c.in-Written.is in
    let taken = taken_seen c.self.inside.request c.self.inside.parsed c.args.self.now c.self.invariant c.self.view_is in
    let mode = sym (c.if-not-no_backslash_escape.ensures ∙ ap (λ (v : RequestedQuery). mode_of v.request.literals) c.self.view_is) in (
      assigned.0,
      record {
        taken = taken;
        assigned = assigned.1;
        portable_text = c.values_are_sent.ensures c.args.self.now.request c.args.self.now.query assigned.0 mode taken assigned.2;
      },
      assigned.3,
    )

pub returns-then-is_none-clause-bound : goal.returns-then-is_none-clause-bound
returns-then-is_none-clause-bound c =
    λ done.
    let q = c.args.self.now in
    let assigned = c.in_ok-append_assigned.ensures.bound c.in-Written.is in
    let behind = text_behind c.len-start.result c.args.script.now.items c.as_slice.result.now c.append_assigned.new.script.items assigned.0 (c.len-start.ensures ∙ c.args.script.now.ok.0) c.as_slice.ensures.value assigned.3 in
    let found = subst (IsPortableInOwn c.self.inside.request) behind (c.found_in_text.ensures.none (absent_key c.found_in_text.result c.if-is_none.ensures)) in
    let own = subst (λ (w : RequestedQuery). IsPortableInOwn w.request assigned.0) c.self.view_is found in (
      assigned.0,
      record {
        taken = taken_seen c.self.inside.request c.self.inside.parsed q c.self.invariant c.self.view_is;
        assigned = assigned.1;
        portable_text = portable_in_each q.request q.query c.args.assignments.now assigned.0 assigned.1 own;
      },
      assigned.3,
    )
