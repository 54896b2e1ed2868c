use Rattle.std.proofs.Common.{◌-◌, ◌∙◌, ap, drop, length, subst, sym, take}
use Rattle.mysql_bind_core.specs.Cells.{TableQuery}
use Rattle.mysql_bind_core.specs.Requests.{mode_of}
use Rattle.mysql_bind_core.proofs.EachModeLemmas.{IsPortableInOwn, portable_in_each}
use Rattle.mysql_bind_core.proofs.MatchedLemmas.{absent_key, text_behind}
use Rattle.mysql_bind_core.proofs.matched.MatchedQuery.append_values.Goals as goal

pub returns-then-not-no_backslash_escape-clause-bound : goal.returns-then-not-no_backslash_escape-clause-bound
returns-then-not-no_backslash_escape-clause-bound c = λ done.
    let q = c.args.self.now in
    let told = c.in_ok-append_cells.ensures in
    let bound = told.bound c.in-Written.is in
    let mode = sym (c.if-not-no_backslash_escape.ensures ∙ ap (λ r. mode_of r.literals) c.request-request.ensures.request ∙ ap (λ (v : TableQuery). mode_of v.request.literals) c.self.view_is) in (
      bound.0,
      λ assignments are. record {
        taken = told.taken;
        assigned = bound.1 assignments are;
        portable_text = c.values_are_sent.ensures q.request q.query bound.0 mode told.taken bound.2;
      },
      bound.3,
    )

pub returns-then-is_none-clause-bound : goal.returns-then-is_none-clause-bound
returns-then-is_none-clause-bound c = λ done.
    let told = c.in_ok-append_cells.ensures in
    let bound = told.bound c.in-Written.is in
    let behind = text_behind c.len-start.result c.args.script.now.items c.as_slice.result.now c.append_cells.new.script.items bound.0 (c.len-start.ensures ∙ c.args.script.now.ok.0) c.as_slice.ensures.value bound.3 in
    let found : IsPortableInOwn c.self.inside.taken.request bound.0 =
    subst (IsPortableInOwn c.self.inside.taken.request) behind (subst (λ r. IsPortableInOwn r (take (length c.as_slice.result.now - c.len-start.result) (drop c.len-start.result c.as_slice.result.now))) c.request-request.ensures.request (c.found_in_text.ensures.none (absent_key c.found_in_text.result c.if-is_none.ensures))) in
    let own : IsPortableInOwn c.args.self.now.request bound.0 = subst (λ (v : TableQuery). IsPortableInOwn v.request bound.0) c.self.view_is found in (
      bound.0,
      λ assignments are. record {
        taken = told.taken;
        assigned = bound.1 assignments are;
        portable_text = portable_in_each c.args.self.now.request c.args.self.now.query assignments bound.0 (bound.1 assignments are) own;
      },
      bound.3,
    )
