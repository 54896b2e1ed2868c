use Rattle.std.specs.Prelude.{OnOk, IfErr}
use Rattle.std.proofs.Common.{◌≡◌, ◌∙◌, ◌++◌, ℕ, List, subst, sym}
use Rattle.mysql_bind_core.specs.Bound.{IsWritten}
use Rattle.mysql_bind_core.specs.Cells.{AreAssigned, TableQuery}
use Rattle.mysql_bind_core.specs.Refusals.{IsRefusal}
use Rattle.mysql_bind_core.proofs.BindingLemmas.{if_err}
use Rattle.mysql_bind_core.proofs.CellLemmas.{same_refusal, same_written}
use Rattle.mysql_bind_core.proofs.CellRowLemmas.{on_ok}
use Rattle.mysql_bind_core.proofs.matched.MatchedQuery.append_assigned.Goals as goal

pub returns-clause-bound : goal.returns-clause-bound
returns-clause-bound c =
    let q = c.args.self.now in
    let made = c.in_ok-assignments.assignments.items in
    let said : AreAssigned q.columns c.args.cells.now made =
    subst (λ (v : TableQuery). AreAssigned v.columns c.args.cells.now made) c.self.view_is c.in_ok-assignments.ensures in
    let bound : OnOk c.append_text.result ((x : List ℕ) × IsWritten q.request q.query made x × (c.append_text.new.script.items ≡ c.args.script.now.items ++ x)) =
    subst (λ (v : TableQuery). OnOk c.append_text.result ((x : List ℕ) × IsWritten v.request v.query made x × (c.append_text.new.script.items ≡ c.args.script.now.items ++ x)))
    c.self.view_is (rw c.as_slice.ensures.value at c.append_text.ensures.bound) in
    on_ok c.append_text.result _ _
    (λ b. (b.0, λ assignments are. same_written q.request q.query made assignments (said ∙ sym are) b.0 b.1, b.2)) bound

pub returns-clause-refused : goal.returns-clause-refused
returns-clause-refused c =
    let q = c.args.self.now in
    let made = c.in_ok-assignments.assignments.items in
    let said : AreAssigned q.columns c.args.cells.now made =
    subst (λ (v : TableQuery). AreAssigned v.columns c.args.cells.now made) c.self.view_is c.in_ok-assignments.ensures in
    let refused : IfErr c.append_text.result (IsRefusal q.request q.query made) =
    subst (λ (v : TableQuery). IfErr c.append_text.result (IsRefusal v.request v.query made))
    c.self.view_is (rw c.as_slice.ensures.value at c.append_text.ensures.refused) in
    if_err c.append_text.result _ _ (λ e r assignments are. same_refusal q.request q.query made assignments (said ∙ sym are) e r) refused
