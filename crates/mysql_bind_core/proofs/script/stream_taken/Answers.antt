use Rattle.std.proofs.Common.{◌≡◌, [], Err, ap, rules, subst, take}
use Rattle.mysql_bind_core.specs.Scripts.{AreStatements}
use Rattle.mysql_bind_core.proofs.ScriptLemmas.{some_statements}
use Rattle.mysql_bind_core.proofs.script.stream_taken.Goals as goal

pub returns-in_err-written-clause-begun : goal.returns-in_err-written-clause-begun
returns-in_err-written-clause-begun g c =
    let request = c.args.query.now.request in
    let query = c.args.query.now.query in
    let rows = c.args.rows.now in
    let before = c.new-statements.result.items in
    let statements = c.append_rows-appended.new.script.items in
    let none : before ≡ [] = search rules in
    let some = some_statements request query rows c.append_rows-appended.result before statements
    c.append_rows-appended.ensures.appended c.append_rows-appended.ensures.before in
    λ failed. (
      some.0,
      statements,
      subst (λ b. AreStatements request query (take some.0 rows) b statements) none some.1,
      rw c.deref.ensures.value at (c.in_err-written.ensures.begun (ap (λ e. Err e) c.in_err-written.ensures.refused)),
    )
