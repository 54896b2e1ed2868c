-- Most goals are proved without these lines too. With them a wrong body is refused in half the time.
use Rattle.std.proofs.Common.{inl, inr, rules}
use Rattle.std.proofs.lemmas.Result.{err_from_is_err_and}
use Rattle.mysql_query_core.proofs.ProgramLemmas.{read_refused}
use Rattle.mysql_query_core.proofs.program.run.Goals as goal

pub returns-in_err-command-clause-ok : goal.returns-in_err-command-clause-ok
returns-in_err-command-clause-ok g c =
    let handed_on = err_from_is_err_and c.from_residual.result c.from_residual.ensures.1 in
    rw handed_on.1 (search rules)

pub returns-in_err-command-clause-words : goal.returns-in_err-command-clause-words
returns-in_err-command-clause-words g c =
    let handed_on = err_from_is_err_and c.from_residual.result c.from_residual.ensures.1 in
    rw handed_on.1 (search (rules, handed_on.2.0, handed_on.2.1))

pub returns-in_err-command-clause-usage : goal.returns-in_err-command-clause-usage
returns-in_err-command-clause-usage g c =
    let handed_on = err_from_is_err_and c.from_residual.result c.from_residual.ensures.1 in
    rw handed_on.1 (search (rules, handed_on.2.0, handed_on.2.1))

pub returns-in_err-command-clause-refused : goal.returns-in_err-command-clause-refused
returns-in_err-command-clause-refused g c =
    let handed_on = err_from_is_err_and c.from_residual.result c.from_residual.ensures.1 in
    rw handed_on.1 (search (rules, handed_on.2.0, handed_on.2.1))

pub returns-in_err-command-clause-write : goal.returns-in_err-command-clause-write
returns-in_err-command-clause-write g c =
    let handed_on = err_from_is_err_and c.from_residual.result c.from_residual.ensures.1 in
    rw handed_on.1 (search (rules, handed_on.2.0, handed_on.2.1))

pub returns-in_err-command-clause-unwritten : goal.returns-in_err-command-clause-unwritten
returns-in_err-command-clause-unwritten g c =
    let handed_on = err_from_is_err_and c.from_residual.result c.from_residual.ensures.1 in
    rw handed_on.1 (search rules)

pub returns-in_err-command-clause-cause : goal.returns-in_err-command-clause-cause
returns-in_err-command-clause-cause g c =
    let handed_on = err_from_is_err_and c.from_residual.result c.from_residual.ensures.1 in
    rw handed_on.1 (search (rules, handed_on.2.0, handed_on.2.1))

pub returns-in_err-query-clause-ok : goal.returns-in_err-query-clause-ok
returns-in_err-query-clause-ok g c =
    elim (read_refused c.from_residual-in_err-query.result c.in_err-query.field-0.0 c.from_residual-in_err-query.ensures.1) [
      | inl read ↦ rw read (search rules)
      | inr memory ↦ rw memory (search rules)
    ]

pub returns-in_err-query-clause-words : goal.returns-in_err-query-clause-words
returns-in_err-query-clause-words g c =
    elim (read_refused c.from_residual-in_err-query.result c.in_err-query.field-0.0 c.from_residual-in_err-query.ensures.1) [
      | inl read ↦ rw read (search rules)
      | inr memory ↦ rw memory (search rules)
    ]

pub returns-in_err-query-clause-usage : goal.returns-in_err-query-clause-usage
returns-in_err-query-clause-usage g c =
    elim (read_refused c.from_residual-in_err-query.result c.in_err-query.field-0.0 c.from_residual-in_err-query.ensures.1) [
      | inl read ↦ rw read (search rules)
      | inr memory ↦ rw memory (search rules)
    ]

pub returns-in_err-query-clause-refused : goal.returns-in_err-query-clause-refused
returns-in_err-query-clause-refused g c =
    elim (read_refused c.from_residual-in_err-query.result c.in_err-query.field-0.0 c.from_residual-in_err-query.ensures.1) [
      | inl read ↦ rw read (search rules)
      | inr memory ↦ rw memory (search rules)
    ]

pub returns-in_err-query-clause-write : goal.returns-in_err-query-clause-write
returns-in_err-query-clause-write g c =
    elim (read_refused c.from_residual-in_err-query.result c.in_err-query.field-0.0 c.from_residual-in_err-query.ensures.1) [
      | inl read ↦ rw read (search rules)
      | inr memory ↦ rw memory (search rules)
    ]

pub returns-in_err-query-clause-unwritten : goal.returns-in_err-query-clause-unwritten
returns-in_err-query-clause-unwritten g c =
    elim (read_refused c.from_residual-in_err-query.result c.in_err-query.field-0.0 c.from_residual-in_err-query.ensures.1) [
      | inl read ↦ rw read (search rules)
      | inr memory ↦ rw memory (search rules)
    ]

pub returns-in_err-query-clause-cause : goal.returns-in_err-query-clause-cause
returns-in_err-query-clause-cause g c =
    elim (read_refused c.from_residual-in_err-query.result c.in_err-query.field-0.0 c.from_residual-in_err-query.ensures.1) [
      | inl read ↦ rw read (search rules)
      | inr memory ↦ rw memory (search rules)
    ]

pub returns-in_err-text-clause-ok : goal.returns-in_err-text-clause-ok
returns-in_err-text-clause-ok g c =
    let handed_on = err_from_is_err_and c.from_residual-in_err-text.result c.from_residual-in_err-text.ensures.1 in
    rw handed_on.1 (search rules)

pub returns-in_err-text-clause-words : goal.returns-in_err-text-clause-words
returns-in_err-text-clause-words g c =
    let handed_on = err_from_is_err_and c.from_residual-in_err-text.result c.from_residual-in_err-text.ensures.1 in
    rw (handed_on.1, handed_on.2) (search rules)

pub returns-in_err-text-clause-usage : goal.returns-in_err-text-clause-usage
returns-in_err-text-clause-usage g c =
    let handed_on = err_from_is_err_and c.from_residual-in_err-text.result c.from_residual-in_err-text.ensures.1 in
    rw (handed_on.1, handed_on.2) (search rules)

pub returns-in_err-text-clause-refused : goal.returns-in_err-text-clause-refused
returns-in_err-text-clause-refused g c =
    let handed_on = err_from_is_err_and c.from_residual-in_err-text.result c.from_residual-in_err-text.ensures.1 in
    rw (handed_on.1, handed_on.2) (search rules)

pub returns-in_err-text-clause-write : goal.returns-in_err-text-clause-write
returns-in_err-text-clause-write g c =
    let handed_on = err_from_is_err_and c.from_residual-in_err-text.result c.from_residual-in_err-text.ensures.1 in
    rw (handed_on.1, handed_on.2) (search rules)

pub returns-in_err-text-clause-unwritten : goal.returns-in_err-text-clause-unwritten
returns-in_err-text-clause-unwritten g c =
    let handed_on = err_from_is_err_and c.from_residual-in_err-text.result c.from_residual-in_err-text.ensures.1 in
    rw (handed_on.1, handed_on.2) (search rules)

pub returns-in_err-text-clause-cause : goal.returns-in_err-text-clause-cause
returns-in_err-text-clause-cause g c =
    let handed_on = err_from_is_err_and c.from_residual-in_err-text.result c.from_residual-in_err-text.ensures.1 in
    rw (handed_on.1, handed_on.2) (search rules)

pub returns-clause-ok : goal.returns-clause-ok
returns-clause-ok g c = search rules

pub returns-clause-words : goal.returns-clause-words
returns-clause-words g c = search rules

pub returns-clause-usage : goal.returns-clause-usage
returns-clause-usage g c = search rules

pub returns-clause-refused : goal.returns-clause-refused
returns-clause-refused g c = search rules

pub returns-clause-write : goal.returns-clause-write
returns-clause-write g c = search rules

pub returns-clause-unwritten : goal.returns-clause-unwritten
returns-clause-unwritten g c = search rules

pub returns-clause-cause : goal.returns-clause-cause
returns-clause-cause g c = search rules
