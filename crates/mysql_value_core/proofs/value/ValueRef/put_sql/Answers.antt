use Rattle.std.proofs.Common.{subst}
use Rattle.std.specs.Prelude.{IfSome}
use Rattle.mysql_value_core.specs.BorrowedValue.{owned}
use Rattle.mysql_value_core.specs.ReadBack.{ReadsAs}
use Rattle.mysql_value_core.specs.TimeLiteral.{WritesTimeText}
use Rattle.mysql_value_core.proofs.LiteralLemmas.{literal_reads, literal_writes_time}
use Rattle.mysql_value_core.proofs.value.ValueRef.put_sql.Goals as goal

pub returns-clause-reads_back : goal.returns-clause-reads_back
returns-clause-reads_back c =
    let mode = c.args.no_backslash_escape in
    let value = (owned c.args.self) in
    let reads = literal_reads mode value c.fields_in_range.ensures in
    subst (λ o. IfSome o (ReadsAs mode value)) c.fill_literal.ensures reads

pub returns-clause-time : goal.returns-clause-time
returns-clause-time c =
    let value = (owned c.args.self) in
    let writes = literal_writes_time c.args.no_backslash_escape value in
    subst (λ o. IfSome o (WritesTimeText value)) c.fill_literal.ensures writes
