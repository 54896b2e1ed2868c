use Rattle.std.proofs.Common.{refl, rules, arith}
use Rattle.mysql_bind_core.proofs.ScriptLemmas.{no_statements, of_all, out_of_memory, statement_more}
use Rattle.mysql_bind_core.proofs.rows.append_rows.Goals as goal

pub returns-then-is_empty-clause-appended : goal.returns-then-is_empty-clause-appended
returns-then-is_empty-clause-appended c =
    of_all c.args.query.now.request c.args.query.now.query c.args.rows.now 0 _ _ (search rules) (no_statements c.args.query.now.request c.args.query.now.query c.args.script.now.items)

pub returns-in_default-clause-refused : goal.returns-in_default-clause-refused
returns-in_default-clause-refused c =
    out_of_memory c.args.query.now.request c.args.query.now.query c.args.rows.now _ (search rules)

pub returns-in_default-clause-before : goal.returns-in_default-clause-before
returns-in_default-clause-before c = no_statements c.args.query.now.request c.args.query.now.query c.args.script.now.items

pub loop-number-init : goal.loop-number-init
loop-number-init c = no_statements c.args.query.now.request c.args.query.now.query c.args.script.now.items

pub returns-in-Err-clause-refused : goal.returns-in-Err-clause-refused
returns-in-Err-clause-refused c = record {
  row = c.index-rows-number.result;
  within = c.loop-number-test.true;
  row_is = c.index-rows-number.is;
  refused = rw (c.as_slice-assignments.ensures.value, ← c.index-rows-number.is) at c.in-Err.ensures.refused;
  texts = c.loop-number.invariant.texts;
  before = c.loop-number.invariant.written;
}

pub loop-number-preserved : goal.loop-number-preserved
loop-number-preserved c =
    let bound = rw (c.as_slice-assignments.ensures.value, ← c.index-rows-number.is) at c.in_default-appended.ensures.bound in
    statement_more c.args.query.now.request c.args.query.now.query c.args.rows.now c.loop-number.number c.index-rows-number.result c.args.script.now.items
    c.loop-number.script.items c.append_statement-appended.new.script.items _ bound.0
    c.loop-number-test.true c.index-rows-number.is c.loop-number.invariant bound.1 refl bound.2

pub returns-clause-appended : goal.returns-clause-appended
returns-clause-appended c =
    of_all c.args.query.now.request c.args.query.now.query c.args.rows.now c.loop-number.number c.args.script.now.items c.loop-number.script.items (omega arith)
    c.loop-number.invariant
