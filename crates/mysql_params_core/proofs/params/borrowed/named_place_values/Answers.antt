use Rattle.std.proofs.Common.{sym, rules}
use Rattle.mysql_params_core.specs.Referents.{referents}
use Rattle.mysql_params_core.proofs.BorrowedLemmas.{found_more, first_absent, found_all}
use Rattle.mysql_params_core.proofs.MissingLemmas.{refused_as_missing}
use Rattle.mysql_params_core.proofs.params.borrowed.named_place_values.Goals as goal

pub reported_name-requires : goal.reported_name-requires
reported_name-requires g c =
    first_absent (g.M.NamedValues.values c.args.entries.now) c.args.names.now c.loop-i.i _ c.loop-i-test.true c.loop-i.values.items c.loop-i.invariant
    (sym c.in-None.ensures)

pub returns-in-None-clause-values : goal.returns-in-None-clause-values
returns-in-None-clause-values g c =
    let m = g.M.NamedValues.values c.args.entries.now in
    refused_as_missing m (referents c.args.names.now) c.loop-i.i
    (first_absent m c.args.names.now c.loop-i.i _ c.loop-i-test.true c.loop-i.values.items c.loop-i.invariant (sym c.in-None.ensures))
    _ c.reported_name.ensures _ c.missing_params_error.ensures

pub loop-i-preserved : goal.loop-i-preserved
loop-i-preserved g c =
    found_more (g.M.NamedValues.values c.args.entries.now) c.args.names.now c.loop-i.i _ c.loop-i-test.true c.loop-i.values.items c.loop-i.invariant
    c.in-Some.value c.push.new.self.items (sym c.in-Some.ensures) (search rules)

pub returns-clause-values : goal.returns-clause-values
returns-clause-values g c = found_all (g.M.NamedValues.values c.args.entries.now) c.args.names.now c.loop-i.values.items c.loop-i.i (search rules) (search rules) c.loop-i.invariant
