use Rattle.std.proofs.Common.{arith}
use Rattle.mysql_float_literal.proofs.QuickLemmas.{next_told, whole_told}
use Rattle.mysql_float_literal.proofs.quick.told.Goals as goal

pub returns-then-scaled-2-clause-reading : goal.returns-then-scaled-2-clause-reading
returns-then-scaled-2-clause-reading c =
    let s = c.args.scaled in
    let z = c.without_zeros in
    (next_told c.args.bits s c.args.up_gap c.requires.told c.requires.wide z.result.0 z.result.1 (omega (arith, c.if-scaled.true)) (omega arith) (omega (arith, c.if-scaled-2.true)) (omega (arith, c.requires.narrow)) z.ensures).reading

pub returns-then-scaled-2-clause-shortest : goal.returns-then-scaled-2-clause-shortest
returns-then-scaled-2-clause-shortest c =
    let s = c.args.scaled in
    let z = c.without_zeros in
    (next_told c.args.bits s c.args.up_gap c.requires.told c.requires.wide z.result.0 z.result.1 (omega (arith, c.if-scaled.true)) (omega arith) (omega (arith, c.if-scaled-2.true)) (omega (arith, c.requires.narrow)) z.ensures).shortest

pub returns-then-scaled-2-clause-closest : goal.returns-then-scaled-2-clause-closest
returns-then-scaled-2-clause-closest c =
    let s = c.args.scaled in
    let z = c.without_zeros in
    (next_told c.args.bits s c.args.up_gap c.requires.told c.requires.wide z.result.0 z.result.1 (omega (arith, c.if-scaled.true)) (omega arith) (omega (arith, c.if-scaled-2.true)) (omega (arith, c.requires.narrow)) z.ensures).closest

pub returns-then-scaled-3-clause-reading : goal.returns-then-scaled-3-clause-reading
returns-then-scaled-3-clause-reading c =
    let s = c.args.scaled in
    let z = c.without_zeros-then-scaled-3 in
    (whole_told c.args.bits s c.args.up_gap c.requires.told c.requires.wide z.result.0 z.result.1 (omega (arith, c.if-scaled-3.true)) (omega arith) (omega (arith, c.if-is_below_next-2.true)) z.ensures).reading

pub returns-then-scaled-3-clause-shortest : goal.returns-then-scaled-3-clause-shortest
returns-then-scaled-3-clause-shortest c =
    let s = c.args.scaled in
    let z = c.without_zeros-then-scaled-3 in
    (whole_told c.args.bits s c.args.up_gap c.requires.told c.requires.wide z.result.0 z.result.1 (omega (arith, c.if-scaled-3.true)) (omega arith) (omega (arith, c.if-is_below_next-2.true)) z.ensures).shortest

pub returns-then-scaled-3-clause-closest : goal.returns-then-scaled-3-clause-closest
returns-then-scaled-3-clause-closest c =
    let s = c.args.scaled in
    let z = c.without_zeros-then-scaled-3 in
    (whole_told c.args.bits s c.args.up_gap c.requires.told c.requires.wide z.result.0 z.result.1 (omega (arith, c.if-scaled-3.true)) (omega arith) (omega (arith, c.if-is_below_next-2.true)) z.ensures).closest
