use Rattle.std.proofs.Common.{◌+◌, arith, sym, ◌∙◌}
use lib.Count.{count_trailing_zeros}
use Rattle.mysql_sql_text.proofs.MaskLemmas.{later_mask}
use Rattle.mysql_portable.specs.Clear.{may_be_in_doubt}
use Rattle.mysql_portable.proofs.ClearWalkLemmas.{doubt_here, passed_here, next_in_mask, none_left}
use Rattle.mysql_portable.proofs.clear.is_doubt_in_block.Goals as goal

pub is_doubt_at-requires : goal.is_doubt_at-requires
is_doubt_at-requires c =
    let inv = c.doubts.invariant in
    let next = next_in_mask c.args.client _ _ (c.args.from + 16) _ inv.1 c.requires (omega arith) inv.3 c.doubts-test.true in
    omega (arith, next.0, c.requires)

pub returns-then-is_doubt_at-clause-some : goal.returns-then-is_doubt_at-clause-some
returns-then-is_doubt_at-clause-some c _ =
    let inv = c.doubts.invariant in
    let next = next_in_mask c.args.client _ _ (c.args.from + 16) _ inv.1 c.requires (omega arith) inv.3 c.doubts-test.true in
    let run = count_trailing_zeros 64 c.doubts.doubts in
    sym (next.1 ∙ inv.2)
    ∙ doubt_here c.args.client c.args.text.now (c.doubts.at + run) (omega (arith, next.0, c.requires)) (sym c.is_doubt_at.ensures ∙ c.if-is_doubt_at.true)

pub overflow_shr-doubts : goal.overflow_shr-doubts
overflow_shr-doubts c =
    let inv = c.doubts.invariant in
    let next = next_in_mask c.args.client _ _ (c.args.from + 16) _ inv.1 c.requires (omega arith) inv.3 c.doubts-test.true in
    omega (arith, next.0, inv.0)

pub doubts-preserved : goal.doubts-preserved
doubts-preserved c =
    let inv = c.doubts.invariant in
    let next = next_in_mask c.args.client _ _ (c.args.from + 16) _ inv.1 c.requires (omega arith) inv.3 c.doubts-test.true in
    let run = count_trailing_zeros 64 c.doubts.doubts in (
      omega (arith, inv.0),
      omega (arith, next.0),
      passed_here c.args.client c.args.text.now (c.doubts.at + run) (omega (arith, next.0, c.requires)) (sym c.is_doubt_at.ensures ∙ c.if-is_doubt_at.false) ∙ (next.1 ∙ inv.2),
      later_mask (may_be_in_doubt c.args.client) c.args.text.now c.doubts.at _ (c.args.from + 16) c.doubts.doubts (run + 1) (omega arith) (omega (arith, next.0)) inv.3,
    )

pub returns-clause-none : goal.returns-clause-none
returns-clause-none c _ =
    let inv = c.doubts.invariant in
    none_left c.args.client _ _ (c.args.from + 16) _ inv.1 c.requires (omega arith) inv.3 c.doubts-test.false ∙ inv.2
