use Rattle.std.proofs.Common.{◌≤◌, ◌∙◌, sym, arith, length}
use Rattle.mysql_params_core.proofs.PairLemmas.{get-pair_at, get-pairs_after, get-no_pairs}
use Rattle.mysql_params_core.proofs.params.entries.NamedPairsNamedValues.value_of.Goals as goal

pub returns-then-eq : goal.returns-then-eq
returns-then-eq c =
    sym (get-pair_at c.args.self.now.0.now c.loop-pair.pair-index _ c.args.name.now (omega arith)
    (sym c.eq.ensures ∙ c.if-eq.true))
    ∙ c.loop-pair.invariant

pub loop-pair-preserved : goal.loop-pair-preserved
loop-pair-preserved c =
    sym (get-pairs_after c.args.self.now.0.now c.loop-pair.pair-index _ c.args.name.now (omega arith)
    (sym c.eq.ensures ∙ c.if-eq.false))
    ∙ c.loop-pair.invariant

pub returns : goal.returns
returns c =
    let done : length c.args.self.now.0.now ≤ c.loop-pair.pair-index = omega arith in
    sym (get-no_pairs c.args.self.now.0.now c.loop-pair.pair-index c.args.name.now done)
    ∙ c.loop-pair.invariant
