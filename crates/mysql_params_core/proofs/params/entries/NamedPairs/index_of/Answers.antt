use Rattle.std.proofs.Common.{◌∙◌, ap, sym, Some}
use Rattle.mysql_params_core.proofs.PairLemmas.{get-pair_at, get-pairs_after, get-no_pairs, value_at}
use Rattle.mysql_params_core.proofs.params.entries.NamedPairs.index_of.Goals as goal

pub returns-then-eq-clause-value : goal.returns-then-eq-clause-value
returns-then-eq-clause-value c =
    ap (λ v. Some v) (value_at c.args.self.now.0.now c.loop-i.i _ c.loop-i-test.true)
    ∙ (sym (get-pair_at c.args.self.now.0.now c.loop-i.i _ c.args.name.now c.loop-i-test.true (sym c.eq.ensures ∙ c.if-eq.true))
    ∙ c.loop-i.invariant)

pub loop-i-preserved : goal.loop-i-preserved
loop-i-preserved c =
    sym (get-pairs_after c.args.self.now.0.now c.loop-i.i _ c.args.name.now c.loop-i-test.true
    (sym c.eq.ensures ∙ c.if-eq.false))
    ∙ c.loop-i.invariant

pub returns-clause-value : goal.returns-clause-value
returns-clause-value c =
    sym (get-no_pairs c.args.self.now.0.now c.loop-i.i c.args.name.now c.loop-i-test.false)
    ∙ c.loop-i.invariant
