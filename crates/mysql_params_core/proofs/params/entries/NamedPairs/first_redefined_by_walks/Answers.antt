use Rattle.std.proofs.Common.{◌∙◌, sym}
use Rattle.mysql_params_core.proofs.PairLemmas.{made_more, made_no_more}
use Rattle.mysql_params_core.proofs.params.entries.NamedPairs.first_redefined_by_walks.Goals as goal

pub returns-then-has_name : goal.returns-then-has_name
returns-then-has_name c =
    made_no_more c.args.self.now.0.now c.loop-i.i _ c.loop-i-test.true c.loop-i.invariant
    (sym c.has_name.ensures ∙ c.if-has_name.true)

pub loop-i-preserved : goal.loop-i-preserved
loop-i-preserved c =
    made_more c.args.self.now.0.now c.loop-i.i _ c.loop-i-test.true c.loop-i.invariant
    (sym c.has_name.ensures ∙ c.if-has_name.false)
