use Rattle.std.proofs.Common.{sym, ◌∙◌, arith, inl, inr}
use Rattle.std.proofs.lemmas.Bool.{cases_lt}
use Rattle.mysql_portable.proofs.NoConstructLemmas.{no_construct_more}
use Rattle.mysql_portable.proofs.no_construct.no_construct_end.Goals as goal

pub loop-at-preserved : goal.loop-at-preserved
loop-at-preserved c = no_construct_more c.args.text.now c.loop-at.at c.loop-at.invariant (sym c.begins_no_construct.ensures ∙ c.if-not-begins_no_construct.false)

pub returns-clause-no_construct : goal.returns-clause-no_construct
returns-clause-no_construct c = λ k low high.
    elim (cases_lt k c.min-near.result) [
      | inl near ↦ c.loop-at.invariant k low (omega arith)
      | inr far ↦ c.run_end.ensures.run k far high
    ]
