use Rattle.std.proofs.Common.{sym, ◌∙◌}
use Rattle.mysql_portable.proofs.NoConstructLemmas.{apart_within, apart_at_end, apart_of_signs}
use Rattle.mysql_portable.proofs.no_construct.no_construct_run_len.Goals as goal

pub returns-then-goes_on_exponent-clause-no_sign : goal.returns-then-goes_on_exponent-clause-no_sign
returns-then-goes_on_exponent-clause-no_sign c = apart_within c.args.text.now c.no_construct_end-end.result c.no_construct_end-end.ensures.no_construct _ c.saturating_sub.ensures

pub returns-then-goes_on_exponent-clause-no_exponent : goal.returns-then-goes_on_exponent-clause-no_exponent
returns-then-goes_on_exponent-clause-no_exponent c = apart_of_signs _ _ (returns-then-goes_on_exponent-clause-no_sign c)

pub returns-else-goes_on_exponent-clause-no_sign : goal.returns-else-goes_on_exponent-clause-no_sign
returns-else-goes_on_exponent-clause-no_sign c =
    apart_at_end c.args.text.now c.no_construct_end-end.result c.no_construct_end-end.ensures.no_construct (sym c.goes_on_exponent.ensures ∙ c.if-goes_on_exponent.false)

pub returns-else-goes_on_exponent-clause-no_exponent : goal.returns-else-goes_on_exponent-clause-no_exponent
returns-else-goes_on_exponent-clause-no_exponent c = apart_of_signs _ _ (returns-else-goes_on_exponent-clause-no_sign c)
