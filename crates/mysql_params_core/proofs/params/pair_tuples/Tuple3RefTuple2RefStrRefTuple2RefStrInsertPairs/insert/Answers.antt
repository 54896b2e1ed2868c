use Rattle.std.proofs.Common.{refl}
use Rattle.mysql_params_core.specs.Made.{with_pair}
use Rattle.mysql_params_core.proofs.MakingLemmas.{error_is_handed_on, refusal_stays}
use Rattle.mysql_params_core.proofs.params.pair_tuples.Tuple3RefTuple2RefStrRefTuple2RefStrInsertPairs.insert.Goals as goal

pub returns-in_err-insert_two-clause-made : goal.returns-in_err-insert_two-clause-made
returns-in_err-insert_two-clause-made g c =
    error_is_handed_on _ _ c.from_residual.result c.in_err-insert_two.field-0.0 c.from_residual.ensures.1
    (refusal_stays with_pair (λ _ _. refl) _ c.in_err-insert_two.field-0.0 (g.R.InsertPairs.inserted c.args.self.now.2)
    c.in_err-insert_two.ensures.made)
