use Rattle.std.proofs.Common.{refl}
use Rattle.mysql_params_core.specs.Errors.{to_params_refusal}
use Rattle.mysql_to_fragments.specs.NamedContents.{with_pair}
use Rattle.mysql_to_fragments.proofs.WalkLemmas.{error_is_handed_on, refusal_stays}
use Rattle.mysql_to_fragments.proofs.pairs.Tuple2RefTuple2RefStrInsertPairs.insert.Goals as goal

pub returns-in_err-insert_pair-clause-made : goal.returns-in_err-insert_pair-clause-made
returns-in_err-insert_pair-clause-made g c =
    error_is_handed_on _ to_params_refusal _ c.from_residual.result c.in_err-insert_pair.field-0.0 c.from_residual.ensures.1
    (refusal_stays with_pair (λ _ _. refl) _ (to_params_refusal c.in_err-insert_pair.field-0.0) (g.R.InsertPairs.inserted c.args.self.now.1)
    (rw c.as_bytes.ensures.value at c.in_err-insert_pair.ensures.made))
