use Rattle.mysql_flat_params.proofs.RowNamesLemmas.{place_within, values_more}
use Rattle.mysql_flat_params.proofs.row_names.values_at.Goals as goal

pub value_at-requires : goal.value_at-requires
value_at-requires c =
    place_within c.args.pairs.now c.args.places.now c.requires.0 c.loop-place.place-index 0 c.loop-place-test.true c.requires.1

pub loop-place-preserved : goal.loop-place-preserved
loop-place-preserved c =
    values_more c.args.pairs.now c.args.places.now c.loop-place.place-index 0 c.loop-place.values.items c.push.new.self.items _
    c.loop-place-test.true c.loop-place.invariant c.value_at.ensures c.in-Ok-push.ensures.items
