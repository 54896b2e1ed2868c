use Rattle.std.proofs.Common.{refl}
use Rattle.mysql_named_params.proofs.CountLemmas.{counted_none, counted_name, counted_mark, counted_all}
use Rattle.mysql_named_params.proofs.places.count_places.Goals as goal
use Rattle.mysql_named_params.proofs.places.count_places.Goals.{in-Name, in-Mark}

pub loop-found-init : goal.loop-found-init
loop-found-init c = counted_none _ _

pub loop-found-preserved : goal.loop-found-preserved
loop-found-preserved c =
    let inv = c.loop-found.invariant in
    let place = c.in-Some.ensures.place in
    elim c.match-found.branch [
      | in-Name w ↦ counted_name _ _ _ _ _ _ _ _ inv place w.in-Name.is w.names-is w.marks-is
      | in-Mark w ↦ counted_mark _ _ _ _ _ _ _ _ inv place w.in-Mark.is w.names-is w.marks-is
    ]

pub returns : goal.returns
returns c =
    let o = c.in_default.ensures.none in
    counted_all _ _ _ _ _ c.loop-found.invariant (o.0, o.1, o.2 refl)
