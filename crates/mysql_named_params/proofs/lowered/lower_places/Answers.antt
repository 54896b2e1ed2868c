use Rattle.std.proofs.Common.{refl}
use Rattle.std.proofs.lemmas.List.{take_rest}
use Rattle.mysql_named_params.proofs.LoweredLemmas.{lowered_all, lowered_more, lowered_none}
use Rattle.mysql_named_params.proofs.lowered.lower_places.Goals as goal

pub loop-found-init : goal.loop-found-init
loop-found-init c = lowered_none c.args.reading c.args.query.now c.args.text.now c.requires

pub loop-found-preserved : goal.loop-found-preserved
loop-found-preserved c =
    lowered_more _ _ _ _ _ _ c.loop-found.invariant (take_rest c.args.query.now c.loop-found.at) c.in-Some.ensures.place _ _ _ refl refl c.lower_bytes.ensures.front c.lower_bytes.ensures.rest c.lower_bytes.ensures.len

pub returns : goal.returns
returns c =
    let o = c.in_default.ensures.none in
    lowered_all _ _ _ _ _ c.loop-found.invariant (take_rest c.args.query.now c.loop-found.at) (o.0, o.1, o.2 refl)
