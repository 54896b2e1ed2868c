use Rattle.std.proofs.Common.{◌≡◌, ◌+◌, drop, refl, arith}
use Rattle.mysql_named_params.specs.Bytes.{carriage_return, newline}
use Rattle.std.proofs.lemmas.Grind.{common_steps}
use Rattle.mysql_named_params.specs.Lanes.{is_neither}
use Rattle.mysql_portable.specs.Server.{holds_return}
use Rattle.mysql_portable.proofs.RunLemmas.{to_stop, holds_return-passes}
use Rattle.mysql_portable.proofs.portable.holds_return.Goals as goal

pub stops-init : goal.stops-init
stops-init c =
    let run = c.end_without-at.ensures in
    (to_stop (is_neither newline carriage_return) holds_return holds_return-passes c.args.text.now 0 _ run.in_range run.none refl, run.in_range.1)

pub stops-preserved : goal.stops-preserved
stops-preserved c =
    let text = c.args.text.now in
    let here : holds_return (drop (c.stops.at + 1) text) ≡ holds_return text = grind (arith, common_steps) in
    let run = c.near_end_without-at.ensures in
    (to_stop (is_neither newline carriage_return) holds_return holds_return-passes text (c.stops.at + 1) _ run.in_range run.none here, run.in_range.1)
