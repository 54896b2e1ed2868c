use Rattle.std.proofs.Common.{◌≡◌, ◌+◌, drop, refl, arith}
use Rattle.std.specs.Str.{byte}
use Rattle.std.proofs.lemmas.Grind.{common_steps}
use Rattle.mysql_named_params.specs.Lanes.{is_neither}
use Rattle.mysql_portable.specs.FoundInClient.{escapes_newline}
use Rattle.mysql_portable.proofs.RunLemmas.{to_stop, escapes_newline-passes}
use Rattle.mysql_portable.proofs.client.escapes_newline.Goals as goal

pub stops-init : goal.stops-init
stops-init c =
    let run = c.end_without-at.ensures in
    (to_stop (is_neither (byte "\\") (byte "\\")) escapes_newline escapes_newline-passes c.args.text.now 0 _ run.in_range run.none refl, run.in_range.1)

pub stops-preserved : goal.stops-preserved
stops-preserved c =
    let text = c.args.text.now in
    let here : escapes_newline (drop (c.stops.at + 1) text) ≡ escapes_newline text = grind (arith, common_steps) in
    let run = c.near_end_without-at.ensures in
    (to_stop (is_neither (byte "\\") (byte "\\")) escapes_newline escapes_newline-passes text (c.stops.at + 1) _ run.in_range run.none here, run.in_range.1)
