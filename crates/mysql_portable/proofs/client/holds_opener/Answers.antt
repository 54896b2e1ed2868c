use Rattle.std.proofs.Common.{◌≡◌, ◌+◌, drop, refl, sym, ◌∙◌, arith}
use Rattle.mysql_named_params.specs.Bytes.{asterisk, slash}
use Rattle.mysql_named_params.specs.Lanes.{is_neither}
use Rattle.mysql_portable.specs.Client.{holds_opener}
use Rattle.mysql_portable.proofs.ClientTextLemmas.{holds_opener-passed}
use Rattle.mysql_portable.proofs.RunLemmas.{to_stop, holds_opener-passes}
use Rattle.mysql_portable.proofs.client.holds_opener.Goals as goal

pub stops-init : goal.stops-init
stops-init c =
    let run = c.end_without-at.ensures in
    (to_stop (is_neither slash asterisk) holds_opener holds_opener-passes c.args.text.now 0 _ run.in_range run.none refl, run.in_range.1)

pub stops-preserved : goal.stops-preserved
stops-preserved c =
    let text = c.args.text.now in
    let here : holds_opener (drop (c.stops.at + 1) text) ≡ holds_opener text =
    holds_opener-passed text c.stops.at (omega arith) (sym c.begins_opener.ensures ∙ c.if-begins_opener.false)
    (sym c.begins_end.ensures ∙ c.if-begins_end.false) c.stops.invariant.0 in
    let run = c.near_end_without-at.ensures in
    (to_stop (is_neither slash asterisk) holds_opener holds_opener-passes text (c.stops.at + 1) _ run.in_range run.none here, run.in_range.1)
