use Rattle.std.proofs.Common.{◌≡◌, ◌++◌, ◌+◌, ◌%◌, take, length, sym, ap, ◌∙◌, arith}
use Rattle.std.specs.Int.RustNames.{count_ones}
use Rattle.std.proofs.lemmas.List.{length-take-le}
use Rattle.mysql_sql_text.specs.EscapedLanes.{first_byte, four_lanes}
use Rattle.mysql_sql_text.proofs.EscapedLanesLemmas.{few_ones, four_lanes-by_places, front_of_lanes, lanes_text, length-lanes_text, length-row, row, row_fits}
use Rattle.mysql_sql_text.proofs.escapes.append_four.Goals as goal

pub swizzle : goal.swizzle
swizzle c = row_fits (c.args.escapes % 16) (omega arith)

pub returns-clause-next : goal.returns-clause-next
returns-clause-next c =
    let mode = c.args.no_backslash_escape in
    let four = c.args.escapes % 16 in
    let text = lanes_text (row four) (first_byte mode) c.args.lanes in
    let long = length-lanes_text (row four) (first_byte mode) c.args.lanes (length-row four (omega arith)) in
    let written : length (four_lanes mode c.args.escapes c.args.lanes) ≡ 4 + count_ones four =
    sym (ap length (four_lanes-by_places mode c.args.escapes c.args.lanes))
    ∙ length-take-le (4 + count_ones four) text (omega (arith, long, few_ones four (omega arith))) in
    omega (arith, written)

pub returns-clause-front : goal.returns-clause-front
returns-clause-front c =
    let mode = c.args.no_backslash_escape in
    let four = c.args.escapes % 16 in
    let place : c.args.at + 4 + count_ones four ≡ c.args.at + (4 + count_ones four) = omega arith in
    ap (λ i. take i c.append_lanes.new.buffer) place
    ∙ front_of_lanes (lanes_text (row four) c.first_byte-firsts.result c.args.lanes) c.args.at c.append_lanes.result (4 + count_ones four)
    c.args.buffer.now c.append_lanes.new.buffer
    (length-lanes_text (row four) c.first_byte-firsts.result c.args.lanes (length-row four (omega arith)))
    (omega (arith, few_ones four (omega arith))) (omega (arith, c.requires)) c.append_lanes.ensures.next c.append_lanes.ensures.front
    ∙ ap (λ t. take c.args.at c.args.buffer.now ++ t)
    (ap (λ first. take (4 + count_ones four) (lanes_text (row four) first c.args.lanes)) c.first_byte-firsts.ensures
    ∙ four_lanes-by_places mode c.args.escapes c.args.lanes)
