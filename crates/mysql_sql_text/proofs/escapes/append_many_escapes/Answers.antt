use Rattle.std.proofs.Common.{◌≡◌, ◌∙◌, ◌++◌, ◌+◌, ◌*◌, ◌/◌, ◌^◌, map, take, drop, length, get_or, refl, sym, ap, arith, append_assoc, append-nil, length-append}
use Rattle.std.proofs.lemmas.List.{take_all, length-drop, length-map, drop-map, get_or-map}
use lib.Lanes.{mask_l}
use Rattle.mysql_sql_text.specs.EscapedLanes.{four_lanes, last_byte}
use Rattle.mysql_sql_text.specs.LiteralText.{escaped, needs_escape}
use Rattle.mysql_sql_text.proofs.MaskLemmas.{mask_l-drop}
use Rattle.mysql_sql_text.proofs.EscapedLanesLemmas.{Each1-drop, escaped-take_four, four_lanes-escaped, last-of_others, length-escaped-parts}
use Rattle.mysql_sql_text.proofs.escapes.append_many_escapes.Goals as goal

pub loop-quarter-init : goal.loop-quarter-init
loop-quarter-init c =
    let mode = c.args.no_backslash_escape in
    let block = c.args.block in
    record {
      long = ap length c.last_bytes-lanes.ensures ∙ length-map block (last_byte mode) ∙ c.fits-block.0;
      last = λ i less. ap (λ t. get_or t i 0) c.last_bytes-lanes.ensures ∙ get_or-map (last_byte mode) block i 0 0 (omega (arith, less, c.fits-block.0));
      next = omega arith;
      front = sym (append-nil (take c.args.start c.args.buffer.now));
    }

pub append_four-at-requires : goal.append_four-at-requires
append_four-at-requires c =
    omega (
      arith,
      c.requires.fits,
      c.loop-quarter.invariant.next,
      length-escaped-parts c.args.no_backslash_escape c.args.block (4 * c.loop-quarter.quarter),
    )

pub loop-quarter-preserved : goal.loop-quarter-preserved
loop-quarter-preserved c =
    let mode = c.args.no_backslash_escape in
    let block = c.args.block in
    let quarter = c.loop-quarter.quarter in
    let lanes = c.loop-quarter.lanes in
    let rest = drop (4 * quarter) block in
    let before = escaped mode (take (4 * quarter) block) in
    let step : 4 * (quarter + 1) ≡ 4 * quarter + 4 = omega arith in
    let bits : c.args.block_escapes / 2 ^ (4 * quarter) ≡ mask_l (map (needs_escape mode) rest) =
    ap (λ m. m / 2 ^ (4 * quarter)) c.requires.mask
    ∙ mask_l-drop (4 * quarter) (map (needs_escape mode) block) ∙ ap mask_l (drop-map (needs_escape mode) (4 * quarter) block) in
    let four : four_lanes mode (c.args.block_escapes / 2 ^ (4 * quarter)) lanes ≡ escaped mode (take 4 rest) =
    ap (λ m. four_lanes mode m lanes) bits
    ∙ four_lanes-escaped mode rest lanes (omega (arith, length-drop (4 * quarter) block, c.fits-block.0)) (Each1-drop (4 * quarter) block c.fits-block.1)
    (λ i less. c.loop-quarter.invariant.last i (omega (arith, less))) in
    let more : escaped mode (take (4 * (quarter + 1)) block) ≡ before ++ escaped mode (take 4 rest) =
    ap (λ i. escaped mode (take i block)) step ∙ escaped-take_four mode block (4 * quarter) in
    record {
      long = refl;
      last = last-of_others mode block lanes quarter c.loop-quarter.invariant.long c.loop-quarter.invariant.last;
      next = omega (
        arith,
        c.append_four-at.ensures.next,
        c.loop-quarter.invariant.next,
        ap length four,
        ap length more,
        length-append before (escaped mode (take 4 rest)),
      );
      front =
          c.append_four-at.ensures.front ∙ ap (λ t. take c.loop-quarter.at c.loop-quarter.buffer ++ t) four
          ∙ ap (λ t. t ++ escaped mode (take 4 rest)) c.loop-quarter.invariant.front
          ∙ append_assoc (take c.args.start c.args.buffer.now) before (escaped mode (take 4 rest))
          ∙ ap (λ t. take c.args.start c.args.buffer.now ++ t) (sym more);
    }

pub returns-clause-next : goal.returns-clause-next
returns-clause-next c =
    c.loop-quarter.invariant.next
    ∙ ap (λ t. c.args.start + length (escaped c.args.no_backslash_escape t)) (take_all (4 * c.loop-quarter.quarter) c.args.block (omega (arith, c.fits-block.0)))

pub returns-clause-front : goal.returns-clause-front
returns-clause-front c =
    c.loop-quarter.invariant.front
    ∙ ap (λ t. take c.args.start c.args.buffer.now ++ escaped c.args.no_backslash_escape t)
    (take_all (4 * c.loop-quarter.quarter) c.args.block (omega (arith, c.fits-block.0)))
