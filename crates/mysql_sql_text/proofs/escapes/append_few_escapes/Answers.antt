use Rattle.std.proofs.Common.{◌≡◌, ◌∙◌, ◌++◌, ◌+◌, ◌-◌, ◌≤◌, map, take, drop, length, refl, sym, ap, arith, append_assoc, length-append}
use Rattle.std.proofs.lemmas.List.{append_cancel_right}
use Rattle.std.proofs.lemmas.Simd.{length-chunk}
use lib.Lanes.{chunk, mask_l}
use Rattle.mysql_sql_text.specs.LiteralText.{escaped, needs_escape}
use Rattle.mysql_sql_text.proofs.BlockLemmas.{escaped-block, length-escaped-cut}
use Rattle.mysql_sql_text.proofs.MaskLemmas.{later_mask}
use Rattle.mysql_sql_text.proofs.EscapeWalkLemmas.{room_for_block, count, front_of_copy, first_escape_within, first_escape_len, first_escape_front, escaped-after_none}
use Rattle.mysql_sql_text.proofs.escapes.append_few_escapes.Goals as goal

pub append_lanes-requires : goal.append_lanes-requires
append_lanes-requires c =
    room_for_block c.args.no_backslash_escape c.args.bytes.now c.escapes.from c.escapes.at _
    (omega (arith, c.escapes.invariant.within, c.requires.two_blocks)) (omega (arith, c.escapes.invariant.next, c.requires.fits))

pub append_lanes-requires-2 : goal.append_lanes-requires-2
append_lanes-requires-2 c =
    room_for_block c.args.no_backslash_escape c.args.bytes.now c.escapes.from c.escapes.at _
    (omega (arith, c.escapes.invariant.within, c.requires.two_blocks)) (omega (arith, c.escapes.invariant.next, c.requires.fits))

pub bounds-bytes-from-in-escapes : goal.bounds-bytes-from-in-escapes
bounds-bytes-from-in-escapes c =
    let from = c.escapes.from in
    let size = 16 - from in
    omega (
      arith,
      c.requires.two_blocks,
      c.escapes.invariant.within,
      first_escape_within c.args.no_backslash_escape c.args.bytes.now from size c.escapes.escapes (omega (arith, c.requires.two_blocks, c.escapes.invariant.within))
          (omega arith) c.escapes.invariant.mask c.escapes-test.true,
    )

pub append_escaped_byte-at-requires : goal.append_escaped_byte-at-requires
append_escaped_byte-at-requires c =
    let from = c.escapes.from in
    let size = 16 - from in
    omega (
      arith,
      c.requires.fits,
      c.escapes.invariant.next,
      first_escape_len c.args.no_backslash_escape c.args.bytes.now from size c.escapes.escapes (omega (arith, c.requires.two_blocks, c.escapes.invariant.within))
          (omega arith) c.escapes.invariant.mask c.escapes-test.true,
    )

pub overflow_shr-escapes : goal.overflow_shr-escapes
overflow_shr-escapes c =
    let from = c.escapes.from in
    let size = 16 - from in
    omega (
      arith,
      first_escape_within c.args.no_backslash_escape c.args.bytes.now from size c.escapes.escapes (omega (arith, c.requires.two_blocks, c.escapes.invariant.within))
          (omega arith) c.escapes.invariant.mask c.escapes-test.true,
    )

pub escapes-smaller : goal.escapes-smaller
escapes-smaller c =
    let from = c.escapes.from in
    let size = 16 - from in
    omega (
      arith,
      first_escape_within c.args.no_backslash_escape c.args.bytes.now from size c.escapes.escapes (omega (arith, c.requires.two_blocks, c.escapes.invariant.within))
          (omega arith) c.escapes.invariant.mask c.escapes-test.true,
    )

pub escapes-preserved : goal.escapes-preserved
escapes-preserved c =
    let mode = c.args.no_backslash_escape in
    let bytes = c.args.bytes.now in
    let from = c.escapes.from in
    let mask = c.escapes.escapes in
    let size = 16 - from in
    let within : from + size ≤ length bytes = omega (arith, c.requires.two_blocks, c.escapes.invariant.within) in
    let small : size ≤ 16 = omega arith in
    let plain = count mode bytes from size mask within small c.escapes.invariant.mask c.escapes-test.true in
    let less = first_escape_within mode bytes from size mask within small c.escapes.invariant.mask c.escapes-test.true in
    let place : from + (plain + 1) ≡ from + plain + 1 = omega arith in
    record {
      within = omega (arith, less, c.escapes.invariant.within);
      mask = later_mask (needs_escape mode) bytes from (from + (plain + 1)) (16) mask (plain + 1) refl
          (omega (arith, less, c.escapes.invariant.within)) c.escapes.invariant.mask;
      next = omega (
        arith,
        c.escapes.invariant.next,
        c.append_escaped_byte-at.ensures.next,
        ap (λ i. length (escaped mode (drop i bytes))) place,
        first_escape_len mode bytes from size mask within small c.escapes.invariant.mask c.escapes-test.true,
      );
      front =
          ap (λ i. take c.append_escaped_byte-at.result c.append_escaped_byte-at.new.buffer ++ escaped mode (drop i bytes)) place
          ∙ first_escape_front mode bytes from size mask within small c.escapes.invariant.mask c.escapes-test.true
          (omega (arith, c.requires.two_blocks, c.escapes.invariant.within)) c.escapes.at c.append_lanes.result c.append_escaped_byte-at.result
          c.escapes.buffer c.append_lanes.new.buffer c.append_escaped_byte-at.new.buffer
          (omega (arith, c.escapes.invariant.next, c.requires.fits)) c.append_lanes.ensures.next c.append_lanes.ensures.front
          c.append_escaped_byte-at.ensures.front
          ∙ c.escapes.invariant.front;
    }

pub returns-clause-next : goal.returns-clause-next
returns-clause-next c =
    let mode = c.args.no_backslash_escape in
    let bytes = c.args.bytes.now in
    let from = c.escapes.from in
    let size = 16 - from in
    let end : from + size ≡ 16 = omega (arith, c.escapes.invariant.within) in
    let none : mask_l (map (needs_escape mode) (chunk from size bytes)) ≡ 0 = sym c.escapes.invariant.mask ∙ c.escapes-test.false in
    omega (
      arith,
      c.escapes.invariant.next,
      ap length (escaped-after_none mode bytes from size none),
      length-append (chunk from size bytes) (escaped mode (drop (from + size) bytes)),
      length-chunk from size bytes (omega (arith, end, c.requires.two_blocks)),
      ap (λ i. length (escaped mode (drop i bytes))) end,
      length-escaped-cut mode bytes 0,
    )

pub returns-clause-front : goal.returns-clause-front
returns-clause-front c =
    let mode = c.args.no_backslash_escape in
    let bytes = c.args.bytes.now in
    let from = c.escapes.from in
    let size = 16 - from in
    let end : from + size ≡ 16 = omega (arith, c.escapes.invariant.within) in
    let none : mask_l (map (needs_escape mode) (chunk from size bytes)) ≡ 0 = sym c.escapes.invariant.mask ∙ c.escapes-test.false in
    let before = take c.escapes.at c.escapes.buffer in
    let after = escaped mode (drop 16 bytes) in
    let block = escaped mode (take 16 bytes) in
    let front = take c.args.start c.args.buffer.now in
    let copied = front_of_copy bytes from c.escapes.at c.append_lanes-2.result size c.escapes.buffer c.append_lanes-2.new.buffer
    (omega (arith, c.escapes.invariant.within, c.requires.two_blocks)) (omega arith)
    (omega (arith, c.escapes.invariant.next, c.requires.fits)) c.append_lanes-2.ensures.next c.append_lanes-2.ensures.front in
    append_cancel_right _ (front ++ block) after
    (ap (λ t. t ++ after) copied ∙ append_assoc before (chunk from size bytes) after
    ∙ ap (λ t. before ++ t) (ap (λ i. chunk from size bytes ++ escaped mode (drop i bytes)) (sym end) ∙ sym (escaped-after_none mode bytes from size none))
    ∙ c.escapes.invariant.front
    ∙ ap (λ t. front ++ t) (escaped-block mode bytes 0) ∙ sym (append_assoc front block after))
