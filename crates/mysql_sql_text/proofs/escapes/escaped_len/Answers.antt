use Rattle.std.proofs.Common.{◌≡◌, ◌≤◌, ℕ, Bool, List, map, drop, arith, ap, ◌∙◌, ◌-◌, ◌/◌, ◌^◌, length}
use Rattle.std.specs.List.{count_by}
use Rattle.std.proofs.lemmas.Simd.{ones-mask_l, length-chunk}
use Rattle.std.proofs.lemmas.List.Sums.{count_by-le-length}
use lib.Lanes.{chunk, mask_l}
use Rattle.std.specs.Int.RustNames.{count_ones}
use Rattle.mysql_sql_text.specs.LiteralText.{needs_escape}
use Rattle.mysql_sql_text.proofs.BlockLemmas.{length-escaped-block}
use Rattle.mysql_sql_text.proofs.EscapeWalkLemmas.{count-end-le, length-escaped-end, ones-last_block}
use Rattle.mysql_sql_text.proofs.escapes.escaped_len.Goals as goal

pub loop-at-preserved : goal.loop-at-preserved
loop-at-preserved c =
    let mode = c.args.no_backslash_escape in
    let bytes = c.args.bytes.now in
    let at = c.loop-at.at in
    let block = chunk at 16 bytes in
    let counted = ap count_ones c.escaped_lanes.ensures ∙ ones-mask_l (needs_escape mode) block in
    let few = count_by-le-length (needs_escape mode) block in
    let long = length-chunk at 16 bytes (omega arith) in
    record {
      within = omega arith;
      few = omega (arith, c.count_set_bits-escapes.ensures, counted, few, long);
      exact = omega (arith, c.count_set_bits-escapes.ensures, counted, length-escaped-block mode bytes at (omega arith));
    }

-- the escapes of the last block that no block before it has
rest : (mode : Bool) (bytes : List ℕ) (at mask counted : ℕ) → 16 ≤ length bytes → length bytes - 16 ≤ at
    → mask ≡ mask_l (map (needs_escape mode) (chunk (length bytes - 16) 16 bytes))
    → counted ≡ count_ones (mask / 2 ^ (at - (length bytes - 16))) → counted ≡ count_by (needs_escape mode) (drop at bytes)
rest mode bytes at mask counted long within is count =
    let last = length bytes - 16 in
    count ∙ ap (λ m. count_ones (m / 2 ^ (at - last))) is ∙ ones-last_block mode bytes last at (omega arith) within

pub overflow_add-result : goal.overflow_add-result
overflow_add-result c =
    omega (
      arith,
      rest c.args.no_backslash_escape c.args.bytes.now c.loop-at.at _ _ (omega arith) (omega arith) c.escaped_lanes-2.ensures
          c.count_set_bits-escapes-2.ensures,
      count-end-le c.args.no_backslash_escape c.args.bytes.now c.loop-at.at c.loop-at.invariant.within,
    )

pub returns-clause-exact : goal.returns-clause-exact
returns-clause-exact c =
    omega (
      arith,
      rest c.args.no_backslash_escape c.args.bytes.now c.loop-at.at _ _ (omega arith) (omega arith) c.escaped_lanes-2.ensures
          c.count_set_bits-escapes-2.ensures,
      length-escaped-end c.args.no_backslash_escape c.args.bytes.now c.loop-at.at c.loop-at.invariant.within,
      c.loop-at.invariant.exact,
    )

pub returns-clause-few : goal.returns-clause-few
returns-clause-few c =
    omega (
      arith,
      rest c.args.no_backslash_escape c.args.bytes.now c.loop-at.at _ _ (omega arith) (omega arith) c.escaped_lanes-2.ensures
          c.count_set_bits-escapes-2.ensures,
      count-end-le c.args.no_backslash_escape c.args.bytes.now c.loop-at.at c.loop-at.invariant.within,
    )
