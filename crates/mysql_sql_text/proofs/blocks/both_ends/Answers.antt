use Rattle.std.proofs.Common.{◌≡◌, ◌++◌, ◌-◌, ap, ◌∙◌, arith, take, drop, length, length-append}
use Rattle.std.proofs.lemmas.List.{take_all, length-take-le, length-drop}
use Rattle.std.proofs.lemmas.Simd.{pick_l_whole, length-chunk}
use lib.Lanes.{chunk}
use Rattle.mysql_sql_text.proofs.blocks.both_ends.Goals as goal

pub returns : goal.returns
returns c =
    let bytes = c.args.bytes.now in
    let last = length bytes - 8 in
    let long : length (chunk last 8 bytes ++ take 8 bytes) ≡ 16 =
    omega (
      arith,
      c.requires,
      length-append (chunk last 8 bytes) (take 8 bytes),
      length-chunk last 8 bytes (omega (arith, c.requires)),
      length-take-le 8 bytes c.requires,
    ) in
    pick_l_whole 0 (chunk last 8 bytes ++ take 8 bytes) 16 long
    ∙ ap (λ t. t ++ take 8 bytes) (take_all 8 (drop last bytes) (omega (arith, length-drop last bytes)))
