use Rattle.std.proofs.Common.{◌≡◌, ◌+◌, ◌^◌, ◌<◌, map, take}
use Rattle.std.specs.List.{All, sum}
use Rattle.mysql_values.specs.Value.{FieldsInRange}
use Rattle.mysql_binding.specs.LiteralForm.{literal_len}
use Rattle.mysql_binding.proofs.binding.literals.lens_in.Given as goal

abbrev pub invariant-loop-place : goal.invariant-loop-place
invariant-loop-place g l =
    (l.lens.items ≡ map (literal_len (g.F.LiteralForm.literal l.form)) (take l.place (g.L.ValueList.values l.values)))
    × All FieldsInRange (take l.place (g.L.ValueList.values l.values))
    × (l.len ≡ l.piece_bytes + sum l.lens.items)
    × (l.len < 2 ^ 63)
