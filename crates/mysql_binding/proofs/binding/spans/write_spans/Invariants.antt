use Rattle.std.proofs.Common.{◌≡◌, map, take}
use Rattle.mysql_binding.specs.PlaceSpans.{span_of}
use Rattle.mysql_binding.proofs.binding.spans.write_spans.Given as goal

abbrev pub invariant-loop-i : goal.invariant-loop-i
invariant-loop-i l = take l.i l.room ≡ map span_of (take l.i l.places)
