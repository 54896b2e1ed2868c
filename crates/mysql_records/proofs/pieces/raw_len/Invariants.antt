use Rattle.std.proofs.Common.{◌≡◌, false, take}
use Rattle.std.specs.List.{list_any}
use Rattle.mysql_records.specs.Formats.{is_special}
use Rattle.mysql_records.proofs.pieces.raw_len.Given as goal

-- none of the bytes so far is special
abbrev pub invariant-loop-i : goal.invariant-loop-i
invariant-loop-i l = list_any (is_special l.format l.quoted) (take l.i l.text) ≡ false
