use Rattle.std.proofs.Common.{◌≡◌, take}
use Rattle.std.specs.List.{list_all}
use Rattle.mysql_portable.specs.Steady.{is_no_backslash}
use Rattle.mysql_steady_text.proofs.guarded_literal.lacks_backslash.Given as goal

abbrev pub invariant-loop-byte : goal.invariant-loop-byte
invariant-loop-byte l = l.all ≡ list_all is_no_backslash (take l.byte-index l.bytes)
