use Rattle.std.proofs.Common.{◌-◌, length}
use Rattle.mysql_named_params.proofs.ShortStringLemmas.{IsWithin}
use Rattle.mysql_named_params.proofs.ends.string.short_string_len.Given as goal

abbrev pub invariant-bytes : goal.invariant-bytes
invariant-bytes l = IsWithin l.no_backslash_escape l.quote l.text l.at

abbrev pub decreases-bytes : goal.decreases-bytes
decreases-bytes l = length l.text - l.at
