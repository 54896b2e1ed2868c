-- The table is held against the definition at each of the 256 bytes, by computing.
use Rattle.std.proofs.Common.{nat_eq, get_or, refl, arith}
use Rattle.std.specs.Str.{byte}
use Rattle.std.proofs.lemmas.Bool.{agree_below_at}
use Rattle.mysql_portable.specs.declared.clear.TheConstants.{NEVER_IN_DOUBT}
use Rattle.mysql_portable.specs.Clear.{is_never_in_doubt}
use Rattle.mysql_portable.proofs.clear.is_never_in_doubt.Goals as goal

pub returns : goal.returns
returns c = agree_below_at (λ k. nat_eq (get_or NEVER_IN_DOUBT k 0) (byte "1")) is_never_in_doubt 256 c.args.byte refl (omega arith)
