-- The table is held against the definition at each of the 256 bytes, by computing.
use Rattle.std.proofs.Common.{nat_eq, get_or, refl, arith}
use Rattle.std.specs.Str.{byte}
use Rattle.std.proofs.lemmas.Bool.{agree_below_at}
use Rattle.mysql_portable.specs.declared.no_construct.TheConstants.{BEGINS_NO_CONSTRUCT}
use Rattle.mysql_portable.specs.NoConstruct.{begins_no_construct}
use Rattle.mysql_portable.proofs.no_construct.begins_no_construct.Goals as goal

pub returns : goal.returns
returns c = agree_below_at (λ k. nat_eq (get_or BEGINS_NO_CONSTRUCT k 0) (byte "1")) begins_no_construct 256 c.args.byte refl (omega arith)
