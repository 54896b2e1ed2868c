-- The table is held against the definition at each of the 256 bytes, by computing.
use Rattle.std.proofs.Common.{nat_eq, get_or, refl, arith}
use Rattle.std.specs.Str.{byte}
use Rattle.std.proofs.lemmas.Bool.{agree_below_at}
use Rattle.mysql_named_params.specs.declared.tokens.TheConstants.{ALWAYS_PLAIN}
use Rattle.mysql_named_params.specs.PlainBytes.{is_always_plain}
use Rattle.mysql_named_params.proofs.tokens.is_always_plain.Goals as goal

pub returns : goal.returns
returns c = agree_below_at (λ k. nat_eq (get_or ALWAYS_PLAIN k 0) (byte "1")) is_always_plain 256 c.args.byte refl (omega arith)
