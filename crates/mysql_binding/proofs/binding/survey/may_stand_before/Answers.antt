-- The table is held against the definition at each of the 256 bytes, by computing.
use Rattle.std.proofs.Common.{nat_eq, get_or, refl, arith}
use Rattle.std.specs.Str.{byte}
use Rattle.std.proofs.lemmas.Bool.{agree_below_at}
use Rattle.mysql_binding.specs.declared.binding.survey.TheConstants.{MAY_STAND_BEFORE}
use Rattle.mysql_binding.specs.StandsAlone.{may_stand_before}
use Rattle.mysql_binding.proofs.binding.survey.may_stand_before.Goals as goal

pub returns : goal.returns
returns c = agree_below_at (λ k. nat_eq (get_or MAY_STAND_BEFORE k 0) (byte "1")) may_stand_before 256 c.args.byte refl (omega arith)
