use Rattle.std.proofs.Common.{sym, ◌∙◌}
use Rattle.mysql_to_fragments.proofs.NanLemmas.{nan_bits_of}
use Rattle.mysql_to_fragments.proofs.item.bits_of.Goals as goal

pub returns-then-is_nan : goal.returns-then-is_nan
returns-then-is_nan c = nan_bits_of c.args.double (sym c.is_nan.ensures.value ∙ c.if-is_nan.true)
