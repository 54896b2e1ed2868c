use Rattle.std.proofs.Common.{sym}
use Rattle.mysql_bind_call.proofs.ResultLemmas.{pairs_are}
use Rattle.mysql_bind_call.proofs.values.NamedPairsGiveValues.given.Goals as goal

pub returns : goal.returns
returns c what is = sym (pairs_are c.args.self.now.0.now what c.requires is)
