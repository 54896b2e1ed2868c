use Rattle.std.proofs.Common.{◌∙◌, ◌<◌, length, rules}
use Rattle.mysql_bind_core.proofs.BindingLemmas.{given_of-borrowed}
use Rattle.mysql_bind_core.proofs.taken.params_of.Goals as goal

pub returns-in-None : goal.returns-in-None
returns-in-None c =
    let some : 0 < length c.args.pairs.now.0.now = search rules in
    given_of-borrowed c.args.pairs.now.0.now some ∙ (rw c.in-None.is at c.in_ok-first_redefined.ensures.answer)
