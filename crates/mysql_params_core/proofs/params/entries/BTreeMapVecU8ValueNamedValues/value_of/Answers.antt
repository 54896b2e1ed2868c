use Rattle.std.proofs.Common.{ap, sym, ◌∙◌, Some}
use Rattle.mysql_params_core.proofs.SortedMapLemmas.{get-sorted}
use Rattle.mysql_params_core.proofs.params.entries.BTreeMapVecU8ValueNamedValues.value_of.Goals as goal

pub returns-in-Some : goal.returns-in-Some
returns-in-Some c =
    ap (λ v. Some v) c.borrowed.ensures.same
    ∙ (c.in-Some.ensures.value ∙ sym (get-sorted c.args.self.now.entries c.args.name.now))

pub returns-in-None : goal.returns-in-None
returns-in-None c =
    c.in-None.ensures.value ∙ sym (get-sorted c.args.self.now.entries c.args.name.now)
