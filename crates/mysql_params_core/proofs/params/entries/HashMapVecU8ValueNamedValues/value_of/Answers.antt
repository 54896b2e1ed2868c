use Rattle.std.proofs.Common.{ap, sym, ◌∙◌, Some}
use Rattle.mysql_params_core.proofs.MapLemmas.{get-value_map}
use Rattle.mysql_params_core.proofs.params.entries.HashMapVecU8ValueNamedValues.value_of.Goals as goal

pub returns-in-Some : goal.returns-in-Some
returns-in-Some c =
    ap (λ v. Some v) c.borrowed.ensures.same
    ∙ (c.in-Some.ensures.value ∙ sym (get-value_map c.args.self.now.entries c.args.name.now))

pub returns-in-None : goal.returns-in-None
returns-in-None c =
    c.in-None.ensures.value ∙ sym (get-value_map c.args.self.now.entries c.args.name.now)
