use Rattle.std.proofs.Common.{sym, ◌∙◌}
use Rattle.mysql_named_params.specs.SameParsed.{same_parsed_decides}
use Rattle.mysql_named_params.proofs.ParsedLemmas.{names_compare}
use Rattle.mysql_named_params.proofs.named_params.ParsedNamedParamsPartialEq.eq.Goals as goal

pub returns-then-eq-clause-test : goal.returns-then-eq-clause-test
returns-then-eq-clause-test c =
    rw (← c.self.view_is, ← c.other.view_is, ← c.eq.ensures, c.if-eq.true) (c.eq-then-eq.ensures ∙ names_compare c.self.inside.params.items c.other.inside.params.items)

pub returns-then-eq-clause-equal : goal.returns-then-eq-clause-equal
returns-then-eq-clause-equal c =
    let test = returns-then-eq-clause-test c in
    let decides = same_parsed_decides c.args.self.now c.args.other.now in
    (λ h. decides.0 (sym test ∙ h), λ e. test ∙ decides.1 e)
