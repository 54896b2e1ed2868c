use Rattle.std.proofs.Common.{sym, ◌∙◌}
use Rattle.mysql_named_params.specs.SameParsed.{same_parsed_decides}
use Rattle.mysql_named_params.proofs.laws.parsed_equality.Goals as goal

pub returns : goal.returns
returns c =
    let decides = same_parsed_decides c.args.a.now c.args.b.now in
    record {
      same = (λ h. decides.0 (sym c.eq.ensures ∙ h), λ e. c.eq.ensures ∙ decides.1 e);
      member = c.eq.ensures;
    }
