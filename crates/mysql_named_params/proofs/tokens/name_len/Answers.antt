use Rattle.mysql_named_params.proofs.TokenEndLemmas.{name_to_end}
use Rattle.mysql_named_params.proofs.tokens.name_len.Goals as goal

pub returns-clause-front : goal.returns-clause-front
returns-clause-front c =
    let end = c.run_end.ensures in
    name_to_end c.args.text.now c.run_end.result end.in_range.1 end.run end.stops
