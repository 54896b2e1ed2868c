use Rattle.mysql_named_params.proofs.WidePlaceLemmas.{wide_run}
use Rattle.mysql_named_params.proofs.tokens.wide_len.Goals as goal

pub returns-clause-len : goal.returns-clause-len
returns-clause-len c =
    let end = c.run_end.ensures in
    wide_run c.args.text.now c.run_end.result end.in_range.1 end.run end.stops
