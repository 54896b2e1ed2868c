use Rattle.mysql_query_core.proofs.ProgramLemmas.{names_output_is}
use Rattle.mysql_query_core.proofs.program.names_output.Goals as goal

pub returns-clause-ok : goal.returns-clause-ok
returns-clause-ok c =
    let ok = c.in_ok-parsed.ensures.ok in
    let mixed = c.in_ok-parsed.ensures.mixed in
    (ok.0, ok.1, names_output_is _ _ _ _ ok.0 mixed.0 ok.1 ok.2 mixed.1 (λ both. cc (mixed.2.1 both)) c.in_ok-text.ensures)
