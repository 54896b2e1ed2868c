use Rattle.mysql_named_params.proofs.TokenListLemmas as lemmas
use Rattle.mysql_named_params.proofs.laws.one_token_list.Goals as goal

pub returns : goal.returns
returns c = record { unique = lemmas.one_token_list }
