use Rattle.mysql_named_params.proofs.TokenListLemmas as lists
use Rattle.mysql_named_params.proofs.TokensExistLemmas as lemmas
use Rattle.mysql_named_params.proofs.laws.tokens_exist.Goals as goal

pub returns : goal.returns
returns c = record {
  tokens = lemmas.tokens_right;
  unique = λ mode query ts h. lists.one_token_list mode query _ ts (lemmas.tokens_right mode query) h;
}
