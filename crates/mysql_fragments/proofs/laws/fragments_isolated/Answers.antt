use Rattle.mysql_named_params.specs.Reading.{grammar_reading}
use Rattle.mysql_named_params.proofs.ReparsedLemmas.{names_in_reading}
use Rattle.mysql_fragments.proofs.SplicedFragmentLemmas as lemmas
use Rattle.mysql_fragments.proofs.laws.fragments_isolated.Goals as goal

pub returns : goal.returns
returns c = record {
  tokens = λ mode query text ts counts texts lists h n s a e. lemmas.fragments_isolated mode text ts counts texts lists n s a e query h;
  alone = λ mode query text ts counts texts lists h n s a e. lemmas.fragments_stand_alone mode ts counts texts lists (names_in_reading (grammar_reading mode) query ts h) s a (lemmas.as_many mode text ts counts texts lists n s a e) n;
}
