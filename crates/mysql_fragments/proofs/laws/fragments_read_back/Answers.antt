use Rattle.mysql_fragments.proofs.ReadFragmentLemmas as lemmas
use Rattle.mysql_fragments.proofs.laws.fragments_read_back.Goals as goal

pub returns : goal.returns
returns c = record {
  name = lemmas.identifier_read;
  names = lemmas.names_read;
  number = lemmas.decimal_back;
  whole = lemmas.natural_back;
  fraction = lemmas.fraction_back;
  negative = lemmas.negative_back;
  negative_fraction = lemmas.negative_fraction_back;
}
