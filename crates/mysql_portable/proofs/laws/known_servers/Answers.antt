use Rattle.mysql_portable.proofs.KnownServerLemmas as lemmas
use Rattle.mysql_portable.proofs.laws.known_servers.Goals as goal

pub returns : goal.returns
returns c = record {
  mysql_is_honest = lemmas.mysql_honest;
  mariadb_is_honest = lemmas.mariadb_honest;
  mysql_decides_within = lemmas.mysql_decides;
  mariadb_decides_within = lemmas.mariadb_decides;
  grammar_skips = lemmas.grammar_skips;
  mysql_skips = lemmas.mysql_skips;
  mariadb_reads = lemmas.mariadb_reads;
  grammar_reads = lemmas.grammar_reads;
  mysql_skips_later = lemmas.mysql_skips_later;
  mariadb_skips_later = lemmas.mariadb_skips_later;
  grammar_passes_dollars = lemmas.grammar_passes_dollars;
  mysql_quotes = lemmas.mysql_quotes;
  mariadb_passes_dollars = lemmas.mariadb_passes_dollars;
}
