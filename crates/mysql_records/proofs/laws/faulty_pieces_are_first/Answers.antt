use Rattle.mysql_records.proofs.FaultyPieceLemmas.{piece_first, table_piece_first}
use Rattle.mysql_records.proofs.laws.faulty_pieces_are_first.Goals as goal

pub returns-clause-records : goal.returns-clause-records
returns-clause-records c = piece_first

pub returns-clause-tables : goal.returns-clause-tables
returns-clause-tables c = table_piece_first
