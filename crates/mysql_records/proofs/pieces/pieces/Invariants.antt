use Rattle.std.proofs.Common.{length}
use Rattle.mysql_records.proofs.RowLemmas.{ReadPieces}
use Rattle.mysql_records.proofs.pieces.pieces.Given as goal

-- the text so far is the pieces of the bytes so far
abbrev pub invariant-pieces : goal.invariant-pieces
invariant-pieces l = ReadPieces l.format l.quoted l.text l.bytes.items l.rest

abbrev pub decreases-pieces : goal.decreases-pieces
decreases-pieces l = length l.rest
