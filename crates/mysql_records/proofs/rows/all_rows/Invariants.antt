use Rattle.std.proofs.Common.{◌≡◌, ◌⊎◌, length}
use Rattle.mysql_records.specs.LentFields.{BeginsWithSomeField}
use Rattle.mysql_records.specs.Seen.{rows_seen}
use Rattle.mysql_records.proofs.TableLemmas.{ReadRows}
use Rattle.mysql_records.proofs.rows.all_rows.Given as goal

-- the tables of the text are the rows so far and the tables of the rest, and before the rest is no row or a field
abbrev pub invariant-records : goal.invariant-records
invariant-records l = record {
  read : ReadRows l.format l.text (rows_seen l.rows.items) l.rest;
  first : (l.text ≡ l.rest) ⊎ BeginsWithSomeField l.format l.text;
}

abbrev pub decreases-records : goal.decreases-records
decreases-records l = length l.rest
