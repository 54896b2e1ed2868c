use Rattle.std.proofs.Common.{◌≤◌, length, vec_capacity}
use Rattle.mysql_records.specs.LentFields.{AreFieldsBefore, AreHeld}
use Rattle.mysql_records.specs.Seen.{lent_fields_seen}
use Rattle.mysql_records.proofs.ReadRecordLemmas.{ReadFields}
use Rattle.mysql_records.proofs.record.first_record_into.Given as goal

-- the records of the text are the fields so far and the records of the rest, and these fields are before the rest
abbrev pub invariant-fields : goal.invariant-fields
invariant-fields l = record {
  read : ReadFields l.format l.text (lent_fields_seen l.fields.items) l.rest;
  before : AreFieldsBefore l.format l.rest (lent_fields_seen l.fields.items) l.text;
  held : AreHeld l.format l.text l.fields.items;
  room : vec_capacity l.fn.fields ≤ vec_capacity l.fields;
}

abbrev pub decreases-fields : goal.decreases-fields
decreases-fields l = length l.rest
