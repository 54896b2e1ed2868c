use Rattle.std.proofs.Common.{◌≡◌, ◌++◌}
use Rattle.std.specs.Vec.Iter.{into_iter_items}
use Rattle.mysql_records.specs.Seen.{fields_seen, lent_fields_seen}
use Rattle.mysql_records.proofs.record.owned_fields.Given as goal

-- the fields are those so far and those that are left, and those so far are made
abbrev pub invariant-loop-field : goal.invariant-loop-field
invariant-loop-field l = (l.yielded ++ into_iter_items l.field-iterator ≡ into_iter_items l.initial.field-iterator)
    × (fields_seen l.fields.items ≡ lent_fields_seen l.yielded)
