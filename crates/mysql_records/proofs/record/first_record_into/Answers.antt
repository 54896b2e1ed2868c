use Rattle.std.proofs.Common.{arith, ◌≡◌, ◌∙◌, sym, ap, refl, subst, map, rules, [], ◌∷◌, ◌++◌}
use Rattle.std.proofs.lemmas.List.{map-append}
use Rattle.mysql_records.specs.Fields.{IsFieldEnd, IsFaultyField, IsFieldRefusal}
use Rattle.mysql_records.specs.Formats.{separator}
use Rattle.mysql_records.specs.LentFields.{AreFieldsBefore, AreHeld, none_before}
use Rattle.mysql_records.specs.Records.{BeginsWithRecord, EndsRecord, BeginsWithField}
use Rattle.mysql_records.specs.Seen.{lent_seen, lent_fields_seen}
use Rattle.mysql_records.proofs.LentFieldLemmas.{before_more, held_more, held_none}
use Rattle.mysql_records.proofs.ReadFieldLemmas.{some_from}
use Rattle.mysql_records.proofs.ReadRecordLemmas.{ReadFields, fields_none, fields_more, fields_last, fields_fault, record_shorter}
use Rattle.mysql_records.proofs.record.first_record_into.Goals as goal

pub fields-init : goal.fields-init
fields-init c =
    let none : c.clear.new.self.items ≡ [] = c.clear.ensures.items in record {
      read =
          subst (λ x. ReadFields c.args.format c.args.text.now (lent_fields_seen x) c.args.text.now) (sym none)
          (fields_none c.args.format c.args.text.now);
      before =
          subst (λ x. AreFieldsBefore c.args.format c.args.text.now (lent_fields_seen x) c.args.text.now) (sym none)
          none_before;
      held = subst (AreHeld c.args.format c.args.text.now) (sym none) (held_none c.args.format c.args.text.now);
      room = omega (arith, c.clear.ensures.capacity);
    }

pub returns-in-Fault-clause-before : goal.returns-in-Fault-clause-before
returns-in-Fault-clause-before c =
    let faulty : IsFaultyField c.args.format c.fields.rest.now c.in-Fault.kind c.in-Fault.from.now =
    subst (λ e. IsFieldRefusal c.args.format c.fields.rest.now e) c.in-Fault.is c.in-Err.ensures.refused in
    (c.fields.rest.now, c.fields.invariant.before, λ some. faulty.none some.0 some.1 some.2)

pub returns-in-Record-clause-lent : goal.returns-in-Record-clause-lent
returns-in-Record-clause-lent c =
    let pushed : c.push.new.self.items ≡ c.fields.fields.items ++ c.in-Ok.read.0 ∷ [] = search rules in
    subst (AreHeld c.args.format c.args.text.now) (sym pushed)
    (held_more c.args.format c.args.text.now c.fields.rest.now c.fields.fields.items c.in-Ok.read.0 c.fields.invariant.held c.fields.invariant.before c.in-Ok.ensures.held)

pub returns-in-Fault-clause-refused : goal.returns-in-Fault-clause-refused
returns-in-Fault-clause-refused c =
    let faulty : IsFaultyField c.args.format c.fields.rest.now c.in-Fault.kind c.in-Fault.from.now =
    subst (λ e. IsFieldRefusal c.args.format c.fields.rest.now e) c.in-Fault.is c.in-Err.ensures.refused in
    fields_fault c.args.format c.args.text.now (lent_fields_seen c.fields.fields.items) c.fields.rest.now c.in-Fault.from.now c.in-Fault.kind _
    c.fields.invariant.read faulty refl refl

pub fields-preserved : goal.fields-preserved
fields-preserved c =
    let pushed : c.push.new.self.items ≡ c.fields.fields.items ++ c.in-Ok.read.0 ∷ [] = search rules in
    let seen : lent_fields_seen c.push.new.self.items ≡ lent_fields_seen c.fields.fields.items ++ lent_seen c.in-Ok.read.0 ∷ [] =
    ap (map lent_seen) pushed ∙ map-append lent_seen c.fields.fields.items (c.in-Ok.read.0 ∷ []) in
    let back : c.in-Ok.read.1.now ≡ separator c.args.format ∷ c.in-Separator.more.now =
    subst (λ e. IsFieldEnd c.args.format c.in-Ok.read.1.now e) c.in-Separator.is c.in-Some.ensures.some in
    let first : BeginsWithField c.args.format c.fields.rest.now (lent_seen c.in-Ok.read.0) (separator c.args.format ∷ c.in-Separator.more.now) =
    subst (λ x. BeginsWithField c.args.format c.fields.rest.now (lent_seen c.in-Ok.read.0) x) back c.in-Ok.ensures.read in record {
      read =
          subst (λ x. ReadFields c.args.format c.args.text.now x c.in-Separator.more.now) (sym seen)
          (fields_more c.args.format c.args.text.now (lent_fields_seen c.fields.fields.items) c.fields.rest.now (lent_seen c.in-Ok.read.0) c.in-Separator.more.now
          c.fields.invariant.read first);
      before =
          subst (λ x. AreFieldsBefore c.args.format c.in-Separator.more.now x c.args.text.now) (sym seen)
          (before_more c.args.format c.fields.rest.now (lent_seen c.in-Ok.read.0) c.in-Separator.more.now c.args.text.now (lent_fields_seen c.fields.fields.items)
          c.fields.invariant.before first);
      held =
          subst (AreHeld c.args.format c.args.text.now) (sym pushed)
          (held_more c.args.format c.args.text.now c.fields.rest.now c.fields.fields.items c.in-Ok.read.0 c.fields.invariant.held c.fields.invariant.before c.in-Ok.ensures.held);
      room = omega (arith, c.push.ensures.capacity, c.fields.invariant.room);
    }

read_is : (c : goal.In-Record) → BeginsWithRecord c.args.format c.args.text.now (lent_fields_seen c.push.new.self.items) c.in-Record.rest.now
read_is c =
    let pushed : c.push.new.self.items ≡ c.fields.fields.items ++ c.in-Ok.read.0 ∷ [] = search rules in
    let seen : lent_fields_seen c.push.new.self.items ≡ lent_fields_seen c.fields.fields.items ++ lent_seen c.in-Ok.read.0 ∷ [] =
    ap (map lent_seen) pushed ∙ map-append lent_seen c.fields.fields.items (c.in-Ok.read.0 ∷ []) in
    let end : EndsRecord c.args.format c.in-Ok.read.1.now c.in-Record.rest.now =
    subst (λ e. IsFieldEnd c.args.format c.in-Ok.read.1.now e) c.in-Record.is c.in-Some.ensures.some in
    subst (λ x. BeginsWithRecord c.args.format c.args.text.now x c.in-Record.rest.now) (sym seen)
    (fields_last c.args.format c.args.text.now (lent_fields_seen c.fields.fields.items) c.fields.rest.now (lent_seen c.in-Ok.read.0) c.in-Ok.read.1.now c.in-Record.rest.now
    (some_from c.args.text.now c.if-is_empty.ensures) c.fields.invariant.read c.in-Ok.ensures.read end)

pub returns-in-Record-clause-read : goal.returns-in-Record-clause-read
returns-in-Record-clause-read c = read_is c

pub returns-in-Record-clause-shorter : goal.returns-in-Record-clause-shorter
returns-in-Record-clause-shorter c = record_shorter c.args.format c.args.text.now (lent_fields_seen c.push.new.self.items) c.in-Record.rest.now (read_is c)
