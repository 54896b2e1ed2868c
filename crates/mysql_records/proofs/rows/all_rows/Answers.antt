use Rattle.std.proofs.Common.{inr, ◌≡◌, ◌∙◌, sym, ap, refl, subst, rules, [], ◌∷◌, ◌++◌}
use Rattle.std.specs.Prelude.{IfSome}
use Rattle.std.proofs.lemmas.List.{map-append}
use Rattle.mysql_records.specs.Faults.{IsFaulty, IsRefusal}
use Rattle.mysql_records.specs.LentFields.{AsksForMemory, HasMemoryCause}
use Rattle.mysql_records.specs.Records.{BeginsWithRecord}
use Rattle.mysql_records.specs.Seen.{fields_seen, rows_seen}
use Rattle.mysql_records.proofs.LentFieldLemmas.{asks_first, cause_of_record, some_first, some_of_record}
use Rattle.mysql_records.proofs.TableLemmas.{ReadRows, empty_if_none, rows_more, rows_all, rows_fault}
use Rattle.mysql_records.proofs.rows.all_rows.Goals as goal

pub returns-in-Fault-clause-refused : goal.returns-in-Fault-clause-refused
returns-in-Fault-clause-refused c =
    let faulty : IsFaulty c.args.format c.records.rest.now c.in-Fault.fault =
    subst (λ e. IsRefusal c.args.format c.records.rest.now e) c.in-Fault.is c.in-Err.ensures.refused in
    rows_fault c.args.format c.args.text.now (rows_seen c.records.rows.items) c.records.rest.now c.in-Fault.fault _ c.records.invariant.read faulty refl refl

pub returns-in_default-clause-table : goal.returns-in_default-clause-table
returns-in_default-clause-table c =
    rows_all c.args.format c.args.text.now (rows_seen c.records.rows.items) c.records.rest.now c.records.invariant.read
    (empty_if_none c.in-Ok.found (c.records.rest.now ≡ []) c.in_default.is c.in-Ok.ensures.none)

pub records-preserved : goal.records-preserved
records-preserved c =
    let pushed : c.push.new.self.items ≡ c.records.rows.items ++ record { fields = c.in-Some.«record».fields } ∷ [] = search rules in
    let seen : rows_seen c.push.new.self.items ≡ rows_seen c.records.rows.items ++ fields_seen c.in-Some.«record».fields.items ∷ [] =
    ap rows_seen pushed ∙ map-append _ c.records.rows.items (record { fields = c.in-Some.«record».fields } ∷ []) in
    let first : BeginsWithRecord c.args.format c.records.rest.now (fields_seen c.in-Some.«record».fields.items) c.in-Some.«record».rest.now =
    subst (λ o. IfSome o (λ read. BeginsWithRecord c.args.format c.records.rest.now (fields_seen read.fields.items) read.rest.now)) c.in-Some.is c.in-Ok.ensures.read in
    record {
      read =
          subst (λ x. ReadRows c.args.format c.args.text.now x c.in-Some.«record».rest.now) (sym seen)
          (rows_more c.args.format c.args.text.now (rows_seen c.records.rows.items) c.records.rest.now (fields_seen c.in-Some.«record».fields.items) c.in-Some.«record».rest.now c.records.invariant.read first);
      first = inr (some_first c.args.format c.args.text.now c.records.rest.now c.records.invariant.first (some_of_record c.args.format c.records.rest.now _ _ first));
    }

pub returns-in-Memory-clause-memory : goal.returns-in-Memory-clause-memory
returns-in-Memory-clause-memory c =
    let cause : AsksForMemory c.args.format 0 0 c.records.rest.now =
    subst (λ e. HasMemoryCause c.args.format c.records.rest.now e) c.in-Memory.is c.in-Err.ensures.memory in
    asks_first c.args.format c.args.text.now c.records.rest.now c.records.invariant.first cause

pub returns-then-is_err-clause-memory : goal.returns-then-is_err-clause-memory
returns-then-is_err-clause-memory c =
    let first : BeginsWithRecord c.args.format c.records.rest.now (fields_seen c.in-Some.«record».fields.items) c.in-Some.«record».rest.now =
    subst (λ o. IfSome o (λ read. BeginsWithRecord c.args.format c.records.rest.now (fields_seen read.fields.items) read.rest.now)) c.in-Some.is c.in-Ok.ensures.read in
    asks_first c.args.format c.args.text.now c.records.rest.now c.records.invariant.first (cause_of_record c.args.format c.records.rest.now _ _ first)
