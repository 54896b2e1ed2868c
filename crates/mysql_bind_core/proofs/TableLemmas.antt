-- The records of a table, one after another, and their statements.
use Rattle.std.proofs.Common.{◌≡◌, ◌≢◌, ◌∙◌, ℕ, ◌+◌, ◌-◌, ◌<◌, ◌≤◌, suc, zero, List, [], ◌∷◌, ◌++◌, length, map, min, drop, get_or, inl, inr, refl, ap, sym, subst, append_assoc, append-nil, arith, length-append}
use Rattle.std.specs.Prelude.{All}
use Rattle.std.proofs.lemmas.Bool.{cases_lt}
use Rattle.std.proofs.lemmas.List.{drop_all, drop_at, get_or-map, length-map, map-append}
use Rattle.std.proofs.lemmas.List.Elements.{All-append}
use Rattle.mysql_records.specs.Faults.{IsFaulty}
use Rattle.mysql_records.specs.Records.{BeginsWithRecord, IsTable}
use Rattle.mysql_records.specs.Records as records
use Rattle.mysql_records.specs.Seen.{lent_fields_seen, lent_seen}
use Rattle.mysql_records.specs.declared.fault.Fault.{Fault}
use Rattle.mysql_records.specs.declared.format.RecordFormat.{RecordFormat}
use Rattle.mysql_records.specs.declared.lent.LentField.{LentField}
use Rattle.mysql_records.proofs.TableLemmas.{ReadRows, rows_fault, rows_more, rows_none}
use Rattle.mysql_bind_core.specs.Cells.{Said, TableQuery, cells_said}
use Rattle.mysql_bind_core.specs.RowTexts.{IsRowRefusal, IsRowText}
use Rattle.mysql_bind_core.specs.declared.cell.Cell.{Cell}
use Rattle.mysql_bind_core.specs.declared.failure.Failure.{Failure}
use Rattle.mysql_bind_core.specs.Scripts.{AreStatements, AreWritten, script, statement}
use Rattle.mysql_bind_core.specs.Tables.{AreAppended, AreCellsOf, AreRecordTexts, AreRowsOf, BeginsWithRecords, no_records, more_records, Fields, IsFaultBehind, IsRecordAt, IsRecordRefusal, IsRecordText, IsRefusedAt, IsTableMatched, IsTableRefused, of_record, cell_said, column_said, fields_said, said_under}
use Rattle.mysql_bind_core.specs.declared.row.Row.{Row}
use Rattle.mysql_bind_core.specs.declared.table_form.TableColumn.{TableColumn}
use Rattle.mysql_bind_core.specs.declared.table_form.TableForm.{TableForm}
use Rattle.mysql_bind_core.specs.declared.table_form.TableRefusal.{TableRefusal}
use Rattle.mysql_bind_core.specs.declared.table_form.TableRefusal.TheVariants as refusal
use Rattle.mysql_bind_core.proofs.ScriptLemmas.{script-snoc}
use Rattle.mysql_query_core.proofs.WordLemmas.{drop_index}

-- ---- the records of a text

-- one record more
read_more : (format : RecordFormat) (text : List ℕ) (records : List Fields) (back : List ℕ) (fields : Fields) (rest : List ℕ) →
    BeginsWithRecords format text records back → BeginsWithRecord format back fields rest → BeginsWithRecords format text (records ++ fields ∷ []) rest
read_more format text records back fields rest (no_records t) one = more_records fields [] back rest rest one (no_records rest)
read_more format text records back fields rest (more_records f fs t b r first others) one =
    more_records f (fs ++ fields ∷ []) t b rest first (read_more format b fs r fields rest others one)

-- all records of a text
pub table_of : (format : RecordFormat) (text : List ℕ) (rows : List Fields) (rest : List ℕ) →
    BeginsWithRecords format text rows rest → rest ≡ [] → IsTable format rows text
table_of format text rows rest (no_records t) empty = subst (IsTable format []) (sym empty) records.no_records
table_of format text rows rest (more_records f fs t b r first others) empty = records.more_records f fs t b first (table_of format b fs r others empty)

-- what is known of the tables of a text whose first records are read
rows_behind : (format : RecordFormat) (text : List ℕ) (done : List Fields) (back : List ℕ) (rows : List Fields) (rest : List ℕ) →
    ReadRows format text done back → BeginsWithRecords format back rows rest → ReadRows format text (done ++ rows) rest
rows_behind format text done back rows rest h (no_records t) = subst (λ x. ReadRows format text x t) (sym (append-nil done)) h
rows_behind format text done back rows rest h (more_records f fs t b r first others) =
    subst (λ x. ReadRows format text x r) (append_assoc done (f ∷ []) fs)
    (rows_behind format text (done ++ f ∷ []) b fs r (rows_more format text done t f b h first) others)

pub rows_read : (format : RecordFormat) (text : List ℕ) (rows : List Fields) (rest : List ℕ) →
    BeginsWithRecords format text rows rest → ReadRows format text rows rest
rows_read format text rows rest h = rows_behind format text [] text rows rest (rows_none format text) h

-- the index at which the rest of a text begins
pub place_of : (format : RecordFormat) (text : List ℕ) (rows : List Fields) (rest : List ℕ) (at : ℕ) →
    BeginsWithRecords format text rows rest → at ≡ length text - length rest → drop at text ≡ rest
place_of format text rows rest at h is =
    let read = rows_read format text rows rest h in
    let long : length text ≡ length read.front + length rest = ap length read.whole ∙ length-append read.front rest in
    let place : at ≡ length read.front = omega (arith, long, is) in
    ap (λ t. drop at t) read.whole ∙ drop_at read.front rest at (sym place)

-- the rest of a text is no longer than it
pub rest_fits : (format : RecordFormat) (text : List ℕ) (rows : List Fields) (rest : List ℕ) →
    BeginsWithRecords format text rows rest → length rest ≤ length text
rest_fits format text rows rest h =
    let read = rows_read format text rows rest h in
    omega (arith, ap length read.whole, length-append read.front rest)

-- ---- the cells of a record

-- one field more
pub said_next : (columns : List TableColumn) (fields : List LentField) (i : ℕ) (d : TableColumn) (field : LentField)
    (cells more : List Cell) → i < length columns → i < length fields → field ≡ get_or fields i field →
    map cell_said more ≡ map cell_said cells ++ column_said (get_or columns i d) (lent_seen field) →
    map cell_said cells ++ fields_said (drop i columns) (drop i (lent_fields_seen fields)) ≡ fields_said columns (lent_fields_seen fields) →
    map cell_said more ++ fields_said (drop (i + 1) columns) (drop (i + 1) (lent_fields_seen fields)) ≡ fields_said columns (lent_fields_seen fields)
said_next columns fields i d field cells more below within at pushed so_far =
    ap (λ said. said ++ fields_said (drop (i + 1) columns) (drop (i + 1) (lent_fields_seen fields))) pushed
    ∙ append_assoc (map cell_said cells) (column_said (get_or columns i d) (lent_seen field)) (fields_said (drop (i + 1) columns) (drop (i + 1) (lent_fields_seen fields)))
    ∙ ap (λ fs. map cell_said cells ++ fields_said (get_or columns i d ∷ drop (i + 1) columns) fs) (sym seen)
    ∙ ap (λ cs. map cell_said cells ++ fields_said cs (drop i (lent_fields_seen fields))) (sym (drop_index columns i d below))
    ∙ so_far
  where
    long : i < length (lent_fields_seen fields)
    long = omega (arith, length-map fields lent_seen, within)

    seen : drop i (lent_fields_seen fields) ≡ lent_seen field ∷ drop (i + 1) (lent_fields_seen fields)
    seen = drop_index (lent_fields_seen fields) i (lent_seen field) long
        ∙ ap (λ f. f ∷ drop (i + 1) (lent_fields_seen fields)) (get_or-map lent_seen fields i field (lent_seen field) within ∙ ap lent_seen (sym at))

no_fields_said : (columns : List TableColumn) → fields_said columns [] ≡ []
no_fields_said [] = refl
no_fields_said (c ∷ cs) = refl

all_said : (columns : List TableColumn) (fields : Fields) (i : ℕ) → min (length columns) (length fields) ≤ i →
    fields_said (drop i columns) (drop i fields) ≡ []
all_said columns fields i past =
    elim (cases_lt i (length columns)) [
      | inl many ↦ ap (λ fs. fields_said (drop i columns) fs) (drop_all i fields (omega (arith, past, many))) ∙ no_fields_said (drop i columns)
      | inr few ↦ ap (λ cs. fields_said cs (drop i fields)) (drop_all i columns few)
    ]

-- the cells of all fields, and those that each row has
pub cells_of_record : (form : TableForm) (fields : List LentField) (i : ℕ) (cells all : List Cell) →
    min (length form.columns.now) (length fields) ≤ i → all ≡ cells ++ form.fixed.now →
    map cell_said cells ++ fields_said (drop i form.columns.now) (drop i (lent_fields_seen fields)) ≡ fields_said form.columns.now (lent_fields_seen fields) →
    AreCellsOf form (lent_fields_seen fields) all
cells_of_record form fields i cells all past are so_far =
    ap (map cell_said) are ∙ map-append cell_said cells form.fixed.now
    ∙ ap (λ said. said ++ map cell_said form.fixed.now)
    (sym (append-nil (map cell_said cells))
    ∙ ap (λ said. map cell_said cells ++ said) (sym (all_said form.columns.now (lent_fields_seen fields) i (omega (arith, past, length-map fields lent_seen))))
    ∙ so_far)

-- ---- the values of a record

-- the contents of cells under names
pub said_cells : (names : List (List ℕ)) (cells : List Cell) → cells_said names cells ≡ said_under names (map cell_said cells)
said_cells [] cells = refl
said_cells (n ∷ ns) [] = refl
said_cells (n ∷ ns) (c ∷ cs) = ap (λ (said : List Said). (n, cell_said c) ∷ said) (said_cells ns cs)

-- what is written for some cells of a record is written for its values
pub text_of_record : (query : TableQuery) (form : TableForm) (fields : Fields) (cells : List Cell) (text : List ℕ) →
    AreCellsOf form fields cells → IsRowText query cells text → IsRecordText query form fields text
text_of_record query form fields cells text are written = λ assignments said.
    written assignments (said ∙ ap (said_under query.columns) (sym are) ∙ sym (said_cells query.columns cells))

pub refusal_of_record : (query : TableQuery) (form : TableForm) (fields : Fields) (cells : List Cell) (why : Failure) →
    AreCellsOf form fields cells → IsRowRefusal query cells why → IsRecordRefusal query form fields why
refusal_of_record query form fields cells why are refused = λ assignments said.
    refused assignments (said ∙ ap (said_under query.columns) (sym are) ∙ sym (said_cells query.columns cells))

-- ---- the statements of records

pub appended_none : (query : TableQuery) (form : TableForm) (text before : List ℕ) → IsTableMatched query form text → AreAppended query form text [] text before before
appended_none query form text before of = record {
  of = of;
  read = no_records text;
  lengths = λ k d h. absurd (omega arith);
  texts = [];
  written = tt;
  bytes = sym (append-nil before);
}

texts_more : (query : TableQuery) (form : TableForm) (rows : List Fields) (texts : List (List ℕ)) (fields : Fields) (text : List ℕ) →
    AreRecordTexts query form rows texts → IsRecordText query form fields text → AreRecordTexts query form (rows ++ fields ∷ []) (texts ++ text ∷ [])
texts_more query form [] [] fields text all one = (one, tt)
texts_more query form (r ∷ rows) (t ∷ texts) fields text all one = (all.0, texts_more query form rows texts fields text all.1 one)
texts_more query form [] (t ∷ texts) fields text all one = absurd all
texts_more query form (r ∷ rows) [] fields text all one = absurd all

all_one : (P : Fields → Type 0) (fields : Fields) → P fields → All P (fields ∷ [])
all_one P fields h zero d below = h
all_one P fields h (suc k) d below = absurd (omega (arith, below))

-- what is appended as records are read one by one
pub record SoFar (query : TableQuery) (form : TableForm) (text rest before after : List ℕ) (count : ℕ) : Type 0 where
  pub records : List Fields
  pub appended : AreAppended query form text records rest before after
  pub number : length records ≡ count

pub so_far_none : (query : TableQuery) (form : TableForm) (text before : List ℕ) → IsTableMatched query form text → SoFar query form text text before before 0
so_far_none query form text before of = record { records = []; appended = appended_none query form text before of; number = refl }

pub so_far_fits : (query : TableQuery) (form : TableForm) (text rest before after : List ℕ) (count : ℕ) → SoFar query form text rest before after count →
    length rest ≤ length text
so_far_fits query form text rest before after count h = rest_fits form.format text h.records rest h.appended.read

-- the statement of one record more
pub appended_more : (query : TableQuery) (form : TableForm) (text : List ℕ) (rows : List Fields) (back before script_so_far : List ℕ)
    (fields : Fields) (rest after bound : List ℕ) →
    AreAppended query form text rows back before script_so_far → BeginsWithRecord form.format back fields rest →
    length fields ≡ length form.columns.now → IsRecordText query form fields bound → after ≡ script_so_far ++ statement bound →
    AreAppended query form text (rows ++ fields ∷ []) rest before after
appended_more query form text rows back before script_so_far fields rest after bound so_far first as_many written is = record {
  of = so_far.of;
  read = read_more form.format text rows back fields rest so_far.read first;
  lengths = All-append (λ fs. length fs ≡ length form.columns.now) rows (fields ∷ []) so_far.lengths
      (all_one (λ fs. length fs ≡ length form.columns.now) fields as_many);
  texts = so_far.texts ++ bound ∷ [];
  written = texts_more query form rows so_far.texts fields bound so_far.written written;
  bytes = is ∙ ap (λ b. b ++ statement bound) so_far.bytes
      ∙ append_assoc before (script so_far.texts) (statement bound)
      ∙ ap (λ s. before ++ s) (sym (script-snoc so_far.texts bound));
}

pub so_far_more : (query : TableQuery) (form : TableForm) (text rest before so_far after : List ℕ) (count : ℕ) (fields : Fields) (more : List ℕ) →
    SoFar query form text rest before so_far count → BeginsWithRecord form.format rest fields more → length fields ≡ length form.columns.now →
    ((bound : List ℕ) × IsRecordText query form fields bound × (after ≡ so_far ++ statement bound)) →
    SoFar query form text more before after (count + 1)
so_far_more query form text rest before so_far after count fields more h first as_many bound = record {
  records = h.records ++ fields ∷ [];
  appended = appended_more query form text h.records rest before so_far fields more after bound.0 h.appended first as_many bound.1 bound.2;
  number = omega (arith, length-append h.records (fields ∷ []), h.number);
}

-- the statements of records are those of rows that say what their cells do
pub statements_of : (query : TableQuery) (form : TableForm) (text : List ℕ) (records_read : List Fields) (rest before after : List ℕ) (rows : List Row) →
    AreAppended query form text records_read rest before after → AreRowsOf query form records_read rows →
    AreStatements query.request query.query rows before after
statements_of query form text records_read rest before after rows all are =
    record { texts = all.texts; written = written records_read rows all.texts are all.written; bytes = all.bytes }
  where
    written : (fs : List Fields) (rs : List Row) (ts : List (List ℕ)) → AreRowsOf query form fs rs → AreRecordTexts query form fs ts →
        AreWritten query.request query.query rs ts
    written [] [] [] rows_are texts_are = tt
    written [] [] (t ∷ ts) rows_are texts_are = absurd texts_are
    written [] (r ∷ rs) ts rows_are texts_are = absurd rows_are
    written (f ∷ fs) [] ts rows_are texts_are = absurd rows_are
    written (f ∷ fs) (r ∷ rs) [] rows_are texts_are = absurd texts_are
    written (f ∷ fs) (r ∷ rs) (t ∷ ts) rows_are texts_are = (
      texts_are.0 r.assignments.items rows_are.0,
      written fs rs ts rows_are.1 texts_are.1,
    )

-- ---- refused records

not_empty : (rest : List ℕ) (n : ℕ) → n < length rest → rest ≢ []
not_empty [] n below e = absurd (omega (arith, below))
not_empty (b ∷ rest) n below e = cc

pub fault_behind : (form : TableForm) (text : List ℕ) (rows : List Fields) (rest : List ℕ) (found fault : Fault) →
    BeginsWithRecords form.format text rows rest → IsFaulty form.format rest found →
    fault.at ≡ length text - length rest + found.at → fault.kind ≡ found.kind → IsFaultBehind form text rest fault
fault_behind form text rows rest found fault h f at kind = record {
  first = rows_fault form.format text rows rest found fault (rows_read form.format text rows rest h) f at kind;
  place = omega (arith, at);
  some = not_empty rest found.at f.within;
  none = f.none;
}

pub text_refused : (query : TableQuery) (form : TableForm) (text rest before after : List ℕ) (count most : ℕ) (e : TableRefusal) →
    SoFar query form text rest before after count → count < most →
    ((q : TableQuery) (records : List Fields) → BeginsWithRecords form.format text records rest → IsRefusedAt q form text rest e) →
    IsTableRefused query form text before after most e
text_refused query form text rest before after count most e h below why =
    of_record h.records rest h.appended (omega (arith, h.number, below)) (why query h.records h.appended.read)

record_at : (query : TableQuery) (form : TableForm) (text rest before after : List ℕ) (count : ℕ) (fields : Fields) (more : List ℕ) (at : ℕ) →
    SoFar query form text rest before after count → BeginsWithRecord form.format rest fields more → at ≡ length text - length rest →
    IsRecordAt form text rest at fields
record_at query form text rest before after count fields more at h first is =
    record { place = place_of form.format text h.records rest at h.appended.read is; more = more; begins = first }

pub length_refused : (query : TableQuery) (form : TableForm) (text rest before after : List ℕ) (count most : ℕ) (fields : Fields) (more : List ℕ) (at number : ℕ) →
    SoFar query form text rest before after count → count < most → BeginsWithRecord form.format rest fields more → at ≡ length text - length rest →
    length fields ≡ number → number ≢ length form.columns.now →
    IsTableRefused query form text before after most (refusal.Length at number)
length_refused query form text rest before after count most fields more at number h below first is long differs =
    of_record h.records rest h.appended (omega (arith, h.number, below))
    (fields, record_at query form text rest before after count fields more at h first is, long, differs)

pub row_refused : (query : TableQuery) (form : TableForm) (text rest before so_far after : List ℕ) (count most : ℕ) (fields : Fields) (more : List ℕ) (at : ℕ) (why : Failure) →
    SoFar query form text rest before so_far count → count < most → BeginsWithRecord form.format rest fields more → at ≡ length text - length rest →
    length fields ≡ length form.columns.now → IsRecordRefusal query form fields why → after ≡ so_far →
    IsTableRefused query form text before after most (refusal.Row at why)
row_refused query form text rest before so_far after count most fields more at why h below first is as_many refused kept =
    of_record h.records rest (subst (λ s. AreAppended query form text h.records rest before s) (sym kept) h.appended)
    (omega (arith, h.number, below))
    (fields, record_at query form text rest before so_far count fields more at h first is, as_many, refused)
