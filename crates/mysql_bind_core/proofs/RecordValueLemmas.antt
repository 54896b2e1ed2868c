-- The values of a table's records: there are assignments that say the same, and with a header they
-- are those of the columns' names.
use Rattle.std.proofs.Common.{◌≡◌, ◌∙◌, ℕ, Bool, true, false, suc, ◌+◌, ◌<◌, ◌≤◌, ◌^◌, List, [], ◌∷◌, ◌++◌, length, map, Option, None, Some, All, refl, ap, sym, append_assoc, arith, length-append}
use Rattle.std.specs.Prelude.{if◌then◌else◌, ⊤}
use Rattle.std.specs.Global.{Global, Vec}
use Rattle.std.proofs.lemmas.List.{length-map}
use denote.RawPtr.{null_ptr}
use Rattle.mysql_records.specs.Records.{BeginsWithRecord, IsField, IsPiece, IsPieces, IsRecord, bare, doubled, enclosed, escape, more_fields, more_pieces, no_pieces, null, one_field, raw}
use Rattle.mysql_records.specs.Formats.{quote, separator}
use Rattle.mysql_records.specs.declared.format.RecordFormat.{RecordFormat}
use Rattle.mysql_bind_core.specs.Cells.{Said, TableQuery, assignment_said}
use Rattle.mysql_bind_core.specs.Headers.{AreRowsUnder, used_names, values_under}
use Rattle.mysql_bind_core.specs.Scripts.{AreStatements}
use Rattle.mysql_bind_core.specs.Tables.{AreAppended, AreRowsOf, AreValuesOf, BeginsWithRecords, CellSaid, Fields, IsTableMatched, cell_said, column_said, field_said, fields_said, more_records, no_records, record_said, said_under}
use Rattle.mysql_bind_core.specs.declared.assignment.Assignment.{Assignment}
use Rattle.mysql_bind_core.specs.declared.cell.Cell.{Cell}
use Rattle.mysql_bind_core.specs.declared.row.Row.{Row}
use Rattle.mysql_bind_core.specs.declared.table_form.TableColumn.{TableColumn}
use Rattle.mysql_bind_core.specs.declared.table_form.TableForm.{TableForm}
use Rattle.mysql_bind_core.proofs.TableLemmas.{rest_fits, statements_of}

-- ---- the fields of a record are no longer than its text

piece_some : (format : RecordFormat) (quoted : Bool) (b : ℕ) (text : List ℕ) → IsPiece format quoted b text → 1 ≤ length text
piece_some format quoted b text (raw c h) = omega arith
piece_some format quoted b text (doubled h) = omega arith
piece_some format quoted b text (escape c d h e) = omega arith

pieces_fit : (format : RecordFormat) (quoted : Bool) (bytes text : List ℕ) → IsPieces format quoted bytes text → length bytes ≤ length text
pieces_fit format quoted bytes text no_pieces = omega arith
pieces_fit format quoted bytes text (more_pieces b t bs rest one more) =
    omega (arith, piece_some format quoted b t one, pieces_fit format quoted bs rest more, length-append t rest)

-- so many bytes hold a field
abbrev pub FieldFits : ℕ → Option (List ℕ) → Type 0
FieldFits n None = ⊤
FieldFits n (Some bytes) = length bytes ≤ n

-- and each field
abbrev pub FieldsFit : ℕ → Fields → Type 0
FieldsFit n [] = ⊤
FieldsFit n (field ∷ fields) = FieldFits n field × FieldsFit n fields

-- and each field of each record
abbrev pub RecordsFit : ℕ → List Fields → Type 0
RecordsFit n [] = ⊤
RecordsFit n (fields ∷ records) = FieldsFit n fields × RecordsFit n records

field_fits_more : (n m : ℕ) (field : Option (List ℕ)) → n ≤ m → FieldFits n field → FieldFits m field
field_fits_more n m None more h = tt
field_fits_more n m (Some bytes) more h = omega (arith, more, h)

fields_fit_more : (n m : ℕ) (fields : Fields) → n ≤ m → FieldsFit n fields → FieldsFit m fields
fields_fit_more n m [] more h = tt
fields_fit_more n m (f ∷ fs) more h = (field_fits_more n m f more h.0, fields_fit_more n m fs more h.1)

field_fits : (format : RecordFormat) (field : Option (List ℕ)) (text : List ℕ) → IsField format field text → FieldFits (length text) field
field_fits format field text (bare bytes t h) = pieces_fit format false bytes t h
field_fits format field text (enclosed bytes t q h) = omega (arith, pieces_fit format true bytes t h, length-append t (quote ∷ []))
field_fits format field text (null h) = tt

fields_fit : (format : RecordFormat) (fields : Fields) (text : List ℕ) → IsRecord format fields text → FieldsFit (length text) fields
fields_fit format fields text (one_field f t h) = (field_fits format f t h, tt)
fields_fit format fields text (more_fields f fs t rest h others) = (
  field_fits_more (length t) (length (t ++ separator format ∷ rest)) f (omega (arith, length-append t (separator format ∷ rest))) (field_fits format f t h),
  fields_fit_more (length rest) (length (t ++ separator format ∷ rest)) fs (omega (arith, length-append t (separator format ∷ rest))) (fields_fit format fs rest others),
)

record_fits : (format : RecordFormat) (text : List ℕ) (fields : Fields) (rest : List ℕ) → BeginsWithRecord format text fields rest → FieldsFit (length text) fields
record_fits format text fields rest h =
    fields_fit_more (length h.then.front) (length text) fields
    (omega (arith, ap length h.then.whole, length-append h.then.front h.then.back))
    (fields_fit format fields h.then.front h.then.is_record)

records_fit : (format : RecordFormat) (text : List ℕ) (records : List Fields) (rest : List ℕ) (n : ℕ) → BeginsWithRecords format text records rest → length text ≤ n →
    RecordsFit n records
records_fit format text records rest n (no_records t) within = tt
records_fit format text records rest n (more_records f fs t b r first others) within = (
  fields_fit_more (length t) n f within (record_fits format t f b first),
  records_fit format b fs r n others (omega (arith, within, rest_fits format t (f ∷ []) b (more_records f [] t b b first (no_records b)))),
)

-- ---- what a record says fits into memory

-- the bytes of each cell fit into memory
abbrev pub SaidFit : List CellSaid → Type 0
SaidFit [] = ⊤
SaidFit (said ∷ others) = (length said.1 < 2 ^ 63) × SaidFit others

said_fit_append : (xs ys : List CellSaid) → SaidFit xs → SaidFit ys → SaidFit (xs ++ ys)
said_fit_append [] ys h k = k
said_fit_append (x ∷ xs) ys h k = (h.0, said_fit_append xs ys h.1 k)

said_fit_if : (used : Bool) (said : List CellSaid) → SaidFit said → SaidFit (if used then said else [])
said_fit_if true said h = h
said_fit_if false said h = tt

column_fits : (column : TableColumn) (field : Option (List ℕ)) (n : ℕ) → FieldFits n field → n < 2 ^ 63 → SaidFit (column_said column field)
column_fits column None n h small = said_fit_if column.used (field_said column None ∷ []) (omega arith, tt)
column_fits column (Some bytes) n h small = said_fit_if column.used (field_said column (Some bytes) ∷ []) (omega (arith, h, small), tt)

columns_fit : (columns : List TableColumn) (fields : Fields) (n : ℕ) → FieldsFit n fields → n < 2 ^ 63 → SaidFit (fields_said columns fields)
columns_fit [] fields n h small = tt
columns_fit (c ∷ cs) [] n h small = tt
columns_fit (c ∷ cs) (f ∷ fs) n h small = said_fit_append (column_said c f) (fields_said cs fs) (column_fits c f n h.0 small) (columns_fit cs fs n h.1 small)

cells_fit : (cells : List Cell) → All (λ (cell : Cell). length cell.bytes.now < 2 ^ 63) cells → SaidFit (map cell_said cells)
cells_fit [] h = tt
cells_fit (c ∷ cs) h = (h 0 c (omega arith), cells_fit cs (λ i d below. h (suc i) d (omega (arith, below))))

record_said_fits : (query : TableQuery) (form : TableForm) (text : List ℕ) (fields : Fields) → IsTableMatched query form text → FieldsFit (length text) fields →
    SaidFit (record_said form fields)
record_said_fits query form text fields of h =
    said_fit_append (fields_said form.columns.now fields) (map cell_said form.fixed.now)
    (columns_fit form.columns.now fields (length text) h of.text_fits) (cells_fit form.fixed.now of.fixed_fit)

-- ---- assignments of what is said

-- a vector that fits into memory
abbrev vector : {X : Type 0} → Global → (items : List X) → length items < 2 ^ 63 → Vec X
vector alloc items fits = record {
  ptr = null_ptr;
  len = length items;
  cap = length items;
  alloc = alloc;
  items = items;
  ok = (refl, omega arith);
  small = fits;
}

assigned : Global → (names : List (List ℕ)) (said : List CellSaid) → All (λ name. length name < 2 ^ 63) names → SaidFit said →
    (assignments : List Assignment) × (map assignment_said assignments ≡ said_under names said)
assigned alloc [] said fit h = ([], refl)
assigned alloc (n ∷ ns) [] fit h = ([], refl)
assigned alloc (n ∷ ns) (c ∷ cs) fit h =
    let one : Assignment = record { name = vector alloc n (fit 0 [] (omega arith)); value_type = c.0; bytes = vector alloc c.1 h.0 } in
    let more = assigned alloc ns cs (λ i d below. fit (suc i) d (omega (arith, below))) h.1 in
    (one ∷ more.0, ap (λ (said : List Said). assignment_said one ∷ said) more.1)

under_length : (names : List (List ℕ)) (said : List CellSaid) → length (said_under names said) ≤ length names
under_length [] said = omega arith
under_length (n ∷ ns) [] = omega arith
under_length (n ∷ ns) (c ∷ cs) = omega (arith, under_length ns cs)

row_of_record : Global → (query : TableQuery) (form : TableForm) (text : List ℕ) (fields : Fields) → IsTableMatched query form text → FieldsFit (length text) fields →
    (row : Row) × AreValuesOf query form fields row.assignments.items
row_of_record alloc query form text fields of h =
    let found = assigned alloc query.columns (record_said form fields) of.names_fit (record_said_fits query form text fields of h) in
    let few : length found.0 < 2 ^ 63 =
    omega (arith, length-map found.0 assignment_said, ap length found.1, under_length query.columns (record_said form fields), of.few) in
    (record { assignments = vector alloc found.0 few }, found.1)

rows_of : Global → (query : TableQuery) (form : TableForm) (text : List ℕ) (records : List Fields) → IsTableMatched query form text → RecordsFit (length text) records →
    (rows : List Row) × AreRowsOf query form records rows
rows_of alloc query form text [] of h = ([], tt)
rows_of alloc query form text (f ∷ fs) of h =
    let one = row_of_record alloc query form text f of h.0 in
    let more = rows_of alloc query form text fs of h.1 in
    (one.0 ∷ more.0, (one.1, more.1))

-- there are rows that say the same as the records, and theirs are the statements
pub rows_of_records : Global → (query : TableQuery) (form : TableForm) (text : List ℕ) (records : List Fields) (rest before after : List ℕ) →
    AreAppended query form text records rest before after →
    (rows : List Row) × AreRowsOf query form records rows × AreStatements query.request query.query rows before after
rows_of_records alloc query form text records rest before after h =
    let found = rows_of alloc query form text records h.of (records_fit form.format text records rest (length text) h.read (omega arith)) in
    (found.0, found.1, statements_of query form text records rest before after found.0 h found.1)

-- ---- the values under a header

under_column : (used : Bool) (name : List ℕ) (said : CellSaid) (names : List (List ℕ)) (others : List CellSaid) →
    said_under (if used then name ∷ names else names) ((if used then said ∷ [] else []) ++ others)
    ≡ (if used then (name, said) ∷ said_under names others else said_under names others)
under_column true name said names others = refl
under_column false name said names others = refl

used_append : (used : Bool) (name : List ℕ) (names fixed : List (List ℕ)) →
    (if used then name ∷ names else names) ++ fixed ≡ (if used then name ∷ (names ++ fixed) else (names ++ fixed))
used_append true name names fixed = refl
used_append false name names fixed = refl

values_append : (used : Bool) (one : Said) (front back : List Said) →
    (if used then one ∷ (front ++ back) else (front ++ back)) ≡ (if used then one ∷ front else front) ++ back
values_append true one front back = refl
values_append false one front back = refl

-- what is said under the names of used columns and further names is the values under a header, and
-- what the further cells say
pub under_header : (columns : List TableColumn) (names fixed : List (List ℕ)) (fields : Fields) (more : List CellSaid) →
    length names ≡ length columns → length fields ≡ length columns →
    said_under (used_names columns names ++ fixed) (fields_said columns fields ++ more)
    ≡ values_under columns names fields ++ said_under fixed more
under_header [] names fixed fields more named as_many = refl
under_header (c ∷ cs) [] fixed fields more named as_many = absurd (omega (arith, named))
under_header (c ∷ cs) (n ∷ ns) fixed [] more named as_many = absurd (omega (arith, as_many))
under_header (c ∷ cs) (n ∷ ns) fixed (f ∷ fs) more named as_many =
    let rest = under_header cs ns fixed fs more (omega (arith, named)) (omega (arith, as_many)) in
    ap (λ xs. said_under xs ((column_said c f ++ fields_said cs fs) ++ more)) (used_append c.used n (used_names cs ns) fixed)
    ∙ ap (λ ys. said_under (if c.used then n ∷ (used_names cs ns ++ fixed) else (used_names cs ns ++ fixed)) ys) (append_assoc (column_said c f) (fields_said cs fs) more)
    ∙ under_column c.used n (field_said c f) (used_names cs ns ++ fixed) (fields_said cs fs ++ more)
    ∙ ap (λ (zs : List Said). if c.used then (n, field_said c f) ∷ zs else zs) rest
    ∙ values_append c.used (n, field_said c f) (values_under cs ns fs) (said_under fixed more)

pub rows_under : (query : TableQuery) (form : TableForm) (names fixed : List (List ℕ)) (records : List Fields) (rows : List Row) →
    length names ≡ length form.columns.now → query.columns ≡ used_names form.columns.now names ++ fixed →
    All (λ fields. length fields ≡ length form.columns.now) records → AreRowsOf query form records rows → AreRowsUnder form names fixed records rows
rows_under query form names fixed [] [] named are lengths h = tt
rows_under query form names fixed [] (r ∷ rows) named are lengths h = absurd h
rows_under query form names fixed (f ∷ fs) [] named are lengths h = absurd h
rows_under query form names fixed (f ∷ fs) (r ∷ rows) named are lengths h = (
  h.0 ∙ ap (λ xs. said_under xs (record_said form f)) are
      ∙ under_header form.columns.now names fixed f (map cell_said form.fixed.now) named (lengths 0 f (omega arith)),
  rows_under query form names fixed fs rows named are (λ i d below. lengths (suc i) d (omega (arith, below))) h.1,
)
