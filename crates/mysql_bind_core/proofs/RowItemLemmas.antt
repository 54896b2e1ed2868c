-- The rows of records, one after another.
use Rattle.std.proofs.Common.{◌≡◌, ◌≢◌, ◌∙◌, ℕ, ◌+◌, ◌-◌, ◌<◌, ◌≤◌, List, [], ◌∷◌, ◌++◌, length, map, refl, ap, sym, subst, arith, length-append}
use Rattle.std.specs.Global.{Vec}
use Rattle.std.specs.Prelude.{◌==◌, None, Some, true, false}
use Rattle.std.proofs.lemmas.Bool.Decides.{nat_tests}
use Rattle.std.proofs.lemmas.List.{length-map, map-append}
use Rattle.mysql_fragments.specs.declared.fragment.Item.{Item}
use Rattle.mysql_records.specs.Records.{BeginsWithRecord}
use Rattle.mysql_records.proofs.RecordLemmas.{record_same}
use Rattle.mysql_bind_core.specs.Contents.{ItemContent, item_said}
use Rattle.mysql_bind_core.specs.GroupSearch.{AreRead, IsRestOf}
use Rattle.mysql_bind_core.specs.RowItems.{BeginsWithRow, BeginsWithRows, FollowsNone, FollowsRow, RowsSaid, more_rows, no_rows, row_of, rows_said}
use Rattle.mysql_bind_core.specs.Tables.{BeginsWithRecords, Fields, IsRecordAt, more_records, no_records}
use Rattle.mysql_bind_core.specs.declared.record_rows.ReadRows.{ReadRows}
use Rattle.mysql_bind_core.specs.declared.table_form.TableForm.{TableForm}
use Rattle.mysql_bind_core.proofs.TableLemmas.{place_of, rest_fits}

-- ---- records with rows

-- records with rows are records
pub records_of_rows : (form : TableForm) (text : List ℕ) (records : List Fields) (rows : RowsSaid) (rest : List ℕ) →
    BeginsWithRows form text records rows rest → BeginsWithRecords form.format text records rest
records_of_rows form text records rows rest (no_rows t) = no_records t
records_of_rows form text records rows rest (more_rows f i fs is t b r first others) = more_records f fs t b r first.begins (records_of_rows form b fs is r others)

-- as many rows as records
pub as_many_rows : (form : TableForm) (text : List ℕ) (records : List Fields) (rows : RowsSaid) (rest : List ℕ) →
    BeginsWithRows form text records rows rest → length rows ≡ length records
as_many_rows form text records rows rest (no_rows t) = refl
as_many_rows form text records rows rest (more_rows f i fs is t b r first others) = omega (arith, as_many_rows form b fs is r others)

-- one row more
pub rows_more : (form : TableForm) (text : List ℕ) (records : List Fields) (rows : RowsSaid) (back : List ℕ) (fields : Fields) (items : List ItemContent) (rest : List ℕ) →
    BeginsWithRows form text records rows back → BeginsWithRow form back fields items rest →
    BeginsWithRows form text (records ++ fields ∷ []) (rows ++ items ∷ []) rest
rows_more form text records rows back fields items rest (no_rows t) one = more_rows fields items [] [] back rest rest one (no_rows rest)
rows_more form text records rows back fields items rest (more_rows f i fs is t b r first others) one =
    more_rows f i (fs ++ fields ∷ []) (is ++ items ∷ []) t b rest first (rows_more form b fs is r fields items rest others one)

-- records behind others
pub records_behind : (form : TableForm) (text : List ℕ) (records : List Fields) (back : List ℕ) (others : List Fields) (rest : List ℕ) →
    BeginsWithRecords form.format text records back → BeginsWithRecords form.format back others rest →
    BeginsWithRecords form.format text (records ++ others) rest
records_behind form text records back others rest (no_records t) h = h
records_behind form text records back others rest (more_records f fs t b r first more) h =
    more_records f (fs ++ others) t b rest first (records_behind form b fs r others rest more h)

pub rest_behind : (form : TableForm) (text back : List ℕ) (records : List Fields) (rows : RowsSaid) (rest : List ℕ) →
    IsRestOf form text back → BeginsWithRows form back records rows rest → IsRestOf form text rest
rest_behind form text back records rows rest h more =
    (h.0 ++ records, records_behind form text h.0 back records rest h.1 (records_of_rows form back records rows rest more))

-- ---- a text begins with one record at most

pub no_row_if_long : (form : TableForm) (text : List ℕ) (fields : Fields) (rest : List ℕ) → BeginsWithRecord form.format text fields rest →
    length fields ≢ length form.columns.now → FollowsNone form text
no_row_if_long form text fields rest first differs = λ others items more row.
    differs (ap length (record_same form.format text fields others rest more first row.begins).0 ∙ row.as_many)

pub no_row_if_none : (form : TableForm) (text : List ℕ) (fields : Fields) (rest : List ℕ) → BeginsWithRecord form.format text fields rest →
    row_of form fields ≡ None → FollowsNone form text
no_row_if_none form text fields rest first none = λ others items more row.
    let same = (record_same form.format text fields others rest more first row.begins).0 in
    let both : Some items ≡ None = sym row.items_are ∙ (ap (row_of form) (sym same) ∙ none) in
    cc

pub no_row_at_end : (form : TableForm) (text : List ℕ) → text ≡ [] → FollowsNone form text
no_row_at_end form text empty = λ fields items rest row. row.begins.some empty

pub no_row_if_fault : (form : TableForm) (text : List ℕ) →
    ((fields : Fields) (more : List ℕ) → BeginsWithRecord form.format text fields more → ⊥) → FollowsNone form text
no_row_if_fault form text none = λ fields items rest row. none fields rest row.begins

-- Where a row follows records, and none follows others of the same text, there are more of the others.
pub reach : (form : TableForm) (text : List ℕ) (records : List Fields) (rows : RowsSaid) (rest : List ℕ)
    (others : List Fields) (more : RowsSaid) (end : List ℕ) →
    BeginsWithRows form text records rows rest → FollowsRow form rest →
    BeginsWithRows form text others more end → FollowsNone form end → length records < length others
reach form text records rows rest others more end (no_rows t) follows (no_rows u) none = absurd (none follows.0 follows.1 follows.2 follows.3)
reach form text records rows rest others more end (no_rows t) follows (more_rows f i fs is u b r first rest2) none = omega arith
reach form text records rows rest others more end (more_rows f i fs is t b r first behind) follows (no_rows u) none = absurd (none f i b first)
reach form text records rows rest others more end (more_rows f i fs is t b r first behind) follows (more_rows g j gs js u d s second after) none =
    let same = record_same form.format text f g b d first.begins second.begins in
    omega (arith, reach form b fs is r gs js s behind follows (subst (λ x. BeginsWithRows form x gs js s) (sym same.1) after) none)

-- ---- rows as they are read

pub rows_said-push : (rows : List (Vec Item)) (items : Vec Item) → rows_said (rows ++ items ∷ []) ≡ rows_said rows ++ map item_said items.items ∷ []
rows_said-push rows items = map-append (λ row. map item_said row.items) rows (items ∷ [])

-- the rest of a text is no longer than it, and begins at an index
pub rest_of_fits : (form : TableForm) (text rest : List ℕ) → IsRestOf form text rest → length rest ≤ length text
rest_of_fits form text rest h = rest_fits form.format text h.0 rest h.1

-- the record at the front of the rest of a text
pub record_at_rest : (form : TableForm) (text rest : List ℕ) (fields : Fields) (more : List ℕ) (at : ℕ) → IsRestOf form text rest →
    BeginsWithRecord form.format rest fields more → at ≡ length text - length rest → IsRecordAt form text rest at fields
record_at_rest form text rest fields more at h first is =
    record { place = place_of form.format text h.0 rest at h.1 is; more = more; begins = first }

-- without a row nothing is read
pub no_rows_read : (form : TableForm) (text : List ℕ) (records : List Fields) (rows : RowsSaid) (rest : List ℕ) →
    BeginsWithRows form text records rows rest → length rows ≡ 0 → text ≡ rest
no_rows_read form text records rows rest (no_rows t) none = refl
no_rows_read form text records rows rest (more_rows f i fs is t b r first others) none = absurd (omega (arith, none))

-- what is read so far
pub record RowsSoFar (form : TableForm) (text : List ℕ) (rows : List (Vec Item)) (rest : List ℕ) (count : ℕ) : Type 0 where
  pub records : List Fields
  pub begins : BeginsWithRows form text records (rows_said rows) rest
  pub number : length rows ≡ count

pub so_far_none : (form : TableForm) (text : List ℕ) → RowsSoFar form text [] text 0
so_far_none form text = record { records = []; begins = no_rows text; number = refl }

pub so_far_more : (form : TableForm) (text : List ℕ) (rows more : List (Vec Item)) (rest : List ℕ) (count : ℕ) (items : Vec Item) (behind : List ℕ) →
    RowsSoFar form text rows rest count → ((fields : Fields) × BeginsWithRow form rest fields (map item_said items.items) behind) →
    more ≡ rows ++ items ∷ [] → RowsSoFar form text more behind (count + 1)
so_far_more form text rows more rest count items behind h one pushed = record {
  records = h.records ++ one.0 ∷ [];
  begins = subst (λ said. BeginsWithRows form text (h.records ++ one.0 ∷ []) said behind) (sym (ap rows_said pushed ∙ rows_said-push rows items))
      (rows_more form text h.records (rows_said rows) rest one.0 (map item_said items.items) behind h.begins one.1);
  number = omega (arith, ap length pushed, length-append rows (items ∷ []), h.number);
}

pub so_far_rest : (form : TableForm) (text start : List ℕ) (rows : List (Vec Item)) (rest : List ℕ) (count : ℕ) → IsRestOf form text start →
    RowsSoFar form start rows rest count → IsRestOf form text rest
so_far_rest form text start rows rest count h so_far = rest_behind form text start so_far.records (rows_said rows) rest h so_far.begins

-- nothing is read yet, if there is no row
pub so_far_same : (form : TableForm) (start : List ℕ) (rows : List (Vec Item)) (rest : List ℕ) (count : ℕ) →
    RowsSoFar form start rows rest count → length rows ≡ 0 → start ≡ rest
so_far_same form start rows rest count h none =
    no_rows_read form start h.records (rows_said rows) rest h.begins (length-map rows (λ row. map item_said row.items) ∙ none)

pub so_far_some : (form : TableForm) (start : List ℕ) (rows : List (Vec Item)) (rest : List ℕ) (count : ℕ) →
    RowsSoFar form start rows rest count → start ≢ [] → rest ≡ [] → 0 < length rows
so_far_some form start [] rest count h some empty = absurd (some (so_far_same form start [] rest count h refl ∙ empty))
so_far_some form start (row ∷ rows) rest count h some empty = omega arith

-- what is read at last
pub are_read : (form : TableForm) (text : List ℕ) (most : ℕ) (read : ReadRows) (count : ℕ) → RowsSoFar form text read.rows.items read.rest.now count →
    0 < length read.rows.items → length read.rows.items ≤ most → (read.last ≡ true → FollowsNone form read.rest.now) →
    (read.last ≡ false → FollowsRow form read.rest.now × (length read.rows.items ≡ most)) → AreRead form text most read
are_read form text most read count h some few last not_last = record {
  records = h.records;
  begins = h.begins;
  number = sym (as_many_rows form text h.records (rows_said read.rows.items) read.rest.now h.begins) ∙ length-map read.rows.items (λ row. map item_said row.items);
  some = some;
  most_are = few;
  last = last;
  not_last = not_last;
}

-- whether there is none, by a test
pub none_if : (n : ℕ) → true ≡ (n == 0) → n ≡ 0
none_if n h = grind (arith, nat_tests)

pub some_if : (n : ℕ) → false ≡ (n == 0) → 0 < n
some_if n h = grind (arith, nat_tests)
