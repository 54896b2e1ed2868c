-- The statements of groups of a table's records: the records of a group, the groups of a text up to
-- a rest, and why the next record has no statement.
use Rattle.std.specs.Prelude.{◌≡◌, ◌≢◌, ◌+◌, ◌<◌, ◌≤◌, ℕ, false, List, [], ◌∷◌, ◌++◌, None, length, drop, ⊤}
use Rattle.mysql_bind_core.specs.Contents.{ItemContent}
use Rattle.mysql_bind_core.specs.RowItems.{BeginsWithRow, BeginsWithRows, FollowsNone, RowsSaid, row_of}
use Rattle.mysql_bind_core.specs.RowsBound.{IsRowsBoundRefusal, IsRowsWritten, is_of_memory}
use Rattle.mysql_bind_core.specs.Scripts.{script, statement}
use Rattle.mysql_bind_core.specs.Tables.{Fields, IsFaultBehind, IsRecordAt}
use Rattle.mysql_bind_core.specs.TakenQuery.{RequestedQuery}
use Rattle.mysql_bind_core.specs.declared.failure.Failure.{Failure}
use Rattle.mysql_bind_core.specs.declared.failure.Failure.TheVariants as failure
use Rattle.mysql_bind_core.specs.declared.group_form.GroupForm.{GroupForm}
use Rattle.mysql_bind_core.specs.declared.group_form.GroupRefusal.{GroupRefusal}
use Rattle.mysql_bind_core.specs.declared.group_form.GroupRefusal.TheVariants as refusal
use Rattle.mysql_bind_core.specs.declared.table_form.TableForm.{TableForm}

-- ---- groups

-- rows that say this have no statement of at most `form.bytes` bytes
pub data AreUnfit (query : RequestedQuery) (form : GroupForm) (rows : RowsSaid) : Type 0 where
  -- their statement is longer
  too_long : (text : List ℕ) → IsRowsWritten query form.fixed.now rows text →
      form.bytes < length (statement text) → AreUnfit query form rows
  -- or they have none, for another reason than memory
  refused : (why : Failure) → is_of_memory why ≡ false →
      IsRowsBoundRefusal query form.fixed.now rows why → AreUnfit query form rows

-- the first `count` records of a text have rows, and the rows are unfit
pub record AreUnfitRecords (query : RequestedQuery) (form : GroupForm) (text : List ℕ) (count : ℕ)
    : Type 0 where
  pub records : List Fields
  pub rows : RowsSaid
  pub rest : List ℕ
  pub begins : BeginsWithRows form.table text records rows rest
  pub number : length records ≡ count
  pub unfit : AreUnfit query form rows

-- why a group of `count` records at the front of a text, with this rest behind it, takes no further
-- record: it has `form.rows` records, or no row follows, or one more record makes it unfit
pub data IsFull (query : RequestedQuery) (form : GroupForm) (text : List ℕ) (count : ℕ)
    (rest : List ℕ) : Type 0 where
  of_rows : count ≡ form.rows → IsFull query form text count rest
  of_rest : FollowsNone form.table rest → IsFull query form text count rest
  of_next : AreUnfitRecords query form text (count + 1) → IsFull query form text count rest

-- A text begins with a group of these records, and this rest is behind them. The group has from 1
-- to `form.rows` records, and takes no further one. `written` is its text, whose statement has at
-- most `form.bytes` bytes.
pub record IsGroup (query : RequestedQuery) (form : GroupForm) (text : List ℕ)
    (records : List Fields) (rest written : List ℕ) : Type 0 where
  pub rows : RowsSaid
  pub begins : BeginsWithRows form.table text records rows rest
  pub some : 0 < length records
  pub most : length records ≤ form.rows
  pub is_written : IsRowsWritten query form.fixed.now rows written
  pub fits : length (statement written) ≤ form.bytes
  pub full : IsFull query form text (length records) rest

-- a text begins with these groups, one behind the other, for which these texts are written, and
-- this rest is behind the last one
pub data AreGroups (query : RequestedQuery) (form : GroupForm)
    : List ℕ → List (List Fields) → List (List ℕ) → List ℕ → Type 0 where
  no_groups : (text : List ℕ) → AreGroups query form text [] [] text
  more_groups : (records : List Fields) (written : List ℕ) (groups : List (List Fields))
      (texts : List (List ℕ)) (text back rest : List ℕ) →
      IsGroup query form text records back written → AreGroups query form back groups texts rest →
      AreGroups query form text (records ∷ groups) (written ∷ texts) rest

-- the records of groups, in their order
abbrev pub records_of : List (List Fields) → List Fields
records_of [] = []
records_of (records ∷ groups) = records ++ records_of groups

-- how many records the last group has, or the number `given` if there is no group
abbrev pub last_count : ℕ → List (List Fields) → ℕ
last_count given [] = given
last_count given (records ∷ groups) = last_count (length records) groups

-- A text begins with these groups, and this rest is behind them. A script gets their statements
-- behind its earlier bytes, and nothing else.
pub record AreGroupsAppended (query : RequestedQuery) (form : GroupForm) (text : List ℕ)
    (groups : List (List Fields)) (rest before after : List ℕ) : Type 0 where
  pub texts : List (List ℕ)
  pub are : AreGroups query form text groups texts rest
  pub bytes : after ≡ before ++ script texts

-- ---- refused records

-- why the record at the front of the rest of a text has no row, or out of memory
abbrev pub HasNoRow : TableForm → List ℕ → List ℕ → GroupRefusal → Type 0
HasNoRow form text rest (refusal.Record fault) = IsFaultBehind form text rest fault
HasNoRow form text rest (refusal.Length at number) =
    (fields : Fields) × IsRecordAt form text rest at fields × (length fields ≡ number)
    × (number ≢ length form.columns.now)
HasNoRow form text rest (refusal.Row at why) =
    (fields : Fields) × IsRecordAt form text rest at fields
    × (length fields ≡ length form.columns.now) × (row_of form fields ≡ None)
    × (why ≡ failure.NoValue)
HasNoRow form text rest (refusal.Long at number) = ⊥
HasNoRow form text rest (refusal.Memory error) = ⊤

-- Why the record at the front of the rest of a text has no statement, or out of memory: it has no
-- row, or a statement of only its row is too long, or is refused for another reason than memory.
pub data IsGroupRefused (query : RequestedQuery) (form : GroupForm) (text rest : List ℕ)
    (why : GroupRefusal) : Type 0 where
  without_row : HasNoRow form.table text rest why → IsGroupRefused query form text rest why
  with_row : (fields : Fields) (items : List ItemContent) (behind : List ℕ) (at : ℕ)
      (cause : Failure) →
      BeginsWithRow form.table rest fields items behind → drop at text ≡ rest →
      IsRowsBoundRefusal query form.fixed.now (items ∷ []) cause → is_of_memory cause ≡ false →
      why ≡ refusal.Row at cause → IsGroupRefused query form text rest why
  too_long : (fields : Fields) (items : List ItemContent) (behind : List ℕ) (at : ℕ)
      (written : List ℕ) →
      BeginsWithRow form.table rest fields items behind → drop at text ≡ rest →
      IsRowsWritten query form.fixed.now (items ∷ []) written →
      form.bytes < length (statement written) →
      why ≡ refusal.Long at (length (statement written)) → IsGroupRefused query form text rest why
