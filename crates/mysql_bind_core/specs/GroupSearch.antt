-- Facts that hold while the rows of a group are read, and while its size is looked for.
use Rattle.std.specs.Prelude.{◌≡◌, ◌⊎◌, ◌+◌, ◌<◌, ◌≤◌, ℕ, true, false, List, [], length, map}
use Rattle.mysql_bind_core.specs.Contents.{item_said}
use Rattle.mysql_bind_core.specs.Groups.{AreUnfit, AreUnfitRecords, HasNoRow}
use Rattle.mysql_bind_core.specs.RowItems.{BeginsWithRow, BeginsWithRows, FollowsNone, FollowsRow, RowsSaid, rows_said}
use Rattle.mysql_bind_core.specs.RowsBound.{IsRowsWritten}
use Rattle.mysql_bind_core.specs.Scripts.{statement}
use Rattle.mysql_bind_core.specs.Tables.{BeginsWithRecords, Fields}
use Rattle.mysql_bind_core.specs.TakenQuery.{RequestedQuery}
use Rattle.mysql_bind_core.specs.declared.group.Group.{Group}
use Rattle.mysql_bind_core.specs.declared.group.Tried.{Tried}
use Rattle.mysql_bind_core.specs.declared.group.Tried.TheVariants as tried
use Rattle.mysql_bind_core.specs.declared.group_form.GroupForm.{GroupForm}
use Rattle.mysql_bind_core.specs.declared.record_rows.NextRow.{NextRow}
use Rattle.mysql_bind_core.specs.declared.record_rows.NextRow.TheVariants as next
use Rattle.mysql_bind_core.specs.declared.record_rows.ReadRows.{ReadRows}
use Rattle.mysql_bind_core.specs.declared.table_form.TableForm.{TableForm}

-- this rest is behind some records of a text
abbrev pub IsRestOf : TableForm → List ℕ → List ℕ → Type 0
IsRestOf form text rest =
    (records : List Fields) × BeginsWithRecords form.format text records rest

-- the next row in the rest of a text
abbrev pub IsNextRow : TableForm → List ℕ → List ℕ → NextRow → Type 0
IsNextRow form text rest next.End = rest ≡ []
IsNextRow form text rest (next.Row items more) =
    (fields : Fields) × BeginsWithRow form rest fields (map item_said items.items) more.now
IsNextRow form text rest (next.Refused why) =
    FollowsNone form rest × HasNoRow form text rest why

-- The rows that are read at the front of a text, at most `most`. If there are fewer, no row
-- follows. `last` is whether no row follows.
pub record AreRead (form : TableForm) (text : List ℕ) (most : ℕ) (read : ReadRows) : Type 0 where
  pub records : List Fields
  pub begins : BeginsWithRows form text records (rows_said read.rows.items) read.rest.now
  pub number : length records ≡ length read.rows.items
  pub some : 0 < length read.rows.items
  pub most_are : length read.rows.items ≤ most
  pub last : read.last ≡ true → FollowsNone form read.rest.now
  pub not_last : read.last ≡ false → FollowsRow form read.rest.now
      × (length read.rows.items ≡ most)

-- records at the front of a text, whose statement has at most `form.bytes` bytes
pub record IsFit (query : RequestedQuery) (form : GroupForm) (text : List ℕ) (group : Group)
    : Type 0 where
  pub records : List Fields
  pub rows : RowsSaid
  pub written : List ℕ
  pub begins : BeginsWithRows form.table text records rows group.rest.now
  pub number : length records ≡ group.rows
  pub some : 0 < group.rows
  pub is_written : IsRowsWritten query form.fixed.now rows written
  pub statement_is : group.statement.items ≡ statement written
  pub fits : length (statement written) ≤ form.bytes
  pub last : group.last ≡ true → FollowsNone form.table group.rest.now
  pub not_last : group.last ≡ false → FollowsRow form.table group.rest.now

-- The first `count` records of a text, more than one and at most `most`, are unfit. If there are
-- fewer than `most`, no row follows.
pub record IsUnfitTry (query : RequestedQuery) (form : GroupForm) (text : List ℕ)
    (most count : ℕ) : Type 0 where
  pub records : List Fields
  pub rows : RowsSaid
  pub rest : List ℕ
  pub begins : BeginsWithRows form.table text records rows rest
  pub number : length records ≡ count
  pub some : 1 < count
  pub most_are : count ≤ most
  pub unfit : AreUnfit query form rows
  pub last : count < most → FollowsNone form.table rest

-- the result of a try with at most `most` records at the front of a text
abbrev pub IsTried : RequestedQuery → GroupForm → List ℕ → ℕ → Tried → Type 0
IsTried query form text most (tried.Fits group) =
    IsFit query form text group × (group.rows ≤ most)
    × (group.last ≡ false → group.rows ≡ most)
IsTried query form text most (tried.Unfit count) = IsUnfitTry query form text most count

-- no group has more than `most` records: `most` is `form.rows`, or one more record makes it unfit
abbrev pub IsMost : RequestedQuery → GroupForm → List ℕ → ℕ → Type 0
IsMost query form text most =
    (most ≡ form.rows) ⊎ AreUnfitRecords query form text (most + 1)
