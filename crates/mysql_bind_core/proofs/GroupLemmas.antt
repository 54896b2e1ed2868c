-- The groups of a table's records, and what is known while the size of one is looked for.
use Rattle.std.proofs.Common.{◌≡◌, ◌∙◌, ℕ, ◌+◌, ◌-◌, ◌<◌, ◌≤◌, List, [], ◌∷◌, ◌++◌, length, map, drop, inl, inr, refl, ap, sym, subst, append_assoc, append-nil, arith, length-append}
use Rattle.std.specs.Prelude.{false}
use Rattle.std.proofs.lemmas.Bool.{cases_Bool, cases_lt}
use Rattle.std.proofs.lemmas.List.{length-map}
use Rattle.mysql_bind_core.specs.Contents.{ItemContent, item_said}
use Rattle.mysql_bind_core.specs.GroupSearch.{AreRead, IsFit, IsMost, IsRestOf, IsUnfitTry}
use Rattle.mysql_bind_core.specs.Groups.{AreGroups, AreGroupsAppended, AreUnfit, AreUnfitRecords, IsFull, IsGroup, IsGroupRefused, last_count, more_groups, no_groups, of_next, of_rows, too_long, with_row}
use Rattle.mysql_bind_core.specs.Groups as groups
use Rattle.mysql_bind_core.specs.RowItems.{BeginsWithRow, BeginsWithRows, RowsSaid, more_rows, no_rows, rows_said}
use Rattle.mysql_bind_core.specs.RowsBound.{IsRowsBoundRefusal, IsRowsWritten, is_of_memory}
use Rattle.mysql_bind_core.specs.Scripts.{script, statement}
use Rattle.mysql_bind_core.specs.Tables.{Fields, no_records}
use Rattle.mysql_bind_core.specs.TakenQuery.{RequestedQuery}
use Rattle.mysql_bind_core.specs.declared.failure.Failure.{Failure}
use Rattle.mysql_bind_core.specs.declared.group.Group.{Group}
use Rattle.mysql_bind_core.specs.declared.group_form.GroupForm.{GroupForm}
use Rattle.mysql_bind_core.specs.declared.group_form.GroupRefusal.TheVariants as refusal
use Rattle.mysql_bind_core.specs.declared.record_rows.ReadRows.{ReadRows}
use Rattle.mysql_bind_core.specs.declared.table_form.TableForm.{TableForm}
use Rattle.mysql_bind_core.proofs.RowItemLemmas.{no_rows_read, reach, records_behind, records_of_rows}
use Rattle.mysql_bind_core.proofs.ScriptLemmas.{script-snoc}
use Rattle.mysql_bind_core.proofs.TableLemmas.{place_of}

-- ---- a try

pub unfit_try : (query : RequestedQuery) (form : GroupForm) (text : List ℕ) (most : ℕ) (read : ReadRows) (count : ℕ) →
    AreRead form.table text most read → count ≡ length read.rows.items → 1 < count → AreUnfit query form (rows_said read.rows.items) →
    IsUnfitTry query form text most count
unfit_try query form text most read count are number some unfit = record {
  records = are.records;
  rows = rows_said read.rows.items;
  rest = read.rest.now;
  begins = are.begins;
  number = are.number ∙ sym number;
  some = some;
  most_are = omega (arith, are.most_are, number);
  unfit = unfit;
  last = λ fewer. elim (cases_Bool read.last) [
    | inl is ↦ are.last is
    | inr is ↦ absurd (omega (arith, (are.not_last is).1, number, fewer))
  ];
}

one_row : (form : TableForm) (text : List ℕ) (records : List Fields) (rows : RowsSaid) (rest : List ℕ) → BeginsWithRows form text records rows rest →
    length rows ≡ 1 → (fields : Fields) × (items : List ItemContent) × BeginsWithRow form text fields items rest × (rows ≡ items ∷ [])
one_row form text records rows rest (no_rows t) one = absurd (omega (arith, one))
one_row form text records rows rest (more_rows f i fs is t b r first others) one =
    let none : length is ≡ 0 = omega (arith, one) in
    (f, i, subst (λ x. BeginsWithRow form t f i x) (no_rows_read form b fs is r others none) first, ap (λ js. i ∷ js) (no_items is none))
  where
    no_items : (js : RowsSaid) → length js ≡ 0 → js ≡ []
    no_items [] none = refl
    no_items (j ∷ js) none = absurd (omega (arith, none))

-- the one row that is read
read_one : (form : TableForm) (text : List ℕ) (most : ℕ) (read : ReadRows) (count : ℕ) → AreRead form text most read → count ≡ length read.rows.items →
    count ≤ 1 → (fields : Fields) × (items : List ItemContent) × BeginsWithRow form text fields items read.rest.now × (rows_said read.rows.items ≡ items ∷ [])
read_one form text most read count are number few =
    one_row form text are.records (rows_said read.rows.items) read.rest.now are.begins
    (omega (arith, length-map read.rows.items (λ row. map item_said row.items), are.some, number, few))

place_of_rest : (form : TableForm) (text rest : List ℕ) (at : ℕ) → IsRestOf form text rest → at ≡ length text - length rest → drop at text ≡ rest
place_of_rest form text rest at h is = place_of form.format text h.0 rest at h.1 is

pub one_refused : (query : RequestedQuery) (form : GroupForm) (text rest : List ℕ) (most : ℕ) (read : ReadRows) (count at : ℕ) (why : Failure) →
    IsRestOf form.table text rest → AreRead form.table rest most read → count ≡ length read.rows.items → count ≤ 1 → at ≡ length text - length rest →
    IsRowsBoundRefusal query form.fixed.now (rows_said read.rows.items) why → is_of_memory why ≡ false →
    IsGroupRefused query form text rest (refusal.Row at why)
one_refused query form text rest most read count at why of are number few is refused other =
    let one = read_one form.table rest most read count are number few in
    with_row one.0 one.1 read.rest.now at why one.2 (place_of_rest form.table text rest at of is)
    (subst (λ rows. IsRowsBoundRefusal query form.fixed.now rows why) one.3 refused) other refl

pub one_long : (query : RequestedQuery) (form : GroupForm) (text rest : List ℕ) (most : ℕ) (read : ReadRows) (count at bytes : ℕ) (written : List ℕ) →
    IsRestOf form.table text rest → AreRead form.table rest most read → count ≡ length read.rows.items → count ≤ 1 → at ≡ length text - length rest →
    IsRowsWritten query form.fixed.now (rows_said read.rows.items) written → bytes ≡ length (statement written) → form.bytes < bytes →
    IsGroupRefused query form text rest (refusal.Long at bytes)
one_long query form text rest most read count at bytes written of are number few is bound long over =
    let one = read_one form.table rest most read count are number few in
    groups.too_long one.0 one.1 read.rest.now at written one.2 (place_of_rest form.table text rest at of is)
    (subst (λ rows. IsRowsWritten query form.fixed.now rows written) one.3 bound) (omega (arith, long, over)) (ap (λ n. refusal.Long at n) long)

-- ---- the search

-- a number of records that was asked for and is unfit
pub unfit_records : (query : RequestedQuery) (form : GroupForm) (text : List ℕ) (most count : ℕ) → IsUnfitTry query form text most count →
    AreUnfitRecords query form text count
unfit_records query form text most count h = record { records = h.records; rows = h.rows; rest = h.rest; begins = h.begins; number = h.number; unfit = h.unfit }

pub most_below : (query : RequestedQuery) (form : GroupForm) (text : List ℕ) (most count : ℕ) → IsUnfitTry query form text most count →
    IsMost query form text (count - 1)
most_below query form text most count h =
    let same : count ≡ count - 1 + 1 = omega (arith, h.some) in
    inr (subst (AreUnfitRecords query form text) same (unfit_records query form text most count h))

-- where a row follows a group, one that is unfit has more records
pub fewer_than_unfit : (query : RequestedQuery) (form : GroupForm) (text : List ℕ) (group : Group) (most count : ℕ) → IsFit query form text group →
    group.last ≡ false → group.rows < most → IsUnfitTry query form text most count → group.rows < count
fewer_than_unfit query form text group most count fit more fewer unfit =
    elim (cases_lt count most) [
      | inl less ↦ omega (
        arith,
        reach form.table text fit.records fit.rows group.rest.now unfit.records unfit.rows unfit.rest fit.begins (fit.not_last more) unfit.begins (unfit.last less),
        fit.number,
        unfit.number,
      )
      | inr all ↦ omega (arith, all, fewer, unfit.most_are)
    ]

-- and one that fits too
pub fewer_than_fit : (query : RequestedQuery) (form : GroupForm) (text : List ℕ) (group larger : Group) (most : ℕ) → IsFit query form text group →
    group.last ≡ false → group.rows < most → IsFit query form text larger → (larger.last ≡ false → larger.rows ≡ most) → group.rows < larger.rows
fewer_than_fit query form text group larger most fit more fewer other not_last =
    elim (cases_Bool larger.last) [
      | inl is ↦ omega (
        arith,
        reach form.table text fit.records fit.rows group.rest.now other.records other.rows larger.rest.now fit.begins (fit.not_last more) other.begins (other.last is),
        fit.number,
        other.number,
      )
      | inr is ↦ omega (arith, not_last is, fewer)
    ]

pub full_at_most : (query : RequestedQuery) (form : GroupForm) (text rest : List ℕ) (count most : ℕ) → IsMost query form text most → count ≡ most →
    IsFull query form text count rest
full_at_most query form text rest count most (inl all) is = of_rows (is ∙ all)
full_at_most query form text rest count most (inr unfit) is = of_next (subst (λ n. AreUnfitRecords query form text (n + 1)) (sym is) unfit)

-- ---- groups one behind the other

groups_more : (query : RequestedQuery) (form : GroupForm) (text : List ℕ) (gs : List (List Fields)) (texts : List (List ℕ)) (back : List ℕ)
    (records : List Fields) (written rest : List ℕ) → AreGroups query form text gs texts back → IsGroup query form back records rest written →
    AreGroups query form text (gs ++ records ∷ []) (texts ++ written ∷ []) rest
groups_more query form text gs texts back records written rest (no_groups t) one = more_groups records written [] [] back rest rest one (no_groups rest)
groups_more query form text gs texts back records written rest (more_groups r w gs2 ts t b e first others) one =
    more_groups r w (gs2 ++ records ∷ []) (ts ++ written ∷ []) t b rest first (groups_more query form b gs2 ts e records written rest others one)

last_count-snoc : (given : ℕ) (gs : List (List Fields)) (records : List Fields) → last_count given (gs ++ records ∷ []) ≡ length records
last_count-snoc given [] records = refl
last_count-snoc given (g ∷ gs) records = last_count-snoc (length g) gs records

-- what is appended so far
pub record GroupsSoFar (query : RequestedQuery) (form : GroupForm) (text rest before after : List ℕ) (count rows : ℕ) : Type 0 where
  pub groups : List (List Fields)
  pub appended : AreGroupsAppended query form text groups rest before after
  pub number : length groups ≡ count
  pub last : rows ≡ last_count form.start groups
  pub some : 0 < rows
  pub within : rows ≤ form.rows

pub groups_none : (query : RequestedQuery) (form : GroupForm) (text before : List ℕ) → 0 < form.start → form.start ≤ form.rows →
    GroupsSoFar query form text text before before 0 form.start
groups_none query form text before some within = record {
  groups = [];
  appended = record { texts = []; are = no_groups text; bytes = sym (append-nil before) };
  number = refl;
  last = refl;
  some = some;
  within = within;
}

is_group : (query : RequestedQuery) (form : GroupForm) (text : List ℕ) (group : Group) → (fit : IsFit query form text group) → group.rows ≤ form.rows →
    IsFull query form text group.rows group.rest.now → IsGroup query form text fit.records group.rest.now fit.written
is_group query form text group fit within full = record {
  rows = fit.rows;
  begins = fit.begins;
  some = omega (arith, fit.some, fit.number);
  most = omega (arith, within, fit.number);
  is_written = fit.is_written;
  fits = fit.fits;
  full = subst (λ n. IsFull query form text n group.rest.now) (sym fit.number) full;
}

pub so_far_group : (query : RequestedQuery) (form : GroupForm) (text rest before so_far after : List ℕ) (count rows : ℕ) (group : Group) →
    GroupsSoFar query form text rest before so_far count rows → IsFit query form rest group → group.rows ≤ form.rows →
    IsFull query form rest group.rows group.rest.now → after ≡ so_far ++ group.statement.items →
    GroupsSoFar query form text group.rest.now before after (count + 1) group.rows
so_far_group query form text rest before so_far after count rows group h fit within full is = record {
  groups = h.groups ++ fit.records ∷ [];
  appended = record {
    texts = h.appended.texts ++ fit.written ∷ [];
    are = groups_more query form text h.groups h.appended.texts rest fit.records fit.written group.rest.now h.appended.are (is_group query form rest group fit within full);
    bytes = is ∙ ap (λ s. so_far ++ s) fit.statement_is
        ∙ ap (λ b. b ++ statement fit.written) h.appended.bytes
        ∙ append_assoc before (script h.appended.texts) (statement fit.written)
        ∙ ap (λ s. before ++ s) (sym (script-snoc h.appended.texts fit.written));
  };
  number = omega (arith, length-append h.groups (fit.records ∷ []), h.number);
  last = sym (last_count-snoc form.start h.groups fit.records ∙ fit.number);
  some = fit.some;
  within = within;
}

-- the rest behind groups is one of the text
pub groups_rest : (query : RequestedQuery) (form : GroupForm) (text : List ℕ) (gs : List (List Fields)) (texts : List (List ℕ)) (rest : List ℕ) →
    AreGroups query form text gs texts rest → IsRestOf form.table text rest
groups_rest query form text gs texts rest (no_groups t) = ([], no_records t)
groups_rest query form text gs texts rest (more_groups r w gs2 ts t b e first others) =
    let more = groups_rest query form b gs2 ts e others in
    (r ++ more.0, records_behind form.table t r b more.0 e (records_of_rows form.table t r first.rows b first.begins) more.1)
