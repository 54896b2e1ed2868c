-- Columns of a row that are read one after another, and the bits that say nothing.
use Rattle.std.proofs.Common.{◌≡◌, ◌∙◌, ap, sym, subst, refl, arith, ℕ, ◌+◌, ◌<◌, Bool, List, [], ◌∷◌, ◌++◌, length, drop, get_or}
use Rattle.std.specs.Prelude.{Result, Ok, Err, IsErrAnd}
use Rattle.std.proofs.lemmas.List.{at_drop_more}
use Rattle.mysql_wire_part.specs.declared.error.WireError.{WireError}
use Rattle.mysql_wire_part.specs.Answer.{IsAnswer}
use Rattle.mysql_wire_part.specs.ParseBuf.{read_refusal}
use Rattle.mysql_wire_part.specs.Reading.{Reading, ReadRefusal, map_read, and_then_read}
use Rattle.mysql_wire_part.proofs.AnswerLemmas.{refusal_expected_too}
use Rattle.mysql_value_core.specs.declared.value.Value.{Value}
use Rattle.mysql_value_core.specs.BinaryRow.{Column, SaySameNulls, is_null_column, read_column, read_columns}
use Rattle.mysql_value_core.proofs.TextCellLemmas.{row_after, row_after-cell}

-- a value in front of those of the columns after this one
abbrev row_from_value : List ℕ → List Column → ℕ → Value → List ℕ → Reading (List Value)
row_from_value bitmap columns i value rest =
    map_read (λ values. value ∷ values)
    (read_columns bitmap (i + 1) (drop (i + 1) columns) rest)

-- the facts about the reading before the column with index i
module _ (bitmap : List ℕ) (columns : List Column) (i : ℕ) (bytes rest : List ℕ)
    (before : List Value) (within : i < length columns)
    (read_on : read_columns bitmap 0 columns bytes
    ≡ row_after before (read_columns bitmap i (drop i columns) rest))
    (null : Bool) (bit : null ≡ is_null_column bitmap i) where
  at_column : (d : Column) → read_columns bitmap 0 columns bytes
      ≡ row_after before
      (and_then_read (read_column null (get_or columns i d) rest) (row_from_value bitmap columns i))
  at_column d =
      read_on
      ∙ ap (row_after before) (at_drop_more (λ cs. read_columns bitmap i cs rest) columns i d within
      ∙ ap (λ n. and_then_read (read_column n (get_or columns i d) rest)
      (row_from_value bitmap columns i)) (sym bit))

  -- if its value is read, it comes after those so far
  pub next_column : (d : Column) (value : Value) (next : List ℕ)
      → read_column null (get_or columns i d) rest ≡ Ok (value, next)
      → read_columns bitmap 0 columns bytes
      ≡ row_after (before ++ value ∷ []) (read_columns bitmap (i + 1) (drop (i + 1) columns) next)
  next_column d value next read =
      at_column d
      ∙ ap (λ r. row_after before (and_then_read r (row_from_value bitmap columns i))) read
      ∙ row_after-cell before value (read_columns bitmap (i + 1) (drop (i + 1) columns) next)

  refused_next : (d : Column) (refusal : ReadRefusal)
      → read_column null (get_or columns i d) rest ≡ Err refusal
      → read_columns bitmap 0 columns bytes ≡ Err refusal
  refused_next d refusal read =
      at_column d
      ∙ ap (λ r. row_after before (and_then_read r (row_from_value bitmap columns i))) read

  -- its refusal is that of all of them, so it is the error that `?` returns
  pub refused_column : (d : Column) {X Y : Type 0} (seen : X → Value × List ℕ)
      (seen' : Y → List Value × List ℕ) (Takes : Type 0) (e : WireError)
      (result : Result Y WireError) → IsErrAnd result (λ e'. e' ≡ e)
      → IsAnswer seen read_refusal (read_column null (get_or columns i d) rest) ⊥ (Err e)
      → IsAnswer seen' read_refusal (read_columns bitmap 0 columns bytes) Takes result
  refused_column d seen seen' Takes e (Ok values) returned answer = absurd returned
  refused_column d seen seen' Takes e (Err e') returned answer =
      subst
      (λ e'. IsAnswer seen' read_refusal (read_columns bitmap 0 columns bytes) Takes (Err e'))
      (sym returned)
      (refusal_expected_too (read_column null (get_or columns i d) rest)
      (read_columns bitmap 0 columns bytes) ⊥ Takes (read_refusal e) (refused_next d)
      (λ none. absurd none) answer)

-- the second reading is the same, whatever the first one reads
same_after : {X Y : Type 0} (read : Reading X) (next next' : X → List ℕ → Reading Y)
    → ((x : X) (rest : List ℕ) → next x rest ≡ next' x rest)
    → and_then_read read next ≡ and_then_read read next'
same_after (Ok read) next next' same = same read.0 read.1
same_after (Err refusal) next next' same = refl

-- Bits that belong to no column say nothing.
same_columns : (bitmap bitmap' : List ℕ) (columns : List Column) (i : ℕ) (bytes : List ℕ)
    → ((k : ℕ) → k < length columns
    → is_null_column bitmap (i + k) ≡ is_null_column bitmap' (i + k))
    → read_columns bitmap i columns bytes ≡ read_columns bitmap' i columns bytes
same_columns bitmap bitmap' [] i bytes same = refl
same_columns bitmap bitmap' (column ∷ columns) i bytes same =
    let here : is_null_column bitmap i ≡ is_null_column bitmap' i =
    subst (λ n. is_null_column bitmap n ≡ is_null_column bitmap' n) (omega arith)
    (same 0 (omega arith)) in
    let after : (k : ℕ) → k < length columns
    → is_null_column bitmap ((i + 1) + k) ≡ is_null_column bitmap' ((i + 1) + k) =
    λ k within. subst (λ n. is_null_column bitmap n ≡ is_null_column bitmap' n) (omega arith)
    (same (k + 1) (omega arith)) in
    ap (λ null. and_then_read (read_column null column bytes) (λ value rest.
    map_read (λ values. value ∷ values) (read_columns bitmap (i + 1) columns rest))) here
    ∙ same_after (read_column (is_null_column bitmap' i) column bytes)
    (λ value rest. map_read (λ values. value ∷ values) (read_columns bitmap (i + 1) columns rest))
    (λ value rest. map_read (λ values. value ∷ values) (read_columns bitmap' (i + 1) columns rest))
    (λ value rest. ap (map_read (λ values. value ∷ values))
    (same_columns bitmap bitmap' columns (i + 1) rest after))

pub same_row : (columns : List Column) (bitmap bitmap' bytes : List ℕ)
    → SaySameNulls (length columns) bitmap bitmap'
    → read_columns bitmap 0 columns bytes ≡ read_columns bitmap' 0 columns bytes
same_row columns bitmap bitmap' bytes same =
    same_columns bitmap bitmap' columns 0 bytes (λ k within.
    subst (λ n. is_null_column bitmap n ≡ is_null_column bitmap' n) (omega arith) (same k within))
