-- Cells that are read one after another: those read so far, and the reading of the rest.
use Rattle.std.proofs.Common.{◌≡◌, ◌∙◌, ◌⊎◌, ap, sym, refl, inl, inr, arith, ℕ, zero, suc, ◌+◌, ◌-◌, ◌<◌, List, [], ◌∷◌, ◌++◌, append_assoc, subst}
use Rattle.std.specs.Prelude.{Result, Ok, Err, IsOk, IsErrAnd}
use Rattle.mysql_wire_part.specs.declared.error.WireError.{WireError}
use Rattle.mysql_wire_part.specs.Answer.{IsAnswer}
use Rattle.mysql_wire_part.specs.ParseBuf.{read_refusal}
use Rattle.mysql_wire_part.specs.Reading.{Reading, ReadRefusal, map_read, and_then_read}
use Rattle.mysql_wire_part.proofs.AnswerLemmas.{refusal_expected_too}
use Rattle.mysql_value_core.specs.declared.value.Value.{Value}
use Rattle.mysql_value_core.specs.TextCell.{read_cell, read_cells, ReadsBytes, ReadsACell}

-- the cells so far, in front of those that are read next
abbrev pub row_after : List Value → Reading (List Value) → Reading (List Value)
row_after before read = map_read (λ cells. before ++ cells) read

-- a cell in front of those that are read next
abbrev row_from_cell : ℕ → Value → List ℕ → Reading (List Value)
row_from_cell count cell rest = map_read (λ cells. cell ∷ cells) (read_cells count rest)

-- one cell more is read so far, and one fewer next
pub row_after-cell : (before : List Value) (cell : Value) (read : Reading (List Value))
    → row_after before (map_read (λ cells. cell ∷ cells) read) ≡ row_after (before ++ cell ∷ []) read
row_after-cell before cell (Ok read) =
    ap (λ cells. Ok (cells, read.1)) (sym (append_assoc before (cell ∷ []) read.0))
row_after-cell before cell (Err refusal) = refl

-- a reading of bytes is one
reads : (read : Reading Value) → ReadsBytes read → IsOk read
reads (Ok read) bytes = refl
reads (Err refusal) bytes = absurd bytes

-- if a cell is wanted and the first is read, a cell is read
reads_a_cell : (count : ℕ) (bytes : List ℕ) → 0 < count → IsOk (read_cell bytes)
    → ReadsACell count bytes
reads_a_cell zero bytes some read = absurd (omega arith)
reads_a_cell (suc count) bytes some read = read

-- the facts about the reading after `counter` of `count` cells
module _ (count counter : ℕ) (bytes rest : List ℕ) (before : List Value)
    (within : counter < count)
    (read_on : read_cells count bytes ≡ row_after before (read_cells (count - counter) rest)) where
  one_more : read_cells count bytes
      ≡ row_after before (and_then_read (read_cell rest) (row_from_cell (count - (counter + 1))))
  one_more =
      let next : count - counter ≡ suc (count - (counter + 1)) = omega arith in
      read_on ∙ ap (λ n. row_after before (read_cells n rest)) next

  -- if this cell is read, it comes after those so far
  pub next_cell : (cell : Value) (next : List ℕ) → read_cell rest ≡ Ok (cell, next)
      → read_cells count bytes
      ≡ row_after (before ++ cell ∷ []) (read_cells (count - (counter + 1)) next)
  next_cell cell next read =
      one_more
      ∙ ap (λ r. row_after before (and_then_read r (row_from_cell (count - (counter + 1))))) read
      ∙ row_after-cell before cell (read_cells (count - (counter + 1)) next)

  refused_next : (refusal : ReadRefusal) → read_cell rest ≡ Err refusal
      → read_cells count bytes ≡ Err refusal
  refused_next refusal read =
      one_more
      ∙ ap (λ r. row_after before (and_then_read r (row_from_cell (count - (counter + 1))))) read

  -- the refusal of this cell is that of all of them, so it is the error that `?` returns
  pub refused_cell : {X Y : Type 0} (seen : X → Value × List ℕ) (seen' : Y → List Value × List ℕ)
      (Takes Takes' : Type 0) → (Takes → Takes') → (e : WireError) (result : Result Y WireError)
      → IsErrAnd result (λ e'. e' ≡ e) → IsAnswer seen read_refusal (read_cell rest) Takes (Err e)
      → IsAnswer seen' read_refusal (read_cells count bytes) Takes' result
  refused_cell seen seen' Takes Takes' takes e (Ok cells) returned answer = absurd returned
  refused_cell seen seen' Takes Takes' takes e (Err e') returned answer =
      subst
      (λ e'. IsAnswer seen' read_refusal (read_cells count bytes) Takes' (Err e'))
      (sym returned)
      (refusal_expected_too (read_cell rest) (read_cells count bytes) Takes Takes'
      (read_refusal e) refused_next takes answer)

  -- if this cell is read, so is the first
  pub first_cell : ((counter ≡ 0) × (rest ≡ bytes)) ⊎ ReadsACell count bytes
      → IsOk (read_cell rest) → ReadsACell count bytes
  first_cell first read = elim first [
    | inl here ↦
        reads_a_cell count bytes (omega arith) (subst (λ bs. IsOk (read_cell bs)) here.1 read)
    | inr cell ↦ cell
  ]

  -- a cell that allocates is one of a row that does
  pub cell_refused : ((counter ≡ 0) × (rest ≡ bytes)) ⊎ ReadsACell count bytes
      → {X Y : Type 0} (seen : X → Value × List ℕ) (seen' : Y → List Value × List ℕ)
      (e : WireError) (result : Result Y WireError) → IsErrAnd result (λ e'. e' ≡ e)
      → IsAnswer seen read_refusal (read_cell rest) (ReadsBytes (read_cell rest)) (Err e)
      → IsAnswer seen' read_refusal (read_cells count bytes) (ReadsACell count bytes) result
  cell_refused first seen seen' =
      refused_cell seen seen' (ReadsBytes (read_cell rest)) (ReadsACell count bytes)
      (λ bytes. first_cell first (reads (read_cell rest) bytes))
