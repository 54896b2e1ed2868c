-- The statements of one row after another.
use Rattle.std.specs.Prelude.{Result, Ok, Err, IfErr, OnOk}
use Rattle.std.specs.declared.alloc.AllocError.{AllocError}
use Rattle.std.proofs.Common.{◌≡◌, ◌∙◌, ℕ, ◌+◌, ◌<◌, List, [], ◌∷◌, ◌++◌, length, take, get_or, refl, ap, sym, subst, append_assoc, arith, rules}
use Rattle.std.proofs.lemmas.List.{take_more}
use Rattle.mysql_bind_core.specs.Bound.{IsWritten}
use Rattle.mysql_bind_core.specs.Refusals.{of_query}
use Rattle.mysql_bind_core.specs.declared.failure.Failure.TheVariants.{Memory}
use Rattle.mysql_bind_core.specs.declared.request.Request.{Request}
use Rattle.mysql_bind_core.specs.declared.row.RefusedRow.{RefusedRow}
use Rattle.mysql_bind_core.specs.declared.row.Row.{Row}
use Rattle.mysql_bind_core.specs.Scripts.{AreStatements, AreWritten, IsRefusedRow, script, statement}

pub no_statements : (request : Request) (query : List ℕ) (before : List ℕ) → AreStatements request query [] before before
no_statements request query before = record { texts = []; written = tt; bytes = sym (right_nil before) }
  where
    right_nil : (xs : List ℕ) → xs ++ [] ≡ xs
    right_nil [] = refl
    right_nil (x ∷ xs) = ap (λ ys. x ∷ ys) (right_nil xs)

pub script-snoc : (texts : List (List ℕ)) (text : List ℕ) → script (texts ++ text ∷ []) ≡ script texts ++ statement text
script-snoc [] text = search rules
script-snoc (t ∷ texts) text =
    ap (λ s. statement t ++ s) (script-snoc texts text)
    ∙ sym (append_assoc (statement t) (script texts) (statement text))

written-snoc : (request : Request) (query : List ℕ) (rows : List Row) (texts : List (List ℕ)) (row : Row) (text : List ℕ)
    → AreWritten request query rows texts → IsWritten request query row.assignments.items text
    → AreWritten request query (rows ++ row ∷ []) (texts ++ text ∷ [])
written-snoc request query [] [] row text all one = (one, tt)
written-snoc request query (r ∷ rows) (t ∷ texts) row text all one = (all.0, written-snoc request query rows texts row text all.1 one)
written-snoc request query [] (t ∷ texts) row text all one = absurd all
written-snoc request query (r ∷ rows) [] row text all one = absurd all

-- the statement of one row more
pub statement_behind : (request : Request) (query : List ℕ) (rows : List Row) (row : Row) (old before after text : List ℕ)
    → AreStatements request query rows old before → IsWritten request query row.assignments.items text → after ≡ before ++ statement text
    → AreStatements request query (rows ++ row ∷ []) old after
statement_behind request query rows row old before after text so_far written after_is = record {
  texts = so_far.texts ++ text ∷ [];
  written = written-snoc request query rows so_far.texts row text so_far.written written;
  bytes = after_is ∙ ap (λ b. b ++ statement text) so_far.bytes
      ∙ append_assoc old (script so_far.texts) (statement text)
      ∙ ap (λ s. old ++ s) (sym (script-snoc so_far.texts text));
}

take-one : (rows : List Row) (n : ℕ) (row : Row) → n < length rows → row ≡ get_or rows n row → take (n + 1) rows ≡ take n rows ++ row ∷ []
take-one rows n row below is = take_more rows n row below ∙ ap (λ r. take n rows ++ r ∷ []) (sym is)

pub statement_more : (request : Request) (query : List ℕ) (rows : List Row) (n : ℕ) (row : Row) (old before after one text : List ℕ)
    → n < length rows → row ≡ get_or rows n row
    → AreStatements request query (take n rows) old before
    → IsWritten request query row.assignments.items text → one ≡ statement text → after ≡ before ++ one
    → AreStatements request query (take (n + 1) rows) old after
statement_more request query rows n row old before after one text below is so_far written one_is after_is =
    subst (λ rs. AreStatements request query rs old after) (sym (take-one rows n row below is))
    (statement_behind request query (take n rows) row old before after text so_far written (after_is ∙ ap (λ o. before ++ o) one_is))

take-all : (rows : List Row) → take (length rows) rows ≡ rows
take-all [] = refl
take-all (r ∷ rows) = ap (λ rs. r ∷ rs) (take-all rows)

pub all_statements : (request : Request) (query : List ℕ) (rows : List Row) (before after : List ℕ)
    → AreStatements request query rows before after → AreStatements request query (take (length rows) rows) before after
all_statements request query rows before after are = record {
  texts = are.texts;
  written = subst (λ rs. AreWritten request query rs are.texts) (sym (take-all rows)) are.written;
  bytes = are.bytes;
}

-- so many rows are all of them
pub of_all : (request : Request) (query : List ℕ) (rows : List Row) (number : ℕ) (old after : List ℕ)
    → number ≡ length rows → AreStatements request query (take number rows) old after → AreStatements request query rows old after
of_all request query rows number old after all are =
    subst (λ rs. AreStatements request query rs old after) (ap (λ n. take n rows) all ∙ take-all rows) are

-- the statements of all rows, or of those before a refused one
pub some_statements : {A : Type 0} (request : Request) (query : List ℕ) (rows : List Row) (r : Result A RefusedRow) (before after : List ℕ)
    → OnOk r (AreStatements request query rows before after) → IfErr r (λ e. AreStatements request query (take e.number rows) before after)
    → (number : ℕ) × AreStatements request query (take number rows) before after
some_statements request query rows (Ok done) before after all some = (length rows, all_statements request query rows before after all)
some_statements request query rows (Err e) before after all some = (e.number, some)

-- memory may lack before the first row
pub out_of_memory : (request : Request) (query : List ℕ) (rows : List Row) (error : AllocError) → 0 < length rows → IsRefusedRow request query rows 0 (Memory error)
out_of_memory request query [] error some = absurd (omega arith)
out_of_memory request query (row ∷ rows) error some =
    record { row = row; within = some; row_is = refl; refused = of_query tt; texts = []; before = tt }
