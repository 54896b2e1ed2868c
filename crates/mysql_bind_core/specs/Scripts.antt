-- The script of a query and rows: a statement for each row, in the order of the rows. A statement
-- is the bound text of its row, and a line with `;`. The `;` has a line of its own, since a comment
-- to the end of the line would take it.
use Rattle.std.specs.Prelude.{◌≡◌, ◌<◌, ℕ, Bool, List, [], ◌∷◌, ◌++◌, length, take, get_or, codes, if◌then◌else◌, ⊤}
use Rattle.mysql_bind_core.specs.Bound.{IsTaken, IsWritten}
use Rattle.mysql_bind_core.specs.Refusals.{IsQueryRefusal, IsRefusal}
use Rattle.mysql_bind_core.specs.declared.failure.Failure.{Failure}
use Rattle.mysql_bind_core.specs.declared.request.Request.{Request}
use Rattle.mysql_bind_core.specs.declared.row.Row.{Row}
use Rattle.mysql_bind_core.specs.declared.row.RowsFailure.{RowsFailure}
use Rattle.mysql_bind_core.specs.declared.row.RowsFailure.TheVariants as failure

-- a text, and after it a newline, `;` and a newline
abbrev pub statement : List ℕ → List ℕ
statement text = text ++ 10 ∷ 59 ∷ 10 ∷ []

-- the statement of each text, in their order
abbrev pub script : List (List ℕ) → List ℕ
script [] = []
script (text ∷ texts) = statement text ++ script texts

-- each text is the one that the request writes for the row of the same number, and there are no
-- others
abbrev pub AreWritten : Request → List ℕ → List Row → List (List ℕ) → Type 0
AreWritten request query [] [] = ⊤
AreWritten request query (row ∷ rows) (text ∷ texts) =
    IsWritten request query row.assignments.items text × AreWritten request query rows texts
AreWritten request query [] (text ∷ texts) = ⊥
AreWritten request query (row ∷ rows) [] = ⊥

-- after these bytes come the statements of these rows, and nothing else
pub record AreStatements (request : Request) (query : List ℕ) (rows : List Row)
    (before after : List ℕ) : Type 0 where
  pub texts : List (List ℕ)
  pub written : AreWritten request query rows texts
  pub bytes : after ≡ before ++ script texts

-- the bytes that begin a script: with a transaction, the statement that starts it
abbrev pub opening : Bool → List ℕ
opening transaction = if transaction then statement (codes "START TRANSACTION") else []

-- the bytes that end a script: with a transaction, the statement that commits it
abbrev pub closing : Bool → List ℕ
closing transaction = if transaction then statement (codes "COMMIT") else []

-- the bytes are the script of these rows, in a transaction if one is asked for
pub record IsScript (request : Request) (query : List ℕ) (rows : List Row) (transaction : Bool)
    (bytes : List ℕ) : Type 0 where
  pub texts : List (List ℕ)
  pub written : AreWritten request query rows texts
  pub whole : bytes ≡ (opening transaction ++ script texts) ++ closing transaction

-- the row of this number is refused for this reason, and the rows before it have texts
pub record IsRefusedRow (request : Request) (query : List ℕ) (rows : List Row) (number : ℕ)
    (why : Failure) : Type 0 where
  pub row : Row
  pub within : number < length rows
  pub row_is : row ≡ get_or rows number row
  pub refused : IsRefusal request query row.assignments.items why
  pub texts : List (List ℕ)
  pub before : AreWritten request query (take number rows) texts

-- why the script of these rows isn't written, or out of memory
abbrev pub IsRowsRefusal : Request → List ℕ → List Row → RowsFailure → Type 0
IsRowsRefusal request query rows (failure.Query why) = IsQueryRefusal request query why
IsRowsRefusal request query rows (failure.Row refused) =
    IsTaken request query × IsRefusedRow request query rows refused.number refused.failure
IsRowsRefusal request query rows (failure.Memory error) = ⊤
IsRowsRefusal request query rows why = ⊥

-- if the query is refused, this holds
abbrev pub IfQuery : RowsFailure → Type 0 → Type 0
IfQuery (failure.Query why) P = P
IfQuery why P = ⊤

-- if a row is refused, this holds of its number
abbrev pub IfRow : RowsFailure → (ℕ → Type 0) → Type 0
IfRow (failure.Row refused) P = P refused.number
IfRow why P = ⊤

-- if the refusal is `Memory` itself, not one of the query or of a row, this holds
abbrev pub IfMemory : RowsFailure → Type 0 → Type 0
IfMemory (failure.Memory error) P = P
IfMemory why P = ⊤
