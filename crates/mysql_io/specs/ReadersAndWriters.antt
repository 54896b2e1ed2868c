-- The state in which a run leaves its reader and its writer. For contracts, a reader has the bytes
-- that are left, and a writer the bytes that it has taken. If a reader or writer has `None` in
-- place of these bytes, these definitions say nothing about its reads or writes.
use Rattle.std.specs.Prelude.{◌<◌, ℕ, List, length, take, Option}
use Rattle.std.specs.Io.KnownBytes.{Consumes, IsAtEnd, Appends}

-- these bytes are all that the reader had left, and it has none left
abbrev pub ReadsWhole : Option (List ℕ) → Option (List ℕ) → List ℕ → Type 0
ReadsWhole old new bytes = Consumes old new bytes × IsAtEnd new

-- the writer took a prefix of the text, and not the whole
abbrev pub AppendsPrefix : Option (List ℕ) → Option (List ℕ) → List ℕ → Type 0
AppendsPrefix old new text = (n : ℕ) × (n < length text) × Appends old new (take n text)
