-- The guarded literal of a value reads in its mode as the content of the value, and in the other as
-- this content or with its backslashes doubled, over every client set.
use Rattle.std.specs.Prelude.{◌≡◌, ℕ, Bool, not, ◌==◌, List, [], ◌∷◌, ◌++◌, codes, Some, IsSomeAnd, ⊤, if◌then◌else◌}
use Rattle.std.specs.List.{flat_map}
use Rattle.std.specs.Str.{byte}
use Rattle.mysql_sql_text.specs.ReadLiteral.{Content, byte_string}
use Rattle.mysql_sql_text.specs.LiteralEnd.{BeginsWithout, continues_literal}
use Rattle.mysql_values.specs.declared.value.Value.{Value}
use Rattle.mysql_values.specs.Content.{content_of}
use Rattle.mysql_portable.specs.CharacterSet.{CharacterSet}
use Rattle.mysql_binding.specs.Pieces.{joined_text}
use Rattle.mysql_steady_text.specs.ClientSet.{IsClientSet}
pub use Rattle.mysql_steady_text.specs.GuardedReader.{read_units_in, read_string_in, read_in, AreStringsIn, one_string, more_strings, IsReadIn, read_as_one, read_as_strings}

-- bytes with each backslash doubled
abbrev pub backslashes_doubled : List ℕ → List ℕ
backslashes_doubled bytes = flat_map (λ b. if b == byte "\\" then codes "\\\\" else b ∷ []) bytes

-- the second content is the first, or has its bytes with each backslash doubled
pub data IsUpToBackslashes : Content → Content → Type 0 where
  the_same : (content : Content) → IsUpToBackslashes content content
  doubled : (bytes : List ℕ)
      → IsUpToBackslashes (byte_string bytes) (byte_string (backslashes_doubled bytes))

-- each of the second contents is so to the first in its place
abbrev pub AreUpToBackslashes : List Content → List Content → Type 0
AreUpToBackslashes [] [] = ⊤
AreUpToBackslashes (content ∷ contents) (other ∷ others) =
    IsUpToBackslashes content other × AreUpToBackslashes contents others
AreUpToBackslashes contents others = ⊥

-- over every client set, and before every text that begins with no single quote, ASCII digit or
-- letter, a literal reads in the mode as this content, and that text is left
abbrev pub ReadsOver : Bool → List ℕ → Content → Type 0
ReadsOver mode literal content =
    (set : CharacterSet) → IsClientSet set → (rest : List ℕ) → BeginsWithout continues_literal rest
    → IsReadIn set mode (literal ++ rest) content rest

-- a literal reads so in the mode as this content, or with its backslashes doubled
abbrev pub ReadsNearly : Bool → List ℕ → Content → Type 0
ReadsNearly mode literal content =
    (other : Content) × IsUpToBackslashes content other × ReadsOver mode literal other

-- the literal reads in the mode as the content of the value, and in the other mode nearly
abbrev pub ReadsGuardedAs : Bool → Value → List ℕ → Type 0
ReadsGuardedAs mode value literal =
    IsSomeAnd (content_of value) (λ content.
    ReadsOver mode literal content × ReadsNearly (not mode) literal content)

-- over this set each literal between the pieces, followed by the text after it, reads in the mode
-- as its content, and leaves exactly that text
abbrev pub AreReadOver :
    CharacterSet → Bool → List (List ℕ) → List (List ℕ) → List Content → Type 0
AreReadOver set mode pieces [] [] = ⊤
AreReadOver set mode (piece ∷ pieces) (literal ∷ literals) (content ∷ contents) =
    ((rest : List ℕ) × (joined_text pieces literals ≡ Some rest)
    × IsReadIn set mode (literal ++ rest) content rest)
    × AreReadOver set mode pieces literals contents
AreReadOver set mode pieces literals contents = ⊥
