-- Texts of fragments with which no command of a client begins, also at the front of a statement:
-- they begin with no letter. Keywords do, and `USE` at the front of a statement is a command.
use Rattle.std.specs.Prelude.{◌==◌, ◌&&◌, ◌||◌, nat_le, not, ℕ, Bool, true, IsTrue, List, [], ◌∷◌, ⊤}
use Rattle.std.specs.Str.{byte}
use Rattle.mysql_named_params.specs.Bytes.{underscore}
use Rattle.mysql_portable.specs.FoundInClient.{letter_of}

-- the text doesn't begin with a letter, by a client's definition of letters, or with `_`: so not
-- with a word
abbrev pub begins_no_word_of_client : List ℕ → Bool
begins_no_word_of_client [] = true
begins_no_word_of_client (b ∷ bs) =
    not ((nat_le (byte "a") (letter_of b) && nat_le (letter_of b) (byte "z"))
    || letter_of b == underscore)

-- none of the texts begins with a word
abbrev pub BeginNoWords : List (List ℕ) → Type 0
BeginNoWords [] = ⊤
BeginNoWords (text ∷ texts) = IsTrue (begins_no_word_of_client text) × BeginNoWords texts
