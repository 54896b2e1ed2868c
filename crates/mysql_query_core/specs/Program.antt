-- The answer of the program to its words and its input, by definitions about the query only.
--
-- There are six types of refusal between the words and the exit status. Three are the code's, which
-- can also be out of memory. Three are those of the definitions, which never are.
--
--   of             in code                              in definitions
--   the words      `WordsError` (src/words.rt)          `WordsRefusal` (Words.antt)
--   the binding    `BindError` (of mysql_binding)       `Cause` (FirstCause.antt of mysql_binding)
--   the program    `RunError` (src/run_error.rt)        `Refusal` (here)
--
-- A `Refusal` holds a `WordsRefusal` or a `Cause`, or is the refusal of a query by `names`. A
-- `RunError` holds a `BindError`, and has variants of its own for those of `WordsError` and for a
-- failed read or write. The refusal that an error reports is defined by `words_refusal`
-- (WordErrors.antt), `cause_of` (BindErrors.antt of mysql_binding) and `refusal_of`
-- (RunErrors.antt).
use Rattle.std.specs.Prelude.{◌≡◌, ℕ, List, [], ◌∷◌, ◌++◌, if◌then◌else◌, Result, Ok, Err, Some, String}
use Rattle.std.specs.Global.{Global}
use Rattle.mysql_sql_text.specs.StringUnits.{with_backslashes}
use Rattle.mysql_named_params.specs.Bytes.{newline}
use Rattle.mysql_named_params.specs.Tokens.{Token, OnTokens, text_of}
use Rattle.mysql_named_params.specs.NamesAndMarks.{names, has_both}
use Rattle.mysql_named_params.specs.Places.{with_marks}
use Rattle.mysql_binding.specs.FirstCause.{Cause, first_cause}
use Rattle.mysql_binding.specs.Isolation.{IsBoundText}
use Rattle.mysql_query_core.specs.Words.{WordsRefusal, Command, names_of_query, bound_query, word_bytes, command_of}

-- why the program refuses its words or its input
pub data Refusal : Type 0 where
  -- the words aren't a command of the program, or name a parameter twice
  bad_words : WordsRefusal → Refusal
  -- the query has a name and a mark, and the command is `names`
  names_of_mixed_query : Refusal
  -- the parameters can't be bound to the query
  binding_cause : Cause → Refusal

-- each text and a newline
abbrev pub lines_of : List (List ℕ) → List ℕ
lines_of [] = []
lines_of (text ∷ texts) = text ++ newline ∷ lines_of texts

-- the output of `names` for the tokens of a query, or its refusal
abbrev pub names_output : List Token → Result (List ℕ) Refusal
names_output ts =
    if has_both ts then Err names_of_mixed_query
    else Ok (lines_of (text_of (with_marks ts) ∷ names ts))

-- the output of a command for the tokens of a query, or its refusal: `bind` writes the bound text
-- and nothing else
abbrev pub IsOutput : Command → List Token → Result (List ℕ) Refusal → Type 0
IsOutput names_of_query ts answer = names_output ts ≡ answer
IsOutput (bound_query params) ts (Ok text) = IsBoundText with_backslashes ts params text
IsOutput (bound_query params) ts (Err refusal) =
    (cause : Cause) × (first_cause ts params ≡ Some cause) × (binding_cause cause ≡ refusal)

-- the same for words, which may be refused
abbrev pub IsProgramOutput : Result Command WordsRefusal → List Token → Result (List ℕ) Refusal
    → Type 0
IsProgramOutput (Err why) ts answer = Err (bad_words why) ≡ answer
IsProgramOutput (Ok command) ts answer = IsOutput command ts answer

-- the program's answer to these words and this whole input is this text or this refusal
abbrev pub Answers : List (String Global) → List ℕ → Result (List ℕ) Refusal → Type 0
Answers words input answer =
    OnTokens with_backslashes input
    (λ ts. IsProgramOutput (command_of (word_bytes words)) ts answer)
