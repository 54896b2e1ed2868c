-- The command that the words of the program give.
use Rattle.std.specs.Prelude.{◌==◌, ℕ, Bool, true, false, List, [], ◌∷◌, length, map, codes, if◌then◌else◌, Option, None, Some, option_map, option_and_then, Result, Ok, Err, String, string_bytes, unsigned_abs, IsTrue}
use Rattle.std.specs.Global.{Global}
use Rattle.std.specs.List.{after_first, before_first, list_all, list_any}
use Rattle.std.specs.Str.{byte, bytes_eq}
use Rattle.mysql_values.specs.declared.value.Value.{Value}
use Rattle.mysql_values.specs.declared.value.Value.TheVariants.{NULL, Bytes, Int, UInt}
use Rattle.mysql_values.specs.Intermediate.{committed}
use Rattle.mysql_values.specs.WholeNumber.{whole_conversion}
use Rattle.mysql_params_core.specs.GivenValues.{Given, empty, positional}
use Rattle.mysql_params_core.specs.Made.{ToParamsRefusal, redefined, too_long, pairs_made}

-- why words are refused
pub data WordsRefusal : Type 0 where
  -- they aren't a command of the program
  usage : WordsRefusal
  -- this name is given twice
  redefined_name : List ℕ → WordsRefusal

-- a command
pub data Command : Type 0 where
  -- the names of a query
  names_of_query : Command
  -- a query with these parameters bound
  bound_query : Given → Command

-- the bytes of each word
abbrev pub word_bytes : List (String Global) → List (List ℕ)
word_bytes words = map string_bytes words

-- whether a byte is the sign between name and value
abbrev pub is_equals_sign : ℕ → Bool
is_equals_sign b = b == byte "="

-- the parts of a word before and after its first `=`; none if the word has no `=`
abbrev pub parts_of_word : List ℕ → Option (List ℕ × List ℕ)
parts_of_word word =
    if list_any is_equals_sign word
    then Some (before_first is_equals_sign word, after_first is_equals_sign word) else None

-- the `Int` of a decimal text, if an `i64` holds its number
abbrev pub int_of_text : List ℕ → Option Value
int_of_text text =
    option_map (λ ir. Int (committed ir)) (whole_conversion true 64 (λ number. number) (Bytes text))

-- the `UInt` of a decimal text, if a `u64` holds its number
abbrev pub uint_of_text : List ℕ → Option Value
uint_of_text text =
    option_map (λ ir. UInt (committed ir)) (whole_conversion false 64 unsigned_abs (Bytes text))

-- the value of a text after the letter of its kind and a colon
abbrev pub value_of_kind : ℕ → List ℕ → Option Value
value_of_kind kind text =
    if kind == byte "i" then int_of_text text
    else if kind == byte "u" then uint_of_text text
    else if kind == byte "s" then Some (Bytes text)
    else None

-- the value of the text `null`
abbrev pub value_of_null : List ℕ → Option Value
value_of_null text = if bytes_eq text (codes "null") then Some NULL else None

-- the value of `i:` or `u:` and a number, of `s:` and a text, or of `null`
abbrev pub parsed_value : List ℕ → Option Value
parsed_value (kind ∷ colon ∷ text) =
    if colon == byte ":" then value_of_kind kind text else value_of_null (kind ∷ colon ∷ text)
parsed_value text = value_of_null text

-- name and value of a word
abbrev pub pair_of_word : List ℕ → Option (List ℕ × Value)
pair_of_word word =
    option_and_then (λ parts. option_map (λ value. (parts.0, value)) (parsed_value parts.1))
    (parts_of_word word)

-- name and value of each word; none if a word has none
abbrev pub pairs_of_words : List (List ℕ) → Option (List (List ℕ × Value))
pairs_of_words [] = Some []
pairs_of_words (word ∷ words) =
    option_and_then (λ pair. option_map (λ pairs. pair ∷ pairs) (pairs_of_words words))
    (pair_of_word word)

-- the name is empty
abbrev pub is_nameless : List ℕ × Value → Bool
is_nameless (name, value) = length name == 0

-- why named pairs are refused; no value is a duration that is too long
abbrev pub words_refusal_of : ToParamsRefusal → WordsRefusal
words_refusal_of (redefined name) = redefined_name name
words_refusal_of (too_long duration) = usage

-- the parameters that pairs with names give, taken in order
abbrev pub given_by_name : List (List ℕ × Value) → Result Given ToParamsRefusal
given_by_name pairs = pairs_made (map (λ pair. (pair.0, Ok pair.1)) pairs)

-- the result of a maker of parameters, as a command or a refusal of the words
abbrev pub command_made : Result Given ToParamsRefusal → Result Command WordsRefusal
command_made (Ok params) = Ok (bound_query params)
command_made (Err refusal) = Err (words_refusal_of refusal)

-- The command of pairs. If all names are empty, it binds the values by position. If no name is
-- empty, it binds the values by name. Otherwise it is refused as usage.
abbrev pub command_of_pairs : List (List ℕ × Value) → Result Command WordsRefusal
command_of_pairs [] = Ok (bound_query empty)
command_of_pairs (pair ∷ pairs) =
    if list_all is_nameless (pair ∷ pairs)
    then Ok (bound_query (positional (map (λ p. p.1) (pair ∷ pairs))))
    else if list_any is_nameless (pair ∷ pairs) then Err usage
    else command_made (given_by_name (pair ∷ pairs))

-- the command of pairs; usage if there are none because a word isn't a pair
abbrev pub bind_command : Option (List (List ℕ × Value)) → Result Command WordsRefusal
bind_command None = Err usage
bind_command (Some pairs) = command_of_pairs pairs

-- `names` and nothing after it
abbrev pub names_command : List (List ℕ) → Result Command WordsRefusal
names_command [] = Ok names_of_query
names_command (word ∷ words) = Err usage

-- the command that the words are: `names`, or `bind` and pairs
abbrev pub command_of : List (List ℕ) → Result Command WordsRefusal
command_of [] = Err usage
command_of (word ∷ words) =
    if bytes_eq word (codes "names") then names_command words
    else if bytes_eq word (codes "bind") then bind_command (pairs_of_words words)
    else Err usage

-- the first word is `bind`
abbrev pub AsksToBind : List (List ℕ) → Type 0
AsksToBind [] = ⊥
AsksToBind (word ∷ words) = IsTrue (bytes_eq word (codes "bind"))
