-- The commands and refusals of the definitions for the code's commands and errors of words.
use Rattle.std.specs.Prelude.{ℕ, List, Option, None, Some}
use Rattle.std.specs.Borrow.{Bor}
use Rattle.mysql_values.specs.declared.value.Value.{Value}
use Rattle.mysql_params_core.specs.Given.{given}
use Rattle.mysql_params_core.specs.declared.params.errors.ToParamsError.{ToParamsError}
use Rattle.mysql_params_core.specs.declared.params.errors.ToParamsError.TheVariants as to_params
use Rattle.mysql_query_core.specs.Words as words
use Rattle.mysql_query_core.specs.Words.{WordsRefusal, usage, redefined_name}
use Rattle.mysql_query_core.specs.declared.words.Command.{Command}
use Rattle.mysql_query_core.specs.declared.words.Command.TheVariants.{Names, Bind}
use Rattle.mysql_query_core.specs.declared.words.WordsError.{WordsError}
use Rattle.mysql_query_core.specs.declared.words.WordsError.TheVariants.{Usage, Redefined, Memory}

-- the refusal of the words that the error reports; none for out of memory
abbrev pub words_refusal : WordsError → Option WordsRefusal
words_refusal Usage = Some usage
words_refusal (Redefined name) = Some (redefined_name name.items)
words_refusal (Memory error) = None

-- the error of the words whose pairs are refused with an error; no value of a pair is a duration
abbrev pub words_error_of_params : ToParamsError → WordsError
words_error_of_params (to_params.Redefined name) = Redefined name
words_error_of_params (to_params.Value error) = Usage
words_error_of_params (to_params.Memory error) = Memory error

-- the command of the definitions for the code's command
abbrev pub seen_command : Command → words.Command
seen_command Names = words.names_of_query
seen_command (Bind params) = words.bound_query (given params)

-- the bytes of a name, and the value
abbrev pub seen_pair : Bor (List ℕ) × Value → List ℕ × Value
seen_pair (name, value) = (name.now, value)
