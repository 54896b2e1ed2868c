-- The refusal that each error of `run` reports.
use Rattle.std.specs.Prelude.{◌≡◌, ◌⊎◌, ℕ, List, Err, Option, None, Some, option_map, alloc_error, ⊤}
use Rattle.mysql_io.specs.declared.readers_and_writers.ReadError.{ReadError}
use Rattle.mysql_io.specs.declared.readers_and_writers.ReadError.TheVariants as read
use Rattle.mysql_named_params.specs.Tokens.{Token}
use Rattle.mysql_named_params.specs.declared.named_params.NamedParamsError.{NamedParamsError}
use Rattle.mysql_named_params.specs.declared.named_params.NamedParamsError.TheVariants as names
use Rattle.mysql_binding.specs.BindErrors.{AreEqualBindErrors, cause_of}
use Rattle.mysql_binding.specs.FirstCause.{Cause}
use Rattle.mysql_query_core.specs.Program.{Refusal, bad_words, names_of_mixed_query, binding_cause, IsOutput}
use Rattle.mysql_query_core.specs.Words.{Command, usage, redefined_name}
use Rattle.mysql_query_core.specs.declared.run_error.RunError.{RunError}
use Rattle.mysql_query_core.specs.declared.run_error.RunError.TheVariants.{Usage, Redefined, Mixed, Bind, Read, Write, Memory}

-- `Bind` holds a cause to refuse. So it is never out of memory, not even that of a lookup
abbrev pub HoldsCause : RunError → Type 0
HoldsCause (Bind error) = (cause : Cause) × (cause_of error ≡ Some cause)
HoldsCause error = ⊤

-- the exit status: 1 if a name is redefined or the query is refused; 2 for other words, a failed
-- read or write, and out of memory
abbrev pub status_of : RunError → ℕ
status_of Usage = 2
status_of (Redefined name) = 1
status_of Mixed = 1
status_of (Bind error) = 1
status_of Read = 2
status_of Write = 2
status_of (Memory e) = 2

-- the refusal of the words or the input that the error reports; none for a failed read or write and
-- out of memory
abbrev pub refusal_of : RunError → Option Refusal
refusal_of Usage = Some (bad_words usage)
refusal_of (Redefined name) = Some (bad_words (redefined_name name.items))
refusal_of Mixed = Some names_of_mixed_query
refusal_of (Bind error) = option_map binding_cause (cause_of error)
refusal_of Read = None
refusal_of Write = None
refusal_of (Memory e) = None

-- the error of a run whose input can't be read
abbrev pub run_error_of_read : ReadError → RunError
run_error_of_read read.Read = Read
run_error_of_read (read.Memory error) = Memory error

-- the error of a run that is asked for the names of a query
abbrev pub run_error_of_names : NamedParamsError → RunError
run_error_of_names (names.Mixed error) = Mixed
run_error_of_names (names.Memory error) = Memory error

-- the same variant, and the same name or error of binding
abbrev pub AreEqualRunErrors : RunError → RunError → Type 0
AreEqualRunErrors (Redefined a) (Redefined b) = a.items ≡ b.items
AreEqualRunErrors (Redefined a) b = ⊥
AreEqualRunErrors (Bind a) (Bind b) = AreEqualBindErrors a b
AreEqualRunErrors (Bind a) b = ⊥
AreEqualRunErrors a b = a ≡ b

-- the error is the command's refusal of a query with these tokens, or out of memory
abbrev pub IsOutputRefusal : Command → List Token → RunError → Type 0
IsOutputRefusal command ts error = (error ≡ Memory alloc_error)
    ⊎ ((why : Refusal) × (refusal_of error ≡ Some why) × IsOutput command ts (Err why))
