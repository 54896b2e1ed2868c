-- The result of a call that can be out of memory: one definition for all crates.
use Rattle.std.specs.Prelude.{◌≡◌, Option, None, Some, Result, Ok, Err}

-- The refusal is the expected one. If there is no refusal, the call is out of memory, which is
-- possible only if it allocates.
abbrev pub IsExpectedRefusal : {Seen Refusal : Type 0} → Result Seen Refusal → Type 0
    → Option Refusal → Type 0
IsExpectedRefusal expected takes_memory (Some refusal) = expected ≡ Err refusal
IsExpectedRefusal expected takes_memory None = takes_memory

-- The result is the expected one: the view of its value, or the refusal that its error reports. Or
-- it is out of memory, which is no refusal, and possible only if the call allocates.
abbrev pub IsAnswer : {A Seen E Refusal : Type 0} → (A → Seen) → (E → Option Refusal)
    → Result Seen Refusal → Type 0 → Result A E → Type 0
IsAnswer seen refusal_of expected takes_memory (Ok value) = expected ≡ Ok (seen value)
IsAnswer seen refusal_of expected takes_memory (Err error) =
    IsExpectedRefusal expected takes_memory (refusal_of error)
