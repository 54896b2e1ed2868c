-- Refusals that one answer passes on as those of another.
use Rattle.std.proofs.Common.{◌≡◌}
use Rattle.std.specs.Prelude.{Option, None, Some, Result, Err}
use Rattle.mysql_wire_part.specs.Answer.{IsExpectedRefusal}

-- A refusal that is expected of one call is expected of another too, if each refusal of the one is
-- that of the other, and the other allocates whenever the one does.
pub refusal_expected_too : {Seen Seen' Refusal : Type 0} (expected : Result Seen Refusal)
    (expected' : Result Seen' Refusal) (Takes Takes' : Type 0) (refusal : Option Refusal)
    → ((why : Refusal) → expected ≡ Err why → expected' ≡ Err why) → (Takes → Takes')
    → IsExpectedRefusal expected Takes refusal → IsExpectedRefusal expected' Takes' refusal
refusal_expected_too expected expected' Takes Takes' (Some why) refused takes answer =
    refused why answer
refusal_expected_too expected expected' Takes Takes' None refused takes answer = takes answer
