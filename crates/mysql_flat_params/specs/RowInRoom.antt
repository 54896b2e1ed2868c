-- Private: the room after one row.
use Rattle.std.specs.Prelude.{◌≡◌, ◌≤◌, ◌<◌, ℕ, List, length, drop}
use Rattle.mysql_wire_part.specs.Lenenc.{lenenc_spelling, read_lenenc}
use Rattle.mysql_named_params.specs.Reading.{OnTokensIn}
use Rattle.mysql_named_params.specs.declared.places.Reading.{Reading}
use Rattle.mysql_params_core.specs.GivenValues.{Given}
use Rattle.mysql_binding.specs.Isolation.{IsBoundText}
use Rattle.mysql_flat_params.specs.BoundRows.{IsBoundRowIn, IsRowRefusalIn, HasRowLengthIn}
use Rattle.mysql_flat_params.specs.IntoRoom.{IsBindOutcomeIn, IsBoundFormIn, IsInRoom}
use Rattle.mysql_flat_params.specs.declared.outcome.Outcome.{Outcome}
use Rattle.mysql_flat_params.specs.declared.outcome.Outcome.TheVariants.{Done, OutOfMemory, Room}

-- the text of a query with the parameters that are given to it, as a length-encoded string, is in
-- the room, or the room is too short for it
abbrev pub IsStringInRoom : (reading : Reading) (query : List ℕ) → Given → (old new : List ℕ) →
    Outcome → Type 0
IsStringInRoom reading query given old new outcome = (text : List ℕ)
    × OnTokensIn reading query (λ ts. IsBoundText reading.no_backslash_escape ts given text)
    × IsInRoom (lenenc_spelling text) old new outcome

-- the text of a form, as a length-encoded string, is in the room; or the form or the query is
-- refused, and the room is as before
abbrev pub IsFormInRoom : (reading : Reading) (query form old new : List ℕ) → Outcome → Type 0
IsFormInRoom reading query form old new (Done len) = (text : List ℕ)
    × IsBoundFormIn reading query form text × IsInRoom (lenenc_spelling text) old new (Done len)
IsFormInRoom reading query form old new (Room len) = (text : List ℕ)
    × IsBoundFormIn reading query form text × IsInRoom (lenenc_spelling text) old new (Room len)
IsFormInRoom reading query form old new outcome = IsBindOutcomeIn reading query form outcome
    × (new ≡ old)

-- the same for the form that is the string at the front of these bytes, and takes `taken` of them
abbrev pub IsRowInRoom : (reading : Reading) (query bytes old new : List ℕ) → ℕ → Outcome → Type 0
IsRowInRoom reading query bytes old new taken (Done len) = (0 < taken) × (taken ≤ length bytes)
    × ((text : List ℕ) × IsBoundRowIn reading query bytes text (drop taken bytes)
    × IsInRoom (lenenc_spelling text) old new (Done len))
IsRowInRoom reading query bytes old new taken (Room len) = HasRowLengthIn reading query bytes len
    × (length old < len) × (new ≡ old)
IsRowInRoom reading query bytes old new taken OutOfMemory = new ≡ old
IsRowInRoom reading query bytes old new taken outcome =
    IsRowRefusalIn reading query (read_lenenc bytes) outcome × (new ≡ old)
