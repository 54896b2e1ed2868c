-- Private: a query bound to a few values by position.
use Rattle.std.specs.Prelude.{ℕ, List, Ok}
use Rattle.mysql_named_params.specs.Reading.{OnTokensIn}
use Rattle.mysql_named_params.specs.declared.places.Reading.{Reading}
use Rattle.mysql_params_core.specs.GivenValues.{Given}
use Rattle.mysql_binding.specs.LiteralForm.{Literals, LiteralFacts}
use Rattle.mysql_binding.specs.MeasuredText.{HasGivenLength}
use Rattle.mysql_binding.specs.TextInRoom.{IsTextInRoom}
use Rattle.mysql_binding.specs.WrittenText.{IsGivenText}
use Rattle.mysql_binding.specs.declared.binding.room.TextInRoom.TheVariants.{Written}
use Rattle.mysql_flat_params.specs.FlatForm.{IsFormReading}

-- the form is read, and the query bound to its parameters is at the front of the room; the rest of
-- the room is unchanged
abbrev pub IsFewBound : Literals → LiteralFacts → Reading → (query form old new : List ℕ) → ℕ
    → Type 0
IsFewBound literal IsKnown reading query form old new len =
    (given : Given) × IsFormReading form (Ok given)
    × OnTokensIn reading query (λ ts. IsTextInRoom (IsGivenText literal IsKnown ts given)
    (HasGivenLength literal ts given) old new (Written len))
