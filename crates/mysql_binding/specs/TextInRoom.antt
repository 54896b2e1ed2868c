-- A text that is written into a slice of the caller.
use Rattle.std.specs.Prelude.{◌≡◌, ◌≤◌, ◌<◌, ℕ, List, length, take, drop}
use Rattle.mysql_binding.specs.declared.binding.room.TextInRoom.{TextInRoom}
use Rattle.mysql_binding.specs.declared.binding.room.TextInRoom.TheVariants.{Written, TooShort}

-- a text that satisfies `IsText` has this length
abbrev pub HasTextOf : (List ℕ → Type 0) → ℕ → Type 0
HasTextOf IsText len = (text : List ℕ) × IsText text × (length text ≡ len)

-- Either a text that satisfies `IsText` is at the front of the room, and the room after it is
-- unchanged. Or the room is shorter than such a text, and unchanged. The bytes of the room are
-- `old` before the call and `new` after it.
abbrev pub IsTextInRoom : (IsText : List ℕ → Type 0) (HasLength : ℕ → Type 0)
    (old new : List ℕ) → TextInRoom → Type 0
IsTextInRoom IsText HasLength old new (Written len) = (len ≤ length old)
    × IsText (take len new) × (drop len new ≡ drop len old)
IsTextInRoom IsText HasLength old new (TooShort len) = (length old < len)
    × HasLength len × (new ≡ old)
