-- Searches of some bytes at once. For the functions of `lanes.rt` and those that call them; no
-- contract for a user cites it.
use Rattle.std.specs.Prelude.{◌≡◌, ◌+◌, ◌<◌, ◌≤◌, ℕ, Bool, true, false, not, ◌==◌, ◌||◌, if◌then◌else◌, List, slice_index, Option, Some, None}
use Rattle.std.specs.Int.{trailing_zeros, w64}

-- the index of the lowest bit of the mask that is set, if one is set
abbrev pub first_set : ℕ → Option ℕ
first_set mask = if mask == 0 then None else Some (trailing_zeros w64 mask)

-- each byte from the index `from` up to `end` passes the test
abbrev pub EachPasses : (ℕ → Bool) → List ℕ → ℕ → ℕ → Type 0
EachPasses test text from end =
    (k : ℕ) → from ≤ k → k < end → test (slice_index text k) ≡ true

-- the number of bytes before the first that fails the test, among `lanes` bytes from the index `at`
-- on; `None` if each passes it
abbrev pub IsFirstOther : (ℕ → Bool) → List ℕ → ℕ → ℕ → Option ℕ → Type 0
IsFirstOther test text at lanes None = EachPasses test text at (at + lanes)
IsFirstOther test text at lanes (Some run) =
    (run < lanes) × EachPasses test text at (at + run)
    × (test (slice_index text (at + run)) ≡ false)

-- the byte is neither of these two
abbrev pub is_neither : ℕ → ℕ → ℕ → Bool
is_neither first second b = not (b == first || b == second)
