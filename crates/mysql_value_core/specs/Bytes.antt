-- Lists of numbers that are bytes.
use Rattle.std.specs.Prelude.{ℕ, ◌<◌, ◌^◌, List, length, slice_index}

-- there are fewer than 2^63 of them, and each is below 256
abbrev pub AreBytes : List ℕ → Type 0
AreBytes bytes = (length bytes < 2 ^ 63) × ((i : ℕ) → slice_index bytes i < 256)
