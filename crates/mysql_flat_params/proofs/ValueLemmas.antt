-- The value after its type and flags.
use Rattle.std.proofs.Common.{◌≡◌, ℕ, ◌-◌, ◌≤◌, List, [], ◌∷◌, length, take, drop, get_or, sym, ap, arith}
use Rattle.std.proofs.lemmas.List.{take_rest}
use Rattle.mysql_flat_params.specs.ColumnNumbers.{column_type, is_unsigned_parameter}
use Rattle.mysql_flat_params.specs.FlatForm.{read_of_type, read_value}

pub value_typed : (place position : ℕ) (bytes : List ℕ) → 2 ≤ length bytes →
    read_value place position bytes
    ≡ read_of_type place position (get_or bytes 0 0) (column_type (get_or bytes 0 0)) (is_unsigned_parameter (get_or bytes 1 0)) (take (length bytes - 2) (drop 2 bytes))
value_typed place position [] two = absurd (omega arith)
value_typed place position (number ∷ []) two = absurd (omega arith)
value_typed place position (number ∷ flags ∷ bytes) two =
    ap (read_of_type place position number (column_type number) (is_unsigned_parameter flags)) (sym (take_rest (number ∷ flags ∷ bytes) 2))
