-- What the cells of a row are read as.
use Rattle.std.specs.Prelude.{◌≡◌, ◌⊎◌, ℕ, List, Ok, Option, Some}
use Rattle.std.specs.Option.{option_map}
use Rattle.mysql_values.specs.declared.value.Value.{Value}
use Rattle.mysql_values.specs.TextCell.{read_cell}
use Rattle.mysql_values.specs.FromValue.{value_text}
use Rattle.mysql_values.specs.Intermediate.{committed}
use Rattle.mysql_values.specs.WholeNumber.{whole_conversion, u32_type}
use Rattle.shop_example.specs.Cell.{IsCellRefusal}
use Rattle.shop_example.specs.declared.cell.CellError.{CellError}

-- the number that a value converts to, as a `u32`
abbrev pub number_of : Value → Option ℕ
number_of value = option_map committed
    (whole_conversion u32_type.is_signed u32_type.width u32_type.of_number value)

-- Two cells stand at the front of the bytes and `rest` follows them; the first converts to this
-- number, the second to this text.
abbrev pub IsCustomerRow : (id : ℕ) → (name bytes rest : List ℕ) → Type 0
IsCustomerRow id name bytes rest = (first second : Value) × (after : List ℕ)
    × (read_cell bytes ≡ Ok (first, after)) × (read_cell after ≡ Ok (second, rest))
    × (number_of first ≡ Some id) × (value_text second ≡ Some name)

-- Why a row of a number and a text gave nothing, and `rest` is left: its first cell was refused,
-- or that gave a number, and the second was refused.
abbrev pub IsRowRefusal : (bytes rest : List ℕ) → CellError → Type 0
IsRowRefusal bytes rest error = IsCellRefusal number_of bytes rest error
    ⊎ ((first : Value) × (id : ℕ) × (after : List ℕ)
    × (read_cell bytes ≡ Ok (first, after)) × (number_of first ≡ Some id)
    × IsCellRefusal value_text after rest error)
