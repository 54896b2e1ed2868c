-- Why a cell gave nothing.
use Rattle.std.specs.Prelude.{◌≡◌, ℕ, List, Ok, Err, Option, Some, None}
use Rattle.mysql_wire_part.specs.Reading.{ReadRefusal}
use Rattle.mysql_wire_part.specs.ParseBuf.{read_refusal}
use Rattle.mysql_values.specs.declared.value.Value.{Value}
use Rattle.mysql_values.specs.TextCell.{read_cell}
use Rattle.shop_example.specs.declared.cell.CellError.{CellError}
use Rattle.shop_example.specs.declared.cell.CellError.TheVariants as cell

-- Why a cell of these bytes gave nothing, and `rest` is left: it can't be read, and nothing was
-- taken; or it converts to nothing, and was taken.
abbrev pub IsCellRefusal : {X : Type 0} → (Value → Option X) → (bytes rest : List ℕ) → CellError
    → Type 0
IsCellRefusal conversion bytes rest (cell.Wire error) =
    ((refusal : ReadRefusal) → read_refusal error ≡ Some refusal → read_cell bytes ≡ Err refusal)
    × (rest ≡ bytes)
IsCellRefusal conversion bytes rest (cell.Value error) =
    (read_cell bytes ≡ Ok (error.0, rest)) × (conversion error.0 ≡ None)
