-- The refusals of `Value::as_sql` for a value that has no literal.
use Rattle.std.specs.Prelude.{Option, Some, None}
use Rattle.mysql_value_core.specs.declared.value.literal.AsSqlError.{AsSqlError}
use Rattle.mysql_value_core.specs.declared.value.literal.AsSqlError.TheVariants.{Float, Memory}

-- the cause for which a value has no literal; out of memory is no such cause
pub data LiteralRefusal : Type 0 where
  -- it is a float
  float : LiteralRefusal

-- the cause that the error reports; none for out of memory
abbrev pub literal_refusal : AsSqlError → Option LiteralRefusal
literal_refusal Float = Some float
literal_refusal (Memory error) = None
