-- The flat form of parameters. Parameters come one after another up to the end of the form. Each is
-- its name, a length-encoded string, which is empty for a parameter by position; a byte, the number
-- of its column type; a byte of flags; and its value in binary form. Names, types, flags and values
-- are those of the MySQL client/server protocol ("Protocol::LengthEncodedString",
-- "COM_STMT_EXECUTE", "Binary Protocol Value"). Their order, one after another and without a bitmap
-- of NULLs, is this library's.
use Rattle.std.specs.Prelude.{◌≡◌, ℕ, ◌+◌, ◌-◌, Bool, List, [], ◌∷◌, ◌++◌, length, if◌then◌else◌, Option, Some, None, Result, Ok, IsOk, Err}
use Rattle.std.specs.FinMap as finite
use Rattle.mysql_wire_part.specs.Reading.{ReadRefusal, Reading, unexpected_eof, bad_length_lead, unsupported_column}
use Rattle.mysql_wire_part.specs.Lenenc.{read_lenenc}
use Rattle.mysql_wire_part.specs.declared.column.ColumnType.{ColumnType}
use Rattle.mysql_value_core.specs.declared.value.Value.{Value}
use Rattle.mysql_values.specs.BinaryReading.{read_binary}
use Rattle.mysql_params_core.specs.GivenValues.{Given, empty, named, positional}
use Rattle.mysql_flat_params.specs.ColumnNumbers.{column_type, is_unsigned_parameter}

-- Why a form is refused: `place` is the number of the refused parameter, from 0, and `position` the
-- index of its first byte in the form.
pub data FormRefusal : Type 0 where
  -- the form ends within the parameter
  form_end : (place position : ℕ) → FormRefusal
  -- a length-encoded string begins with this byte, which can't begin a length
  length_lead : (place position lead : ℕ) → FormRefusal
  -- this isn't the number of a type whose values can be read
  unread_type : (place position number : ℕ) → FormRefusal
  -- it has a name and those before it have none, or it has none and those before it have one
  mixed_form : (place position : ℕ) → FormRefusal
  -- one before it has its name, of `len` bytes; here `position` is that of the name's first byte
  repeated_name : (place position len : ℕ) → FormRefusal

-- the result that is read at the front and the bytes after it, or why the form is refused
abbrev pub FormReading : Type 0 → Type 0
FormReading X = Result (X × List ℕ) FormRefusal

-- a refusal of a reading of the protocol, in the parameter of this place and position, whose
-- type has this number
abbrev pub refused_in : (place position number : ℕ) → ReadRefusal → FormRefusal
refused_in place position number unexpected_eof = form_end place position
refused_in place position number (bad_length_lead lead) = length_lead place position lead
refused_in place position number (unsupported_column column) = unread_type place position number

-- a reading of the protocol there
abbrev pub in_parameter : {X : Type 0} → (place position number : ℕ) → Reading X → FormReading X
in_parameter place position number (Ok read) = Ok read
in_parameter place position number (Err refusal) = Err (refused_in place position number refusal)

-- the name; reading it refuses no type, so the number 0 is never reported
abbrev pub read_name : (place position : ℕ) → List ℕ → FormReading (List ℕ)
read_name place position bytes = in_parameter place position 0 (read_lenenc bytes)

-- a value of the type with this number, if there is one
abbrev pub read_of_type : (place position number : ℕ) → Option ColumnType → Bool → List ℕ
    → FormReading Value
read_of_type place position number None unsigned bytes = Err (unread_type place position number)
read_of_type place position number (Some column) unsigned bytes =
    in_parameter place position number (read_binary column unsigned bytes)

-- the number of a type, flags, and a value of that type
abbrev pub read_value : (place position : ℕ) → List ℕ → FormReading Value
read_value place position [] = Err (form_end place position)
read_value place position (number ∷ []) = Err (form_end place position)
read_value place position (number ∷ flags ∷ bytes) =
    read_of_type place position number (column_type number) (is_unsigned_parameter flags) bytes

-- why a name is refused after parameters that give this; the name itself is at `at`
abbrev pub name_refusal : (place position at : ℕ) → Given → List ℕ → Option FormRefusal
name_refusal place position at empty name = None
name_refusal place position at (positional values) [] = None
name_refusal place position at (positional values) (b ∷ name) = Some (mixed_form place position)
name_refusal place position at (named entries) [] = Some (mixed_form place position)
name_refusal place position at (named entries) (b ∷ name) =
    if finite.contains_key entries (b ∷ name)
    then Some (repeated_name place at (length (b ∷ name)))
    else None

-- the parameters with one more, whose name is not refused
abbrev pub with_parameter : Given → List ℕ → Value → Given
with_parameter empty [] value = positional (value ∷ [])
with_parameter empty (b ∷ name) value = named (finite.insert finite.empty (b ∷ name) value)
with_parameter (positional values) name value = positional (values ++ value ∷ [])
with_parameter (named entries) name value = named (finite.insert entries name value)

-- the parameters with the value that was read, or the refusal of the value
abbrev pub after_value : Given → List ℕ → FormReading Value → FormReading Given
after_value given name (Ok read) = Ok (with_parameter given name read.0, read.1)
after_value given name (Err refusal) = Err refusal

-- after a name: its refusal, or else the value
abbrev pub value_unless : Option FormRefusal → (place position : ℕ) → Given → List ℕ → List ℕ
    → FormReading Given
value_unless (Some refusal) place position given name bytes = Err refusal
value_unless None place position given name bytes =
    after_value given name (read_value place position bytes)

-- the refusal of the name that was read, or else the parameters with the value after it; the form
-- has `total` bytes
abbrev pub after_name : (total place position : ℕ) → Given → FormReading (List ℕ)
    → FormReading Given
after_name total place position given (Err refusal) = Err refusal
after_name total place position given (Ok read) =
    value_unless
    (name_refusal place position (total - length read.1 - length read.0) given read.0)
    place position given read.0 read.1

-- the parameters with the one at the front of these bytes, which are the end of a form of `total`
-- bytes: its name is read and checked, and then its value is read
abbrev pub read_parameter : (total place : ℕ) → Given → List ℕ → FormReading Given
read_parameter total place given bytes =
    after_name total place (total - length bytes) given
    (read_name place (total - length bytes) bytes)

-- the first parameter of the form is read
abbrev pub HasFirstParameter : List ℕ → Type 0
HasFirstParameter form = IsOk (read_parameter (length form) 0 empty form)

-- these bytes end a form after `place` parameters, which give this: the parameters of the whole
-- form, or why it is refused
pub data IsReadFrom : (total place : ℕ) → Given → List ℕ → Result Given FormRefusal → Type 0 where
  -- nothing is left
  read_to_end : (total place : ℕ) (given : Given) → IsReadFrom total place given [] (Ok given)
  -- the next parameter is refused
  refused_at : (total place : ℕ) (given : Given) (b : ℕ) (bytes : List ℕ) (refusal : FormRefusal) →
      read_parameter total place given (b ∷ bytes) ≡ Err refusal →
      IsReadFrom total place given (b ∷ bytes) (Err refusal)
  -- the next parameter is read, and then the bytes after it
  read_on : (total place : ℕ) (given : Given) (b : ℕ) (bytes : List ℕ) (more : Given)
      (rest : List ℕ) (reading : Result Given FormRefusal) →
      read_parameter total place given (b ∷ bytes) ≡ Ok (more, rest) →
      IsReadFrom total (place + 1) more rest reading →
      IsReadFrom total place given (b ∷ bytes) reading

-- the parameters of a form, or why it is refused: they are read in order, and the first refusal
-- ends the reading
abbrev pub IsFormReading : List ℕ → Result Given FormRefusal → Type 0
IsFormReading form = IsReadFrom (length form) 0 empty form
