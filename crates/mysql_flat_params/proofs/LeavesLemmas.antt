-- How many bytes a reading leaves: fewer than before, if a parameter is read.
use Rattle.std.specs.Prelude.{nat_le, nat_lt, Result, Ok, Err, Option, Some, None, ⊤, ◌==◌}
use Rattle.std.proofs.Common.{◌≡◌, ℕ, ◌+◌, ◌-◌, ◌<◌, ◌≤◌, Bool, true, false, List, [], ◌∷◌, length, take, drop, if◌then◌else◌, ap, subst, arith, length-append}
use Rattle.std.proofs.lemmas.List.{length-drop, take-append-drop}
use Rattle.mysql_wire_part.specs.Reading.{Reading, read_bytes, read_number, map_read, and_then_read}
use Rattle.mysql_wire_part.specs.Lenenc.{read_length, read_lenenc, least_lead, lead_of_two, lead_of_three, lead_of_eight}
use Rattle.mysql_wire_part.specs.declared.column.ColumnType.{ColumnType}
use Rattle.mysql_wire_part.specs.declared.column.ColumnType.TheVariants.{MYSQL_TYPE_DECIMAL, MYSQL_TYPE_TINY, MYSQL_TYPE_SHORT, MYSQL_TYPE_LONG, MYSQL_TYPE_FLOAT, MYSQL_TYPE_DOUBLE, MYSQL_TYPE_NULL, MYSQL_TYPE_TIMESTAMP, MYSQL_TYPE_LONGLONG, MYSQL_TYPE_INT24, MYSQL_TYPE_DATE, MYSQL_TYPE_TIME, MYSQL_TYPE_DATETIME, MYSQL_TYPE_YEAR, MYSQL_TYPE_NEWDATE, MYSQL_TYPE_VARCHAR, MYSQL_TYPE_BIT, MYSQL_TYPE_TIMESTAMP2, MYSQL_TYPE_DATETIME2, MYSQL_TYPE_TIME2, MYSQL_TYPE_TYPED_ARRAY, MYSQL_TYPE_VECTOR, MYSQL_TYPE_UNKNOWN, MYSQL_TYPE_JSON, MYSQL_TYPE_NEWDECIMAL, MYSQL_TYPE_ENUM, MYSQL_TYPE_SET, MYSQL_TYPE_TINY_BLOB, MYSQL_TYPE_MEDIUM_BLOB, MYSQL_TYPE_LONG_BLOB, MYSQL_TYPE_BLOB, MYSQL_TYPE_VAR_STRING, MYSQL_TYPE_STRING, MYSQL_TYPE_GEOMETRY}
use Rattle.mysql_value_core.specs.declared.value.Value.{Value}
use Rattle.mysql_values.specs.BinaryReading.{read_counted, read_bytes_value, read_integer, read_date, read_time, read_binary}
use Rattle.mysql_params_core.specs.Given.{Given}
use Rattle.mysql_flat_params.specs.ColumnNumbers.{column_type, is_unsigned_parameter}
use Rattle.mysql_flat_params.specs.FlatForm.{FormRefusal, FormReading, in_parameter, read_name, read_of_type, read_value, name_refusal, after_value, value_unless, after_name, read_parameter}

-- the reading leaves at most `n` bytes
abbrev pub Leaves : {X E : Type 0} → ℕ → Result (X × List ℕ) E → Type 0
Leaves n (Ok read) = length read.1 ≤ n
Leaves n (Err refusal) = ⊤

module _ {X E : Type 0} (n : ℕ) where
  leaves_if : (b : Bool) (x y : Result (X × List ℕ) E) → Leaves n x → Leaves n y → Leaves n (if b then x else y)
  leaves_if true x y hx hy = hx
  leaves_if false x y hx hy = hy

  leaves_more : (m : ℕ) (x : Result (X × List ℕ) E) → m ≤ n → Leaves m x → Leaves n x
  leaves_more m (Ok read) le h = omega arith
  leaves_more m (Err e) le h = tt

module _ {X Y : Type 0} (n : ℕ) where
  leaves_map : (make : X → Y) (read : Reading X) → Leaves n read → Leaves n (map_read make read)
  leaves_map make (Ok read) h = h
  leaves_map make (Err e) h = tt

  leaves_then : (read : Reading X) (next : X → List ℕ → Reading Y) → Leaves n read →
      ((x : X) (rest : List ℕ) → Leaves (length rest) (next x rest)) → Leaves n (and_then_read read next)
  leaves_then (Ok read) next h k = leaves_more n (length read.1) (next read.0 read.1) h (k read.0 read.1)
  leaves_then (Err e) next h k = tt

leaves_bytes : (k : ℕ) (bytes : List ℕ) → Leaves (length bytes) (read_bytes k bytes)
leaves_bytes k bytes =
    leaves_if (length bytes) (nat_le k (length bytes)) _ _ (omega (arith, length-drop k bytes)) tt

leaves_number : (k : ℕ) (bytes : List ℕ) → Leaves (length bytes) (read_number k bytes)
leaves_number k bytes =
    leaves_if (length bytes) (nat_le k (length bytes)) _ _ (omega (arith, length-drop k bytes)) tt

leaves_length : (b : ℕ) (bytes : List ℕ) → Leaves (length bytes) (read_length (b ∷ bytes))
leaves_length b bytes =
    leaves_if (length bytes) (nat_lt b least_lead) _ _ (omega arith)
    (leaves_if (length bytes) (b == lead_of_two) _ _ (leaves_number 2 bytes)
    (leaves_if (length bytes) (b == lead_of_three) _ _ (leaves_number 3 bytes)
    (leaves_if (length bytes) (b == lead_of_eight) _ _ (leaves_number 8 bytes) tt)))

-- the bytes that are read and those that are left are among these bytes
abbrev Within : ℕ → Reading (List ℕ) → Type 0
Within n (Ok read) = length read.0 + length read.1 ≤ n
Within n (Err refusal) = ⊤

within_if : (n : ℕ) (b : Bool) (x y : Reading (List ℕ)) → Within n x → Within n y → Within n (if b then x else y)
within_if n true x y hx hy = hx
within_if n false x y hx hy = hy

within_bytes : (k : ℕ) (bytes : List ℕ) → Within (length bytes) (read_bytes k bytes)
within_bytes k bytes =
    within_if (length bytes) (nat_le k (length bytes)) _ _
    (omega (arith, ap length (take-append-drop k bytes), length-append (take k bytes) (drop k bytes))) tt

within_more : (m n : ℕ) (read : Reading (List ℕ)) → m ≤ n → Within m read → Within n read
within_more m n (Ok read) le h = omega arith
within_more m n (Err e) le h = tt

within_then : (n : ℕ) (read : Reading ℕ) → Leaves n read → Within n (and_then_read read read_bytes)
within_then n (Ok read) h = within_more (length read.1) n (read_bytes read.0 read.1) h (within_bytes read.0 read.1)
within_then n (Err e) h = tt

-- a string, its length of at least a byte, and the bytes that are left after it are all bytes that
-- there were
pub lenenc_within : (bytes text rest : List ℕ) → read_lenenc bytes ≡ Ok (text, rest) → length text + length rest < length bytes
lenenc_within [] text rest is = cc
lenenc_within (b ∷ bytes) text rest is =
    let h : length text + length rest ≤ length bytes = subst (Within (length bytes)) is (within_then (length bytes) (read_length (b ∷ bytes)) (leaves_length b bytes)) in
    omega arith

-- a string takes at least a byte
pub leaves_lenenc : (b : ℕ) (bytes : List ℕ) → Leaves (length bytes) (read_lenenc (b ∷ bytes))
leaves_lenenc b bytes =
    leaves_then (length bytes) (read_length (b ∷ bytes)) read_bytes (leaves_length b bytes) leaves_bytes

leaves_bytes_value : (bytes : List ℕ) → Leaves (length bytes) (read_bytes_value bytes)
leaves_bytes_value [] = tt
leaves_bytes_value (b ∷ bytes) =
    leaves_map (length (b ∷ bytes)) _ (read_lenenc (b ∷ bytes))
    (leaves_more (length (b ∷ bytes)) (length bytes) (read_lenenc (b ∷ bytes)) (omega arith) (leaves_lenenc b bytes))

leaves_integer : (width : ℕ) (unsigned : Bool) (bytes : List ℕ) → Leaves (length bytes) (read_integer width unsigned bytes)
leaves_integer width unsigned bytes = leaves_map (length bytes) _ (read_number width bytes) (leaves_number width bytes)

leaves_counted : (bytes : List ℕ) → Leaves (length bytes) (read_counted bytes)
leaves_counted bytes = leaves_then (length bytes) (read_number 1 bytes) read_bytes (leaves_number 1 bytes) leaves_bytes

leaves_date : (bytes : List ℕ) → Leaves (length bytes) (read_date bytes)
leaves_date bytes = leaves_map (length bytes) _ (read_counted bytes) (leaves_counted bytes)

leaves_time : (bytes : List ℕ) → Leaves (length bytes) (read_time bytes)
leaves_time bytes = leaves_map (length bytes) _ (read_counted bytes) (leaves_counted bytes)

leaves_binary : (column : ColumnType) (unsigned : Bool) (bytes : List ℕ) → Leaves (length bytes) (read_binary column unsigned bytes)
leaves_binary MYSQL_TYPE_STRING unsigned bytes = leaves_bytes_value bytes
leaves_binary MYSQL_TYPE_VAR_STRING unsigned bytes = leaves_bytes_value bytes
leaves_binary MYSQL_TYPE_BLOB unsigned bytes = leaves_bytes_value bytes
leaves_binary MYSQL_TYPE_TINY_BLOB unsigned bytes = leaves_bytes_value bytes
leaves_binary MYSQL_TYPE_MEDIUM_BLOB unsigned bytes = leaves_bytes_value bytes
leaves_binary MYSQL_TYPE_LONG_BLOB unsigned bytes = leaves_bytes_value bytes
leaves_binary MYSQL_TYPE_SET unsigned bytes = leaves_bytes_value bytes
leaves_binary MYSQL_TYPE_ENUM unsigned bytes = leaves_bytes_value bytes
leaves_binary MYSQL_TYPE_DECIMAL unsigned bytes = leaves_bytes_value bytes
leaves_binary MYSQL_TYPE_VARCHAR unsigned bytes = leaves_bytes_value bytes
leaves_binary MYSQL_TYPE_BIT unsigned bytes = leaves_bytes_value bytes
leaves_binary MYSQL_TYPE_NEWDECIMAL unsigned bytes = leaves_bytes_value bytes
leaves_binary MYSQL_TYPE_GEOMETRY unsigned bytes = leaves_bytes_value bytes
leaves_binary MYSQL_TYPE_VECTOR unsigned bytes = leaves_bytes_value bytes
leaves_binary MYSQL_TYPE_JSON unsigned bytes = leaves_bytes_value bytes
leaves_binary MYSQL_TYPE_TINY unsigned bytes = leaves_integer 1 unsigned bytes
leaves_binary MYSQL_TYPE_SHORT unsigned bytes = leaves_integer 2 unsigned bytes
leaves_binary MYSQL_TYPE_YEAR unsigned bytes = leaves_integer 2 unsigned bytes
leaves_binary MYSQL_TYPE_LONG unsigned bytes = leaves_integer 4 unsigned bytes
leaves_binary MYSQL_TYPE_INT24 unsigned bytes = leaves_integer 4 unsigned bytes
leaves_binary MYSQL_TYPE_LONGLONG unsigned bytes = leaves_integer 8 unsigned bytes
leaves_binary MYSQL_TYPE_FLOAT unsigned bytes = leaves_map (length bytes) _ (read_number 4 bytes) (leaves_number 4 bytes)
leaves_binary MYSQL_TYPE_DOUBLE unsigned bytes = leaves_map (length bytes) _ (read_number 8 bytes) (leaves_number 8 bytes)
leaves_binary MYSQL_TYPE_TIMESTAMP unsigned bytes = leaves_date bytes
leaves_binary MYSQL_TYPE_DATE unsigned bytes = leaves_date bytes
leaves_binary MYSQL_TYPE_NEWDATE unsigned bytes = leaves_date bytes
leaves_binary MYSQL_TYPE_DATETIME unsigned bytes = leaves_date bytes
leaves_binary MYSQL_TYPE_TIME unsigned bytes = leaves_time bytes
leaves_binary MYSQL_TYPE_NULL unsigned bytes = omega arith
leaves_binary MYSQL_TYPE_TIMESTAMP2 unsigned bytes = tt
leaves_binary MYSQL_TYPE_DATETIME2 unsigned bytes = tt
leaves_binary MYSQL_TYPE_TIME2 unsigned bytes = tt
leaves_binary MYSQL_TYPE_TYPED_ARRAY unsigned bytes = tt
leaves_binary MYSQL_TYPE_UNKNOWN unsigned bytes = tt

pub leaves_in : {X : Type 0} (n place position number : ℕ) (read : Reading X) → Leaves n read → Leaves n (in_parameter place position number read)
leaves_in n place position number (Ok read) h = h
leaves_in n place position number (Err e) h = tt

leaves_of_type : (place position number : ℕ) (column : Option ColumnType) (unsigned : Bool) (bytes : List ℕ) → Leaves (length bytes) (read_of_type place position number column unsigned bytes)
leaves_of_type place position number None unsigned bytes = tt
leaves_of_type place position number (Some column) unsigned bytes =
    leaves_in (length bytes) place position number (read_binary column unsigned bytes) (leaves_binary column unsigned bytes)

-- a value leaves no more than there was
pub leaves_value : (place position : ℕ) (bytes : List ℕ) → Leaves (length bytes) (read_value place position bytes)
leaves_value place position [] = tt
leaves_value place position (number ∷ []) = tt
leaves_value place position (number ∷ flags ∷ bytes) =
    leaves_more (length (number ∷ flags ∷ bytes)) (length bytes) _ (omega arith)
    (leaves_of_type place position number (column_type number) (is_unsigned_parameter flags) bytes)

leaves_with : (n : ℕ) (given : Given) (name : List ℕ) (read : FormReading Value) → Leaves n read → Leaves n (after_value given name read)
leaves_with n given name (Ok read) h = h
leaves_with n given name (Err e) h = tt

leaves_unless : (refusal : Option FormRefusal) (place position : ℕ) (given : Given) (name bytes : List ℕ) → Leaves (length bytes) (value_unless refusal place position given name bytes)
leaves_unless (Some e) place position given name bytes = tt
leaves_unless None place position given name bytes =
    leaves_with (length bytes) given name (read_value place position bytes) (leaves_value place position bytes)

leaves_after_name : (n total place position : ℕ) (given : Given) (name : FormReading (List ℕ)) → Leaves n name → Leaves n (after_name total place position given name)
leaves_after_name n total place position given (Err e) h = tt
leaves_after_name n total place position given (Ok read) h =
    leaves_more n (length read.1) _ h
    (leaves_unless (name_refusal place position (total - length read.1 - length read.0) given read.0) place position given read.0 read.1)

-- a parameter takes at least a byte
pub leaves_parameter : (total place : ℕ) (given : Given) (b : ℕ) (bytes : List ℕ) → Leaves (length bytes) (read_parameter total place given (b ∷ bytes))
leaves_parameter total place given b bytes =
    let position = total - length (b ∷ bytes) in
    leaves_after_name (length bytes) total place position given (read_name place position (b ∷ bytes))
    (leaves_in (length bytes) place position 0 (read_lenenc (b ∷ bytes)) (leaves_lenenc b bytes))

-- the bytes that a value leaves, if it is read
pub value_leaves : (place position : ℕ) (bytes : List ℕ) (value : Value) (rest : List ℕ) →
    read_value place position bytes ≡ Ok (value, rest) → length rest ≤ length bytes
value_leaves place position bytes value rest is = subst (Leaves (length bytes)) is (leaves_value place position bytes)
