-- How many bytes a reading leaves: fewer than before, if a parameter is read.
use Rattle.std.specs.Prelude.{nat_le, Ok, Err, Option, Some, None, ◌==◌}
use Rattle.std.proofs.Common.{ℕ, zero, suc, ◌-◌, ◌≤◌, Bool, true, false, List, [], ◌∷◌, ◌++◌, length, drop, if◌then◌else◌, arith}
use Rattle.std.proofs.lemmas.List.{length-drop}
use Rattle.mysql_wire_part.specs.Reading.{ReadRefusal, read_number, unexpected_eof}
use Rattle.mysql_wire_part.specs.Lenenc.{read_lenenc}
use Rattle.mysql_fragments.specs.GivenFragments.{GivenFragments}
use Rattle.mysql_flat_params.specs.FlatForm.{FormRefusal, FormReading, read_name, read_value}
use Rattle.mysql_flat_params.proofs.LeavesLemmas.{Leaves, leaves_lenenc, leaves_value, leaves_in}
use Rattle.mysql_flat_params.specs.FlatFragments.{map_form, and_then_form, read_count, read_each, read_all, read_item, read_items, read_names, read_assignment, read_keyword, read_fragment, read_parameter, fragment_unless, name_refusal, number_type, list_type, rows_type, identifier_type, qualified_type, keyword_type, identifiers_type, assignments_type, layout_type, read_fragment_of}

leaves_if : {X : Type 0} (n : ℕ) (b : Bool) (x y : FormReading X) → Leaves n x → Leaves n y → Leaves n (if b then x else y)
leaves_if n true x y hx hy = hx
leaves_if n false x y hx hy = hy

leaves_more : {X : Type 0} (m n : ℕ) (x : FormReading X) → m ≤ n → Leaves m x → Leaves n x
leaves_more m n (Ok read) le h = omega arith
leaves_more m n (Err e) le h = tt

leaves_map : {X Y : Type 0} (n : ℕ) (make : X → Y) (read : FormReading X) → Leaves n read → Leaves n (map_form make read)
leaves_map n make (Ok read) h = h
leaves_map n make (Err e) h = tt

leaves_then : {X Y : Type 0} (n : ℕ) (read : FormReading X) (next : X → List ℕ → FormReading Y) → Leaves n read →
    ((x : X) (rest : List ℕ) → Leaves (length rest) (next x rest)) → Leaves n (and_then_form read next)
leaves_then n (Ok read) next h k = leaves_more (length read.1) n (next read.0 read.1) h (k read.0 read.1)
leaves_then n (Err e) next h k = tt

-- a name takes at least a byte
leaves_name_after : (place position b : ℕ) (bytes : List ℕ) → Leaves (length bytes) (read_name place position (b ∷ bytes))
leaves_name_after place position b bytes = leaves_in (length bytes) place position 0 (read_lenenc (b ∷ bytes)) (leaves_lenenc b bytes)

leaves_name : (place position : ℕ) (bytes : List ℕ) → Leaves (length bytes) (read_name place position bytes)
leaves_name place position [] = tt
leaves_name place position (b ∷ bytes) =
    leaves_more (length bytes) (length (b ∷ bytes)) (read_name place position (b ∷ bytes)) (omega arith) (leaves_name_after place position b bytes)

leaves_count : (place position : ℕ) (bytes : List ℕ) → Leaves (length bytes) (read_count place position bytes)
leaves_count place position bytes = leaves_in (length bytes) place position 0 (read_number 4 bytes) (tested _ (nat_le 4 (length bytes)))
  where
    tested : (k : ℕ) (b : Bool) → Leaves {X = ℕ} {E = ReadRefusal} (length bytes) (if b then Ok (k, drop 4 bytes) else Err unexpected_eof)
    tested k true = omega (arith, length-drop 4 bytes)
    tested k false = tt

module _ {X : Type 0} (one : List ℕ → FormReading X) (leaves_one : (bytes : List ℕ) → Leaves (length bytes) (one bytes)) where
  leaves_each : (n : ℕ) (xs : List X) (bytes : List ℕ) → Leaves (length bytes) (read_each one n xs bytes)
  leaves_each zero xs bytes = omega arith
  leaves_each (suc n) xs bytes =
      leaves_then (length bytes) (one bytes) (λ x rest. read_each one n (xs ++ x ∷ []) rest) (leaves_one bytes) (λ x rest. leaves_each n (xs ++ x ∷ []) rest)

  leaves_all : (place position : ℕ) (bytes : List ℕ) → Leaves (length bytes) (read_all place position one bytes)
  leaves_all place position bytes =
      leaves_then (length bytes) (read_count place position bytes) (λ count rest. read_each one count [] rest) (leaves_count place position bytes)
      (λ count rest. leaves_each count [] rest)

-- a value after its type and its flags
leaves_typed : (place position type flags : ℕ) (bytes : List ℕ) →
    Leaves (length (type ∷ flags ∷ bytes)) (read_value place position (type ∷ flags ∷ bytes))
leaves_typed place position type flags bytes = leaves_value place position (type ∷ flags ∷ bytes)

module _ (place position : ℕ) where
  -- the same, for a reading that takes no more than the bytes after type and flags
  after_type : {X : Type 0} (type flags : ℕ) (bytes : List ℕ) (read : FormReading X) → Leaves (length bytes) read →
      Leaves (length (type ∷ flags ∷ bytes)) read
  after_type type flags bytes read h = leaves_more (length bytes) (length (type ∷ flags ∷ bytes)) read (omega arith) h

  leaves_item : (bytes : List ℕ) → Leaves (length bytes) (read_item place position bytes)
  leaves_item [] = tt
  leaves_item (type ∷ []) = tt
  leaves_item (type ∷ flags ∷ bytes) =
      leaves_if (length (type ∷ flags ∷ bytes)) (type == number_type) _ _
      (after_type type flags bytes _ (leaves_map (length bytes) _ (read_name place position bytes) (leaves_name place position bytes)))
      (leaves_map (length (type ∷ flags ∷ bytes)) _ (read_value place position (type ∷ flags ∷ bytes)) (leaves_typed place position type flags bytes))

  leaves_items : (bytes : List ℕ) → Leaves (length bytes) (read_items place position bytes)
  leaves_items bytes = leaves_all (read_item place position) leaves_item place position bytes

  leaves_names : (bytes : List ℕ) → Leaves (length bytes) (read_names place position bytes)
  leaves_names bytes = leaves_all (read_name place position) (λ b. leaves_name place position b) place position bytes

  leaves_assignment : (bytes : List ℕ) → Leaves (length bytes) (read_assignment place position bytes)
  leaves_assignment bytes =
      leaves_then (length bytes) (read_names place position bytes) _ (leaves_names bytes)
      (λ names rest. leaves_map (length rest) _ (read_item place position rest) (leaves_item rest))

  leaves_keyword : (bytes : List ℕ) → Leaves (length bytes) (read_keyword place position bytes)
  leaves_keyword bytes = leaves_map (length bytes) _ (read_name place position bytes) (leaves_name place position bytes)

  leaves_layout : (type flags : ℕ) (bytes : List ℕ) → Leaves (length (type ∷ flags ∷ bytes)) (read_fragment_of place position type flags bytes)
  leaves_layout type flags bytes =
      leaves_if _ (type == number_type) _ _ (after_type type flags bytes _ (leaves_map (length bytes) _ _ (leaves_name place position bytes)))
      (leaves_if _ (type == list_type) _ _ (after_type type flags bytes _ (leaves_map (length bytes) _ _ (leaves_items bytes)))
      (leaves_if _ (type == rows_type) _ _
      (after_type type flags bytes _ (leaves_map (length bytes) _ _ (leaves_all (read_items place position) leaves_items place position bytes)))
      (leaves_if _ (type == identifier_type) _ _ (after_type type flags bytes _ (leaves_map (length bytes) _ _ (leaves_name place position bytes)))
      (leaves_if _ (type == qualified_type) _ _
      (after_type type flags bytes _ (leaves_map (length bytes) _ _ (leaves_names bytes)))
      (leaves_if _ (type == keyword_type) _ _ (after_type type flags bytes _ (leaves_map (length bytes) _ _ (leaves_keyword bytes)))
      (leaves_if _ (type == identifiers_type) _ _
      (after_type type flags bytes _ (leaves_map (length bytes) _ _ (leaves_all (read_names place position) leaves_names place position bytes)))
      (leaves_if _ (type == assignments_type) _ _
      (after_type type flags bytes _ (leaves_map (length bytes) _ _ (leaves_all (read_assignment place position) leaves_assignment place position bytes)))
      (leaves_map (length (type ∷ flags ∷ bytes)) _ (read_value place position (type ∷ flags ∷ bytes))
      (leaves_typed place position type flags bytes)))))))))

  leaves_fragment : (bytes : List ℕ) → Leaves (length bytes) (read_fragment place position bytes)
  leaves_fragment [] = tt
  leaves_fragment (type ∷ []) = tt
  leaves_fragment (type ∷ flags ∷ bytes) = leaves_layout (layout_type type) flags bytes

  leaves_unless : (refusal : Option FormRefusal) (name bytes : List ℕ) → Leaves (length bytes) (fragment_unless refusal place position name bytes)
  leaves_unless (Some e) name bytes = tt
  leaves_unless None name bytes = leaves_map (length bytes) _ (read_fragment place position bytes) (leaves_fragment bytes)

-- a parameter takes at least a byte
pub leaves_parameter : (total place : ℕ) (given : GivenFragments) (b : ℕ) (bytes : List ℕ) →
    Leaves (length bytes) (read_parameter total place given (b ∷ bytes))
leaves_parameter total place given b bytes =
    let position = total - length (b ∷ bytes) in
    leaves_then (length bytes) (read_name place position (b ∷ bytes)) _ (leaves_name_after place position b bytes)
    (λ name rest. leaves_unless place position (name_refusal place position (total - length rest - length name) given name) name rest)
