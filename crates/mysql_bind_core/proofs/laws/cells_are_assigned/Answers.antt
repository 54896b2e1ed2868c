use Rattle.std.proofs.Common.{◌<◌, ◌^◌, ℕ, suc, List, [], ◌∷◌, All, length, refl, ap, arith}
use denote.RawPtr.{null_ptr}
use Rattle.std.specs.Global.{Global, Vec}
use Rattle.mysql_bind_core.specs.Cells.{AreAssigned, assignment_said}
use Rattle.mysql_bind_core.specs.declared.assignment.Assignment.{Assignment}
use Rattle.mysql_bind_core.specs.declared.cell.Cell.{Cell}
use Rattle.mysql_bind_core.proofs.laws.cells_are_assigned.Goals as goal

-- a vector of bytes that fit into memory
abbrev vector : Global → (bytes : List ℕ) → length bytes < 2 ^ 63 → Vec ℕ
vector alloc bytes fits = record {
  ptr = null_ptr;
  len = length bytes;
  cap = length bytes;
  alloc = alloc;
  items = bytes;
  ok = (refl, omega arith);
  small = fits;
}

pub returns : goal.returns
returns c = λ columns cells names bytes. assigned columns cells names bytes
  where
    assigned : (columns : List (List ℕ)) (cells : List Cell) → All (λ name. length name < 2 ^ 63) columns → All (λ (cell : Cell). length cell.bytes.now < 2 ^ 63) cells →
        (assignments : List Assignment) × AreAssigned columns cells assignments
    assigned [] cells names bytes = ([], refl)
    assigned (n ∷ ns) [] names bytes = ([], refl)
    assigned (n ∷ ns) (k ∷ ks) names bytes =
        let name = vector c.args.alloc n (names 0 [] (omega arith)) in
        let one : Assignment = record { name = name; value_type = k.value_type; bytes = vector c.args.alloc k.bytes.now (bytes 0 k (omega arith)) } in
        let more = assigned ns ks (λ i d h. names (suc i) d (omega (arith, h))) (λ i d h. bytes (suc i) d (omega (arith, h))) in
        (one ∷ more.0, ap (λ said. assignment_said one ∷ said) more.1)
