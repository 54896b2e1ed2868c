use Rattle.std.proofs.Common.{◌≡◌, drop}
use Rattle.mysql_fragments.specs.BorrowedText.{first_borrowed_fault_from}
use Rattle.mysql_fragments.proofs.borrowed.first_borrowed_fault.Given as goal

abbrev pub invariant-loop-place : goal.invariant-loop-place
invariant-loop-place l = first_borrowed_fault_from l.place (drop l.place l.fragments) ≡ first_borrowed_fault_from 0 l.fragments
