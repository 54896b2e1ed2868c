-- Two bytes that are written side by side.
use Rattle.std.proofs.Common.{◌≡◌, ℕ, suc, ◌+◌, ◌≤◌, List, ◌∷◌, length, drop, set, ap, ◌∙◌, arith}
use Rattle.std.proofs.lemmas.List.{drop-set, drop-set-add}
use Rattle.std.proofs.Math.Seq.{drop-cons}

-- they come before the bytes that followed them
pub drop-set_two : (bytes : List ℕ) (at a b : ℕ) → at + 2 ≤ length bytes
    → drop at (set (set bytes at a) (at + 1) b) ≡ a ∷ b ∷ drop (at + 2) bytes
drop-set_two bytes at a b room =
    let two : suc (at + 1) ≡ at + 2 = omega arith in
    drop-set-add at (set bytes at a) 1 b ∙ ap (λ t. set t 1 b) (drop-set bytes at a (omega arith))
    ∙ ap (λ t. a ∷ set t 0 b) (drop-cons bytes (at + 1) 0 (omega arith)) ∙ ap (λ i. a ∷ b ∷ drop i bytes) two
