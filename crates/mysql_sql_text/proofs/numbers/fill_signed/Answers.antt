use Rattle.std.proofs.Common.{◌≡◌, ℕ, ◌-◌, ◌<◌, List, [], ◌∷◌, ◌++◌, length, slice_set, rules, ap, ◌∙◌, arith}
use Rattle.std.proofs.lemmas.List.{append-nil, drop_all}
use borrow.Rule.Slice.PartMut.{put_mid}
use Rattle.mysql_sql_text.proofs.numbers.fill_signed.Goals as goal

-- the buffer after a byte is written at its front, and then a text over all the rest
after_first : (buffer text : List ℕ) (first : ℕ) → 0 < length buffer →
    put_mid 1 (length (slice_set buffer 0 first) - 1) (slice_set buffer 0 first) text ≡ first ∷ text
after_first [] text first some = absurd (omega arith)
after_first (b ∷ bs) text first some =
    ap (λ rest. first ∷ (text ++ rest)) (drop_all (length (b ∷ bs) - 1) bs (omega arith)) ∙ ap (λ rest. first ∷ rest) (append-nil text)

pub returns-then-number-lt0 : goal.returns-then-number-lt0
returns-then-number-lt0 c = search (after_first, rules)
