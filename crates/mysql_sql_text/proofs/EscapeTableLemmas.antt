-- Tables of the bytes after a backslash.
use Rattle.std.proofs.Common.{◌≡◌, ℕ, ◌<◌, Bool, true, false, ◌&&◌, eqb, cond, List, [], ◌∷◌, get_or, refl, ap₂}
use Rattle.std.proofs.lemmas.Bool.{agree_below, agree_below_at, and_parts, eqb-true, false≢true}
use Rattle.mysql_sql_text.specs.EscapedLanes.{first_byte, last_byte}
use Rattle.mysql_sql_text.specs.LiteralText.{escaped_byte, needs_escape}
use Rattle.mysql_sql_text.proofs.ByteNames.{backslash}

-- whether two texts are the same
abbrev same_text : List ℕ → List ℕ → Bool
same_text [] [] = true
same_text [] (b ∷ t) = false
same_text (a ∷ s) [] = false
same_text (a ∷ s) (b ∷ t) = eqb a b && same_text s t

same_text-true : (s t : List ℕ) → same_text s t ≡ true → s ≡ t
same_text-true [] [] h = refl
same_text-true [] (b ∷ t) h = absurd (false≢true h)
same_text-true (a ∷ s) [] h = absurd (false≢true h)
same_text-true (a ∷ s) (b ∷ t) h =
    let parts = and_parts (eqb a b) (same_text s t) h in
    ap₂ (λ x xs. x ∷ xs) (eqb-true a b parts.0) (same_text-true s t parts.1)

-- the escape of a byte by a table: 46 marks a byte that stands for itself
abbrev pub escape_by_table : List ℕ → ℕ → List ℕ
escape_by_table table b = cond (eqb (get_or table b 0) 46) (b ∷ []) (backslash ∷ get_or table b 0 ∷ [])

-- a table that was held against the definition at each of the 256 bytes
pub escaped_byte-by_table : (table : List ℕ) → agree_below (λ k. same_text (escaped_byte false k) (escape_by_table table k)) (λ _. true) 256 ≡ true
    → (b : ℕ) → b < 256 → escaped_byte false b ≡ escape_by_table table b
escaped_byte-by_table table all b h =
    same_text-true _ _ (agree_below_at (λ k. same_text (escaped_byte false k) (escape_by_table table k)) (λ _. true) 256 b all h)

-- a byte, after another one if it is part of an escape
abbrev pub with_first : Bool → ℕ → ℕ → List ℕ
with_first escape first last = cond escape (first ∷ last ∷ []) (last ∷ [])

-- the bytes that stand for a byte, by the first and the last of them
pub escaped_byte-parts : (mode : Bool) (b : ℕ) → b < 256 → with_first (needs_escape mode b) (first_byte mode) (last_byte mode b) ≡ escaped_byte mode b
escaped_byte-parts true b h =
    same_text-true _ _ (agree_below_at (λ k. same_text (with_first (needs_escape true k) (first_byte true) (last_byte true k)) (escaped_byte true k)) (λ _. true) 256 b refl h)
escaped_byte-parts false b h =
    same_text-true _ _ (agree_below_at (λ k. same_text (with_first (needs_escape false k) (first_byte false) (last_byte false k)) (escaped_byte false k)) (λ _. true) 256 b refl h)
