-- Digits: each byte of them is one.
use Rattle.std.proofs.Common.{◌≡◌, ◌++◌, ℕ, true, List, [], ◌∷◌, refl}
use Rattle.std.proofs.lemmas.Bool.{and_from, and_parts}
use Rattle.std.specs.List.{list_all}
use Rattle.std.specs.Char.{is_ascii_digit}
use Rattle.mysql_sql_text.specs.LiteralShape.{AreDigits}

pub digits_all : (bytes : List ℕ) → AreDigits bytes → list_all is_ascii_digit bytes ≡ true
digits_all [] h = absurd h
digits_all (b ∷ bytes) h = and_from _ _ h.0 h.1

-- one digit more
pub digits_push : (front : List ℕ) (b : ℕ) → list_all is_ascii_digit front ≡ true → is_ascii_digit b ≡ true →
    AreDigits (front ++ b ∷ [])
digits_push [] b h e = (e, refl)
digits_push (c ∷ front) b h e =
    let p = and_parts (is_ascii_digit c) (list_all is_ascii_digit front) h in
    (p.0, digits_all (front ++ b ∷ []) (digits_push front b p.1 e))
