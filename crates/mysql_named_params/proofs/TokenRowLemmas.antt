-- Tokens in a row.
use Rattle.std.specs.Prelude.{Bool}
use Rattle.std.proofs.Common.{◌≡◌, ◌+◌, ◌++◌, ℕ, List, [], ◌∷◌, arith, length, refl, ap, ◌∙◌, sym, append_assoc}
use Rattle.mysql_named_params.specs.Tokens.{Token, AreTokensBefore, text_then, text_of, bytes_of, Name, Mark}
use Rattle.mysql_named_params.specs.Places.{names, marks, place_count, with_marks}

pub text_then-append : (xs ys : List Token) (rest : List ℕ) →
    text_then rest (xs ++ ys) ≡ text_then (text_then rest ys) xs
text_then-append [] ys rest = refl
text_then-append (x ∷ xs) ys rest = ap (λ u. bytes_of x ++ u) (text_then-append xs ys rest)

pub text_then-text_of : (xs : List Token) (rest : List ℕ) → text_then rest xs ≡ text_of xs ++ rest
text_then-text_of [] rest = refl
text_then-text_of (x ∷ xs) rest = ap (λ u. bytes_of x ++ u) (text_then-text_of xs rest) ∙ sym (append_assoc (bytes_of x) (text_of xs) rest)

pub text_of-append : (xs ys : List Token) → text_of (xs ++ ys) ≡ text_of xs ++ text_of ys
text_of-append xs ys = text_then-append xs ys [] ∙ text_then-text_of xs (text_of ys)

pub AreTokensBefore-append : (mode : Bool) (xs ys : List Token) (rest : List ℕ) →
    AreTokensBefore mode (text_then rest ys) xs → AreTokensBefore mode rest ys →
    AreTokensBefore mode rest (xs ++ ys)
AreTokensBefore-append mode [] ys rest b h = h
AreTokensBefore-append mode (x ∷ xs) ys rest b h = (rw (text_then-append xs ys rest) b.0, AreTokensBefore-append mode xs ys rest b.1 h)

pub AreTokensBefore-after : (mode : Bool) (xs ys : List Token) (rest : List ℕ) →
    AreTokensBefore mode rest (xs ++ ys) → AreTokensBefore mode rest ys
AreTokensBefore-after mode [] ys rest h = h
AreTokensBefore-after mode (x ∷ xs) ys rest h = AreTokensBefore-after mode xs ys rest h.1

pub names-append : (ts us : List Token) → names (ts ++ us) ≡ names ts ++ names us
names-append [] us = refl
names-append (Name name ∷ ts) us = ap (λ x. name ∷ x) (names-append ts us)
names-append (Mark ∷ ts) us = names-append ts us
names-append (t ∷ ts) us = names-append ts us

pub marks-append : (ts us : List Token) → marks (ts ++ us) ≡ marks ts + marks us
marks-append [] us = omega arith
marks-append (Mark ∷ ts) us = omega (arith, marks-append ts us)
marks-append (Name name ∷ ts) us = marks-append ts us
marks-append (t ∷ ts) us = marks-append ts us

pub place_count-append : (xs ys : List Token) →
    place_count (xs ++ ys) ≡ place_count xs + place_count ys
place_count-append [] ys = omega arith
place_count-append (Name name ∷ xs) ys = omega (arith, place_count-append xs ys)
place_count-append (Mark ∷ xs) ys = omega (arith, place_count-append xs ys)
place_count-append (x ∷ xs) ys = place_count-append xs ys

pub with_marks-append : (ts us : List Token) → with_marks (ts ++ us) ≡ with_marks ts ++ with_marks us
with_marks-append [] us = refl
with_marks-append (Name name ∷ ts) us = ap (λ x. Mark ∷ x) (with_marks-append ts us)
with_marks-append (Mark ∷ ts) us = ap (λ x. Mark ∷ x) (with_marks-append ts us)
with_marks-append (t ∷ ts) us = ap (λ x. t ∷ x) (with_marks-append ts us)

pub place_count-sum : (ts : List Token) → place_count ts ≡ length (names ts) + marks ts
place_count-sum [] = refl
place_count-sum (Name name ∷ ts) = omega (arith, place_count-sum ts)
place_count-sum (Mark ∷ ts) = omega (arith, place_count-sum ts)
place_count-sum (t ∷ ts) = place_count-sum ts

-- without a name the tokens stay as they are
pub with_marks-nameless : (ts : List Token) → length (names ts) ≡ 0 → with_marks ts ≡ ts
with_marks-nameless [] e = refl
with_marks-nameless (Name name ∷ ts) e = absurd (omega arith)
with_marks-nameless (Mark ∷ ts) e = ap (λ x. Mark ∷ x) (with_marks-nameless ts e)
with_marks-nameless (t ∷ ts) e = ap (λ x. t ∷ x) (with_marks-nameless ts e)
