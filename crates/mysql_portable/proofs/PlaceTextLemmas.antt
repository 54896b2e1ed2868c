-- If no token is a place, the text has no place outside of tokens either: none joins a number.
use Rattle.std.specs.Prelude.{Bool}
use Rattle.std.proofs.Common.{◌≡◌, ◌≢◌, ℕ, true, false, ◌==◌, ◌&&◌, ◌||◌, List, [], ◌∷◌, ◌++◌, take, None, refl, sym, ap, ◌∙◌, subst, inl, inr, arith, true≢false}
use Rattle.std.specs.Char.{is_ascii_digit}
use Rattle.std.specs.Str.{byte}
use Rattle.std.proofs.lemmas.Bool.{and_parts, and_right, or_cases, false_from_ne_true, eqb-true}
use Rattle.mysql_named_params.specs.Bytes.{colon, dash, plus, question_mark, is_start_byte, begins, point}
use Rattle.mysql_named_params.specs.Tokens.{Token, bytes_of, text_of, IsToken, AreTokensBefore, Name, Mark, Plain, QuotedString, QuotedIdentifier, HashComment, DashComment, BlockComment}
use Rattle.mysql_named_params.specs.Places.{place_count}
use Rattle.mysql_named_params.specs.TokensOf.{name_len, not_plain_at}
use Rattle.mysql_named_params.proofs.TokenListLemmas.{one_token}
use Rattle.mysql_named_params.proofs.PlainLemmas.{not_plain_found}
use Rattle.mysql_portable.specs.Server.{begins_place}
use Rattle.mysql_portable.specs.Portable.{begins_exponent, JoinNoNumberBefore}
use Rattle.mysql_portable.proofs.PortableLemmas.{head_is}

-- a text that begins with a place has one
mark_first : (mode : Bool) (t : Token) (ts : List Token) (bs : List ℕ) → IsToken mode t (text_of ts) →
    bytes_of t ++ text_of ts ≡ question_mark ∷ bs → place_count (t ∷ ts) ≢ 0
mark_first mode t ts bs h e none =
    let same : t ≡ Mark = one_token mode t Mark (text_of ts) bs h tt e in
    absurd (omega (arith, none, ap (λ x. place_count (x ∷ ts)) same))

name_first : (mode : Bool) (t : Token) (ts : List Token) (bs : List ℕ) → IsToken mode t (text_of ts) →
    begins is_start_byte bs ≡ true → bytes_of t ++ text_of ts ≡ colon ∷ bs → place_count (t ∷ ts) ≢ 0
name_first mode t ts [] h s e none = true≢false (sym s)
name_first mode t ts (b ∷ bs) h s e none =
    let name : List ℕ = b ∷ take (name_len bs) bs in
    let f = not_plain_found mode (colon ∷ b ∷ bs) (Name name) (rw s refl) in
    let same : t ≡ Name name = one_token mode t (Name name) (text_of ts) f.0 h f.1 (e ∙ sym f.2) in
    absurd (omega (arith, none, ap (λ x. place_count (x ∷ ts)) same))

place_first : (mode : Bool) (ts : List Token) (text : List ℕ) → AreTokensBefore mode [] ts →
    text_of ts ≡ text → begins_place text ≡ true → place_count ts ≢ 0
place_first mode ts [] h e p none = true≢false (sym p)
place_first mode [] (b ∷ bs) h e p none = cc
place_first mode (t ∷ ts) (b ∷ bs) h e p none =
    elim (or_cases (b == question_mark) (b == colon && begins is_start_byte bs) p) [
      | inl q ↦ mark_first mode t ts bs h.0 (e ∙ ap (λ x. x ∷ bs) (eqb-true b question_mark q)) none
      | inr q ↦
          let c = and_parts (b == colon) (begins is_start_byte bs) q in
          name_first mode t ts bs h.0 c.1 (e ∙ ap (λ x. x ∷ bs) (eqb-true b colon c.0)) none
    ]

-- a sign before a place is plain
sign_plain : (mode : Bool) (sign : ℕ) (bs : List ℕ) → (sign == plus || sign == dash) ≡ true →
    begins_place bs ≡ true → not_plain_at mode (sign ∷ bs) ≡ None
sign_plain mode sign bs s p =
    elim (or_cases (sign == plus) (sign == dash) s) [
      | inl e ↦ ap (λ x. not_plain_at mode (x ∷ bs)) (eqb-true sign plus e)
      | inr e ↦ ap (λ x. not_plain_at mode (x ∷ bs)) (eqb-true sign dash e) ∙ dash_before bs p
    ]
  where
    no_dash : (b : ℕ) (bs : List ℕ) → begins_place (b ∷ bs) ≡ true → (b == dash) ≡ false
    no_dash b bs p = false_from_ne_true (b == dash) (λ e. true≢false (sym (subst (λ x. begins_place (x ∷ bs) ≡ true) (eqb-true b dash e) p)))

    dash_before : (bs : List ℕ) → begins_place bs ≡ true → not_plain_at mode (dash ∷ bs) ≡ None
    dash_before [] p = refl
    dash_before (b ∷ []) p = refl
    dash_before (b ∷ w ∷ bs) p = rw (no_dash b (w ∷ bs) p) refl

letter_plain : (mode : Bool) (e : ℕ) (bs : List ℕ) → (e == byte "e" || e == byte "E") ≡ true →
    not_plain_at mode (e ∷ bs) ≡ None
letter_plain mode e bs h =
    elim (or_cases (e == byte "e") (e == byte "E") h) [
      | inl f ↦ ap (λ x. not_plain_at mode (x ∷ bs)) (eqb-true e (byte "e") f)
      | inr f ↦ ap (λ x. not_plain_at mode (x ∷ bs)) (eqb-true e (byte "E") f)
    ]

-- a text that begins with an exponent and a place has one
exponent_first : (mode : Bool) (ts : List Token) (text : List ℕ) → AreTokensBefore mode [] ts →
    text_of ts ≡ text → begins_exponent text ≡ true → place_count ts ≢ 0
exponent_first mode ts [] h e p none = true≢false (sym p)
exponent_first mode ts (b ∷ []) h e p none = true≢false (sym p)
exponent_first mode ts (b ∷ sign ∷ bs) h e p none =
    let l = and_parts (b == byte "e" || b == byte "E") _ p in
    let s = and_parts (sign == plus || sign == dash) (begins_place bs) l.1 in
    let first = head_is mode ts b (sign ∷ bs) h e (letter_plain mode b (sign ∷ bs) l.0) in
    let h1 : AreTokensBefore mode [] (Plain b ∷ first.0) = subst (AreTokensBefore mode []) first.1 h in
    let second = head_is mode first.0 sign bs h1.1 first.2 (sign_plain mode sign bs s.0 s.1) in
    let h2 : AreTokensBefore mode [] (Plain sign ∷ second.0) = subst (AreTokensBefore mode []) second.1 h1.1 in
    let count : place_count second.0 ≡ 0 = sym (ap place_count first.1 ∙ ap place_count second.1) ∙ none in
    place_first mode second.0 bs h2.1 second.2 s.1 count

no_exponent : (mode : Bool) (ts : List Token) → AreTokensBefore mode [] ts → place_count ts ≡ 0 →
    begins_exponent (text_of ts) ≡ false
no_exponent mode ts h none =
    false_from_ne_true (begins_exponent (text_of ts)) (λ e. exponent_first mode ts (text_of ts) h refl e none)

pub placeless_join_no_number : (mode : Bool) (ts : List Token) → AreTokensBefore mode [] ts →
    place_count ts ≡ 0 → JoinNoNumberBefore [] ts
placeless_join_no_number mode [] h none = tt
placeless_join_no_number mode (Name name ∷ ts) h none = absurd (omega arith)
placeless_join_no_number mode (Mark ∷ ts) h none = absurd (omega arith)
placeless_join_no_number mode (Plain b ∷ ts) h none =
    (and_right (is_ascii_digit b || b == point) _ (no_exponent mode ts h.1 none), placeless_join_no_number mode ts h.1 none)
placeless_join_no_number mode (QuotedString quote tail ∷ ts) h none = (refl, placeless_join_no_number mode ts h.1 none)
placeless_join_no_number mode (QuotedIdentifier tail ∷ ts) h none = (refl, placeless_join_no_number mode ts h.1 none)
placeless_join_no_number mode (HashComment tail ∷ ts) h none = (refl, placeless_join_no_number mode ts h.1 none)
placeless_join_no_number mode (DashComment gap tail ∷ ts) h none = (refl, placeless_join_no_number mode ts h.1 none)
placeless_join_no_number mode (BlockComment tail ∷ ts) h none = (refl, placeless_join_no_number mode ts h.1 none)
