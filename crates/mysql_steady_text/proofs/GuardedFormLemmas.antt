-- Which of its three forms the guarded literal of bytes has.
use Rattle.std.proofs.Common.{◌≡◌, ◌++◌, ℕ, Bool, true, false, List, [], ◌∷◌, ◌∙◌, refl}
use Rattle.std.specs.Prelude.{codes, nat_le, ◌==◌}
use Rattle.std.specs.List.{list_all}
use Rattle.std.specs.Str.{byte, is_utf8}
use Rattle.std.proofs.lemmas.Bool.{cond-true, cond-false, cond_both, and_parts, not-true}
use Rattle.mysql_sql_text.specs.LiteralText.{escaped, escaped_byte, hexadecimal, quoted}
use Rattle.mysql_portable.specs.Steady.{is_no_backslash}
use Rattle.mysql_steady_text.specs.GuardedLiteral.{guarded, guarded_byte, guarded_bytes_literal, are_held}

pub literal-string : (mode : Bool) (bytes : List ℕ) → is_utf8 bytes ≡ true → are_held mode bytes ≡ true →
    guarded_bytes_literal mode bytes ≡ quoted (guarded false bytes)
literal-string mode bytes utf8 held = cond-true (is_utf8 bytes) _ _ utf8 ∙ cond-true (are_held mode bytes) _ _ held

pub literal-introduced : (mode : Bool) (bytes : List ℕ) → is_utf8 bytes ≡ true → are_held mode bytes ≡ false →
    guarded_bytes_literal mode bytes ≡ codes "_utf8mb4 0x" ++ hexadecimal bytes
literal-introduced mode bytes utf8 held = cond-true (is_utf8 bytes) _ _ utf8 ∙ cond-false (are_held mode bytes) _ _ held

pub literal-bare : (mode : Bool) (bytes : List ℕ) → is_utf8 bytes ≡ false →
    guarded_bytes_literal mode bytes ≡ codes "0x" ++ hexadecimal bytes
literal-bare mode bytes other = cond-false (is_utf8 bytes) _ _ other

-- without a backslash only quotes are doubled
guarded_byte-plain : (high : Bool) (b : ℕ) → is_no_backslash b ≡ true → guarded_byte high b ≡ escaped_byte true b
guarded_byte-plain high b h =
    cond_both (b == byte "'") (codes "''") _ (λ t. t ≡ escaped_byte true b) (λ e. rw e refl) (λ e. rw (e, not-true _ h) refl)

pub guarded-plain : (high : Bool) (bytes : List ℕ) → list_all is_no_backslash bytes ≡ true → guarded high bytes ≡ escaped true bytes
guarded-plain high [] h = refl
guarded-plain high (b ∷ bytes) h =
    let p = and_parts (is_no_backslash b) (list_all is_no_backslash bytes) h in
    rw (guarded_byte-plain high b p.0, guarded-plain (nat_le 128 b) bytes p.1) refl
