-- A quiet text stays quiet up to a place, where another text follows instead.
use Rattle.std.specs.Prelude.{Bool}
use Rattle.std.proofs.Common.{◌≡◌, ℕ, ◌+◌, true, false, cond, not, ◌==◌, ◌&&◌, ◌||◌, List, [], ◌∷◌, ◌++◌, refl, sym, ap, ◌∙◌, subst, inl, inr, true≢false}
use Rattle.std.specs.Char.{is_ascii_digit}
use Rattle.std.specs.Str.{byte}
use Rattle.std.proofs.lemmas.Bool.{and_parts, and_right, or_parts, or_cases, or_from, or_right, not-true, not-false, eqb-true}
use Rattle.mysql_named_params.specs.Bytes.{asterisk, backquote, dash, hash, slash, is_string_quote, is_white_space, begins, IsUpTo, up_to_word, up_to_end}
use Rattle.mysql_named_params.specs.Tokens.{Token, bytes_of, QuotedString, QuotedIdentifier, HashComment, DashComment, BlockComment, Name, Mark, Plain}
use Rattle.mysql_portable.specs.Server.{begins_special, begins_place, begins_own}
use Rattle.mysql_portable.specs.Portable.{differs_at, may_open_line, is_read_alike}
use Rattle.mysql_portable.specs.Quiet.{may_begin_something, is_for_client, stands_apart, closes, ends_version, is_version, is_quiet, IsQuietComment, begins_quiet}
use Rattle.mysql_portable.proofs.PortableLemmas.{second_false, false_if, is_alike_on_all}
use Rattle.mysql_binding.proofs.UpToSpliceLemmas.{SameUpToSplice, at_end, same, same-append, at_place, last_byte, portable_move, plain_move, same-end, place_byte}

-- ---- a byte that begins nothing stays one

no_place_slash : (b : ℕ) (x : List ℕ) → begins_place (b ∷ x) ≡ true → b ≡ slash → ⊥
no_place_slash b x p e = true≢false (sym (subst (λ u. begins_place (u ∷ x) ≡ true) e p))

-- a text that begins with a place doesn't stand apart
place_not_apart : (b : ℕ) (x : List ℕ) → begins_place (b ∷ x) ≡ true → stands_apart (b ∷ x) ≡ false
place_not_apart b x p =
    elim (place_byte b x p) [
      | inl e ↦ ap (λ u. stands_apart (u ∷ x)) e
      | inr e ↦ ap (λ u. stands_apart (u ∷ x)) e
    ]

apart_move : {before : ℕ} {x y : List ℕ} → SameUpToSplice before x y → stands_apart x ≡ true → stands_apart y ≡ true
apart_move at_end h = h
apart_move (same a) h = h
apart_move (at_place {b = b} {x = x} p l) h = absurd (true≢false (sym h ∙ place_not_apart b x p))

-- `*/` before a text that stands apart stays so
end_move : (b c : ℕ) {x y : List ℕ} → SameUpToSplice c x y →
    (closes b (c ∷ x) && not (stands_apart x)) ≡ false → (closes b (c ∷ y) && not (stands_apart y)) ≡ false
end_move b c {x = x} a h =
    false_if _ _ (λ t. ap not (apart_move a (not-false _ (second_false (closes b (c ∷ x)) _ h t))))

-- a version and its end stay a version
place_no_version : (n b : ℕ) (x : List ℕ) → begins_place (b ∷ x) ≡ true → ends_version n (b ∷ x) ≡ false
place_no_version n b x p =
    elim (place_byte b x p) [
      | inl e ↦ ap (λ u. ends_version n (u ∷ x)) e ∙ and_right (n == 0 || (n == 5 || n == 6)) false refl
      | inr e ↦ ap (λ u. ends_version n (u ∷ x)) e ∙ and_right (n == 0 || (n == 5 || n == 6)) false refl
    ]

end_stays_one : (b : ℕ) {x y : List ℕ} → SameUpToSplice b x y → closes b x ≡ true → closes b y ≡ true
end_stays_one b at_end h = h
end_stays_one b (same a) h = h
end_stays_one b (at_place {b = c} {x = x} p l) h =
    absurd (no_place_slash c x p (eqb-true c slash (and_parts (b == asterisk) _ h).1))

digits_move : (n : ℕ) {before : ℕ} {x y : List ℕ} → SameUpToSplice before x y → ends_version n x ≡ true →
    ends_version n y ≡ true
digits_move n at_end h = h
digits_move n (same {b = b} {x = x} {y = y} a) h = go (is_ascii_digit b) (digits_move (n + 1) a) h
  where
    go : (d : Bool) → (ends_version (n + 1) x ≡ true → ends_version (n + 1) y ≡ true) →
        cond d (ends_version (n + 1) x) ((n == 0 || (n == 5 || n == 6)) && (is_white_space b || closes b x)) ≡ true →
        cond d (ends_version (n + 1) y) ((n == 0 || (n == 5 || n == 6)) && (is_white_space b || closes b y)) ≡ true
    go true more k = more k
    go false more k =
        let p = and_parts (n == 0 || (n == 5 || n == 6)) _ k in
        elim (or_cases (is_white_space b) (closes b x) p.1) [
          | inl w ↦ rw (p.0, w) refl
          | inr c ↦ rw (p.0, end_stays_one b a c) (or_right (is_white_space b) true refl)
        ]
digits_move n (at_place {b = b} {x = x} p l) h = absurd (true≢false (sym h ∙ place_no_version n b x p))

zero_move : {before : ℕ} {x y : List ℕ} → SameUpToSplice before x y → ends_version 0 x ≡ true →
    begins (λ c. c == byte "0") x ≡ false → begins (λ c. c == byte "0") y ≡ false
zero_move at_end v h = h
zero_move (same a) v h = h
zero_move (at_place {b = b} {x = x} p l) v h = absurd (true≢false (sym v ∙ place_no_version 0 b x p))

version_move : {before : ℕ} {x y : List ℕ} → SameUpToSplice before x y → is_version x ≡ true → is_version y ≡ true
version_move {x = x} a h =
    let p = and_parts (not (begins (λ c. c == byte "0") x)) _ h in
    rw (zero_move a p.1 (not-true _ p.0), digits_move 0 a p.1) refl

nothing_begins_move : (b c : ℕ) {x y : List ℕ} → SameUpToSplice c x y → may_begin_something b (c ∷ x) ≡ false →
    may_begin_something b (c ∷ y) ≡ false
nothing_begins_move b c {x = x} {y = y} a h =
    let more : SameUpToSplice b (c ∷ x) (c ∷ y) = same a in
    let p1 = or_parts (is_string_quote b) _ h in
    let p2 = or_parts (b == backquote) _ p1.1 in
    let p3 = or_parts (b == hash) _ p2.1 in
    let p4 = or_parts (b == dash) _ p3.1 in
    let p5 = or_parts (b == slash && c == asterisk) _ p4.1 in
    let p6 = or_parts (begins_place (b ∷ c ∷ x)) _ p5.1 in
    let p7 = or_parts (begins_own b (c ∷ x)) _ p6.1 in
    let line : (b == dash && may_open_line (c ∷ x)) ≡ false = false_if _ _ (λ t. absurd (true≢false (sym t ∙ p4.0))) in
    let d : differs_at b (c ∷ x) ≡ false = or_from _ _ p5.0 (or_from _ _ line p7.0) in
    let e = or_parts (b == slash && c == asterisk) _ (plain_move b more d) in
    let f = or_parts (b == dash && may_open_line (c ∷ y)) (begins_own b (c ∷ y)) e.1 in
    let p8 = or_parts (is_for_client b) _ p7.1 in
    let p9 = or_parts (closes b (c ∷ x) && not (stands_apart x)) _ p8.1 in
    or_from _ _ p1.0 (or_from _ _ p2.0 (or_from _ _ p3.0 (or_from _ _ p4.0 (or_from _ _ p5.0 (or_from _ _ p6.0 (or_from _ _ f.1 (or_from _ _ p8.0 (or_from _ _ (end_move b c a p9.0) (false_if _ _ (λ t. ap not (version_move more (not-false _ (second_false _ _ p9.1 t)))))))))))))

-- ---- a quiet text stays one

no_place_quiet : (b : ℕ) (x : List ℕ) → begins_place (b ∷ x) ≡ true → is_quiet (b ∷ x) ≡ true → ⊥
no_place_quiet b x p q =
    let h = not-true _ (and_parts (not (may_begin_something b x)) _ q).0 in
    let p1 = or_parts (is_string_quote b) _ h in
    let p2 = or_parts (b == backquote) _ p1.1 in
    let p3 = or_parts (b == hash) _ p2.1 in
    let p4 = or_parts (b == dash) _ p3.1 in
    let p5 = or_parts (b == slash && begins (λ c. c == asterisk) x) _ p4.1 in
    let p6 = or_parts (begins_place (b ∷ x)) _ p5.1 in
    true≢false (sym p ∙ p6.0)

both : (p q : Bool) → p ≡ true → q ≡ true → (p && q) ≡ true
both p q e f = rw (e, f) refl

by_first : (p q : Bool) → p ≡ true → (p || q) ≡ true
by_first p q e = rw e refl

by_close : (p q r : Bool) → p ≡ false → q ≡ true → (not p && (q || r)) ≡ true
by_close p q r e f = rw (e, f) refl

by_rest : (p q r : Bool) → p ≡ false → r ≡ true → (not p && (q || r)) ≡ true
by_rest p q r e f = rw (e, f) (or_right q true refl)

pub quiet_move : {before : ℕ} {x y : List ℕ} → SameUpToSplice before x y → is_quiet x ≡ true → is_quiet y ≡ true
quiet_move at_end h = h
quiet_move (at_place {b = b} {x = x} p l) h = absurd (no_place_quiet b x p h)
quiet_move (same {b = b} at_end) h = h
quiet_move (same {b = b} (at_place {b = c} {x = x} p l)) h =
    let q = and_parts (not (may_begin_something b (c ∷ x))) _ h in
    elim (or_cases (closes b (c ∷ x)) (is_quiet (c ∷ x)) q.1) [
      | inl k ↦ absurd (no_place_slash c x p (eqb-true c slash (and_parts (b == asterisk) _ k).1))
      | inr k ↦ absurd (no_place_quiet c x p k)
    ]
quiet_move (same {b = b} (same {b = c} {x = x} {y = y} a)) h =
    let q = and_parts (not (may_begin_something b (c ∷ x))) _ h in
    let nothing : may_begin_something b (c ∷ y) ≡ false = nothing_begins_move b c a (not-true _ q.0) in
    elim (or_cases (closes b (c ∷ x)) (is_quiet (c ∷ x)) q.1) [
      | inl k ↦ by_close (may_begin_something b (c ∷ y)) (closes b (c ∷ y)) (is_quiet (c ∷ y)) nothing k
      | inr k ↦ by_rest (may_begin_something b (c ∷ y)) (closes b (c ∷ y)) (is_quiet (c ∷ y)) nothing (quiet_move (same {before = b} {b = c} a) k)
    ]

-- ---- a token that passes its test does so in the bound text

special_first : {before : ℕ} {x y : List ℕ} → SameUpToSplice before x y → is_quiet x ≡ true → begins_special x ≡ true → begins_special y ≡ true
special_first at_end q h = h
special_first (at_place {b = b} {x = x} p l) q h = absurd (no_place_quiet b x p q)
special_first (same at_end) q h = h
special_first (same (same a)) q h = h
special_first (same {b = b} (at_place {b = c} {x = x} p l)) q h =
    let k = and_parts (not (may_begin_something b (c ∷ x))) _ q in
    elim (or_cases (closes b (c ∷ x)) (is_quiet (c ∷ x)) k.1) [
      | inl m ↦ absurd (no_place_slash c x p (eqb-true c slash (and_parts (b == asterisk) _ m).1))
      | inr m ↦ absurd (no_place_quiet c x p m)
    ]

begins_quiet_move : {before : ℕ} {x y : List ℕ} → SameUpToSplice before x y → begins_quiet x ≡ true → begins_quiet y ≡ true
begins_quiet_move at_end h = h
begins_quiet_move (at_place {b = b} {x = x} p l) h =
    let e = eqb-true b asterisk (and_parts (b == asterisk) _ h).0 in
    absurd (true≢false (sym (subst (λ u. begins_place (u ∷ x) ≡ true) e p)))
begins_quiet_move (same {b = b} {x = x} {y = y} a) h =
    let p = and_parts (b == asterisk) _ h in
    let q = and_parts (begins_special x) _ p.1 in
    rw (p.0, special_first a q.1 q.0, quiet_move a q.1) refl

pub alike_move : (before : ℕ) (t : Token) {x y : List ℕ} → SameUpToSplice (last_byte before (bytes_of t)) x y → is_read_alike t x ≡ true → is_read_alike t y ≡ true
alike_move before (QuotedString quote tail) a p = p
alike_move before (QuotedIdentifier tail) a p = p
alike_move before (HashComment tail) a p = p
alike_move before (DashComment gap tail) a p = p
alike_move before (BlockComment tail) {x = x} {y = y} a p =
    elim (or_cases (not (begins_special tail)) (is_quiet (tail ++ x)) p) [
      | inl e ↦ rw e refl
      | inr e ↦ rw (quiet_move (same-append asterisk tail a) e) (or_right (not (begins_special tail)) true refl)
    ]
alike_move before (Name name) a p = p
alike_move before Mark a p = p
alike_move before (Plain b) {x = x} {y = y} a p =
    elim (or_cases (is_alike_on_all (Plain b) x) (b == slash && begins_quiet x) p) [
      | inl e ↦ by_first (is_alike_on_all (Plain b) y) (b == slash && begins_quiet y) (portable_move before (Plain b) a e)
      | inr e ↦
          let k = and_parts (b == slash) (begins_quiet x) e in
          or_right (is_alike_on_all (Plain b) y) (b == slash && begins_quiet y) (both (b == slash) (begins_quiet y) k.0 (begins_quiet_move a k.1))
    ]

-- ---- a quiet comment stays one

end_stays : (tail : List ℕ) {before : ℕ} {x y : List ℕ} → SameUpToSplice before x y → IsUpTo (asterisk ∷ slash ∷ []) tail x →
    IsUpTo (asterisk ∷ slash ∷ []) tail y
end_stays tail a (up_to_word body e ends) = up_to_word body e ends
end_stays tail a (up_to_end lacks e) = up_to_end lacks (same-end a e)

pub quiet_stays : (before : ℕ) (tail : List ℕ) {x y : List ℕ} → SameUpToSplice (last_byte before tail) x y →
    IsQuietComment tail x → IsQuietComment tail y
quiet_stays before tail a q = record {
  special = special_first (same-append before tail a) q.quiet q.special;
  ends = end_stays tail a q.ends;
  quiet = quiet_move (same-append before tail a) q.quiet;
}
