-- What servers read alike in a text before a newline and `;`, they read so whatever follows the newline.
use Rattle.std.specs.Prelude.{Bool, codes, cond, drop, ⊤}
use Rattle.std.proofs.Common.{◌≡◌, ◌+◌, ◌++◌, ◌==◌, ◌&&◌, ◌||◌, not, ℕ, true, false, List, [], ◌∷◌, map, inl, inr, refl, sym, ap, ◌∙◌, subst, append_assoc, true≢false}
use Rattle.std.specs.Str.{byte}
use Rattle.std.proofs.lemmas.Bool.{and_from, and_parts, and_left, and_right, or_cases, or_right}
use Rattle.mysql_named_params.specs.Bytes.{asterisk, colon, dash, exclamation_mark, newline, plus, question_mark, slash, is_start_byte, begins}
use Rattle.mysql_named_params.specs.Tokens.{Token, text_of, text_then, QuotedString, HashComment, DashComment, BlockComment, Plain}
use Rattle.mysql_named_params.proofs.TokenRowLemmas.{text_then-append}
use Rattle.mysql_portable.specs.Server.{begins_place, begins_tag, begins_dashes, begins_exponent_dashes, begins_fraction, begins_own, begins_special}
use Rattle.mysql_portable.specs.Quiet.{stands_apart, closes, ends_version, is_version, may_begin_something, is_quiet, begins_quiet}
use Rattle.mysql_portable.specs.Portable.{may_open_line, differs_at, is_read_alike, AreReadAlike, AreReadAlikeBefore}
use Rattle.mysql_bind_core.specs.ScriptTokens.{has_newline, script_tokens, semicolon, statement_tokens, then_newline, tokens_of_statements, with_newline, word_tokens}
use Rattle.mysql_bind_core.proofs.LineLemmas.{line_end, newline_then}

-- ---- no test sees beyond the newline

module _ (more : List ℕ) where
  begins_same : (test : ℕ → Bool) (x : List ℕ) → begins test (x ++ line_end) ≡ begins test (x ++ newline ∷ more)
  begins_same test [] = refl
  begins_same test (b ∷ x) = refl

  place_same : (x : List ℕ) → begins_place (x ++ line_end) ≡ begins_place (x ++ newline ∷ more)
  place_same [] = refl
  place_same (b ∷ x) = ap (λ s. b == question_mark || (b == colon && s)) (begins_same is_start_byte x)

  tag_same : (x : List ℕ) → begins_tag (x ++ line_end) ≡ begins_tag (x ++ newline ∷ more)
  tag_same [] = refl
  tag_same (b ∷ x) = rw (begins_same is_start_byte x, tag_same x) refl

  dashes_same : (x : List ℕ) → begins_dashes (x ++ line_end) ≡ begins_dashes (x ++ newline ∷ more)
  dashes_same [] = none more
    where
      none : (more : List ℕ) → false ≡ begins_dashes (newline ∷ more)
      none [] = refl
      none (m ∷ []) = refl
      none (m ∷ n ∷ more) = refl
  dashes_same (a ∷ []) = and_right (a == dash) false refl ∙ none more
    where
      none : (more : List ℕ) → false ≡ begins_dashes (a ∷ newline ∷ more)
      none [] = refl
      none (m ∷ more) = sym (and_right (a == dash) false refl)
  dashes_same (a ∷ b ∷ []) = refl
  dashes_same (a ∷ b ∷ c ∷ x) = refl

  exponent_same : (x : List ℕ) → begins_exponent_dashes (x ++ line_end) ≡ begins_exponent_dashes (x ++ newline ∷ more)
  exponent_same [] = ap (λ s. s || false) (dashes_same [])
  exponent_same (a ∷ x) =
      ap (λ s. s || ((a == plus || a == dash) && begins_dashes (x ++ line_end))) (dashes_same (a ∷ x))
      ∙ ap (λ s. begins_dashes (a ∷ (x ++ newline ∷ more)) || ((a == plus || a == dash) && s)) (dashes_same x)

  fraction_same : (x : List ℕ) → begins_fraction (x ++ line_end) ≡ begins_fraction (x ++ newline ∷ more)
  fraction_same [] = refl
  fraction_same (b ∷ x) = rw (begins_same is_start_byte x, fraction_same x, exponent_same x) refl

  own_same : (b : ℕ) (x : List ℕ) → begins_own b (x ++ line_end) ≡ begins_own b (x ++ newline ∷ more)
  own_same b x = rw (tag_same x, fraction_same x) refl

  line_same : (x : List ℕ) → may_open_line (x ++ line_end) ≡ may_open_line (x ++ newline ∷ more)
  line_same [] = none more
    where
      none : (more : List ℕ) → false ≡ may_open_line (newline ∷ more)
      none [] = refl
      none (m ∷ more) = refl
  line_same (b ∷ []) = refl
  line_same (b ∷ c ∷ x) = refl

  differs_same : (b : ℕ) (x : List ℕ) → differs_at b (x ++ line_end) ≡ differs_at b (x ++ newline ∷ more)
  differs_same b x = rw (begins_same (λ c. c == asterisk) x, line_same x, own_same b x) refl

  special_same : (x : List ℕ) → begins_special (x ++ line_end) ≡ begins_special (x ++ newline ∷ more)
  special_same [] = refl
  special_same (b ∷ x) = rw (begins_same (λ c. c == exclamation_mark) x) refl

  closes_same : (b : ℕ) (x : List ℕ) → closes b (x ++ line_end) ≡ closes b (x ++ newline ∷ more)
  closes_same b x = ap (λ s. b == asterisk && s) (begins_same (λ c. c == slash) x)

  apart_same : (b : ℕ) (x : List ℕ) → (closes b (x ++ line_end) && not (stands_apart (drop 1 (x ++ line_end))))
      ≡ (closes b (x ++ newline ∷ more) && not (stands_apart (drop 1 (x ++ newline ∷ more))))
  apart_same b [] =
      and_left (closes b line_end) _ (and_right (b == asterisk) false refl)
      ∙ sym (and_left (closes b (newline ∷ more)) _ (and_right (b == asterisk) false refl))
  apart_same b (c ∷ []) = refl
  apart_same b (c ∷ d ∷ x) = refl

  ends_same : (n : ℕ) (x : List ℕ) → ends_version n (x ++ line_end) ≡ ends_version n (x ++ newline ∷ more)
  ends_same n [] = refl
  ends_same n (b ∷ x) = rw (ends_same (n + 1) x, closes_same b x) refl

  version_same : (x : List ℕ) → is_version (x ++ line_end) ≡ is_version (x ++ newline ∷ more)
  version_same x = rw (begins_same (λ c. c == byte "0") x, ends_same 0 x) refl

  may_begin_same : (b : ℕ) (x : List ℕ) → may_begin_something b (x ++ line_end) ≡ may_begin_something b (x ++ newline ∷ more)
  may_begin_same b x = rw (begins_same (λ c. c == asterisk) x, begins_same is_start_byte x, own_same b x, apart_same b x, version_same x) refl

  -- a quiet text ends before the newline
  quiet_more : (x : List ℕ) → is_quiet (x ++ line_end) ≡ true → is_quiet (x ++ newline ∷ more) ≡ true
  quiet_more [] h = absurd (true≢false (sym h))
  quiet_more (b ∷ x) h =
      let p = and_parts (not (may_begin_something b (x ++ line_end))) _ h in
      elim (or_cases (closes b (x ++ line_end)) (is_quiet (x ++ line_end)) p.1) [
        | inl c ↦ rw (sym (may_begin_same b x) ∙ not-false-of p.0, sym (closes_same b x) ∙ c) refl
        | inr q ↦ rw (sym (may_begin_same b x) ∙ not-false-of p.0, quiet_more x q) (or_right (closes b (x ++ newline ∷ more)) true refl)
      ]
    where
      not-false-of : {s : Bool} → not s ≡ true → s ≡ false
      not-false-of {s = true} e = absurd (true≢false (sym e))
      not-false-of {s = false} e = refl

  begins_quiet_more : (x : List ℕ) → begins_quiet (x ++ line_end) ≡ true → begins_quiet (x ++ newline ∷ more) ≡ true
  begins_quiet_more [] h = absurd (true≢false (sym h))
  begins_quiet_more (b ∷ x) h =
      let p = and_parts (b == asterisk) _ h in
      let q = and_parts (begins_special (x ++ line_end)) _ p.1 in
      rw (p.0, sym (special_same x) ∙ q.0, quiet_more x q.1) refl

  -- ---- a token

  token_more : (t : Token) (x : List ℕ) → is_read_alike t (x ++ line_end) ≡ true → is_read_alike t (x ++ newline ∷ more) ≡ true
  token_more (QuotedString quote tail) x h = h
  token_more (BlockComment tail) x h =
      elim (or_cases (not (begins_special tail)) (is_quiet (tail ++ (x ++ line_end))) h) [
        | inl e ↦ rw e refl
        | inr e ↦
            let q : is_quiet (tail ++ (x ++ newline ∷ more)) ≡ true =
            subst (λ y. is_quiet y ≡ true) (append_assoc tail x (newline ∷ more)) (quiet_more (tail ++ x) (subst (λ y. is_quiet y ≡ true) (sym (append_assoc tail x line_end)) e)) in
            rw q (or_right (not (begins_special tail)) true refl)
      ]
  token_more (Plain b) x h =
      elim (or_cases (not (differs_at b (x ++ line_end))) (b == slash && begins_quiet (x ++ line_end)) h) [
        | inl e ↦ rw (ap not (sym (differs_same b x)) ∙ e) refl
        | inr e ↦
            let p = and_parts (b == slash) (begins_quiet (x ++ line_end)) e in
            or_right (not (differs_at b (x ++ newline ∷ more))) (b == slash && begins_quiet (x ++ newline ∷ more)) (and_from (b == slash) (begins_quiet (x ++ newline ∷ more)) p.0 (begins_quiet_more x p.1))
      ]
  token_more t x h = h

  -- ---- a line

  last_more : (t : Token) → AreReadAlikeBefore (semicolon ∷ []) (then_newline t) → AreReadAlikeBefore more (then_newline t)
  last_more (HashComment tail) h = go (has_newline tail) h
    where
      go : (n : Bool) → AreReadAlikeBefore (semicolon ∷ []) (cond n (HashComment tail ∷ Plain newline ∷ []) (HashComment (tail ++ newline ∷ []) ∷ [])) →
          AreReadAlikeBefore more (cond n (HashComment tail ∷ Plain newline ∷ []) (HashComment (tail ++ newline ∷ []) ∷ []))
      go true g = (g.0, (refl, tt))
      go false g = (g.0, tt)
  last_more (DashComment gap tail) h = go (has_newline tail) h
    where
      go : (n : Bool) → AreReadAlikeBefore (semicolon ∷ []) (cond n (DashComment gap tail ∷ Plain newline ∷ []) (DashComment gap (tail ++ newline ∷ []) ∷ [])) →
          AreReadAlikeBefore more (cond n (DashComment gap tail ∷ Plain newline ∷ []) (DashComment gap (tail ++ newline ∷ []) ∷ []))
      go true g = (g.0, (refl, tt))
      go false g = (g.0, tt)
  last_more t h = (token_more t [] h.0, (refl, tt))

  line_more : (ts : List Token) → AreReadAlikeBefore (semicolon ∷ []) (with_newline ts) → AreReadAlikeBefore more (with_newline ts)
  line_more [] h = (refl, tt)
  line_more (t ∷ []) h = last_more t h
  line_more (t ∷ u ∷ ts) h = (
    subst (λ y. is_read_alike t y ≡ true) (sym (newline_then (u ∷ ts) more)) (token_more t (text_of (u ∷ ts)) (subst (λ y. is_read_alike t y ≡ true) (newline_then (u ∷ ts) (semicolon ∷ [])) h.0)),
    line_more (u ∷ ts) h.1,
  )

-- ---- a script

alike_append : (xs ys : List Token) (rest : List ℕ) → AreReadAlikeBefore (text_then rest ys) xs →
    AreReadAlikeBefore rest ys → AreReadAlikeBefore rest (xs ++ ys)
alike_append [] ys rest b h = h
alike_append (x ∷ xs) ys rest b h = (rw (text_then-append xs ys rest) b.0, alike_append xs ys rest b.1 h)

-- each of these texts is read alike, with the newline before a `;`
abbrev pub AreLinesReadAlike : List (List Token) → Type 0
AreLinesReadAlike [] = ⊤
AreLinesReadAlike (ts ∷ lists) = AreReadAlikeBefore (semicolon ∷ []) (with_newline ts) × AreLinesReadAlike lists

statement_alike : (ts : List Token) (rest : List ℕ) → AreReadAlikeBefore (semicolon ∷ []) (with_newline ts) → AreReadAlikeBefore rest (statement_tokens ts)
statement_alike ts rest h = alike_append (with_newline ts) (Plain semicolon ∷ Plain newline ∷ []) rest (line_more _ ts h) (refl, (refl, tt))

pub statements_alike : (lists : List (List Token)) (rest : List ℕ) → AreLinesReadAlike lists → AreReadAlikeBefore rest (tokens_of_statements lists)
statements_alike [] rest h = tt
statements_alike (ts ∷ lists) rest h = alike_append (statement_tokens ts) (tokens_of_statements lists) rest (statement_alike ts _ h.0) (statements_alike lists rest h.1)

begin_alike : (rest : List ℕ) → AreReadAlikeBefore rest (word_tokens (codes "START TRANSACTION"))
begin_alike rest = statement_alike (map (λ b. Plain b) (codes "START TRANSACTION")) rest (refl, (refl, (refl, (refl, (refl, (refl, (refl, (refl, (refl, (refl, (refl, (refl, (refl, (refl, (refl, (refl, (refl, (refl, tt))))))))))))))))))

end_alike : (rest : List ℕ) → AreReadAlikeBefore rest (word_tokens (codes "COMMIT"))
end_alike rest = statement_alike (map (λ b. Plain b) (codes "COMMIT")) rest (refl, (refl, (refl, (refl, (refl, (refl, (refl, tt)))))))

pub script_alike : (transaction : Bool) (lists : List (List Token)) → AreLinesReadAlike lists → AreReadAlike (script_tokens transaction lists)
script_alike true lists h =
    let end : List ℕ = text_of (word_tokens (codes "COMMIT")) in
    alike_append (word_tokens (codes "START TRANSACTION") ++ tokens_of_statements lists) (word_tokens (codes "COMMIT")) []
    (alike_append (word_tokens (codes "START TRANSACTION")) (tokens_of_statements lists) end (begin_alike (text_then end (tokens_of_statements lists))) (statements_alike lists end h)) (end_alike [])
script_alike false lists h = alike_append (tokens_of_statements lists) [] [] (statements_alike lists [] h) tt
