-- Guarded strings are read, over every client set, as their bytes, or in the other mode with their
-- backslashes doubled.
use Rattle.std.specs.Prelude.{nat_le, ◌≤◌, ◌||◌, ◌==◌, Some, if◌then◌else◌}
use Rattle.std.proofs.Common.{◌≡◌, ◌++◌, ◌&&◌, eqb, ℕ, Bool, true, false, zero, suc, List, [], ◌∷◌, take, refl, sym, ap, ◌∙◌, subst, inl, inr, arith, append_assoc, true≢false}
use Rattle.std.specs.List.{flat_map}
use Rattle.std.proofs.lemmas.Bool.{and_parts, cases_Bool, cond-false, cond-true, eqb-true}
use Rattle.std.proofs.lemmas.Bool.Decides.{nat_tests}
use Rattle.mysql_sql_text.specs.LiteralText.{quoted}
use Rattle.mysql_sql_text.specs.LiteralEnd.{BeginsWithout, is_single_quote}
use Rattle.mysql_sql_text.specs.ReadLiteral.{byte_string, begins_pair, prefix_read}
use Rattle.mysql_sql_text.proofs.ByteNames.{backslash, single_quote}
use Rattle.mysql_named_params.specs.Bytes.{space}
use Rattle.mysql_portable.specs.CharacterSet.{CharacterSet}
use Rattle.mysql_portable.specs.Steady.{is_no_backslash}
use Rattle.mysql_steady_text.specs.GuardedLiteral.{guarded}
use Rattle.mysql_steady_text.specs.ClientSet.{IsClientSet, are_later, is_no_quote}
use Rattle.mysql_steady_text.specs.ReadGuarded.{read_units_in, AreStringsIn, one_string, more_strings, IsReadIn, read_as_strings}

-- ---- one byte

-- a quote that no quote follows ends the units
ends_at_quote : (set : CharacterSet) (mode : Bool) (rest : List ℕ) → BeginsWithout is_single_quote rest →
    read_units_in set mode zero (single_quote ∷ rest) ≡ Some ([], rest)
ends_at_quote set mode [] h = refl
ends_at_quote set mode (b ∷ rest) h = cond-false (is_single_quote b) _ _ h

-- a byte from 128 on begins a character
reads_high : (set : CharacterSet) (mode : Bool) (b : ℕ) (text : List ℕ) → nat_le 128 b ≡ true → is_single_quote b ≡ false →
    read_units_in set mode zero (b ∷ text) ≡ prefix_read (b ∷ []) (read_units_in set mode (set b text) text)
reads_high set mode b [] h q = ends (set b [])
  where
    ends : (left : ℕ) → read_units_in set mode zero (b ∷ []) ≡ prefix_read (b ∷ []) (read_units_in set mode left [])
    ends left = cond-false (is_single_quote b) _ _ q
reads_high set mode b (c ∷ text) h q = cond-true (nat_le 128 b) _ _ h

-- a byte below 128 that is no quote and begins no pair stands for itself
reads_ordinary : (set : CharacterSet) (mode : Bool) (b : ℕ) (text : List ℕ) → nat_le 128 b ≡ false → is_single_quote b ≡ false →
    begins_pair mode b ≡ false → read_units_in set mode zero (b ∷ text) ≡ prefix_read (b ∷ []) (read_units_in set mode zero text)
reads_ordinary set mode b [] h q p = cond-false (is_single_quote b) _ _ q
reads_ordinary set mode b (c ∷ text) h q p =
    cond-false (nat_le 128 b) _ _ h
    ∙ cond-false (is_single_quote b && is_single_quote c) _ _ (ap (λ t. t && is_single_quote c) q)
    ∙ cond-false (is_single_quote b) _ _ q ∙ cond-false (begins_pair mode b) _ _ p

pub no_pair : (mode : Bool) (b : ℕ) → eqb b backslash ≡ false → begins_pair mode b ≡ false
no_pair false b h = h
no_pair true b h = refl

quote_no_backslash : (b : ℕ) → eqb b single_quote ≡ true → eqb b backslash ≡ false
quote_no_backslash b h = rw (eqb-true b single_quote h) refl

pub high_is_at_least : (b : ℕ) → nat_le 128 b ≡ true → 128 ≤ b
high_is_at_least b h = grind (arith, nat_tests)

pub high_no_quote : (b : ℕ) → nat_le 128 b ≡ true → eqb b single_quote ≡ false
high_no_quote b h = grind (arith, nat_tests)

pub high_no_backslash : (b : ℕ) → nat_le 128 b ≡ true → eqb b backslash ≡ false
high_no_backslash b h = grind (arith, nat_tests)

-- ---- the content

-- the bytes that a byte of guarded strings is read as
abbrev pub content_byte : Bool → ℕ → List ℕ
content_byte false b = b ∷ []
content_byte true b = if b == backslash then backslash ∷ backslash ∷ [] else b ∷ []

abbrev pub content_bytes : Bool → List ℕ → List ℕ
content_bytes mode bytes = flat_map (content_byte mode) bytes

ordinary_content : (mode : Bool) (b : ℕ) → eqb b backslash ≡ false → content_byte mode b ≡ b ∷ []
ordinary_content false b e = refl
ordinary_content true b e = cond-false (eqb b backslash) _ _ e

-- ---- strings side by side, of which the first has begun

-- The text reads as these bytes up to the rest, if its first `left` bytes belong to a character that
-- has begun in a string.
data AreUnitsIn (set : CharacterSet) (mode : Bool) (rest : List ℕ) : ℕ → List ℕ → List ℕ → Type 0 where
  last_units : (left : ℕ) (text bytes : List ℕ) → read_units_in set mode left text ≡ Some (bytes, rest) →
      AreUnitsIn set mode rest left text bytes
  more_units : (left : ℕ) (text bytes more others : List ℕ) →
      read_units_in set mode left text ≡ Some (bytes, space ∷ single_quote ∷ more) →
      AreUnitsIn set mode rest zero more others → AreUnitsIn set mode rest left text (bytes ++ others)

-- bytes before those that are read
prefixed : (set : CharacterSet) (mode : Bool) (rest : List ℕ) (left k : ℕ) (front text more bytes : List ℕ) →
    read_units_in set mode left text ≡ prefix_read front (read_units_in set mode k more) →
    AreUnitsIn set mode rest k more bytes → AreUnitsIn set mode rest left text (front ++ bytes)
prefixed set mode rest left k front text more bytes e (last_units k' more' bytes' h) =
    last_units left text (front ++ bytes) (e ∙ ap (prefix_read front) h)
prefixed set mode rest left k front text more bytes e (more_units k' more' first next others h hs) =
    subst (AreUnitsIn set mode rest left text) (append_assoc front first others)
    (more_units left text (front ++ first) next others (e ∙ ap (prefix_read front) h) hs)

-- after an opening quote
as_strings : (set : CharacterSet) (mode : Bool) (rest : List ℕ) (left : ℕ) (text bytes : List ℕ) → left ≡ zero →
    AreUnitsIn set mode rest left text bytes → AreStringsIn set mode (single_quote ∷ text) bytes rest
as_strings set mode rest left text bytes z (last_units left' text' bytes' h) =
    one_string (single_quote ∷ text) bytes rest (subst (λ n. read_units_in set mode n text ≡ Some (bytes, rest)) z h)
as_strings set mode rest left text bytes z (more_units left' text' first more others h hs) =
    more_strings (single_quote ∷ text) first (single_quote ∷ more) others rest
    (subst (λ n. read_units_in set mode n text ≡ Some (first, space ∷ single_quote ∷ more)) z h)
    (as_strings set mode rest zero more others refl hs)

-- two backslashes
doubled_read : (set : CharacterSet) (mode : Bool) (rest text bytes : List ℕ) → AreUnitsIn set mode rest zero text bytes →
    AreUnitsIn set mode rest zero (backslash ∷ backslash ∷ text) (content_byte mode backslash ++ bytes)
doubled_read set false rest text bytes h =
    prefixed set false rest zero zero (backslash ∷ []) (backslash ∷ backslash ∷ text) text bytes refl h
doubled_read set true rest text bytes h =
    prefixed set true rest zero zero (backslash ∷ []) (backslash ∷ backslash ∷ text) (backslash ∷ text) (backslash ∷ bytes)
    (reads_ordinary set true backslash (backslash ∷ text) refl refl refl)
    (prefixed set true rest zero zero (backslash ∷ []) (backslash ∷ text) text bytes (reads_ordinary set true backslash text refl refl refl) h)

-- the end of a string, a space and the beginning of the next
next_read : (set : CharacterSet) (mode : Bool) (rest text bytes : List ℕ) → AreUnitsIn set mode rest zero text bytes →
    AreUnitsIn set mode rest zero (single_quote ∷ space ∷ single_quote ∷ text) bytes
next_read set mode rest text bytes h = more_units zero (single_quote ∷ space ∷ single_quote ∷ text) [] text bytes refl h

-- ---- guarded strings

module _ (set : CharacterSet) (client : IsClientSet set) (mode : Bool) (rest : List ℕ) (n : BeginsWithout is_single_quote rest) where
  escape_read : (high : Bool) (bytes content : List ℕ) → AreUnitsIn set mode rest zero (guarded false bytes ++ single_quote ∷ rest) content →
      AreUnitsIn set mode rest zero (guarded high (backslash ∷ bytes) ++ single_quote ∷ rest) (content_byte mode backslash ++ content)
  escape_read false bytes content h = doubled_read set mode rest (guarded false bytes ++ single_quote ∷ rest) content h
  escape_read true bytes content h =
      next_read set mode rest (backslash ∷ backslash ∷ (guarded false bytes ++ single_quote ∷ rest)) (content_byte mode backslash ++ content)
      (doubled_read set mode rest (guarded false bytes ++ single_quote ∷ rest) content h)

  reads_guarded : (left : ℕ) (high : Bool) (bytes : List ℕ) →
      are_later high (take left (guarded high bytes ++ single_quote ∷ rest)) ≡ true →
      AreUnitsIn set mode rest left (guarded high bytes ++ single_quote ∷ rest) (content_bytes mode bytes)
  reads_guarded zero high [] l = last_units zero (single_quote ∷ rest) [] (ends_at_quote set mode rest n)
  reads_guarded (suc left) high [] l = absurd (true≢false (sym l))
  reads_guarded zero high (b ∷ bytes) l =
      let text : List ℕ = guarded (nat_le 128 b) bytes ++ single_quote ∷ rest in
      elim (cases_Bool (eqb b single_quote)) [
        | inl quote ↦ rw (ordinary_content mode b (quote_no_backslash b quote)) (rw quote (rw (eqb-true b single_quote quote) (
            prefixed set mode rest zero zero (single_quote ∷ []) (single_quote ∷ single_quote ∷ (guarded false bytes ++ single_quote ∷ rest))
            (guarded false bytes ++ single_quote ∷ rest) (content_bytes mode bytes) refl (reads_guarded zero false bytes refl))))
        | inr other ↦ elim (cases_Bool (eqb b backslash)) [
          | inl escape ↦ rw (eqb-true b backslash escape) (escape_read high bytes (content_bytes mode bytes) (reads_guarded zero false bytes refl))
          | inr none ↦ rw (ordinary_content mode b none) (rw (other, none) (
              elim (cases_Bool (nat_le 128 b)) [
                | inl above ↦
                    prefixed set mode rest zero (set b text) (b ∷ []) (b ∷ text) text (content_bytes mode bytes) (reads_high set mode b text above other)
                    (reads_guarded (set b text) (nat_le 128 b) bytes
                    (subst (λ c. are_later c (take (set b text) text) ≡ true) (sym above) (client b text (high_is_at_least b above))))
                | inr low ↦
                    prefixed set mode rest zero zero (b ∷ []) (b ∷ text) text (content_bytes mode bytes)
                    (reads_ordinary set mode b text low other (no_pair mode b none)) (reads_guarded zero (nat_le 128 b) bytes refl)
              ]))
        ]
      ]
  reads_guarded (suc left) high (b ∷ bytes) l =
      inside high (eqb b single_quote) (eqb b backslash) refl refl (reads_guarded left (nat_le 128 b) bytes) l
    where
      inside : (high quote escape : Bool) → eqb b single_quote ≡ quote → eqb b backslash ≡ escape →
          (are_later (nat_le 128 b) (take left (guarded (nat_le 128 b) bytes ++ single_quote ∷ rest)) ≡ true →
          AreUnitsIn set mode rest left (guarded (nat_le 128 b) bytes ++ single_quote ∷ rest) (content_bytes mode bytes)) →
          are_later high (take (suc left) (guarded high (b ∷ bytes) ++ single_quote ∷ rest)) ≡ true →
          AreUnitsIn set mode rest (suc left) (guarded high (b ∷ bytes) ++ single_quote ∷ rest) (content_bytes mode (b ∷ bytes))
      inside high true escape e f more = rw e (λ m. absurd (true≢false (sym m)))
      inside true false true e f more = rw (e, f) (λ m. absurd (true≢false (sym m)))
      inside false false true e f more = rw (e, f) (λ m. absurd (true≢false (sym m)))
      inside high false false e f more = rw (ordinary_content mode b f) (rw (e, f) (λ m.
          let q = and_parts (is_no_quote b) ((high || is_no_backslash b) && are_later (nat_le 128 b) (take left (guarded (nat_le 128 b) bytes ++ single_quote ∷ rest))) m in
          let r = and_parts (high || is_no_backslash b) (are_later (nat_le 128 b) (take left (guarded (nat_le 128 b) bytes ++ single_quote ∷ rest))) q.1 in
          prefixed set mode rest (suc left) left (b ∷ []) (b ∷ (guarded (nat_le 128 b) bytes ++ single_quote ∷ rest)) (guarded (nat_le 128 b) bytes ++ single_quote ∷ rest)
          (content_bytes mode bytes) refl (more r.1)))

  -- ---- the literal

  pub guarded_read : (bytes : List ℕ) → IsReadIn set mode (quoted (guarded false bytes) ++ rest) (byte_string (content_bytes mode bytes)) rest
  guarded_read bytes =
      subst (λ t. IsReadIn set mode (single_quote ∷ t) (byte_string (content_bytes mode bytes)) rest) (sym (append_assoc (guarded false bytes) (single_quote ∷ []) rest))
      (read_as_strings (single_quote ∷ (guarded false bytes ++ single_quote ∷ rest)) (content_bytes mode bytes) rest
      (as_strings set mode rest zero (guarded false bytes ++ single_quote ∷ rest) (content_bytes mode bytes) refl (reads_guarded zero false bytes refl)))
