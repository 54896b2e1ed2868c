-- A string that is walked unit by unit, to its closing quote or past its end.
use Rattle.std.specs.Prelude.{Bool}
use Rattle.std.proofs.Common.{◌≡◌, ◌≢◌, ℕ, ◌+◌, ◌<◌, ◌≤◌, true, false, List, [], ◌∷◌, ◌++◌, length, get_or, refl, sym, ap, ◌∙◌, subst, append-nil, append_assoc, true≢false, arith, length-append}
use Rattle.std.proofs.lemmas.List.{nil_from_length}
use Rattle.mysql_sql_text.specs.StringUnits.{is_escape, AreUnits, no_units, byte_unit, escape_unit}
use Rattle.mysql_named_params.specs.Bytes.{newline, is_string_quote}
use Rattle.mysql_named_params.specs.Tokens.{IsStringTail, closed_string, open_string}
use Rattle.mysql_named_params.specs.TokensOf.{string_len}
use Rattle.mysql_named_params.proofs.TokenEnds.{string_len_is}
use Rattle.mysql_bind_core.specs.QueryEnd.{end}

-- whole units are passed, or also an escape with nothing after it
pub data UnitsUpTo (mode : Bool) (q : ℕ) (tail : List ℕ) (at : ℕ) : Type 0 where
  within : (front back : List ℕ) → AreUnits mode q front → front ++ back ≡ tail → length front ≡ at → UnitsUpTo mode q tail at
  beyond : (body : List ℕ) (b : ℕ) → AreUnits mode q body → is_escape mode b ≡ true → body ++ b ∷ [] ≡ tail → length tail < at →
      UnitsUpTo mode q tail at

pub units_none : (mode : Bool) (q : ℕ) (tail : List ℕ) → UnitsUpTo mode q tail 0
units_none mode q tail = within [] tail no_units refl refl

units_append : (mode : Bool) (q : ℕ) (xs ys : List ℕ) → AreUnits mode q xs → AreUnits mode q ys → AreUnits mode q (xs ++ ys)
units_append mode q [] ys no_units k = k
units_append mode q (b ∷ xs) ys (byte_unit ne plain u) k = byte_unit ne plain (units_append mode q xs ys u k)
units_append mode q (b ∷ c ∷ xs) ys (escape_unit escapes u) k = escape_unit escapes (units_append mode q xs ys u k)

byte_at : (front back : List ℕ) (b : ℕ) → get_or (front ++ b ∷ back) (length front) 0 ≡ b
byte_at [] back b = refl
byte_at (x ∷ front) back b = byte_at front back b

-- the byte at the front of what is left
byte_is : (front back tail : List ℕ) (b at : ℕ) → front ++ b ∷ back ≡ tail → length front ≡ at → get_or tail at 0 ≡ b
byte_is front back tail b at e n = ap (λ x. get_or x at 0) (sym e) ∙ ap (λ k. get_or (front ++ b ∷ back) k 0) (sym n) ∙ byte_at front back b

none_left : (front tail : List ℕ) (at : ℕ) → front ++ [] ≡ tail → length front ≡ at → at < length tail → ⊥
none_left front tail at e n lt = omega (arith, ap length e, length-append front [])

pub past_byte : (mode : Bool) (q : ℕ) (tail : List ℕ) (at : ℕ) → UnitsUpTo mode q tail at → at < length tail →
    get_or tail at 0 ≢ q → is_escape mode (get_or tail at 0) ≡ false → UnitsUpTo mode q tail (at + 1)
past_byte mode q tail at (beyond body b u escapes e far) lt ne plain = absurd (omega arith)
past_byte mode q tail at (within front [] u e n) lt ne plain = absurd (none_left front tail at e n lt)
past_byte mode q tail at (within front (b ∷ back) u e n) lt ne plain =
    let is : get_or tail at 0 ≡ b = byte_is front back tail b at e n in
    within (front ++ b ∷ []) back
    (units_append mode q front (b ∷ []) u (byte_unit (λ p. ne (is ∙ p)) (sym (ap (is_escape mode) is) ∙ plain) no_units))
    (append_assoc front (b ∷ []) back ∙ e) (omega (arith, length-append front (b ∷ [])))

pub past_escape : (mode : Bool) (q : ℕ) (tail : List ℕ) (at : ℕ) → UnitsUpTo mode q tail at → at < length tail →
    is_escape mode (get_or tail at 0) ≡ true → UnitsUpTo mode q tail (at + 1 + 1)
past_escape mode q tail at (beyond body b u escapes e far) lt s = absurd (omega arith)
past_escape mode q tail at (within front [] u e n) lt s = absurd (none_left front tail at e n lt)
past_escape mode q tail at (within front (b ∷ []) u e n) lt s =
    let is : get_or tail at 0 ≡ b = byte_is front [] tail b at e n in
    beyond front b u (sym (ap (is_escape mode) is) ∙ s) e (omega (arith, ap length e, length-append front (b ∷ [])))
past_escape mode q tail at (within front (b ∷ c ∷ back) u e n) lt s =
    let is : get_or tail at 0 ≡ b = byte_is front (c ∷ back) tail b at e n in
    within (front ++ b ∷ c ∷ []) back
    (units_append mode q front (b ∷ c ∷ []) u (escape_unit (sym (ap (is_escape mode) is) ∙ s) no_units))
    (append_assoc front (b ∷ c ∷ []) back ∙ e) (omega (arith, length-append front (b ∷ c ∷ [])))

-- ---- the first quote ends the string

pub ends_at_quote : (mode : Bool) (q : ℕ) (tail : List ℕ) (at : ℕ) (rest : List ℕ) → is_string_quote q ≡ true →
    IsStringTail mode q tail [] → UnitsUpTo mode q tail at → at < length tail → get_or tail at 0 ≡ q → IsStringTail mode q tail rest
ends_at_quote mode q tail at rest s h (beyond body b u escapes e far) lt is = absurd (omega arith)
ends_at_quote mode q tail at rest s h (within front [] u e n) lt is = absurd (none_left front tail at e n lt)
ends_at_quote mode q tail at rest s h (within front (b ∷ back) u e n) lt is =
    closed_string front u (ap (λ x. front ++ q ∷ x) (sym nil) ∙ split)
  where
    split : front ++ q ∷ back ≡ tail
    split = ap (λ x. front ++ x ∷ back) (sym is ∙ byte_is front back tail b at e n) ∙ e

    of_front : string_len mode q false ((front ++ q ∷ []) ++ back) ≡ length (front ++ q ∷ [])
    of_front = string_len_is mode q (front ++ q ∷ []) back s (closed_string front u refl)

    of_tail : string_len mode q false (tail ++ []) ≡ length tail
    of_tail = string_len_is mode q tail [] s h

    same : (front ++ q ∷ []) ++ back ≡ tail ++ []
    same = append_assoc front (q ∷ []) back ∙ split ∙ sym (append-nil tail)

    whole : length (front ++ q ∷ []) ≡ length tail
    whole = sym of_front ∙ ap (string_len mode q false) same ∙ of_tail

    nil : back ≡ []
    nil = nil_from_length back (omega (arith, whole, ap length split, length-append front (q ∷ back), length-append front (q ∷ [])))

-- ---- without one it is open

quote_no_newline : (q : ℕ) → is_string_quote q ≡ true → newline ≢ q
quote_no_newline q h e = true≢false (sym h ∙ ap is_string_quote (sym e))

quote_no_semicolon : (q : ℕ) → is_string_quote q ≡ true → 59 ≢ q
quote_no_semicolon q h e = true≢false (sym h ∙ ap is_string_quote (sym e))

end_plain : (mode : Bool) → (is_escape mode newline ≡ false) × (is_escape mode 59 ≡ false)
end_plain false = (refl, refl)
end_plain true = (refl, refl)

end_units : (mode : Bool) (q : ℕ) → is_string_quote q ≡ true → AreUnits mode q end
end_units mode q s =
    byte_unit (quote_no_newline q s) (end_plain mode).0 (byte_unit (quote_no_semicolon q s) (end_plain mode).1 no_units)

pub goes_on : (mode : Bool) (q : ℕ) (tail : List ℕ) (at : ℕ) → is_string_quote q ≡ true → UnitsUpTo mode q tail at →
    length tail ≤ at → IsStringTail mode q (tail ++ end) []
goes_on mode q tail at s (within front back u e n) le =
    open_string (units_append mode q tail end (subst (AreUnits mode q) whole u) (end_units mode q s)) refl
  where
    nil : back ≡ []
    nil = nil_from_length back (omega (arith, ap length e, length-append front back))

    whole : front ≡ tail
    whole = sym (append-nil front) ∙ ap (λ x. front ++ x) (sym nil) ∙ e
goes_on mode q tail at s (beyond body b u escapes e far) le =
    open_string (subst (AreUnits mode q) whole (units_append mode q body (b ∷ end) u (escape_unit escapes (byte_unit (quote_no_semicolon q s) (end_plain mode).1 no_units)))) refl
  where
    whole : body ++ b ∷ end ≡ tail ++ end
    whole = sym (append_assoc body (b ∷ []) end) ∙ ap (λ x. x ++ end) e
