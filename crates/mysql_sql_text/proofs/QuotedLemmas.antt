-- Escaped bytes between quotes are a closed string, or without backslash escapes one or more of them.
use Rattle.std.proofs.Common.{◌≡◌, ℕ, Bool, true, false, eqb, List, [], ◌∷◌, ◌++◌, refl, subst, append_assoc, inl, inr}
use Rattle.std.proofs.lemmas.Bool.{cases_Bool, eqb-false, cond_both, false≢true}
use Rattle.mysql_sql_text.specs.LiteralText.{control_z, escaped_byte, escaped, quoted}
use Rattle.mysql_sql_text.specs.StringUnits.{AreUnits, no_units, byte_unit, escape_unit}
use Rattle.mysql_sql_text.specs.LiteralShape.{closed_string, AreClosedStrings, one_string, more_strings, IsQuoted}
use Rattle.mysql_sql_text.proofs.ByteNames.{newline, carriage_return, backslash, single_quote, double_quote}

-- with backslash escapes

AreUnits-escaped_byte : (b : ℕ) (rest : List ℕ) → AreUnits false single_quote rest → AreUnits false single_quote (escaped_byte false b ++ rest)
AreUnits-escaped_byte b rest units =
    let P : List ℕ → Type 0 = λ t. AreUnits false single_quote (t ++ rest) in
    cond_both (eqb b 0) _ _ P (λ _. escape_unit refl units) (λ _.
    cond_both (eqb b newline) _ _ P (λ _. escape_unit refl units) (λ _.
    cond_both (eqb b carriage_return) _ _ P (λ _. escape_unit refl units) (λ _.
    cond_both (eqb b control_z) _ _ P (λ _. escape_unit refl units) (λ _.
    cond_both (eqb b backslash) _ _ P (λ _. escape_unit refl units) (λ no_escape.
    cond_both (eqb b single_quote) _ _ P (λ _. escape_unit refl units) (λ no_quote.
    cond_both (eqb b double_quote) _ _ P (λ _. escape_unit refl units) (λ _.
    byte_unit (eqb-false b single_quote no_quote) no_escape units)))))))

AreUnits-escaped : (bytes : List ℕ) → AreUnits false single_quote (escaped false bytes)
AreUnits-escaped [] = no_units
AreUnits-escaped (b ∷ bytes) = AreUnits-escaped_byte b (escaped false bytes) (AreUnits-escaped bytes)

-- without backslash escapes

AreUnits-append_byte : (front : List ℕ) (b : ℕ) → AreUnits true single_quote front → eqb b single_quote ≡ false → AreUnits true single_quote (front ++ b ∷ [])
AreUnits-append_byte [] b no_units h = byte_unit (eqb-false b single_quote h) refl no_units
AreUnits-append_byte (c ∷ front) b (byte_unit no_quote no_escape units) h =
    byte_unit no_quote no_escape (AreUnits-append_byte front b units h)
AreUnits-append_byte (c ∷ d ∷ front) b (escape_unit escape units) h = absurd (false≢true escape)

-- the units of a string so far, and the bytes that are left
AreClosedStrings-escaped : (front bytes : List ℕ) → AreUnits true single_quote front
    → AreClosedStrings true (single_quote ∷ (front ++ (escaped true bytes ++ single_quote ∷ [])))
AreClosedStrings-escaped front [] units = one_string (single_quote ∷ (front ++ single_quote ∷ [])) (closed_string front units)
AreClosedStrings-escaped front (b ∷ bytes) units = elim (cases_Bool (eqb b single_quote)) [
  | inl quote ↦ rw quote (subst (λ t. AreClosedStrings true (single_quote ∷ t))
      (append_assoc front (single_quote ∷ []) (single_quote ∷ (escaped true bytes ++ single_quote ∷ [])))
      (more_strings (single_quote ∷ (front ++ single_quote ∷ [])) (single_quote ∷ (escaped true bytes ++ single_quote ∷ [])) (closed_string front units)
      (AreClosedStrings-escaped [] bytes no_units)))
  | inr other ↦ rw other (subst (λ t. AreClosedStrings true (single_quote ∷ t))
      (append_assoc front (b ∷ []) (escaped true bytes ++ single_quote ∷ []))
      (AreClosedStrings-escaped (front ++ b ∷ []) bytes (AreUnits-append_byte front b units other)))
]

pub IsQuoted-escaped : (mode : Bool) (bytes : List ℕ) → IsQuoted mode (quoted (escaped mode bytes))
IsQuoted-escaped false bytes = closed_string (escaped false bytes) (AreUnits-escaped bytes)
IsQuoted-escaped true bytes = AreClosedStrings-escaped [] bytes no_units
