-- A string that is walked byte by byte.
use Rattle.std.proofs.Common.{◌≡◌, ◌≢◌, inl, inr, ℕ, ◌+◌, ◌<◌, ◌≤◌, Bool, true, false, List, length, take, drop, get_or, min, subst, arith}
use Rattle.std.proofs.lemmas.List.{drop_all}
use Rattle.std.proofs.lemmas.Bool.{cases_lt}
use Rattle.mysql_sql_text.specs.StringUnits.{is_escape}
use Rattle.mysql_named_params.specs.Tokens.{IsStringTail}
use Rattle.mysql_named_params.specs.TokensOf.{string_len}
use Rattle.mysql_named_params.proofs.TokenEndLemmas.{string_at, string_stops, string_goes_on, string_skips, string_ends}

-- the bytes of the string up to this index are passed, and the next one isn't escaped
abbrev pub IsWithin : Bool → ℕ → List ℕ → ℕ → Type 0
IsWithin mode q text at =
    (at ≤ length text) × (at + string_len mode q false (drop at text) ≡ string_len mode q false text)

pub within_open : (mode : Bool) (q : ℕ) (text : List ℕ) (at : ℕ) → IsWithin mode q text at →
    length text ≤ at → IsStringTail mode q (take at text) (drop at text)
within_open mode q text at h le =
    let e = string_ends mode q false text at _ le h.0 h.1 in
    string_at mode q text at (omega (arith, h.0, le, e))

pub within_closed : (mode : Bool) (q : ℕ) (text : List ℕ) (at : ℕ) → IsWithin mode q text at →
    at < length text → get_or text at 0 ≡ q →
    IsStringTail mode q (take (at + 1) text) (drop (at + 1) text)
within_closed mode q text at h lt e = string_at mode q text (at + 1) (string_stops mode q text at _ lt e h.1)

-- past a byte that is neither the quote nor an escape
pub past_other : (mode : Bool) (q : ℕ) (text : List ℕ) (at : ℕ) → IsWithin mode q text at →
    at < length text → get_or text at 0 ≢ q → is_escape mode (get_or text at 0) ≡ false → IsWithin mode q text (at + 1)
past_other mode q text at h lt ne plain =
    (omega arith, subst (λ x. at + 1 + string_len mode q x (drop (at + 1) text) ≡ string_len mode q false text) plain (string_goes_on mode q text at _ lt ne h.1))

-- past an escape, and the byte after it, if there is one
pub past_escape : (mode : Bool) (q : ℕ) (text : List ℕ) (at next : ℕ) → IsWithin mode q text at →
    at < length text → get_or text at 0 ≢ q → is_escape mode (get_or text at 0) ≡ true →
    next ≡ min (length text) (at + 1 + 1) → IsWithin mode q text next
past_escape mode q text at next h lt ne escapes next_is =
    let after = subst (λ x. at + 1 + string_len mode q x (drop (at + 1) text) ≡ string_len mode q false text) escapes (string_goes_on mode q text at _ lt ne h.1) in
    elim (cases_lt (at + 1) (length text)) [
      | inl more ↦
          let same : at + 1 + 1 ≡ next = omega arith in
          subst (IsWithin mode q text) same (omega arith, string_skips mode q text (at + 1) _ more after)
      | inr last ↦
          let same : length text ≡ next = omega arith in
          let all = string_ends mode q true text (at + 1) _ last (omega arith) after in
          subst (IsWithin mode q text) same (omega arith, rw (drop_all (length text) text (omega arith)) (omega (arith, all)))
    ]
