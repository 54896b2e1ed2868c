-- A string or an identifier, as a client reads it.
use Rattle.std.specs.Prelude.{Bool, not, codes}
use Rattle.std.proofs.Common.{◌≡◌, ◌⊎◌, ℕ, true, false, ◌==◌, ◌&&◌, ◌||◌, List, [], ◌∷◌, ◌++◌, refl, sym, ap, ◌∙◌, subst, inl, inr, true≢false, ne_eqb, append_assoc, append-nil}
use Rattle.std.specs.List.{list_all}
use Rattle.std.specs.Str.{byte}
use Rattle.std.proofs.lemmas.Bool.{cases_Bool, and_parts, or_parts, not-true, eqb-true}
use Rattle.mysql_named_params.specs.Bytes.{backquote, carriage_return, newline, begins}
use Rattle.mysql_sql_text.specs.StringUnits.{is_escape, AreUnits, no_units, byte_unit, escape_unit}
use Rattle.mysql_portable.specs.FoundInClient.{letter_of, begins_word, ends_line, escapes_newline, begins_delimiter_line}
use Rattle.mysql_client.specs.Outgoing.{Outgoing, end_line}
use Rattle.mysql_client.specs.ClientState.{Program, no_special, in_quotes, State, ends_here, escapes}
use Rattle.mysql_client.specs.Sends.{step, is_return}
use Rattle.mysql_client.specs.SentStatements.{line_byte, line_out}
use Rattle.mysql_client.proofs.StepLemmas.{before, HasNoZero, no_zero_after, line_goes}

-- a word goes on behind a byte that is none of its letters only if it does so without the rest
pub word_within : (q : ℕ) (word xs rest : List ℕ) → list_all (λ w. not (letter_of q == w)) word ≡ true →
    begins_word word (xs ++ q ∷ []) ≡ false → begins_word word (xs ++ q ∷ rest) ≡ false
word_within q [] xs rest h e = absurd (true≢false e)
word_within q (w ∷ ws) [] rest h e =
    let p = and_parts (not (letter_of q == w)) (list_all (λ v. not (letter_of q == v)) ws) h in
    rw (not-true _ p.0) refl
word_within q (w ∷ ws) (x ∷ xs) rest h e =
    elim (cases_Bool (letter_of x == w)) [
      | inl t ↦
          let p = and_parts (not (letter_of q == w)) (list_all (λ v. not (letter_of q == v)) ws) h in
          let e' : begins_word ws (xs ++ q ∷ []) ≡ false = sym (ap (λ c. c && begins_word ws (xs ++ q ∷ [])) t) ∙ e in
          rw (t, word_within q ws xs rest p.1 e') refl
      | inr f ↦ rw f refl
    ]

-- ---- the end of a text in quotes

-- the quote ends it, or the text ends
abbrev pub EndsIn : ℕ → List ℕ → List ℕ → Type 0
EndsIn q end rest = (end ≡ q ∷ []) ⊎ (rest ≡ [])

-- the quote is no letter of `delimiter`
abbrev pub IsNoLetter : ℕ → Type 0
IsNoLetter q = list_all (λ w. not (letter_of q == w)) (codes "delimiter") ≡ true

word_before : (q : ℕ) (xs end rest : List ℕ) → IsNoLetter q → EndsIn q end rest →
    begins_word (codes "delimiter") (xs ++ end) ≡ false → begins_word (codes "delimiter") ((xs ++ end) ++ rest) ≡ false
word_before q xs end rest l (inl e) h =
    let h' : begins_word (codes "delimiter") (xs ++ q ∷ []) ≡ false = sym (ap (λ x. begins_word (codes "delimiter") (xs ++ x)) e) ∙ h in
    ap (λ x. begins_word (codes "delimiter") ((xs ++ x) ++ rest)) e
    ∙ (ap (begins_word (codes "delimiter")) (append_assoc xs (q ∷ []) rest) ∙ word_within q (codes "delimiter") xs rest l h')
word_before q xs end rest l (inr e) h =
    ap (λ x. begins_word (codes "delimiter") ((xs ++ end) ++ x)) e
    ∙ (ap (begins_word (codes "delimiter")) (append-nil (xs ++ end)) ∙ h)

begins_before : (test : ℕ → Bool) (q : ℕ) (xs end rest : List ℕ) → EndsIn q end rest →
    begins test ((xs ++ end) ++ rest) ≡ begins test (xs ++ end)
begins_before test q (x ∷ xs) end rest k = refl
begins_before test q [] end rest (inl e) = ap (λ x. begins test (x ++ rest)) e ∙ sym (ap (begins test) e)
begins_before test q [] end rest (inr e) = ap (λ x. begins test (end ++ x)) e ∙ ap (begins test) (append-nil end)

-- ---- bytes in quotes

abbrev pub inside : ℕ → Outgoing → State
inside q o = record { reading = in_quotes q; special = no_special; fresh = false; drops = false; out = o }

-- nothing is found in the text in quotes, and no byte is 0
pub record IsTame (tail rest : List ℕ) : Type 0 where
  pub escape : escapes_newline tail ≡ false
  pub line : begins_delimiter_line tail ≡ false
  pub zero : HasNoZero (tail ++ rest)

pub tame_after : (b : ℕ) (bs rest : List ℕ) → IsTame (b ∷ bs) rest → IsTame bs rest
tame_after b bs rest t = record {
  escape = (or_parts (b == byte "\\" && ends_line bs) (escapes_newline bs) t.escape).1;
  line = (or_parts (b == newline && begins_word (codes "delimiter") bs) (begins_delimiter_line bs) t.line).1;
  zero = no_zero_after b (bs ++ rest) t.zero;
}

-- a line ends in quotes
newline_inside : (p : Program) (mode : Bool) (q b : ℕ) (bs rest : List ℕ) (o : Outgoing) → (b == newline) ≡ true →
    is_return b (bs ++ rest) ≡ false → IsTame (b ∷ bs) rest →
    (begins_word (codes "delimiter") bs ≡ false → begins_word (codes "delimiter") (bs ++ rest) ≡ false) →
    step p mode (inside q o) b (bs ++ rest) ≡ inside q (line_byte false b (bs ++ rest) o)
newline_inside p mode q b bs rest o n r t w =
    let l = or_parts (b == newline && begins_word (codes "delimiter") bs) (begins_delimiter_line bs) t.line in
    let word : begins_word (codes "delimiter") bs ≡ false = sym (ap (λ c. c && begins_word (codes "delimiter") bs) n) ∙ l.0 in
    rw (r, n) (line_goes p (bs ++ rest) (record (inside q o) { out = end_line false o }) (no_zero_after b (bs ++ rest) t.zero) (w word))

-- an ordinary byte in quotes
byte_inside : (p : Program) (mode : Bool) (q b : ℕ) (rest : List ℕ) (o : Outgoing) → is_return b rest ≡ false →
    (b == newline) ≡ false → (b == byte "\\" && escapes p mode q) ≡ false → (b == q) ≡ false →
    step p mode (inside q o) b rest ≡ inside q (line_byte false b rest o)
byte_inside p mode q b rest o r n e d = rw (r, n, e, d) refl

return_inside : (p : Program) (mode : Bool) (q b : ℕ) (rest : List ℕ) (o : Outgoing) → is_return b rest ≡ true →
    step p mode (inside q o) b rest ≡ inside q (line_byte false b rest o)
return_inside p mode q b rest o r = rw r refl

-- a unit of one byte
pub unit_inside : (p : Program) (mode : Bool) (q b : ℕ) (bs rest : List ℕ) (o : Outgoing) → IsTame (b ∷ bs) rest →
    (begins_word (codes "delimiter") bs ≡ false → begins_word (codes "delimiter") (bs ++ rest) ≡ false) →
    (b == byte "\\" && escapes p mode q) ≡ false → (b == q) ≡ false →
    step p mode (inside q o) b (bs ++ rest) ≡ inside q (line_byte false b (bs ++ rest) o)
unit_inside p mode q b bs rest o t w e d =
    elim (cases_Bool (is_return b (bs ++ rest))) [
      | inl r ↦ return_inside p mode q b (bs ++ rest) o r
      | inr r ↦ elim (cases_Bool (b == newline)) [
        | inl n ↦ newline_inside p mode q b bs rest o n r t w
        | inr n ↦ byte_inside p mode q b (bs ++ rest) o r n e d
      ]
    ]

no_escape : (p : Program) (mode : Bool) (q b : ℕ) → is_escape mode b ≡ false → (b == byte "\\" && escapes p mode q) ≡ false
no_escape p false q b e = rw e refl
no_escape p true q b e = go (b == byte "\\")
  where
    go : (c : Bool) → (c && false) ≡ false
    go true = refl
    go false = refl

-- a line doesn't end after a backslash
no_end : (q c : ℕ) (xs end rest : List ℕ) → EndsIn q end rest → ends_line (c ∷ (xs ++ end)) ≡ false →
    ends_here (c ∷ ((xs ++ end) ++ rest)) ≡ false
no_end q c xs end rest k h =
    ap (λ x. c == newline || (c == carriage_return && x)) (begins_before (λ x. x == newline) q xs end rest k) ∙ h

-- an escape and the byte after it
escape_inside : (p : Program) (q c : ℕ) (rest : List ℕ) (o : Outgoing) → escapes p false q ≡ true →
    (q == backquote) ≡ false → ends_here (c ∷ rest) ≡ false →
    step p false (step p false (inside q o) (byte "\\") (c ∷ rest)) c rest
    ≡ inside q (line_byte false c rest (line_byte false (byte "\\") (c ∷ rest) o))
escape_inside p q c rest o e k h =
    let parts = or_parts (c == newline) (c == carriage_return && begins (λ x. x == newline) rest) h in
    rw (e, h, k, parts.1, parts.0) refl

-- the units of a string
pub units_inside : (p : Program) (mode : Bool) (q : ℕ) (body end rest : List ℕ) (o : Outgoing) → AreUnits mode q body →
    IsTame (body ++ end) rest → EndsIn q end rest → IsNoLetter q → (q == backquote) ≡ false →
    before p mode rest (inside q o) (body ++ end)
    ≡ before p mode rest (inside q (line_out false body (end ++ rest) o)) end
units_inside p mode q [] end rest o no_units t k l d = refl
units_inside p mode q (b ∷ bs) end rest o (byte_unit n e u) t k l d =
    let first = unit_inside p mode q b (bs ++ end) rest o t (word_before q bs end rest l k) (no_escape p mode q b e) (ne_eqb b q n) in
    ap (λ s. before p mode rest s (bs ++ end)) first
    ∙ (units_inside p mode q bs end rest _ u (tame_after b (bs ++ end) rest t) k l d
    ∙ ap (λ x. before p mode rest (inside q (line_out false bs (end ++ rest) (line_byte false b x o))) end) (append_assoc bs end rest))
units_inside p true q (b ∷ c ∷ bs) end rest o (escape_unit e u) t k l d = absurd (true≢false (sym e))
units_inside p false q (b ∷ c ∷ bs) end rest o (escape_unit e u) t k l d =
    let b_is : b ≡ byte "\\" = eqb-true b (byte "\\") e in
    let ends = (or_parts (b == byte "\\" && ends_line (c ∷ (bs ++ end))) (escapes_newline (c ∷ (bs ++ end))) t.escape).0 in
    let line : ends_line (c ∷ (bs ++ end)) ≡ false = sym (ap (λ x. x && ends_line (c ∷ (bs ++ end))) e) ∙ ends in
    let no_quote : escapes p false q ≡ true = rw d refl in
    let first = escape_inside p q c ((bs ++ end) ++ rest) o no_quote d (no_end q c bs end rest k line) in
    subst (λ x. before p false rest (inside q o) (x ∷ c ∷ (bs ++ end)) ≡ before p false rest (inside q (line_out false (x ∷ c ∷ bs) (end ++ rest) o)) end) (sym b_is)
    (ap (λ s. before p false rest s (bs ++ end)) first
    ∙ (units_inside p false q bs end rest _ u (tame_after c (bs ++ end) rest (tame_after b (c ∷ (bs ++ end)) rest t)) k l d
    ∙ ap (λ x. before p false rest (inside q (line_out false bs (end ++ rest) (line_byte false c x (line_byte false (byte "\\") (c ∷ x) o)))) end) (append_assoc bs end rest)))

-- the bytes up to an end, one after another
pub line_out-append : (ends : Bool) (xs ys rest : List ℕ) (o : Outgoing) →
    line_out ends (xs ++ ys) rest o ≡ line_out ends ys rest (line_out ends xs (ys ++ rest) o)
line_out-append ends [] ys rest o = refl
line_out-append ends (b ∷ bs) ys rest o =
    line_out-append ends bs ys rest (line_byte ends b ((bs ++ ys) ++ rest) o)
    ∙ ap (λ x. line_out ends ys rest (line_out ends bs (ys ++ rest) (line_byte ends b x o))) (append_assoc bs ys rest)
