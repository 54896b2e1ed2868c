-- The whole of a string, an identifier and a comment of one line, as a client reads it.
use Rattle.std.specs.Prelude.{Bool, codes}
use Rattle.std.proofs.Common.{◌≡◌, ◌⊎◌, ℕ, true, false, ◌==◌, ◌&&◌, ◌||◌, List, [], ◌∷◌, ◌++◌, refl, sym, ap, ◌∙◌, subst, inl, inr, true≢false, append-nil}
use Rattle.std.specs.Str.{byte}
use Rattle.std.proofs.lemmas.Bool.{cases_Bool, and_parts, or_parts, or_right, eqb-true}
use Rattle.mysql_named_params.specs.Bytes.{backquote, carriage_return, newline, single_quote, double_quote, begins}
use Rattle.mysql_named_params.specs.Tokens.{IsStringTail, closed_string, open_string, open_in_escape}
use Rattle.mysql_sql_text.specs.StringUnits.{is_escape, AreUnits}
use Rattle.mysql_portable.specs.FoundInClient.{begins_word, ends_line, escapes_newline}
use Rattle.mysql_client.specs.Outgoing.{Outgoing, pass_as_is, send_if, end_line}
use Rattle.mysql_client.specs.ClientState.{Program, no_special, in_line, outside, State, ends_here, escapes}
use Rattle.mysql_client.specs.Sends.{step, is_return}
use Rattle.mysql_client.specs.SentStatements.{line_byte, line_out}
use Rattle.mysql_client.proofs.StepLemmas.{base, before, differs, HasNoZero, no_zero_after, line_goes}
use Rattle.mysql_client.proofs.EndLemmas.{Ends, closed_end, open_end, UpToByte, word_up_to, begins_up_to}
use Rattle.mysql_client.proofs.QuotedLemmas.{inside, IsTame, tame_after, unit_inside, units_inside, line_out-append}

-- ---- strings

ends_so : (body : List ℕ) (b : ℕ) → (b == byte "\\") ≡ true → escapes_newline (body ++ b ∷ []) ≡ true
ends_so [] b e = rw e refl
ends_so (x ∷ xs) b e = or_right (x == byte "\\" && ends_line (xs ++ b ∷ [])) _ (ends_so xs b e)

is_backslash : (mode : Bool) (b : ℕ) → is_escape mode b ≡ true → (b == byte "\\") ≡ true
is_backslash false b e = e
is_backslash true b e = absurd (true≢false (sym e))

string_of : (p : Program) (mode : Bool) (q : ℕ) (tail rest : List ℕ) (o : Outgoing) → IsStringTail mode q tail rest →
    IsTame tail rest →
    ((o : Outgoing) → before p mode rest (inside q o) (q ∷ []) ≡ base outside false (line_out false (q ∷ []) rest o)) →
    ((body end : List ℕ) (o : Outgoing) → AreUnits mode q body → IsTame (body ++ end) rest → (end ≡ q ∷ []) ⊎ (rest ≡ []) →
    before p mode rest (inside q o) (body ++ end) ≡ before p mode rest (inside q (line_out false body (end ++ rest) o)) end) →
    Ends (before p mode rest (inside q o) tail) rest false (line_out false tail rest o)
string_of p mode q tail rest o (closed_string body u e) t close units =
    subst (λ x. Ends (before p mode rest (inside q o) x) rest false (line_out false x rest o)) e
    (closed_end (units body (q ∷ []) o u (subst (λ x. IsTame x rest) (sym e) t) (inl refl)
    ∙ (close (line_out false body (q ∷ rest) o) ∙ ap (base outside false) (sym (line_out-append false body (q ∷ []) rest o)))))
string_of p mode q tail rest o (open_string u nil) t close units =
    subst (λ x. Ends (before p mode rest (inside q o) x) rest false (line_out false x rest o)) (append-nil tail)
    (subst (λ s. Ends s rest false (line_out false (tail ++ []) rest o)) (sym (units tail [] o u (subst (λ x. IsTame x rest) (sym (append-nil tail)) t) (inr nil)))
    (open_end nil refl (sym (line_out-append false tail [] rest o))))
string_of p mode q tail rest o (open_in_escape body b u esc e nil) t close units =
    let yes : escapes_newline tail ≡ true = sym (ap escapes_newline e) ∙ ends_so body b (is_backslash mode b esc) in
    absurd (true≢false (sym yes ∙ t.escape))

-- a string in single quotes
pub single_string : (p : Program) (mode : Bool) (tail rest : List ℕ) (o : Outgoing) → IsStringTail mode single_quote tail rest →
    IsTame tail rest →
    Ends (before p mode rest (inside single_quote o) tail) rest false (line_out false tail rest o)
single_string p mode tail rest o h t =
    string_of p mode single_quote tail rest o h t (λ o. refl) (λ body end o u t k. units_inside p mode single_quote body end rest o u t k refl refl)

-- a string in double quotes
pub double_string : (p : Program) (mode : Bool) (tail rest : List ℕ) (o : Outgoing) → IsStringTail mode double_quote tail rest →
    IsTame tail rest →
    Ends (before p mode rest (inside double_quote o) tail) rest false (line_out false tail rest o)
double_string p mode tail rest o h t =
    string_of p mode double_quote tail rest o h t (λ o. refl) (λ body end o u t k. units_inside p mode double_quote body end rest o u t k refl refl)

-- ---- comments of one line

abbrev pub in_line_comment : Bool → Bool → Outgoing → State
in_line_comment ends f o = record { reading = in_line ends; special = no_special; fresh = f; drops = false; out = o }

pub line_of : (p : Program) (mode ends f : Bool) (tail rest : List ℕ) (o : Outgoing) → UpToByte newline tail rest →
    HasNoZero (tail ++ rest) → begins_word (codes "delimiter") rest ≡ false →
    Ends (before p mode rest (in_line_comment ends f o) tail) rest f (line_out ends tail rest o)
line_of p mode ends f [] rest o u z w = open_end u refl refl
line_of p mode ends f (b ∷ bs) rest o u z w =
    elim (cases_Bool (is_return b (bs ++ rest))) [
      | inl r ↦
          let cr = and_parts (b == carriage_return) (begins (λ c. c == newline) (bs ++ rest)) r in
          let n : (b == newline) ≡ false = differs b newline (λ x. x == carriage_return) cr.0 refl in
          rw r (line_of p mode ends f bs rest o (u.1 n) (no_zero_after b (bs ++ rest) z) w)
      | inr r ↦ elim (cases_Bool (b == newline)) [
        | inl n ↦
            let nil : bs ≡ [] = u.0 n in
            let go = line_goes p rest (base outside f (end_line false (send_if ends o))) (subst (λ x. HasNoZero (x ++ rest)) nil (no_zero_after b (bs ++ rest) z)) w in
            let ret : is_return b rest ≡ false = sym (ap (λ x. is_return b (x ++ rest)) nil) ∙ r in
            subst (λ x. Ends (before p mode rest (in_line_comment ends f o) (b ∷ x)) rest f (line_out ends (b ∷ x) rest o)) (sym nil)
            (rw (ret, n) (closed_end go))
        | inr n ↦ rw (r, n) (line_of p mode ends f bs rest (pass_as_is b o) (u.1 n) (no_zero_after b (bs ++ rest) z) w)
      ]
    ]

-- ---- identifiers

-- a backslash before a backquote, which ends the identifier
backslash_then_quote : (p : Program) (mode : Bool) (b : ℕ) (rest : List ℕ) (o : Outgoing) → (b == byte "\\") ≡ true →
    escapes p mode backquote ≡ true → ends_here rest ≡ false → begins (λ c. c == backquote) rest ≡ true →
    step p mode (inside backquote o) b rest ≡ inside backquote (line_byte false b rest o)
backslash_then_quote p mode b rest o e k h q =
    let n : (b == newline) ≡ false = differs b newline (λ x. x == byte "\\") e refl in
    let r : (b == carriage_return) ≡ false = differs b carriage_return (λ x. x == byte "\\") e refl in
    rw (r, n, e, k, h, q) refl

-- a backslash and another byte
backslash_and_byte : (p : Program) (mode : Bool) (b c : ℕ) (rest : List ℕ) (o : Outgoing) → (b == byte "\\") ≡ true →
    escapes p mode backquote ≡ true → ends_here (c ∷ rest) ≡ false → (c == backquote) ≡ false →
    step p mode (step p mode (inside backquote o) b (c ∷ rest)) c rest
    ≡ inside backquote (line_byte false c rest (line_byte false b (c ∷ rest) o))
backslash_and_byte p mode b c rest o e k h q =
    let n : (b == newline) ≡ false = differs b newline (λ x. x == byte "\\") e refl in
    let r : (b == carriage_return) ≡ false = differs b carriage_return (λ x. x == byte "\\") e refl in
    let parts = or_parts (c == newline) (c == carriage_return && begins (λ x. x == newline) rest) h in
    rw (r, n, e, k, h, q, parts.1, parts.0) refl

close_identifier : (p : Program) (mode : Bool) (b : ℕ) (bs rest : List ℕ) (o : Outgoing) → (b == backquote) ≡ true → bs ≡ [] →
    Ends (before p mode rest (inside backquote o) (b ∷ bs)) rest false (line_out false (b ∷ bs) rest o)
close_identifier p mode b bs rest o e nil =
    subst (λ x. Ends (before p mode rest (inside backquote o) (b ∷ x)) rest false (line_out false (b ∷ x) rest o)) (sym nil)
    (subst (λ y. Ends (before p mode rest (inside backquote o) (y ∷ [])) rest false (line_out false (y ∷ []) rest o)) (sym (eqb-true b backquote e)) (closed_end refl))

-- no line ends after the backslash
goes_on_here : (c : ℕ) (cs rest : List ℕ) → UpToByte backquote (c ∷ cs) rest → ends_line (c ∷ cs) ≡ false →
    ends_here (c ∷ (cs ++ rest)) ≡ false
goes_on_here c cs rest u h =
    let parts = or_parts (c == newline) (c == carriage_return && begins (λ x. x == newline) cs) h in
    elim (cases_Bool (c == backquote)) [
      | inl q ↦
          let r : (c == carriage_return) ≡ false = differs c carriage_return (λ x. x == backquote) q refl in
          rw (parts.0, r) refl
      | inr q ↦ ap (λ x. c == newline || (c == carriage_return && x)) (begins_up_to (λ x. x == newline) backquote cs rest (u.1 q)) ∙ h
    ]

pub identifier_of : (p : Program) (mode : Bool) (tail rest : List ℕ) (o : Outgoing) → UpToByte backquote tail rest →
    IsTame tail rest →
    Ends (before p mode rest (inside backquote o) tail) rest false (line_out false tail rest o)
identifier_of p mode [] rest o u t = open_end u refl refl
identifier_of p mode (b ∷ []) rest o u t =
    elim (cases_Bool (b == backquote)) [
      | inl e ↦ close_identifier p mode b [] rest o e refl
      | inr e ↦ elim (cases_Bool (b == byte "\\" && escapes p mode backquote)) [
        | inl k ↦
            let yes : escapes_newline (b ∷ []) ≡ true = rw (and_parts (b == byte "\\") (escapes p mode backquote) k).0 refl in
            absurd (true≢false (sym yes ∙ t.escape))
        | inr k ↦
            let first = unit_inside p mode backquote b [] rest o t (word_up_to backquote (codes "delimiter") [] rest refl (u.1 e)) k e in
            subst (λ s. Ends s rest false (line_byte false b rest o)) (sym first) (open_end (u.1 e) refl refl)
      ]
    ]
identifier_of p mode (b ∷ c ∷ cs) rest o u t =
    elim (cases_Bool (b == backquote)) [
      | inl e ↦ close_identifier p mode b (c ∷ cs) rest o e (u.0 e)
      | inr e ↦ elim (cases_Bool (b == byte "\\" && escapes p mode backquote)) [
        | inl k ↦
            let parts = and_parts (b == byte "\\") (escapes p mode backquote) k in
            let ends = (or_parts (b == byte "\\" && ends_line (c ∷ cs)) (escapes_newline (c ∷ cs)) t.escape).0 in
            let line : ends_line (c ∷ cs) ≡ false = sym (ap (λ x. x && ends_line (c ∷ cs)) parts.0) ∙ ends in
            let here = goes_on_here c cs rest (u.1 e) line in
            elim (cases_Bool (c == backquote)) [
              | inl q ↦
                  subst (λ s. Ends (before p mode rest s (c ∷ cs)) rest false (line_out false (b ∷ c ∷ cs) rest o)) (sym (backslash_then_quote p mode b (c ∷ (cs ++ rest)) o parts.0 parts.1 here q))
                  (identifier_of p mode (c ∷ cs) rest (line_byte false b (c ∷ (cs ++ rest)) o) (u.1 e) (tame_after b (c ∷ cs) rest t))
              | inr q ↦
                  subst (λ s. Ends (before p mode rest s cs) rest false (line_out false (b ∷ c ∷ cs) rest o)) (sym (backslash_and_byte p mode b c (cs ++ rest) o parts.0 parts.1 here q))
                  (identifier_of p mode cs rest (line_byte false c (cs ++ rest) (line_byte false b (c ∷ (cs ++ rest)) o)) ((u.1 e).1 q) (tame_after c cs rest (tame_after b (c ∷ cs) rest t)))
            ]
        | inr k ↦
            subst (λ s. Ends (before p mode rest s (c ∷ cs)) rest false (line_out false (b ∷ c ∷ cs) rest o)) (sym (unit_inside p mode backquote b (c ∷ cs) rest o t (word_up_to backquote (codes "delimiter") (c ∷ cs) rest refl (u.1 e)) k e))
            (identifier_of p mode (c ∷ cs) rest (line_byte false b (c ∷ (cs ++ rest)) o) (u.1 e) (tame_after b (c ∷ cs) rest t))
      ]
    ]
