-- A block comment, as a client reads it.
use Rattle.std.specs.Prelude.{Bool, not}
use Rattle.std.proofs.Common.{◌≡◌, ℕ, true, false, cond, ◌==◌, ◌&&◌, ◌||◌, List, [], ◌∷◌, ◌++◌, refl, sym, ap, ◌∙◌, subst, inl, inr}
use Rattle.std.specs.Str.{byte}
use Rattle.std.proofs.lemmas.Bool.{cases_Bool, and_parts, or_parts, eqb-true}
use Rattle.mysql_named_params.specs.Bytes.{asterisk, carriage_return, exclamation_mark, newline, plus, slash, is_extension, begins}
use Rattle.mysql_portable.specs.Client.{begins_opener, begins_end, holds_opener}
use Rattle.mysql_client.specs.Outgoing.{Outgoing}
use Rattle.mysql_client.specs.ClientState.{Program, begins_delimiter, is_mariadb, no_special, only_read, in_comment, is_none, special_at, begins_block, begins_close, opened, special_after}
use Rattle.mysql_client.specs.Sends.{step, is_return}
use Rattle.mysql_client.specs.SentStatements.{comment_byte, comment_out}
use Rattle.mysql_client.proofs.StepLemmas.{in_block, before, differs, HasNoZero, no_zero_after, no_zero_line}
use Rattle.mysql_client.proofs.EndLemmas.{Ends, closed_end, open_end, UpToClose, begins_up_to_close}

-- ---- no special comment opens

none_all : (c d : Bool) → cond c no_special (cond d no_special no_special) ≡ no_special
none_all true d = refl
none_all false true = refl
none_all false false = refl

pub special_stays : (p : Program) (b : ℕ) (rest : List ℕ) → begins_opener (b ∷ rest) ≡ false →
    special_after p no_special b rest ≡ no_special
special_stays p b [] h = none_all (b == slash && false) (b == asterisk && false)
special_stays p b (s ∷ []) h = none_all (b == slash && s == asterisk) (b == asterisk && s == slash)
special_stays p b (s ∷ y ∷ ys) h =
    elim (cases_Bool (b == slash && s == asterisk)) [
      | inl t ↦
          let both = and_parts (b == slash) (s == asterisk) t in
          let opener : (is_extension y || y == slash) ≡ false =
          sym (ap (λ c. c && (s == asterisk && (is_extension y || y == slash))) both.0 ∙ ap (λ c. c && (is_extension y || y == slash)) both.1) ∙ h in
          let ext = or_parts (y == exclamation_mark) (y == plus) (or_parts (is_extension y) (y == slash) opener).0 in
          rw (both.0, both.1, ext.0, ext.1) (go ((y == byte "M" && begins (λ c. c == exclamation_mark) ys) && is_mariadb p))
      | inr f ↦ rw f (go2 (b == asterisk && s == slash))
    ]
  where
    go : (q : Bool) → opened no_special (cond q only_read no_special) ≡ no_special
    go true = refl
    go false = refl

    go2 : (q : Bool) → cond q no_special no_special ≡ no_special
    go2 true = refl
    go2 false = refl

-- ---- bytes in a comment

-- an opener, or the end of a comment, is not at a byte of a text without openers
abbrev pub HasNoOpener : List ℕ → Type 0
HasNoOpener text = holds_opener text ≡ false

no_opener_here : (b : ℕ) (rest : List ℕ) → HasNoOpener (b ∷ rest) → begins_opener (b ∷ rest) ≡ false
no_opener_here b rest h = (or_parts (begins_opener (b ∷ rest)) (not (begins_end (b ∷ rest)) && holds_opener rest) h).0

no_opener_after : (b : ℕ) (rest : List ℕ) → HasNoOpener (b ∷ rest) → begins_close b rest ≡ false → HasNoOpener rest
no_opener_after b rest h e =
    let p = or_parts (begins_opener (b ∷ rest)) (not (begins_end (b ∷ rest)) && holds_opener rest) h in
    sym (ap (λ c. not c && holds_opener rest) e) ∙ p.1

-- a byte with which no other comment begins or ends
pub byte_in_block : (p : Program) (mode f d : Bool) (b : ℕ) (rest : List ℕ) (o : Outgoing) → HasNoZero (b ∷ rest) →
    begins_close b rest ≡ false → begins_block p b rest ≡ false → begins_opener (b ∷ rest) ≡ false →
    (d' : Bool) × (step p mode (in_block in_comment f d o) b rest ≡ in_block in_comment f d' (comment_byte p b rest o))
byte_in_block p mode f d b rest o z c k h =
    elim (cases_Bool (is_return b rest)) [
      | inl r ↦ (d, rw r refl)
      | inr r ↦ elim (cases_Bool (b == newline)) [
        | inl n ↦ (begins_delimiter p rest, rw (r, n, no_zero_line rest (no_zero_after b rest z)) refl)
        | inr n ↦ (d, rw (special_stays p b rest h, r, n, k, c) refl)
      ]
    ]

-- the end of the comment
close_block : (p : Program) (mode f d : Bool) (b : ℕ) (bs rest : List ℕ) (o : Outgoing) → begins_close b bs ≡ true →
    bs ≡ slash ∷ [] →
    Ends (before p mode rest (in_block in_comment f d o) (b ∷ bs)) rest f (comment_out p (b ∷ bs) rest o)
close_block p mode f d b bs rest o c e =
    let star : b ≡ asterisk = eqb-true b asterisk (and_parts (b == asterisk) (begins (λ x. x == slash) bs) c).0 in
    subst (λ x. Ends (before p mode rest (in_block in_comment f d o) (b ∷ x)) rest f (comment_out p (b ∷ x) rest o)) (sym e)
    (subst (λ y. Ends (before p mode rest (in_block in_comment f d o) (y ∷ slash ∷ [])) rest f (comment_out p (y ∷ slash ∷ []) rest o)) (sym star) (closed_end refl))

-- a `/*` within the comment
nested : (p : Program) (mode f d : Bool) (b c : ℕ) (rest : List ℕ) (o : Outgoing) → begins_block p b (c ∷ rest) ≡ true →
    step p mode (step p mode (in_block in_comment f d o) b (c ∷ rest)) c rest
    ≡ in_block in_comment f d (comment_byte p c rest (comment_byte p b (c ∷ rest) o))
nested p mode f d b c rest o k =
    let parts = and_parts (b == slash) (c == asterisk && is_none (special_at p rest)) k in
    let star = (and_parts (c == asterisk) (is_none (special_at p rest)) parts.1).0 in
    let n : (b == newline) ≡ false = differs b newline (λ x. x == slash) parts.0 refl in
    let r : (b == carriage_return) ≡ false = differs b carriage_return (λ x. x == slash) parts.0 refl in
    let n' : (c == newline) ≡ false = differs c newline (λ x. x == asterisk) star refl in
    let r' : (c == carriage_return) ≡ false = differs c carriage_return (λ x. x == asterisk) star refl in
    let s' : (c == slash) ≡ false = differs c slash (λ x. x == asterisk) star refl in
    rw (r, n, k, r', n', s') refl

no_close_before_star : (b : ℕ) (rest : List ℕ) → (b == slash) ≡ true → begins_close b rest ≡ false
no_close_before_star b rest e = rw (differs b asterisk (λ x. x == slash) e refl) refl

pub block_of : (p : Program) (mode f d : Bool) (tail rest : List ℕ) (o : Outgoing) → UpToClose tail rest →
    HasNoZero (tail ++ rest) → HasNoOpener (tail ++ rest) →
    Ends (before p mode rest (in_block in_comment f d o) tail) rest f (comment_out p tail rest o)
block_of p mode f d [] rest o u z h = open_end u refl refl
block_of p mode f d (b ∷ []) rest o u z h =
    elim (cases_Bool (begins_close b [])) [
      | inl c ↦ close_block p mode f d b [] rest o c (u.0 c)
      | inr c ↦
          let c' : begins_close b rest ≡ false = ap (λ x. b == asterisk && x) (begins_up_to_close (λ x. x == slash) [] rest (u.1 c)) ∙ c in
          let none : begins (λ x. x == asterisk) rest ≡ false = begins_up_to_close (λ x. x == asterisk) [] rest (u.1 c) in
          let k : begins_block p b rest ≡ false = rw none (and_no (b == slash)) in
          let first = byte_in_block p mode f d b rest o z c' k (no_opener_here b rest h) in
          let out_is : comment_out p (b ∷ []) rest o ≡ comment_byte p b rest o = rw c refl in
          subst (Ends (before p mode rest (in_block in_comment f d o) (b ∷ [])) rest f) (sym out_is)
          (subst (λ s. Ends s rest f (comment_byte p b rest o)) (sym first.1) (open_end (u.1 c) refl refl))
    ]
  where
    and_no : (x : Bool) → (x && false) ≡ false
    and_no true = refl
    and_no false = refl
block_of p mode f d (b ∷ c ∷ cs) rest o u z h =
    elim (cases_Bool (begins_close b (c ∷ cs))) [
      | inl e ↦ close_block p mode f d b (c ∷ cs) rest o e (u.0 e)
      | inr e ↦ elim (cases_Bool (begins_block p b (c ∷ (cs ++ rest)))) [
        | inl k ↦
            let parts = and_parts (b == slash) (c == asterisk && is_none (special_at p (cs ++ rest))) k in
            let star = (and_parts (c == asterisk) (is_none (special_at p (cs ++ rest))) parts.1).0 in
            let here = no_opener_here b (c ∷ (cs ++ rest)) h in
            let apart : begins (λ x. x == slash) (cs ++ rest) ≡ false = no_slash b c (cs ++ rest) parts.0 star here in
            let e' : begins_close c (cs ++ rest) ≡ false = rw apart (and_no (c == asterisk)) in
            let h' = no_opener_after b (c ∷ (cs ++ rest)) h (no_close_before_star b (c ∷ (cs ++ rest)) parts.0) in
            let inner : begins_close c cs ≡ false = shorter c cs rest e' in
            let out_is : comment_out p (b ∷ c ∷ cs) rest o ≡ comment_out p cs rest (comment_byte p c (cs ++ rest) (comment_byte p b (c ∷ (cs ++ rest)) o)) = rw (e, inner) refl in
            subst (Ends (before p mode rest (in_block in_comment f d o) (b ∷ c ∷ cs)) rest f) (sym out_is)
            (subst (λ s. Ends (before p mode rest s cs) rest f (comment_out p cs rest (comment_byte p c (cs ++ rest) (comment_byte p b (c ∷ (cs ++ rest)) o)))) (sym (nested p mode f d b c (cs ++ rest) o k))
            (block_of p mode f d cs rest (comment_byte p c (cs ++ rest) (comment_byte p b (c ∷ (cs ++ rest)) o)) ((u.1 e).1 inner) (no_zero_after c (cs ++ rest) (no_zero_after b (c ∷ (cs ++ rest)) z)) (no_opener_after c (cs ++ rest) h' e')))
        | inr k ↦
            let first = byte_in_block p mode f d b (c ∷ (cs ++ rest)) o z e k (no_opener_here b (c ∷ (cs ++ rest)) h) in
            let out_is : comment_out p (b ∷ c ∷ cs) rest o ≡ comment_out p (c ∷ cs) rest (comment_byte p b (c ∷ (cs ++ rest)) o) = rw e refl in
            subst (Ends (before p mode rest (in_block in_comment f d o) (b ∷ c ∷ cs)) rest f) (sym out_is)
            (subst (λ s. Ends (before p mode rest s (c ∷ cs)) rest f (comment_out p (c ∷ cs) rest (comment_byte p b (c ∷ (cs ++ rest)) o))) (sym first.1)
            (block_of p mode f first.0 (c ∷ cs) rest (comment_byte p b (c ∷ (cs ++ rest)) o) (u.1 e) (no_zero_after b (c ∷ (cs ++ rest)) z) (no_opener_after b (c ∷ (cs ++ rest)) h e)))
      ]
    ]
  where
    and_no : (x : Bool) → (x && false) ≡ false
    and_no true = refl
    and_no false = refl

    no_slash : (b c : ℕ) (xs : List ℕ) → (b == slash) ≡ true → (c == asterisk) ≡ true → begins_opener (b ∷ c ∷ xs) ≡ false → begins (λ x. x == slash) xs ≡ false
    no_slash b c [] s t h = refl
    no_slash b c (x ∷ xs) s t h =
        let opener : (is_extension x || x == slash) ≡ false =
        sym (ap (λ y. y && (c == asterisk && (is_extension x || x == slash))) s ∙ ap (λ y. y && (is_extension x || x == slash)) t) ∙ h in
        (or_parts (is_extension x) (x == slash) opener).1

    shorter : (c : ℕ) (cs rest : List ℕ) → begins_close c (cs ++ rest) ≡ false → begins_close c cs ≡ false
    shorter c [] rest e = and_no (c == asterisk)
    shorter c (x ∷ xs) rest e = e
