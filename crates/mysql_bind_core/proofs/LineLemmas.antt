-- A newline after a text: its tokens stay, whatever follows, if the text ends within none.
use Rattle.std.specs.Prelude.{Bool, ⊤}
use Rattle.std.proofs.Common.{◌≡◌, ◌==◌, ℕ, true, false, List, [], ◌∷◌, ◌++◌, inl, inr, refl, sym, ap, ◌∙◌, subst, append-nil, append_assoc, true≢false}
use Rattle.std.proofs.lemmas.Bool.{cases_Bool, or_parts, eqb-true}
use Rattle.mysql_named_params.specs.Bytes.{dash, hash, newline, Lacks, HoldsOnlyAtEnd, IsUpTo, up_to_word}
use Rattle.mysql_named_params.specs.Tokens.{Token, IsToken, AreTokensBefore, bytes_of, text_of, text_then, HashComment, DashComment, Plain}
use Rattle.mysql_bind_core.specs.ScriptTokens.{semicolon, has_newline, then_newline, with_newline, statement_tokens}
use Rattle.mysql_named_params.proofs.RestLemmas.{up_to-alike}
use Rattle.mysql_named_params.proofs.TokenEnds.{plain_at}
use Rattle.mysql_named_params.proofs.TokenListLemmas.{some_byte}
use Rattle.mysql_named_params.proofs.TokenRowLemmas.{text_then-text_of, text_of-append, AreTokensBefore-append}
use Rattle.mysql_bind_core.proofs.NewlineLemmas.{some_line, token_then_newline, plain_newline}

-- a newline and `;`
abbrev pub line_end : List ℕ
line_end = newline ∷ semicolon ∷ []

-- ---- tokens of which the last is closed, or is a comment to the end of the line

abbrev pub EndsAtLine : Bool → Token → Type 0
EndsAtLine mode (HashComment tail) = ⊤
EndsAtLine mode (DashComment gap tail) = ⊤
EndsAtLine mode t = IsToken mode t line_end

abbrev pub EndClosed : Bool → List Token → Type 0
EndClosed mode [] = ⊤
EndClosed mode (t ∷ []) = EndsAtLine mode t
EndClosed mode (t ∷ u ∷ ts) = EndClosed mode (u ∷ ts)

pub ends_before : (mode : Bool) (t : Token) → IsToken mode t line_end → EndsAtLine mode t
ends_before mode (HashComment tail) h = tt
ends_before mode (DashComment gap tail) h = tt
ends_before mode t h = h

pub closed_before : (mode : Bool) (ts : List Token) → AreTokensBefore mode line_end ts → EndClosed mode ts
closed_before mode [] h = tt
closed_before mode (t ∷ []) h = ends_before mode t h.0
closed_before mode (t ∷ u ∷ ts) h = closed_before mode (u ∷ ts) h.1

pub closed_append : (mode : Bool) (xs ys : List Token) → EndClosed mode xs → EndClosed mode ys → EndClosed mode (xs ++ ys)
closed_append mode [] ys a b = b
closed_append mode (x ∷ []) [] a b = a
closed_append mode (x ∷ []) (y ∷ ys) a b = b
closed_append mode (x ∷ z ∷ xs) ys a b = closed_append mode (z ∷ xs) ys a b

pub closed_rest : (mode : Bool) (t : Token) (ts : List Token) → EndClosed mode (t ∷ ts) → EndClosed mode ts
closed_rest mode t [] c = tt
closed_rest mode t (u ∷ ts) c = c

-- other tokens after the first one
pub closed_kept : (mode : Bool) (t : Token) (ts us : List Token) → IsToken mode t (text_of ts) → IsToken mode t (text_of us) →
    EndClosed mode (t ∷ ts) → EndClosed mode us → EndClosed mode (t ∷ us)
closed_kept mode t [] [] h k c d = c
closed_kept mode t (u ∷ ts) [] h k c d = ends_before mode t (token_then_newline mode t [] (text_of (u ∷ ts)) (semicolon ∷ []) (some_byte u _) h k)
closed_kept mode t ts (u ∷ us) h k c d = d

-- ---- the text and the tokens with a newline

own_line : (xs : List ℕ) → xs ++ newline ∷ [] ≡ (xs ++ []) ++ newline ∷ []
own_line xs = ap (λ y. y ++ newline ∷ []) (sym (append-nil xs))

joined_line : (xs : List ℕ) → (xs ++ newline ∷ []) ++ [] ≡ (xs ++ []) ++ newline ∷ []
joined_line xs = append-nil (xs ++ newline ∷ []) ∙ own_line xs

last_text : (t : Token) → text_of (then_newline t) ≡ text_of (t ∷ []) ++ newline ∷ []
last_text (HashComment tail) =
    elim (cases_Bool (has_newline tail)) [
      | inl e ↦ rw e (own_line (hash ∷ tail))
      | inr e ↦ rw e (joined_line (hash ∷ tail))
    ]
last_text (DashComment gap tail) =
    elim (cases_Bool (has_newline tail)) [
      | inl e ↦ rw e (own_line (dash ∷ dash ∷ gap ∷ tail))
      | inr e ↦ rw e (joined_line (dash ∷ dash ∷ gap ∷ tail))
    ]
last_text t = own_line (bytes_of t)

pub newline_text : (ts : List Token) → text_of (with_newline ts) ≡ text_of ts ++ newline ∷ []
newline_text [] = refl
newline_text (t ∷ []) = last_text t
newline_text (t ∷ u ∷ ts) = ap (λ x. bytes_of t ++ x) (newline_text (u ∷ ts)) ∙ sym (append_assoc (bytes_of t) (text_of (u ∷ ts)) (newline ∷ []))

pub newline_then : (ts : List Token) (more : List ℕ) → text_then more (with_newline ts) ≡ text_of ts ++ newline ∷ more
newline_then ts more = text_then-text_of (with_newline ts) more ∙ ap (λ x. x ++ more) (newline_text ts) ∙ append_assoc (text_of ts) (newline ∷ []) more

-- a comment to the end of the line

has_not_lacks : (tail : List ℕ) → has_newline tail ≡ true → Lacks (newline ∷ []) tail → ⊥
has_not_lacks [] e lacks = true≢false (sym e)
has_not_lacks (b ∷ tail) e lacks =
    elim (cases_Bool (b == newline)) [
      | inl n ↦ lacks [] tail (ap (λ x. x ∷ tail) (sym (eqb-true b newline n)))
      | inr n ↦ has_not_lacks tail (rw n at e) (λ front back p. lacks (b ∷ front) back (ap (λ x. b ∷ x) p))
    ]

newline_at_end : (tail : List ℕ) → has_newline tail ≡ false → HoldsOnlyAtEnd (newline ∷ []) (tail ++ newline ∷ [])
newline_at_end [] h [] back e = cc
newline_at_end [] h (f ∷ front) back e = absurd (some_line front back cc)
newline_at_end (b ∷ tail) h [] back e = absurd (true≢false (same ∙ (or_parts (b == newline) (has_newline tail) h).0))
  where
    is : newline ≡ b
    is = cc

    same : true ≡ (b == newline)
    same = ap (λ x. x == newline) is
newline_at_end (b ∷ tail) h (f ∷ front) back e = newline_at_end tail (or_parts (b == newline) (has_newline tail) h).1 front back cc

comment_ended : (tail x y : List ℕ) → has_newline tail ≡ true → IsUpTo (newline ∷ []) tail x → IsUpTo (newline ∷ []) tail y
comment_ended tail x y h u = up_to-alike _ tail x y (λ lacks e. absurd (has_not_lacks tail h lacks)) u

last_before : (mode : Bool) (t : Token) (more : List ℕ) → IsToken mode t [] → EndsAtLine mode t → AreTokensBefore mode more (then_newline t)
last_before mode (HashComment tail) more h c =
    elim (cases_Bool (has_newline tail)) [
      | inl e ↦ rw e (comment_ended tail [] (newline ∷ more) e h, (plain_newline mode more, tt))
      | inr e ↦ rw e (up_to_word tail refl (newline_at_end tail e), tt)
    ]
last_before mode (DashComment gap tail) more h c =
    elim (cases_Bool (has_newline tail)) [
      | inl e ↦ rw e ((h.0, h.1, comment_ended tail [] (newline ∷ more) e h.2), (plain_newline mode more, tt))
      | inr e ↦ rw e ((h.0, h.1, up_to_word tail refl (newline_at_end tail e)), tt)
    ]
last_before mode t more h c = (token_then_newline mode t [] line_end more (λ e. cc) c h, (plain_newline mode more, tt))

pub newline_before : (mode : Bool) (ts : List Token) (more : List ℕ) → AreTokensBefore mode [] ts → EndClosed mode ts →
    AreTokensBefore mode more (with_newline ts)
newline_before mode [] more h c = (plain_newline mode more, tt)
newline_before mode (t ∷ []) more h c = last_before mode t more h.0 c
newline_before mode (t ∷ u ∷ ts) more h c = (
  subst (IsToken mode t) (sym (newline_then (u ∷ ts) more)) (token_then_newline mode t (text_of (u ∷ ts)) (text_of (u ∷ ts)) more (some_byte u _) h.0 h.0),
  newline_before mode (u ∷ ts) more h.1 c,
)

-- ---- a statement

pub statement_before : (mode : Bool) (ts : List Token) → AreTokensBefore mode [] ts → EndClosed mode ts → (more : List ℕ) →
    AreTokensBefore mode more (statement_tokens ts)
statement_before mode ts h c more =
    AreTokensBefore-append mode (with_newline ts) (Plain semicolon ∷ Plain newline ∷ []) more (newline_before mode ts _ h c)
    (plain_at mode semicolon (newline ∷ more) refl, (plain_newline mode more, tt))

pub statement_text : (ts : List Token) → text_of (statement_tokens ts) ≡ text_of ts ++ newline ∷ semicolon ∷ newline ∷ []
statement_text ts =
    text_of-append (with_newline ts) (Plain semicolon ∷ Plain newline ∷ []) ∙ ap (λ x. x ++ semicolon ∷ newline ∷ []) (newline_text ts)
    ∙ append_assoc (text_of ts) (newline ∷ []) (semicolon ∷ newline ∷ [])
