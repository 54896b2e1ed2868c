-- What a client sends of a text in which nothing is found.
use Rattle.std.specs.Prelude.{Bool, codes, nat_le}
use Rattle.std.proofs.Common.{◌≡◌, ◌⊎◌, ℕ, true, false, ◌==◌, ◌&&◌, List, [], ◌∷◌, ◌++◌, None, drop, refl, sym, ap, ◌∙◌, subst, inl, inr, true≢false}
use Rattle.std.proofs.lemmas.Bool.{cases_Bool, and_parts, eqb-true}
use Rattle.mysql_named_params.specs.Bytes.{backquote, colon, dash, hash, newline, question_mark, slash, single_quote, double_quote, begins}
use Rattle.mysql_named_params.specs.Tokens.{Token, bytes_of, text_of, IsTokens, AreTokensBefore, QuotedString, QuotedIdentifier, HashComment, DashComment, BlockComment, Name, Mark, Plain}
use Rattle.mysql_portable.specs.Quiet.{is_quiet}
use Rattle.mysql_portable.specs.FoundInClient.{begins_word, begins_no_word, begins_statement, begins_line}
use Rattle.mysql_portable.specs.FirstUnportableInClient.{first_unportable_in_client}
use Rattle.mysql_portable.proofs.FrontLemmas.{quote_is}
use Rattle.mysql_client.specs.Outgoing.{Outgoing, send}
use Rattle.mysql_client.specs.ClientState.{Program, mysql, Special, closes_comment, outside, State, past, finds_word, begins_close}
use Rattle.mysql_client.specs.Sends.{Sending, step, steps, begin, sent_at_end, nothing_sent, sends_lines, begins_mark, sends}
use Rattle.mysql_client.specs.SentStatements.{Gathering, no_part, first_gathering, opens_hint, byte_after, gathered_after, gathered_from, sent_from, sent_statements}
use Rattle.mysql_client.proofs.StepLemmas.{place, base, in_special_comment, in_block, InHint, before, steps_then, sent_over, Fits, Arrived, going, special_goes, hint_goes, hint_ends, over, HasNoZero, no_zero_after, and_no, line_goes}
use Rattle.mysql_client.proofs.ClearLemmas.{IsClear, clear_of, no_zero, no_word}
use Rattle.mysql_client.proofs.QuietLemmas.{quiet_byte, quiet_token, quiet_step}
use Rattle.mysql_client.proofs.HintLemmas.{hint_byte, slash_token}
use Rattle.mysql_client.proofs.TokenLemmas.{fits_no_statement, fits_none, token_of}
use Rattle.mysql_client.proofs.LookLemmas.{nothing_ahead}

-- ---- the walk

-- what is sent in the end
abbrev pub finish : State → Sending
finish s = sent_at_end s.reading s.out

abbrev pub all_sent : Outgoing → Sending
all_sent o = record { statements = (send o).sent; comes_to_command = false }

sent_at_place : (a f : Bool) (o : Outgoing) → finish (base (place a) f o) ≡ all_sent o
sent_at_place true f o = refl
sent_at_place false f o = refl

-- a token has a byte
some_bytes : (t : Token) (rest : List ℕ) → bytes_of t ++ rest ≡ [] → ⊥
some_bytes (QuotedString q tail) rest e = cc
some_bytes (QuotedIdentifier tail) rest e = cc
some_bytes (HashComment tail) rest e = cc
some_bytes (DashComment gap tail) rest e = cc
some_bytes (BlockComment tail) rest e = cc
some_bytes (Name name) rest e = cc
some_bytes Mark rest e = cc
some_bytes (Plain b) rest e = cc

-- no line begins with the word `delimiter` after the token
word_after : (mode st ln : Bool) (t : Token) (ts : List Token) → AreTokensBefore mode [] (t ∷ ts) → IsClear st ln (t ∷ ts) →
    begins_line ln t ≡ true → begins_word (codes "delimiter") (text_of ts) ≡ false
word_after mode st ln t ts h c x = no_word mode (begins_statement st t) ts h.1 (subst (λ y. IsClear (begins_statement st t) y ts) x c.2)

-- no statement begins after a byte of a special comment
no_statement : (st : Bool) (b : ℕ) (rest : List ℕ) → st ≡ false → is_quiet (b ∷ rest) ≡ true → begins_statement st (Plain b) ≡ false
no_statement st b rest k q = rw ((quiet_byte b rest q).no_end, k) (and_no (begins_no_word b))

-- a byte of a special comment that is read like other text
special_byte : (p : Program) (mode : Bool) (sp : Special) (st ln : Bool) (b : ℕ) (rest : List ℕ) (o : Outgoing) →
    is_quiet (b ∷ rest) ≡ true → HasNoZero (b ∷ rest) → st ≡ false → (begins_line ln (Plain b) ≡ true → begins_word (codes "delimiter") rest ≡ false) →
    Arrived (step p mode (in_special_comment sp o) b rest) rest (begins_statement st (Plain b)) (begins_line ln (Plain b))
    (byte_after p no_part b rest (record { after = false; part = no_part; out = o }))
special_byte p mode sp st ln b rest o q z k w =
    let byte_is = quiet_byte b rest q in
    let none : opens_hint p b rest ≡ false = rw byte_is.no_slash refl in
    let line : (b == newline) ≡ true → begins_line ln (Plain b) ≡ true = λ n. ap (λ x. begins_line ln (Plain x)) (eqb-true b newline n) in
    let next = quiet_step p mode sp b rest o byte_is (no_zero_after b rest z) (λ n. w (line n)) in
    let later = no_statement st b rest k q in
    rw none (elim (cases_Bool (begins_close b rest)) [
      | inl c ↦
          subst (Arrived (step p mode (in_special_comment sp o) b rest) rest (begins_statement st (Plain b)) (begins_line ln (Plain b))) (sym next.gathered_is)
          (going false (next.step_is ∙ ap (λ x. in_special_comment x next.out) (next.closed c)) refl (fits_no_statement (begins_statement st (Plain b)) (begins_line ln (Plain b)) later))
      | inr n ↦ special_goes next.after next.out next.step_is next.gathered_is later (byte_is.more n)
    ])

-- no tokens are left
none_sent : (s : State) (st ln : Bool) (g : Gathering) → Arrived s [] st ln g → finish s ≡ all_sent g.out
none_sent s st ln g (going f e n k) = ap finish e ∙ sent_at_place g.after f g.out
none_sent s st ln g (special_goes sp o e n k q) = absurd (true≢false (sym q))
none_sent s st ln g (hint_goes r d o e n k i q) = absurd (true≢false (sym q))
none_sent s st ln g (hint_ends d o text e n k x apart) = cc
none_sent s st ln g (over nil goes e) = sent_over s.reading s.out goes ∙ ap all_sent e

-- a token of a text in which nothing is found
token_sent : (p : Program) (mode st ln : Bool) (s : State) (g : Gathering) (t : Token) (ts : List Token) →
    Arrived s (bytes_of t ++ text_of ts) st ln g → AreTokensBefore mode [] (t ∷ ts) → IsClear st ln (t ∷ ts) →
    Arrived (before p mode (text_of ts) s (bytes_of t)) (text_of ts) (begins_statement st t) (begins_line ln t) (gathered_after p t (text_of ts) g)
token_sent p mode st ln s g t ts (going f e n k) h c =
    let front : f ≡ true → ln ≡ true = λ x. k.line_is (k.fresh_is x) in
    let look : f ≡ true → finds_word mysql past (text_of (t ∷ ts)) ≡ false =
    λ x. nothing_ahead mode st (t ∷ ts) h (subst (λ y. IsClear st y (t ∷ ts)) (front x) c) in
    subst (λ x. Arrived (before p mode (text_of ts) x (bytes_of t)) (text_of ts) (begins_statement st t) (begins_line ln t) (gathered_after p t (text_of ts) g)) (sym e)
    (subst (λ x. Arrived (before p mode (text_of ts) (base (place g.after) f g.out) (bytes_of t)) (text_of ts) (begins_statement st t) (begins_line ln t) (gathered_after p t (text_of ts) (record { after = g.after; part = x; out = g.out }))) (sym n)
    (token_of p mode st ln g.after f t (text_of ts) g.out k h.0 c.0 c.1 (no_zero st ln (t ∷ ts) c) (word_after mode st ln t ts h c) look))
token_sent p mode st ln s g t ts (special_goes sp o e n k q) h c =
    let plain = quiet_token mode t (text_of ts) h.0 q in
    let byte_is = subst (λ x. is_quiet (bytes_of x ++ text_of ts) ≡ true) plain.1 q in
    let zero = subst (λ x. HasNoZero (bytes_of x ++ text_of ts)) plain.1 (no_zero st ln (t ∷ ts) c) in
    let word = subst (λ x. begins_line ln x ≡ true → begins_word (codes "delimiter") (text_of ts) ≡ false) plain.1 (word_after mode st ln t ts h c) in
    subst (λ x. Arrived (before p mode (text_of ts) s (bytes_of x)) (text_of ts) (begins_statement st x) (begins_line ln x) (gathered_after p x (text_of ts) g)) (sym plain.1)
    (subst (λ x. Arrived (step p mode x plain.0 (text_of ts)) (text_of ts) (begins_statement st (Plain plain.0)) (begins_line ln (Plain plain.0)) (gathered_after p (Plain plain.0) (text_of ts) g)) (sym e)
    (subst (λ x. Arrived (step p mode (in_special_comment sp o) plain.0 (text_of ts)) (text_of ts) (begins_statement st (Plain plain.0)) (begins_line ln (Plain plain.0)) (gathered_after p (Plain plain.0) (text_of ts) x)) (sym n)
    (special_byte p mode sp st ln plain.0 (text_of ts) o byte_is zero k word)))
token_sent p mode st ln s g t ts (hint_goes r d o e n k i q) h c =
    let plain = quiet_token mode t (text_of ts) h.0 q in
    let byte_is = subst (λ x. is_quiet (bytes_of x ++ text_of ts) ≡ true) plain.1 q in
    let here = subst (λ x. InHint r (bytes_of x ++ text_of ts)) plain.1 i in
    let zero = subst (λ x. HasNoZero (bytes_of x ++ text_of ts)) plain.1 (no_zero st ln (t ∷ ts) c) in
    subst (λ x. Arrived (before p mode (text_of ts) s (bytes_of x)) (text_of ts) (begins_statement st x) (begins_line ln x) (gathered_after p x (text_of ts) g)) (sym plain.1)
    (subst (λ x. Arrived (step p mode x plain.0 (text_of ts)) (text_of ts) (begins_statement st (Plain plain.0)) (begins_line ln (Plain plain.0)) (gathered_after p (Plain plain.0) (text_of ts) g)) (sym e)
    (subst (λ x. Arrived (step p mode (in_block r false d o) plain.0 (text_of ts)) (text_of ts) (begins_statement st (Plain plain.0)) (begins_line ln (Plain plain.0)) (gathered_after p (Plain plain.0) (text_of ts) x)) (sym n)
    (hint_byte p mode r d (begins_statement st (Plain plain.0)) (begins_line ln (Plain plain.0)) plain.0 (text_of ts) o here byte_is zero (no_statement st plain.0 (text_of ts) k byte_is))))
token_sent p mode st ln s g t ts (hint_ends d o text e n k x apart) h c =
    let plain = slash_token mode t (text_of ts) text h.0 x apart in
    subst (λ x. Arrived (before p mode (text_of ts) s (bytes_of x)) (text_of ts) (begins_statement st x) (begins_line ln x) (gathered_after p x (text_of ts) g)) (sym plain.0)
    (subst (λ x. Arrived (step p mode x slash (text_of ts)) (text_of ts) false true (gathered_after p (Plain slash) (text_of ts) g)) (sym e)
    (subst (λ x. Arrived (step p mode (in_block closes_comment false d o) slash (text_of ts)) (text_of ts) false true (gathered_after p (Plain slash) (text_of ts) x)) (sym n)
    (going false refl refl (fits_none true))))
token_sent p mode st ln s g t ts (over nil goes e) h c = absurd (some_bytes t (text_of ts) nil)

walk : (p : Program) (mode st ln : Bool) (s : State) (g : Gathering) (ts : List Token) → Arrived s (text_of ts) st ln g →
    AreTokensBefore mode [] ts → IsClear st ln ts →
    finish (steps p mode s (text_of ts)) ≡ all_sent (gathered_from p g ts).out
walk p mode st ln s g [] a h e = none_sent s st ln g a
walk p mode st ln s g (t ∷ ts) a h e =
    ap finish (steps_then p mode (text_of ts) s (bytes_of t))
    ∙ walk p mode (begins_statement st t) (begins_line ln t) (before p mode (text_of ts) s (bytes_of t)) (gathered_after p t (text_of ts) g) ts
    (token_sent p mode st ln s g t ts a h e) h.1 e.2

-- ---- a text

sent_lines : (p : Program) (mode : Bool) (ts : List Token) → AreTokensBefore mode [] ts → IsClear true true ts →
    sends_lines p mode (text_of ts) ≡ record { statements = sent_from p ts; comes_to_command = false }
sent_lines p mode ts h e =
    let front : begin p (text_of ts) ≡ base outside true nothing_sent =
    line_goes p (text_of ts) (base outside true nothing_sent) (no_zero true true ts e) (no_word mode true ts h e) in
    let fits : Fits true true true false = record { fresh_is = λ x. refl; line_is = λ x. refl; after_is = λ x. absurd (true≢false (sym x)) } in
    ap (λ x. finish (steps p mode x (text_of ts))) front
    ∙ walk p mode true true (base outside true nothing_sent) first_gathering ts (going true refl refl fits) h e

-- ---- a UTF-8 mark

no_byte : (x c : ℕ) → nat_le 128 c ≡ true → nat_le 128 x ≡ false → (x == c) ≡ true → ⊥
no_byte x c k h e = true≢false (sym k ∙ (ap (nat_le 128) (sym (eqb-true x c e)) ∙ h))

-- a byte from 128 on is plain
plain_front : (mode : Bool) (c : ℕ) (ts : List Token) → AreTokensBefore mode [] ts → nat_le 128 c ≡ true →
    begins (λ b. b == c) (text_of ts) ≡ true → (us : List Token) × (ts ≡ Plain c ∷ us)
plain_front mode c [] h k e = absurd (true≢false (sym e))
plain_front mode c (QuotedString q tail ∷ ts) h k e = go (quote_is q h.0.0)
  where
    go : (q ≡ single_quote) ⊎ (q ≡ double_quote) → (us : List Token) × (◌≡◌ {A = List Token} (QuotedString q tail ∷ ts) (Plain c ∷ us))
    go (inl x) = absurd (no_byte q c k (ap (nat_le 128) x) e)
    go (inr x) = absurd (no_byte q c k (ap (nat_le 128) x) e)
plain_front mode c (QuotedIdentifier tail ∷ ts) h k e = absurd (no_byte backquote c k refl e)
plain_front mode c (HashComment tail ∷ ts) h k e = absurd (no_byte hash c k refl e)
plain_front mode c (DashComment gap tail ∷ ts) h k e = absurd (no_byte dash c k refl e)
plain_front mode c (BlockComment tail ∷ ts) h k e = absurd (no_byte slash c k refl e)
plain_front mode c (Name name ∷ ts) h k e = absurd (no_byte colon c k refl e)
plain_front mode c (Mark ∷ ts) h k e = absurd (no_byte question_mark c k refl e)
plain_front mode c (Plain b ∷ ts) h k e = (ts, ap (λ x. Plain x ∷ ts) (eqb-true b c e))

-- what is asked of tokens
pub record IsFine (mode st ln : Bool) (ts : List Token) : Type 0 where
  pub tokens : AreTokensBefore mode [] ts
  pub clear : IsClear st ln ts

fine_after : (mode st ln : Bool) (c : ℕ) (ts : List Token) → IsFine mode st ln (Plain c ∷ ts) →
    IsFine mode (begins_statement st (Plain c)) (begins_line ln (Plain c)) ts
fine_after mode st ln c ts k = record { tokens = k.tokens.1; clear = k.clear.2 }

sent_fine : (p : Program) (mode : Bool) (ts : List Token) → IsFine mode true true ts →
    sends_lines p mode (text_of ts) ≡ record { statements = sent_from p ts; comes_to_command = false }
sent_fine p mode ts k = sent_lines p mode ts k.tokens k.clear

-- the statements of a text with a mark
sent_marked : (p : Program) (mode : Bool) (ts : List Token) → IsFine mode true true ts → begins_mark (text_of ts) ≡ true →
    sends_lines p mode (drop 3 (text_of ts)) ≡ record { statements = sent_from p (drop 3 ts); comes_to_command = false }
sent_marked p mode ts k e =
    let a = and_parts (begins (λ b. b == 239) (text_of ts)) (begins (λ b. b == 187) (drop 1 (text_of ts)) && begins (λ b. b == 191) (drop 2 (text_of ts))) e in
    let first = plain_front mode 239 ts k.tokens refl a.0 in
    let k1 = fine_after mode true true 239 first.0 (subst (IsFine mode true true) first.1 k) in
    let b1 = subst (λ x. (begins (λ b. b == 187) (drop 1 (text_of x)) && begins (λ b. b == 191) (drop 2 (text_of x))) ≡ true) first.1 a.1 in
    let b = and_parts (begins (λ b. b == 187) (text_of first.0)) (begins (λ b. b == 191) (drop 1 (text_of first.0))) b1 in
    let second = plain_front mode 187 first.0 k1.tokens refl b.0 in
    let k2 = fine_after mode true true 187 second.0 (subst (IsFine mode true true) second.1 k1) in
    let c1 = subst (λ x. begins (λ b. b == 191) (drop 1 (text_of x)) ≡ true) second.1 b.1 in
    let third = plain_front mode 191 second.0 k2.tokens refl c1 in
    let k3 = fine_after mode true true 191 third.0 (subst (IsFine mode true true) third.1 k2) in
    let all : ts ≡ Plain 239 ∷ Plain 187 ∷ Plain 191 ∷ third.0 = first.1 ∙ (ap (λ x. Plain 239 ∷ x) second.1 ∙ ap (λ x. Plain 239 ∷ Plain 187 ∷ x) third.1) in
    subst (λ x. sends_lines p mode (drop 3 (text_of x)) ≡ record { statements = sent_from p (drop 3 x); comes_to_command = false }) (sym all)
    (sent_fine p mode third.0 k3)

pub sent : (p : Program) (mode : Bool) (text : List ℕ) (ts : List Token) → IsTokens mode text ts →
    first_unportable_in_client ts ≡ None →
    sends p mode text ≡ record { statements = sent_statements p ts; comes_to_command = false }
sent p mode text ts h e =
    let k : IsFine mode true true ts = record { tokens = h.each; clear = clear_of ts 0 true true e } in
    subst (λ x. sends p mode x ≡ record { statements = sent_statements p ts; comes_to_command = false }) h.text
    (elim (cases_Bool (begins_mark (text_of ts))) [
      | inl y ↦ rw y (sent_marked p mode ts k y)
      | inr n ↦ rw n (sent_fine p mode ts k)
    ])
