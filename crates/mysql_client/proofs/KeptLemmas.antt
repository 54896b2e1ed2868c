-- Bytes that are gathered while the client owes no space.
use Rattle.std.specs.Prelude.{Bool, nat_lt}
use Rattle.std.proofs.Common.{◌≡◌, ℕ, ◌-◌, true, false, cond, ◌==◌, ◌||◌, List, [], ◌∷◌, ◌++◌, refl, sym, ap, ◌∙◌, inl, inr, true≢false, append_assoc, append-nil}
use Rattle.std.specs.Str.{byte}
use Rattle.std.proofs.lemmas.Bool.{cases_Bool, or_parts, eqb-true}
use Rattle.mysql_named_params.specs.Bytes.{carriage_return, newline}
use Rattle.mysql_client.specs.Outgoing.{Outgoing, is_empty, trimmed, with_statement, pass_on, pass_as_is, pass_with_next, settle, send, end_line}
use Rattle.mysql_client.specs.ClientState.{begins_empty_comment}
use Rattle.mysql_client.specs.Sends.{is_return}
use Rattle.mysql_client.specs.SentStatements.{line_byte, line_out, name_out, plain_out}
use Rattle.mysql_client.specs.PlainStatements.{has_return}
use Rattle.mysql_client.proofs.StepLemmas.{no_return}

-- these bytes are gathered, and no space is owed
pub record IsKept (o after : Outgoing) (bytes : List ℕ) : Type 0 where
  pub sent : after.sent ≡ o.sent
  pub gathered : after.gathered ≡ o.gathered ++ bytes
  pub owed : after.owed ≡ false

pub kept_on : (b : ℕ) (rest : List ℕ) (o : Outgoing) → o.owed ≡ false → IsKept o (pass_on b rest o) (b ∷ [])
unfolding pass_on
kept_on b rest o e = go (nat_lt 0 o.left) o.owed e
  where
    go : (x w : Bool) → w ≡ false →
        IsKept o (cond x (record { sent = o.sent; gathered = o.gathered ++ b ∷ []; owed = o.owed; left = o.left - 1 }) (cond w (settle b rest o) (record { sent = o.sent; gathered = o.gathered ++ b ∷ []; owed = o.owed; left = o.left }))) (b ∷ [])
    go true w k = record { sent = refl; gathered = refl; owed = e }
    go false true k = absurd (true≢false k)
    go false false k = record { sent = refl; gathered = refl; owed = e }

pub kept_as_is : (b : ℕ) (o : Outgoing) → o.owed ≡ false → IsKept o (pass_as_is b o) (b ∷ [])
unfolding pass_as_is
kept_as_is b o e = record { sent = refl; gathered = refl; owed = e }

kept_with_next : (b : ℕ) (o : Outgoing) → o.owed ≡ false → IsKept o (pass_with_next b o) (b ∷ [])
unfolding pass_with_next
kept_with_next b o e = record { sent = refl; gathered = refl; owed = e }

pub kept_line : (o : Outgoing) → is_empty o.gathered ≡ false → IsKept o (end_line false o) (newline ∷ [])
unfolding end_line
kept_line o e = record { sent = refl; gathered = rw e refl; owed = refl }

pub nothing_kept : (o : Outgoing) → is_empty o.gathered ≡ true → IsKept o (end_line false o) []
unfolding end_line
nothing_kept o e = record { sent = refl; gathered = rw e (sym (append-nil o.gathered)); owed = refl }

pub sent_is : (o : Outgoing) → (send o).sent ≡ with_statement o.sent (trimmed o.gathered)
unfolding send
sent_is o = refl

pub gathered_is : (o : Outgoing) → (send o).gathered ≡ []
unfolding send
gathered_is o = refl

pub owed_is : (o : Outgoing) → (send o).owed ≡ o.owed
unfolding send
owed_is o = refl

kept_then : (o p q : Outgoing) (xs ys : List ℕ) → IsKept o p xs → IsKept p q ys → IsKept o q (xs ++ ys)
kept_then o p q xs ys h k = record {
  sent = k.sent ∙ h.sent;
  gathered = k.gathered ∙ (ap (λ x. x ++ ys) h.gathered ∙ append_assoc o.gathered xs ys);
  owed = k.owed;
}

pub not_empty : (xs : List ℕ) (b : ℕ) → is_empty (xs ++ b ∷ []) ≡ false
not_empty [] b = refl
not_empty (x ∷ xs) b = refl

still_some : (o p : Outgoing) (b : ℕ) → IsKept o p (b ∷ []) → is_empty p.gathered ≡ false
still_some o p b h = ap is_empty h.gathered ∙ not_empty o.gathered b

-- the bytes of a text in quotes
pub kept_text : (tail rest : List ℕ) (o : Outgoing) → o.owed ≡ false → is_empty o.gathered ≡ false → has_return tail ≡ false →
    IsKept o (line_out false tail rest o) tail
kept_text [] rest o e s h = record { sent = refl; gathered = sym (append-nil o.gathered); owed = e }
kept_text (b ∷ bs) rest o e s h =
    let parts = or_parts (b == carriage_return) (has_return bs) h in
    let r : is_return b (bs ++ rest) ≡ false = no_return b (bs ++ rest) parts.0 in
    let first : IsKept o (line_byte false b (bs ++ rest) o) (b ∷ []) = elim (cases_Bool (b == newline)) [
      | inl n ↦ rw (r, n, eqb-true b newline n) (kept_line o s)
      | inr n ↦ rw (r, n) (kept_as_is b o e)
    ] in
    kept_then o (line_byte false b (bs ++ rest) o) (line_out false bs rest (line_byte false b (bs ++ rest) o)) (b ∷ []) bs first
    (kept_text bs rest (line_byte false b (bs ++ rest) o) first.owed (still_some o (line_byte false b (bs ++ rest) o) b first) parts.1)

pub kept_string : (q : ℕ) (tail rest : List ℕ) (o : Outgoing) → o.owed ≡ false → has_return tail ≡ false →
    IsKept o (line_out false tail rest (pass_on q (tail ++ rest) o)) (q ∷ tail)
kept_string q tail rest o e h =
    let first = kept_on q (tail ++ rest) o e in
    kept_then o (pass_on q (tail ++ rest) o) (line_out false tail rest (pass_on q (tail ++ rest) o)) (q ∷ []) tail first
    (kept_text tail rest (pass_on q (tail ++ rest) o) first.owed (still_some o (pass_on q (tail ++ rest) o) q first) h)

kept_bytes : (name rest : List ℕ) (o : Outgoing) → o.owed ≡ false → IsKept o (name_out name rest o) name
kept_bytes [] rest o e = record { sent = refl; gathered = sym (append-nil o.gathered); owed = e }
kept_bytes (b ∷ bs) rest o e =
    let first = kept_on b (bs ++ rest) o e in
    kept_then o (pass_on b (bs ++ rest) o) (name_out bs rest (pass_on b (bs ++ rest) o)) (b ∷ []) bs first (kept_bytes bs rest (pass_on b (bs ++ rest) o) first.owed)

pub kept_name : (c : ℕ) (name rest : List ℕ) (o : Outgoing) → o.owed ≡ false →
    IsKept o (name_out name rest (pass_on c (name ++ rest) o)) (c ∷ name)
kept_name c name rest o e =
    let first = kept_on c (name ++ rest) o e in
    kept_then o (pass_on c (name ++ rest) o) (name_out name rest (pass_on c (name ++ rest) o)) (c ∷ []) name first (kept_bytes name rest (pass_on c (name ++ rest) o) first.owed)

pub kept_plain : (b : ℕ) (rest : List ℕ) (o : Outgoing) → o.owed ≡ false → IsKept o (plain_out b rest o) (b ∷ [])
kept_plain b rest o e = go (b == byte "\\" || begins_empty_comment b rest)
  where
    go : (x : Bool) → IsKept o (cond x (pass_with_next b o) (pass_on b rest o)) (b ∷ [])
    go true = kept_with_next b o e
    go false = kept_on b rest o e
