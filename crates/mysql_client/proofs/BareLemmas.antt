-- The statements of a text without comments.
use Rattle.std.specs.Prelude.{Bool, map}
use Rattle.std.proofs.Common.{◌≡◌, ℕ, true, false, cond, ◌==◌, ◌&&◌, List, [], ◌∷◌, ◌++◌, None, refl, sym, ap, ◌∙◌, inl, inr, arith, true≢false, append_assoc, append-nil}
use Rattle.std.specs.Str.{byte}
use Rattle.std.proofs.lemmas.Bool.{cases_Bool, and_parts, or_parts, or_left, eqb-true}
use Rattle.std.proofs.lemmas.Bool.Decides.{nat_tests}
use Rattle.std.proofs.lemmas.List.{map-append}
use Rattle.std.specs.Prelude.{nat_le}
use Rattle.std.proofs.lemmas.List.Folds.{list_any-append}
use Rattle.mysql_named_params.specs.Bytes.{backquote, carriage_return, colon, newline, question_mark, space}
use Rattle.mysql_named_params.specs.Tokens.{Token, bytes_of, text_of, IsTokens, QuotedString, QuotedIdentifier, HashComment, DashComment, BlockComment, Name, Mark, Plain}
use Rattle.mysql_portable.specs.Statements.{in_first, statements}
use Rattle.mysql_portable.specs.FirstUnportableInClient.{first_unportable_in_client}
use Rattle.mysql_client.specs.Outgoing.{Outgoing, is_space, is_empty, is_trimmed, in_front, trimmed, with_statement, pass_on, pass_as_is, send, send_if, end_line}
use Rattle.mysql_client.specs.ClientState.{Program}
use Rattle.mysql_client.specs.Sends.{is_return, nothing_sent, begins_mark, sends}
use Rattle.mysql_client.specs.SentStatements.{Gathering, no_part, first_gathering, plain_out, plain_after, byte_after, line_out, name_out, gathered_after, gathered_from, sent_from, sent_statements}
use Rattle.mysql_client.specs.PlainStatements.{past_space, bare, if_any, bare_texts, HoldNoComment, HoldNoHint, has_return}
use Rattle.mysql_client.proofs.StepLemmas.{no_return}
use Rattle.mysql_client.proofs.KeptLemmas.{IsKept, kept_on, kept_as_is, kept_line, nothing_kept, sent_is, gathered_is, owed_is, kept_string, kept_name, kept_plain}
use Rattle.mysql_client.proofs.SentLemmas as lemmas

-- ---- bare texts

space_is_trimmed : (b : ℕ) → is_space b ≡ true → is_trimmed b ≡ true
space_is_trimmed b h = or_left (nat_le b space) _ (less b h)
  where
    less : (b : ℕ) → is_space b ≡ true → nat_le b space ≡ true
    less b h = grind (arith, nat_tests)

-- the ends of a text don't depend on each other
commute : (xs : List ℕ) → past_space (trimmed xs) ≡ trimmed (past_space xs)
commute [] = refl
commute (b ∷ bs) =
    elim (cases_Bool (is_space b)) [
      | inl s ↦ rw s (spaced (trimmed bs) s ∙ commute bs)
      | inr n ↦ rw n (plain (trimmed bs) n)
    ]
  where
    spaced : (ys : List ℕ) → is_space b ≡ true → past_space (in_front b ys) ≡ past_space ys
    spaced [] s = rw (space_is_trimmed b s) refl
    spaced (y ∷ ys) s = rw s refl

    plain : (ys : List ℕ) → is_space b ≡ false → past_space (in_front b ys) ≡ in_front b ys
    plain [] n = go (is_trimmed b)
      where
        go : (x : Bool) → past_space (cond (true && x) [] (b ∷ [])) ≡ cond (true && x) [] (b ∷ [])
        go true = refl
        go false = rw n refl
    plain (y ∷ ys) n = rw n refl

-- a text of which something is left has something else than white space
left_over : (xs : List ℕ) → is_empty (trimmed xs) ≡ false → is_empty (past_space (trimmed xs)) ≡ false
left_over [] h = absurd (true≢false h)
left_over (b ∷ bs) h =
    elim (cases_Bool (is_empty (trimmed bs))) [
      | inl e ↦ alone (trimmed bs) e h
      | inr e ↦ more (trimmed bs) e (left_over bs e)
    ]
  where
    alone : (ys : List ℕ) → is_empty ys ≡ true → is_empty (in_front b ys) ≡ false → is_empty (past_space (in_front b ys)) ≡ false
    alone [] e k =
        elim (cases_Bool (is_trimmed b)) [
          | inl t ↦ let yes : is_empty (in_front b []) ≡ true = rw t refl in absurd (true≢false (sym yes ∙ k))
          | inr t ↦
              elim (cases_Bool (is_space b)) [
                | inl s ↦ absurd (true≢false (sym (space_is_trimmed b s) ∙ t))
                | inr s ↦ rw (t, s) refl
              ]
        ]
    alone (y ∷ ys) e k = absurd (true≢false (sym e))

    more : (ys : List ℕ) → is_empty ys ≡ false → is_empty (past_space ys) ≡ false → is_empty (past_space (in_front b ys)) ≡ false
    more [] e k = absurd (true≢false e)
    more (y ∷ ys) e k = go (is_space b)
      where
        go : (x : Bool) → is_empty (cond x (past_space (y ∷ ys)) (b ∷ y ∷ ys)) ≡ false
        go true = k
        go false = refl

-- a byte of white space at the end changes nothing
bare_end : (xs : List ℕ) (b : ℕ) → is_space b ≡ true → bare (xs ++ b ∷ []) ≡ bare xs
bare_end xs b s = sym (commute (xs ++ b ∷ [])) ∙ (ap past_space (cut xs) ∙ commute xs)
  where
    cut : (xs : List ℕ) → trimmed (xs ++ b ∷ []) ≡ trimmed xs
    cut [] = rw (space_is_trimmed b s) refl
    cut (x ∷ xs) = ap (in_front x) (cut xs)

-- ---- what is sent

-- a statement that is sent
sent_more : (sent : List (List ℕ)) (g : List ℕ) →
    map past_space (with_statement sent (trimmed g)) ≡ map past_space sent ++ if_any (bare g) []
sent_more sent g =
    elim (cases_Bool (is_empty (trimmed g))) [
      | inl e ↦
          let nil : trimmed g ≡ [] = of_empty (trimmed g) e in
          let none : bare g ≡ [] = sym (commute g) ∙ ap past_space nil in
          ap (λ x. map past_space (with_statement sent x)) nil ∙ (sym (append-nil (map past_space sent)) ∙ ap (λ x. map past_space sent ++ if_any x []) (sym none))
      | inr e ↦
          let some : is_empty (bare g) ≡ false = ap is_empty (sym (commute g)) ∙ left_over g e in
          rw (e, some) (map-append past_space sent (trimmed g ∷ []) ∙ ap (λ x. map past_space sent ++ x ∷ []) (commute g))
    ]
  where
    of_empty : (xs : List ℕ) → is_empty xs ≡ true → xs ≡ []
    of_empty [] e = refl
    of_empty (x ∷ xs) e = absurd (true≢false (sym e))

any_then : (x : List ℕ) (ys : List (List ℕ)) → if_any x [] ++ ys ≡ if_any x ys
any_then [] ys = refl
any_then (b ∷ bs) ys = refl

-- ---- what is shown so far

-- the bare texts of the gathered bytes and of statements, whose first goes on with them
abbrev pub goes_on_with : Bool → List ℕ → List (List Token) → List (List ℕ)
goes_on_with false g [] = if_any (bare g) []
goes_on_with false g (first ∷ more) = if_any (bare (g ++ text_of first)) (bare_texts more)
goes_on_with true g lists = if_any (bare g) (bare_texts lists)

-- the bare texts of what is sent, and of what is to be sent
abbrev pub shown : Outgoing → Bool → List (List Token) → List (List ℕ)
shown o a lists = map past_space o.sent ++ goes_on_with a o.gathered lists

-- what is sent first is shown first
sent_then : (sent : List (List ℕ)) (g : List ℕ) (more : List (List ℕ)) →
    map past_space (with_statement sent (trimmed g)) ++ more ≡ map past_space sent ++ if_any (bare g) more
sent_then sent g more =
    ap (λ x. x ++ more) (sent_more sent g)
    ∙ (append_assoc (map past_space sent) (if_any (bare g) []) more ∙ ap (λ x. map past_space sent ++ x) (any_then (bare g) more))

sent_first : (o : Outgoing) (more : List (List ℕ)) →
    map past_space (send o).sent ++ more ≡ map past_space o.sent ++ if_any (bare o.gathered) more
sent_first o more = ap (λ x. map past_space x ++ more) (sent_is o) ∙ sent_then o.sent o.gathered more

-- a token is gathered
added : (a : Bool) (t : Token) (first : List Token) (more : List (List Token)) (o after : Outgoing) →
    IsKept (send_if a o) after (bytes_of t) → shown after false (first ∷ more) ≡ shown o a ((t ∷ first) ∷ more)
added false t first more o after k =
    ap (λ x. map past_space x ++ if_any (bare (after.gathered ++ text_of first)) (bare_texts more)) k.sent
    ∙ (ap (λ x. map past_space o.sent ++ if_any (bare (x ++ text_of first)) (bare_texts more)) k.gathered
    ∙ ap (λ x. map past_space o.sent ++ if_any (bare x) (bare_texts more)) (append_assoc o.gathered (bytes_of t) (text_of first)))
added true t first more o after k =
    ap (λ x. map past_space x ++ if_any (bare (after.gathered ++ text_of first)) (bare_texts more)) k.sent
    ∙ (ap (λ x. map past_space (send o).sent ++ if_any (bare (x ++ text_of first)) (bare_texts more)) (k.gathered ∙ ap (λ y. y ++ bytes_of t) (gathered_is o))
    ∙ sent_first o (if_any (bare (bytes_of t ++ text_of first)) (bare_texts more)))

-- a newline at the front of a statement isn't
skipped : (a : Bool) (first : List Token) (more : List (List Token)) (o after : Outgoing) →
    IsKept (send_if a o) after [] → (send_if a o).gathered ≡ [] →
    shown after false (first ∷ more) ≡ shown o a ((Plain newline ∷ first) ∷ more)
skipped false first more o after k e =
    ap (λ x. map past_space x ++ if_any (bare (after.gathered ++ text_of first)) (bare_texts more)) k.sent
    ∙ (ap (λ x. map past_space o.sent ++ if_any (bare (x ++ text_of first)) (bare_texts more)) (k.gathered ∙ ap (λ y. y ++ []) e)
    ∙ ap (λ x. map past_space o.sent ++ if_any (bare (x ++ newline ∷ text_of first)) (bare_texts more)) (sym e))
skipped true first more o after k e =
    ap (λ x. map past_space x ++ if_any (bare (after.gathered ++ text_of first)) (bare_texts more)) k.sent
    ∙ (ap (λ x. map past_space (send o).sent ++ if_any (bare (x ++ text_of first)) (bare_texts more)) (k.gathered ∙ ap (λ y. y ++ []) e)
    ∙ sent_first o (if_any (bare (text_of first)) (bare_texts more)))

-- a statement ends
cut_here : (a : Bool) (lists : List (List Token)) (o : Outgoing) → shown (send_if a o) true lists ≡ shown o a ([] ∷ lists)
cut_here false lists o = ap (λ x. map past_space o.sent ++ if_any (bare x) (bare_texts lists)) (sym (append-nil o.gathered))
cut_here true lists o =
    ap (λ x. map past_space (send o).sent ++ if_any (bare x) (bare_texts lists)) (gathered_is o) ∙ sent_first o (bare_texts lists)

-- white space after it
spaced_here : (b : ℕ) (first : List Token) (more : List (List Token)) (o after : Outgoing) → is_space b ≡ true →
    IsKept o after (b ∷ []) → shown after true (first ∷ more) ≡ shown o true ((Plain b ∷ first) ∷ more)
spaced_here b first more o after s k =
    let front : bare (b ∷ text_of first) ≡ bare (text_of first) = rw s refl in
    ap (λ x. map past_space x ++ if_any (bare after.gathered) (bare_texts (first ∷ more))) k.sent
    ∙ (ap (λ x. map past_space o.sent ++ if_any (bare x) (bare_texts (first ∷ more))) k.gathered
    ∙ (ap (λ x. map past_space o.sent ++ if_any x (bare_texts (first ∷ more))) (bare_end o.gathered b s)
    ∙ ap (λ x. map past_space o.sent ++ if_any (bare o.gathered) (if_any x (bare_texts more))) (sym front)))

-- the end of the text
ended_here : (a : Bool) (o : Outgoing) → map past_space (send o).sent ≡ shown o a ([] ∷ [])
ended_here false o =
    sym (append-nil (map past_space (send o).sent))
    ∙ (sent_first o [] ∙ ap (λ x. map past_space o.sent ++ if_any (bare x) []) (sym (append-nil o.gathered)))
ended_here true o = sym (append-nil (map past_space (send o).sent)) ∙ sent_first o []

-- ---- the walk

-- there is a first statement
record HasFirst (lists : List (List Token)) : Type 0 where
  first : List Token
  more : List (List Token)
  is : lists ≡ first ∷ more

in_first_of : (t : Token) (lists : List (List Token)) → HasFirst lists → HasFirst (in_first t lists)
in_first_of t lists h = record { first = t ∷ h.first; more = h.more; is = ap (in_first t) h.is }

first_of : (ts : List Token) → HasFirst (statements ts)
first_of [] = record { first = []; more = []; is = refl }
first_of (QuotedString q tail ∷ ts) = in_first_of (QuotedString q tail) (statements ts) (first_of ts)
first_of (QuotedIdentifier tail ∷ ts) = in_first_of (QuotedIdentifier tail) (statements ts) (first_of ts)
first_of (HashComment tail ∷ ts) = in_first_of (HashComment tail) (statements ts) (first_of ts)
first_of (DashComment gap tail ∷ ts) = in_first_of (DashComment gap tail) (statements ts) (first_of ts)
first_of (BlockComment tail ∷ ts) = in_first_of (BlockComment tail) (statements ts) (first_of ts)
first_of (Name name ∷ ts) = in_first_of (Name name) (statements ts) (first_of ts)
first_of (Mark ∷ ts) = in_first_of Mark (statements ts) (first_of ts)
first_of (Plain b ∷ ts) = go (b == byte ";") (first_of ts)
  where
    go : (x : Bool) → HasFirst (statements ts) → HasFirst (cond x ([] ∷ statements ts) (in_first (Plain b) (statements ts)))
    go true h = record { first = []; more = statements ts; is = refl }
    go false h = in_first_of (Plain b) (statements ts) h

-- with a token in the first statement
in_front_of : (a b : Bool) (t : Token) (lists : List (List Token)) (o after : Outgoing) → HasFirst lists →
    ((first : List Token) (more : List (List Token)) → shown after b (first ∷ more) ≡ shown o a ((t ∷ first) ∷ more)) →
    shown after b lists ≡ shown o a (in_first t lists)
in_front_of a b t lists o after h k =
    ap (shown after b) h.is ∙ (k h.first h.more ∙ ap (λ x. shown o a (in_first t x)) (sym h.is))

still_unowed : (a : Bool) (o : Outgoing) → o.owed ≡ false → (send_if a o).owed ≡ false
still_unowed false o e = e
still_unowed true o e = owed_is o ∙ e

returns_split : (xs ys : List ℕ) → has_return (xs ++ ys) ≡ false → (has_return xs ≡ false) × (has_return ys ≡ false)
returns_split xs ys h =
    or_parts (has_return xs) (has_return ys) (sym (list_any-append (λ b. b == carriage_return) xs ys) ∙ h)

-- a plain byte
plain_here : (b : ℕ) (ts : List Token) (g : Gathering) → g.out.owed ≡ false → (b == carriage_return) ≡ false →
    ((plain_after b (text_of ts) g).out.owed ≡ false)
    × (shown (plain_after b (text_of ts) g).out (plain_after b (text_of ts) g).after (statements ts)
    ≡ shown g.out g.after (statements (Plain b ∷ ts)))
plain_here b ts g e c =
    let rest : List ℕ = text_of ts in
    let r : is_return b rest ≡ false = no_return b rest c in
    let e' = still_unowed g.after g.out e in
    let h = first_of ts in
    elim (cases_Bool (b == newline)) [
      | inl n ↦
          let no_end : (b == byte ";") ≡ false = ap (λ x. x == byte ";") (eqb-true b newline n) in
          let g_is : plain_after b rest g ≡ record { after = false; part = no_part; out = end_line false (send_if g.after g.out) } = rw (r, n) refl in
          let s_is : statements (Plain b ∷ ts) ≡ in_first (Plain newline) (statements ts) = rw no_end (ap (λ x. in_first (Plain x) (statements ts)) (eqb-true b newline n)) in
          elim (cases_Bool (is_empty (send_if g.after g.out).gathered)) [
            | inl y ↦
                let k = nothing_kept (send_if g.after g.out) y in
                rw (g_is, s_is) (k.owed, in_front_of g.after false (Plain newline) (statements ts) g.out (end_line false (send_if g.after g.out)) h (λ first more. skipped g.after first more g.out (end_line false (send_if g.after g.out)) k (of_empty _ y)))
            | inr y ↦
                let k = kept_line (send_if g.after g.out) y in
                rw (g_is, s_is) (k.owed, in_front_of g.after false (Plain newline) (statements ts) g.out (end_line false (send_if g.after g.out)) h (λ first more. added g.after (Plain newline) first more g.out (end_line false (send_if g.after g.out)) k))
          ]
      | inr n ↦ elim (cases_Bool (b == byte ";")) [
        | inl m ↦
            let g_is : plain_after b rest g ≡ record { after = true; part = no_part; out = send_if g.after g.out } = rw (r, n, m) refl in
            let s_is : statements (Plain b ∷ ts) ≡ [] ∷ statements ts = rw m refl in
            rw (g_is, s_is) (e', cut_here g.after (statements ts) g.out)
        | inr m ↦
            let s_is : statements (Plain b ∷ ts) ≡ in_first (Plain b) (statements ts) = rw m refl in
            elim (cases_Bool (is_space b && g.after)) [
              | inl s ↦
                  let parts = and_parts (is_space b) g.after s in
                  let g_is : plain_after b rest g ≡ record { after = true; part = no_part; out = pass_as_is b g.out } = rw (r, n, m, s) refl in
                  let k = kept_as_is b g.out e in
                  rw (g_is, s_is, parts.1) (k.owed, in_front_of true true (Plain b) (statements ts) g.out (pass_as_is b g.out) h (λ first more. spaced_here b first more g.out (pass_as_is b g.out) parts.0 k))
              | inr s ↦
                  let g_is : plain_after b rest g ≡ record { after = false; part = no_part; out = plain_out b rest (send_if g.after g.out) } = rw (r, n, m, s) refl in
                  let k = kept_plain b rest (send_if g.after g.out) e' in
                  rw (g_is, s_is) (k.owed, in_front_of g.after false (Plain b) (statements ts) g.out (plain_out b rest (send_if g.after g.out)) h (λ first more. added g.after (Plain b) first more g.out (plain_out b rest (send_if g.after g.out)) k))
            ]
      ]
    ]
  where
    of_empty : (xs : List ℕ) → is_empty xs ≡ true → xs ≡ []
    of_empty [] e = refl
    of_empty (x ∷ xs) e = absurd (true≢false (sym e))

-- a choice of two, in no hint
outside_of_hints : (x : Bool) (g h : Gathering) → g.part ≡ no_part → h.part ≡ no_part → (cond x g h).part ≡ no_part
outside_of_hints true g h k m = k
outside_of_hints false g h k m = m

still_outside : (b : ℕ) (rest : List ℕ) (g : Gathering) → g.part ≡ no_part → (plain_after b rest g).part ≡ no_part
still_outside b rest g k =
    outside_of_hints (is_return b rest) _ _ k
    (outside_of_hints (b == newline) _ _ refl (outside_of_hints (b == byte ";") _ _ refl (outside_of_hints (is_space b && g.after) _ _ refl refl)))

walk_bare : (p : Program) (g : Gathering) (ts : List Token) → g.out.owed ≡ false → g.part ≡ no_part → HoldNoComment ts → HoldNoHint p ts →
    has_return (text_of ts) ≡ false →
    map past_space (send (gathered_from p g ts).out).sent ≡ shown g.out g.after (statements ts)
walk_bare p g [] e n c m r = ended_here g.after g.out
walk_bare p g (HashComment tail ∷ ts) e n c m r = absurd (true≢false c.0)
walk_bare p g (DashComment gap tail ∷ ts) e n c m r = absurd (true≢false c.0)
walk_bare p g (BlockComment tail ∷ ts) e n c m r = absurd (true≢false c.0)
walk_bare p g (QuotedString q tail ∷ ts) e n c m r =
    let parts = returns_split (q ∷ tail) (text_of ts) r in
    let within = (or_parts (q == carriage_return) (has_return tail) parts.0).1 in
    let k = kept_string q tail (text_of ts) (send_if g.after g.out) (still_unowed g.after g.out e) within in
    walk_bare p (gathered_after p (QuotedString q tail) (text_of ts) g) ts k.owed refl c.1 m parts.1
    ∙ in_front_of g.after false (QuotedString q tail) (statements ts) g.out (line_out false tail (text_of ts) (pass_on q (tail ++ text_of ts) (send_if g.after g.out))) (first_of ts)
    (λ first more. added g.after (QuotedString q tail) first more g.out _ k)
walk_bare p g (QuotedIdentifier tail ∷ ts) e n c m r =
    let parts = returns_split (backquote ∷ tail) (text_of ts) r in
    let k = kept_string backquote tail (text_of ts) (send_if g.after g.out) (still_unowed g.after g.out e) parts.0 in
    walk_bare p (gathered_after p (QuotedIdentifier tail) (text_of ts) g) ts k.owed refl c.1 m parts.1
    ∙ in_front_of g.after false (QuotedIdentifier tail) (statements ts) g.out (line_out false tail (text_of ts) (pass_on backquote (tail ++ text_of ts) (send_if g.after g.out))) (first_of ts)
    (λ first more. added g.after (QuotedIdentifier tail) first more g.out _ k)
walk_bare p g (Name name ∷ ts) e n c m r =
    let parts = returns_split (colon ∷ name) (text_of ts) r in
    let k = kept_name colon name (text_of ts) (send_if g.after g.out) (still_unowed g.after g.out e) in
    walk_bare p (gathered_after p (Name name) (text_of ts) g) ts k.owed refl c.1 m parts.1
    ∙ in_front_of g.after false (Name name) (statements ts) g.out (name_out name (text_of ts) (pass_on colon (name ++ text_of ts) (send_if g.after g.out))) (first_of ts)
    (λ first more. added g.after (Name name) first more g.out _ k)
walk_bare p g (Mark ∷ ts) e n c m r =
    let parts = returns_split (question_mark ∷ []) (text_of ts) r in
    let k = kept_on question_mark (text_of ts) (send_if g.after g.out) (still_unowed g.after g.out e) in
    walk_bare p (gathered_after p Mark (text_of ts) g) ts k.owed refl c.1 m parts.1
    ∙ in_front_of g.after false Mark (statements ts) g.out (pass_on question_mark (text_of ts) (send_if g.after g.out)) (first_of ts)
    (λ first more. added g.after Mark first more g.out _ k)
walk_bare p g (Plain b ∷ ts) e n c m r =
    let parts = or_parts (b == carriage_return) (has_return (text_of ts)) r in
    let here = plain_here b ts g e parts.0 in
    let g_is : gathered_after p (Plain b) (text_of ts) g ≡ plain_after b (text_of ts) g =
    ap (λ x. byte_after p x b (text_of ts) g) n ∙ rw m.0 refl in
    ap (λ x. map past_space (send (gathered_from p x ts).out).sent) g_is
    ∙ (walk_bare p (plain_after b (text_of ts) g) ts here.0 (still_outside b (text_of ts) g n) c.1 m.1 parts.1 ∙ here.1)

pub bare_sent : (p : Program) (mode : Bool) (text : List ℕ) (ts : List Token) → IsTokens mode text ts →
    first_unportable_in_client ts ≡ None →
    HoldNoComment ts → HoldNoHint p ts → has_return text ≡ false → begins_mark text ≡ false →
    map past_space (sends p mode text).statements ≡ bare_texts (statements ts)
bare_sent p mode text ts h e c s r u =
    let whole = lemmas.sent p mode text ts h e in
    let no_mark : begins_mark (text_of ts) ≡ false = ap begins_mark h.text ∙ u in
    let all : sent_statements p ts ≡ sent_from p ts = rw no_mark refl in
    ap (λ x. map past_space x.statements) whole
    ∙ (ap (map past_space) all
    ∙ (walk_bare p first_gathering ts refl refl c s (ap has_return h.text ∙ r) ∙ front (first_of ts)))
  where
    front : HasFirst (statements ts) → shown nothing_sent false (statements ts) ≡ bare_texts (statements ts)
    front h = ap (shown nothing_sent false) h.is ∙ ap bare_texts (sym h.is)
