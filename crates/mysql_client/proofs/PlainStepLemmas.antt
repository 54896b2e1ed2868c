-- A plain byte, as a client reads it.
use Rattle.std.specs.Prelude.{Bool, not, codes}
use Rattle.std.proofs.Common.{◌≡◌, ℕ, true, false, cond, ◌==◌, ◌&&◌, ◌||◌, List, ◌∷◌, refl, sym, ap, ◌∙◌, subst, inl, inr, drop, arith, true≢false}
use Rattle.std.specs.Str.{byte}
use Rattle.std.proofs.lemmas.Bool.{cases_Bool, and_parts, eqb-true, or_right}
use Rattle.std.proofs.lemmas.Bool.Decides.{nat_tests}
use Rattle.std.specs.Prelude.{nat_le}
use Rattle.mysql_named_params.specs.Bytes.{asterisk, backquote, carriage_return, dollar, newline, slash, space, is_string_quote, begins}
use Rattle.mysql_named_params.specs.Tokens.{Plain}
use Rattle.mysql_portable.specs.FoundInClient.{begins_word, begins_no_word, begins_statement, begins_line}
use Rattle.mysql_client.specs.Outgoing.{Outgoing, is_space, is_empty, pass_as_is, send, send_if, end_line}
use Rattle.mysql_client.specs.ClientState.{Program, is_mariadb, no_special, outside, is_own_word, hides_command, begins_slash_star, begins_line_comment, begins_empty_comment, begins_block, begins_close, ends_tag, is_none, special_at, special_after}
use Rattle.mysql_client.specs.Sends.{step, is_return, follows_end, read_outside}
use Rattle.mysql_client.specs.SentStatements.{no_part, plain_out, plain_after}
use Rattle.mysql_client.proofs.StepLemmas.{place, base, Fits, Arrived, going, HasNoZero, line_goes}

-- what a client finds at a plain byte of a text in which nothing is found
pub record IsPassed (p : Program) (fresh : Bool) (b : ℕ) (rest : List ℕ) : Type 0 where
  pub own : ((is_own_word p b rest || hides_command p b rest) && fresh) ≡ false
  pub no_slash : begins_slash_star (b ∷ rest) ≡ false
  pub no_quote : (is_string_quote b || b == backquote) ≡ false
  pub no_line : (n : Bool) → begins_line_comment p (n && fresh) b rest ≡ false
  pub no_follow : follows_end p b rest ≡ false
  pub no_tag : (b == dollar && (ends_tag rest && not (is_mariadb p))) ≡ false
  pub null_there : (b == byte "\\") ≡ true → begins (λ c. c == byte "N") rest ≡ true

-- the fresh flag after such a byte
abbrev pub fresh_after : Bool → ℕ → List ℕ → Bool
fresh_after fresh b rest = cond (b == byte "\\" || begins_empty_comment b rest) false (is_space b && fresh)

pub no_block : (p : Program) (b : ℕ) (rest : List ℕ) → begins_slash_star (b ∷ rest) ≡ false → begins_block p b rest ≡ false
no_block p b rest h = go (b == slash) (begins (λ c. c == asterisk) rest) h
  where
    go : (x y : Bool) → (x && y) ≡ false → (x && (y && is_none (special_at p (drop 1 rest)))) ≡ false
    go true true h = absurd (true≢false h)
    go true false h = refl
    go false y h = refl

pub stays : (p : Program) (b : ℕ) (rest : List ℕ) → begins_slash_star (b ∷ rest) ≡ false → special_after p no_special b rest ≡ no_special
stays p b rest h = rw h (go (begins_close b rest))
  where
    go : (x : Bool) → cond x no_special no_special ≡ no_special
    go true = refl
    go false = refl

-- outside of quotes and comments
pub outside_step : (p : Program) (f : Bool) (b : ℕ) (rest : List ℕ) (o : Outgoing) → IsPassed p f b rest → (b == byte ";") ≡ false →
    read_outside p (base outside f o) b rest ≡ base outside (fresh_after f b rest) (plain_out b rest o)
outside_step p f b rest o h e =
    elim (cases_Bool (b == byte "\\")) [
      | inl k ↦ rw (h.own, k, h.null_there k) refl
      | inr k ↦ elim (cases_Bool (begins_empty_comment b rest)) [
        | inl m ↦ rw (h.own, k, e, h.no_line (is_empty o.gathered), m) refl
        | inr m ↦ rw (h.own, k, e, h.no_line (is_empty o.gathered), m, no_block p b rest h.no_slash, h.no_tag, h.no_quote, stays p b rest h.no_slash) refl
      ]
    ]

-- a byte that isn't white space after a `;`
pub place_step : (p : Program) (mode a f : Bool) (b : ℕ) (rest : List ℕ) (o : Outgoing) → is_return b rest ≡ false →
    (b == newline) ≡ false → follows_end p b rest ≡ false → (is_space b && a) ≡ false →
    step p mode (base (place a) f o) b rest ≡ read_outside p (base outside f (send_if a o)) b rest
place_step p mode false f b rest o r n w s = rw (r, n) refl
place_step p mode true f b rest o r n w s =
    let s' : is_space b ≡ false = go (is_space b) s in
    rw (r, n, s', w) refl
  where
    go : (x : Bool) → (x && true) ≡ false → x ≡ false
    go true e = absurd (true≢false e)
    go false e = refl

pub space_is_no_word : (b : ℕ) → is_space b ≡ true → nat_le b space ≡ true
space_is_no_word b h = grind (arith, nat_tests)

-- white space keeps the flags
statement_kept : (st : Bool) (b : ℕ) → is_space b ≡ true → st ≡ true → begins_statement st (Plain b) ≡ true
statement_kept st b s e = or_right (b == byte ";") _ (rw (space_is_no_word b s, e) refl)

pub line_kept : (st ln : Bool) (b : ℕ) → (st ≡ true → ln ≡ true) → begins_statement st (Plain b) ≡ true → begins_line ln (Plain b) ≡ true
line_kept st ln b k h = go (b == byte ";") (begins_no_word b) st ln k h
  where
    go : (x y st ln : Bool) → (st ≡ true → ln ≡ true) → (x || (y && st)) ≡ true → (x || (b == newline || (b == slash || (y && ln)))) ≡ true
    go true y st ln k h = refl
    go false true true ln k h = or_right (b == newline) _ (or_right (b == slash) _ (k refl))
    go false true false ln k h = absurd (true≢false (sym h))
    go false false st ln k h = absurd (true≢false (sym h))

fresh_kept : (st f : Bool) (b : ℕ) (rest : List ℕ) → (f ≡ true → st ≡ true) → fresh_after f b rest ≡ true → begins_statement st (Plain b) ≡ true
fresh_kept st f b rest k h = go (b == byte "\\" || begins_empty_comment b rest) h
  where
    go : (x : Bool) → cond x false (is_space b && f) ≡ true → begins_statement st (Plain b) ≡ true
    go true e = absurd (true≢false (sym e))
    go false e = let parts = and_parts (is_space b) f e in statement_kept st b parts.0 (k parts.1)

newline_of : (p : Program) (mode st ln a f : Bool) (rest : List ℕ) (o : Outgoing) → Fits st ln f a → HasNoZero rest →
    begins_word (codes "delimiter") rest ≡ false →
    Arrived (step p mode (base (place a) f o) newline rest) rest st true (record { after = false; part = no_part; out = end_line false (send_if a o) })
newline_of p mode st ln a f rest o k z w =
    going f (go a) refl (record { fresh_is = k.fresh_is; line_is = λ x. refl; after_is = λ x. absurd (true≢false (sym x)) })
  where
    go : (a : Bool) → step p mode (base (place a) f o) newline rest ≡ base outside f (end_line false (send_if a o))
    go false = line_goes p rest (base outside f (end_line false o)) z w
    go true = line_goes p rest (base outside f (end_line false (send o))) z w

end_of : (p : Program) (mode st ln a f : Bool) (rest : List ℕ) (o : Outgoing) →
    Arrived (step p mode (base (place a) f o) (byte ";") rest) rest true true (record { after = true; part = no_part; out = send_if a o })
end_of p mode st ln a f rest o =
    going true (go a) refl (record { fresh_is = λ x. refl; line_is = λ x. refl; after_is = λ x. (refl, refl) })
  where
    go : (a : Bool) → step p mode (base (place a) f o) (byte ";") rest ≡ base (place true) true (send_if a o)
    go false = refl
    go true = refl

space_of : (p : Program) (mode st ln a f : Bool) (b : ℕ) (rest : List ℕ) (o : Outgoing) → Fits st ln f a → is_return b rest ≡ false →
    (b == newline) ≡ false → (is_space b && a) ≡ true →
    Arrived (step p mode (base (place a) f o) b rest) rest (begins_statement st (Plain b)) (begins_line ln (Plain b)) (record { after = true; part = no_part; out = pass_as_is b o })
space_of p mode st ln false f b rest o k r n s = absurd (true≢false (sym (and_parts (is_space b) false s).1))
space_of p mode st ln true f b rest o k r n s =
    let space_is = (and_parts (is_space b) true s).0 in
    let flags = k.after_is refl in
    let st' = statement_kept st b space_is (k.fresh_is flags.0) in
    going f (rw (r, n, space_is) refl) refl (record {
      fresh_is = λ x. st';
      line_is = λ x. line_kept st ln b k.line_is st';
      after_is = λ x. (flags.0, line_kept st ln b k.line_is st');
    })

pub plain_of : (p : Program) (mode st ln a f : Bool) (b : ℕ) (rest : List ℕ) (o : Outgoing) → Fits st ln f a →
    IsPassed p f b rest → HasNoZero rest → (begins_line ln (Plain b) ≡ true → begins_word (codes "delimiter") rest ≡ false) →
    Arrived (step p mode (base (place a) f o) b rest) rest (begins_statement st (Plain b)) (begins_line ln (Plain b))
    (plain_after b rest (record { after = a; part = no_part; out = o }))
plain_of p mode st ln a f b rest o k h z w =
    elim (cases_Bool (is_return b rest)) [
      | inl r ↦
          let cr : b ≡ carriage_return = eqb-true b carriage_return (and_parts (b == carriage_return) (begins (λ c. c == newline) rest) r).0 in
          let st_is : begins_statement st (Plain b) ≡ st = ap (λ x. begins_statement st (Plain x)) cr in
          let ln_is : begins_line ln (Plain b) ≡ ln = ap (λ x. begins_line ln (Plain x)) cr in
          rw (r, st_is, ln_is) (going f refl refl k)
      | inr r ↦ elim (cases_Bool (b == newline)) [
        | inl n ↦
            let nl : b ≡ newline = eqb-true b newline n in
            let w' : begins_word (codes "delimiter") rest ≡ false = w (ap (λ x. begins_line ln (Plain x)) nl) in
            subst (λ x. Arrived (step p mode (base (place a) f o) x rest) rest (begins_statement st (Plain x)) (begins_line ln (Plain x)) (plain_after x rest (record { after = a; part = no_part; out = o }))) (sym nl)
            (newline_of p mode st ln a f rest o k z w')
        | inr n ↦ elim (cases_Bool (b == byte ";")) [
          | inl e ↦
              subst (λ x. Arrived (step p mode (base (place a) f o) x rest) rest (begins_statement st (Plain x)) (begins_line ln (Plain x)) (plain_after x rest (record { after = a; part = no_part; out = o }))) (sym (eqb-true b (byte ";") e))
              (end_of p mode st ln a f rest o)
          | inr e ↦ elim (cases_Bool (is_space b && a)) [
            | inl s ↦
                let g_is : plain_after b rest (record { after = a; part = no_part; out = o }) ≡ record { after = true; part = no_part; out = pass_as_is b o } = rw (r, n, e, s) refl in
                subst (Arrived (step p mode (base (place a) f o) b rest) rest (begins_statement st (Plain b)) (begins_line ln (Plain b))) (sym g_is)
                (space_of p mode st ln a f b rest o k r n s)
            | inr s ↦
                let g_is : plain_after b rest (record { after = a; part = no_part; out = o }) ≡ record { after = false; part = no_part; out = plain_out b rest (send_if a o) } = rw (r, n, e, s) refl in
                let s_is = place_step p mode a f b rest o r n h.no_follow s ∙ outside_step p f b rest (send_if a o) h e in
                subst (Arrived (step p mode (base (place a) f o) b rest) rest (begins_statement st (Plain b)) (begins_line ln (Plain b))) (sym g_is)
                (going (fresh_after f b rest) s_is refl (record {
                  fresh_is = fresh_kept st f b rest k.fresh_is;
                  line_is = line_kept st ln b k.line_is;
                  after_is = λ x. absurd (true≢false (sym x));
                }))
          ]
        ]
      ]
    ]
