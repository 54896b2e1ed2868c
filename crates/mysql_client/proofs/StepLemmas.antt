-- The state of a client between two tokens, and the bytes of a token before a rest.
use Rattle.std.specs.Prelude.{Bool, not, codes}
use Rattle.std.proofs.Common.{◌≡◌, ◌⊎◌, ℕ, true, false, cond, ◌==◌, ◌&&◌, List, [], ◌∷◌, ◌++◌, refl, sym, ap, ◌∙◌, inl, inr, true≢false}
use Rattle.std.specs.List.{list_any}
use Rattle.std.proofs.lemmas.Bool.{cases_Bool, or_parts, eqb-true}
use Rattle.mysql_named_params.specs.Bytes.{asterisk, carriage_return, newline, slash, begins}
use Rattle.mysql_portable.specs.Quiet.{stands_apart, is_quiet}
use Rattle.mysql_portable.specs.FoundInClient.{begins_word}
use Rattle.mysql_client.specs.Outgoing.{Outgoing, send}
use Rattle.mysql_client.specs.ClientState.{Program, Special, no_special, Reading, outside, after_end, in_quotes, after_backslash, opens_comment, in_comment, closes_comment, in_line, stopped, at_command, State}
use Rattle.mysql_client.specs.Sends.{step, steps, holds_zero, at_line, goes_on, sent_at_end, is_return}
use Rattle.mysql_client.specs.SentStatements.{Gathering, no_part, in_hint, at_hint_end}

-- ---- states

-- what the client is reading between two tokens
abbrev pub place : Bool → Reading
place after = cond after after_end outside

-- its state there
abbrev pub base : Reading → Bool → Outgoing → State
base r fresh o = record { reading = r; special = no_special; fresh = fresh; drops = false; out = o }

-- the flags of the client agree with those of the tokens
pub record Fits (statement line fresh after : Bool) : Type 0 where
  pub fresh_is : fresh ≡ true → statement ≡ true
  pub line_is : statement ≡ true → line ≡ true
  pub after_is : after ≡ true → (fresh ≡ true) × (line ≡ true)

-- the state in a special comment
abbrev pub in_special_comment : Special → Outgoing → State
in_special_comment special o = record { reading = outside; special = special; fresh = false; drops = false; out = o }

-- the state in a block comment
abbrev pub in_block : Reading → Bool → Bool → Outgoing → State
in_block r f d o = record { reading = r; special = no_special; fresh = f; drops = d; out = o }

-- after the `/` of a hint, or later
pub data InHint (r : Reading) (rest : List ℕ) : Type 0 where
  at_its_star : (text : List ℕ) → r ≡ opens_comment → rest ≡ asterisk ∷ text → begins (λ c. c == slash) text ≡ false → InHint r rest
  behind_it : r ≡ in_comment → InHint r rest

-- the state after a token and before a rest
pub data Arrived (s : State) (rest : List ℕ) (statement line : Bool) (g : Gathering) : Type 0 where
  going : (fresh : Bool) → s ≡ base (place g.after) fresh g.out → g.part ≡ no_part → Fits statement line fresh g.after →
      Arrived s rest statement line g
  special_goes : (special : Special) (o : Outgoing) → s ≡ in_special_comment special o →
      g ≡ record { after = false; part = no_part; out = o } → statement ≡ false → is_quiet rest ≡ true → Arrived s rest statement line g
  hint_goes : (r : Reading) (d : Bool) (o : Outgoing) → s ≡ in_block r false d o →
      g ≡ record { after = false; part = in_hint; out = o } → statement ≡ false → InHint r rest → is_quiet rest ≡ true → Arrived s rest statement line g
  hint_ends : (d : Bool) (o : Outgoing) (text : List ℕ) → s ≡ in_block closes_comment false d o →
      g ≡ record { after = false; part = at_hint_end; out = o } → statement ≡ false → rest ≡ slash ∷ text → stands_apart text ≡ true →
      Arrived s rest statement line g
  over : rest ≡ [] → goes_on s.reading ≡ true → s.out ≡ g.out → Arrived s rest statement line g

pub sent_over : (r : Reading) (o : Outgoing) → goes_on r ≡ true →
    sent_at_end r o ≡ record { statements = (send o).sent; comes_to_command = false }
sent_over outside o e = refl
sent_over after_end o e = refl
sent_over (in_quotes q) o e = refl
sent_over (after_backslash q) o e = refl
sent_over opens_comment o e = refl
sent_over in_comment o e = refl
sent_over closes_comment o e = refl
sent_over (in_line ends) o e = refl
sent_over stopped o e = absurd (true≢false (sym e))
sent_over at_command o e = absurd (true≢false (sym e))

-- ---- the bytes before a rest

abbrev pub before : Program → Bool → List ℕ → State → List ℕ → State
before p mode rest s [] = s
before p mode rest s (b ∷ bs) = before p mode rest (step p mode s b (bs ++ rest)) bs

pub steps_then : (p : Program) (mode : Bool) (rest : List ℕ) (s : State) (bs : List ℕ) →
    steps p mode s (bs ++ rest) ≡ steps p mode (before p mode rest s bs) rest
steps_then p mode rest s [] = refl
steps_then p mode rest s (b ∷ bs) = steps_then p mode rest (step p mode s b (bs ++ rest)) bs

-- ---- bytes that are other bytes

pub and_no : (x : Bool) → (x && false) ≡ false
and_no true = refl
and_no false = refl

-- a byte that passes a test that another doesn't isn't the other
pub differs : (b c : ℕ) (test : ℕ → Bool) → test b ≡ true → test c ≡ false → (b == c) ≡ false
differs b c test p q = go (cases_Bool (b == c))
  where
    go : ((b == c) ≡ true) ⊎ ((b == c) ≡ false) → (b == c) ≡ false
    go (inl e) = absurd (true≢false (sym p ∙ (ap test (eqb-true b c e) ∙ q)))
    go (inr e) = e

pub no_return : (b : ℕ) (rest : List ℕ) → (b == carriage_return) ≡ false → is_return b rest ≡ false
no_return b rest e = rw e refl

-- ---- lines

-- no byte of the text is 0
abbrev pub HasNoZero : List ℕ → Type 0
HasNoZero text = list_any (λ b. b == 0) text ≡ false

pub no_zero_after : (b : ℕ) (bs : List ℕ) → HasNoZero (b ∷ bs) → HasNoZero bs
no_zero_after b bs h = (or_parts (b == 0) (list_any (λ c. c == 0) bs) h).1

pub no_zero_line : (text : List ℕ) → HasNoZero text → holds_zero text ≡ false
no_zero_line [] h = refl
no_zero_line (b ∷ bs) h =
    let p = or_parts (b == 0) (list_any (λ c. c == 0) bs) h in
    rw (p.0, no_zero_line bs p.1) (go (b == newline))
  where
    go : (c : Bool) → (not c && false) ≡ false
    go true = refl
    go false = refl

pub line_goes : (p : Program) (rest : List ℕ) (s : State) → HasNoZero rest → begins_word (codes "delimiter") rest ≡ false →
    at_line p rest s ≡ record s { special = no_special; drops = false }
line_goes p rest s z w = rw (no_zero_line rest z, w) refl
