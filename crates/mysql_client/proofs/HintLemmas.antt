-- A hint and an executable comment, as a client reads them.
use Rattle.std.specs.Prelude.{Bool}
use Rattle.std.proofs.Common.{◌≡◌, ◌⊎◌, ℕ, true, false, ◌==◌, ◌&&◌, ◌||◌, List, [], ◌∷◌, ◌++◌, refl, sym, ap, ◌∙◌, subst, inl, inr, drop, true≢false}
use Rattle.std.proofs.lemmas.Bool.{cases_Bool, and_parts, or_cases, eqb-true}
use Rattle.mysql_named_params.specs.Bytes.{asterisk, carriage_return, exclamation_mark, newline, plus, slash, is_extension, is_string_quote, begins}
use Rattle.mysql_named_params.specs.Tokens.{Token, bytes_of, IsToken, QuotedString, QuotedIdentifier, HashComment, DashComment, BlockComment, Name, Mark, Plain}
use Rattle.mysql_portable.specs.Client.{begins_opener}
use Rattle.mysql_portable.specs.Quiet.{stands_apart, is_quiet}
use Rattle.mysql_client.specs.Outgoing.{Outgoing, pass_on, pass_with_next, send_if}
use Rattle.mysql_client.specs.ClientState.{Program, mysql, mariadb, executed, hint, Reading, opens_comment, in_comment, closes_comment, is_own_word, hides_command, begins_slash_star, begins_close}
use Rattle.mysql_client.specs.Sends.{step}
use Rattle.mysql_client.specs.SentStatements.{no_part, in_hint, comment_byte, byte_after}
use Rattle.mysql_client.proofs.StepLemmas.{place, base, in_special_comment, in_block, InHint, at_its_star, behind_it, Arrived, special_goes, hint_goes, hint_ends, and_no, differs, HasNoZero}
use Rattle.mysql_client.proofs.PlainStepLemmas.{no_block}
use Rattle.mysql_client.proofs.CommentLemmas.{byte_in_block}
use Rattle.mysql_client.proofs.QuietLemmas.{IsQuietByte, quiet_byte, star_quiet, gathering}

-- ---- the sign

abbrev IsHidden : Program → Bool → List ℕ → Type 0
IsHidden p f rest = ((is_own_word p slash rest || hides_command p slash rest) && f) ≡ false

executed_sign : (p : Program) (mode a f : Bool) (text : List ℕ) (o : Outgoing) → IsHidden p f (asterisk ∷ exclamation_mark ∷ text) →
    step p mode (base (place a) f o) slash (asterisk ∷ exclamation_mark ∷ text)
    ≡ in_special_comment executed (pass_on slash (asterisk ∷ exclamation_mark ∷ text) (send_if a o))
executed_sign p mode false f text o h = rw h refl
executed_sign p mode true f text o h = rw h refl

hint_sign : (mode a f : Bool) (text : List ℕ) (o : Outgoing) → IsHidden mysql f (asterisk ∷ plus ∷ text) →
    step mysql mode (base (place a) f o) slash (asterisk ∷ plus ∷ text)
    ≡ in_special_comment hint (pass_on slash (asterisk ∷ plus ∷ text) (send_if a o))
hint_sign mode false f text o h = rw h refl
hint_sign mode true f text o h = rw h refl

hint_opens : (mode a f : Bool) (text : List ℕ) (o : Outgoing) → IsHidden mariadb f (asterisk ∷ plus ∷ text) →
    step mariadb mode (base (place a) f o) slash (asterisk ∷ plus ∷ text)
    ≡ in_block opens_comment false false (pass_with_next slash (send_if a o))
hint_opens mode false f text o h = rw h refl
hint_opens mode true f text o h = rw h refl

gathered_sign : (p : Program) (a : Bool) (text : List ℕ) (o : Outgoing) →
    byte_after p no_part slash (asterisk ∷ exclamation_mark ∷ text) (record { after = a; part = no_part; out = o })
    ≡ gathering (pass_on slash (asterisk ∷ exclamation_mark ∷ text) (send_if a o))
gathered_sign p true text o = refl
gathered_sign p false text o = refl

gathered_hint_sign : (a : Bool) (text : List ℕ) (o : Outgoing) →
    byte_after mysql no_part slash (asterisk ∷ plus ∷ text) (record { after = a; part = no_part; out = o })
    ≡ gathering (pass_on slash (asterisk ∷ plus ∷ text) (send_if a o))
gathered_hint_sign true text o = refl
gathered_hint_sign false text o = refl

-- the `/` of `/*!` or `/*+` in a quiet comment
pub sign_of : (p : Program) (mode a f : Bool) (text : List ℕ) (o : Outgoing) → begins is_extension text ≡ true → is_quiet text ≡ true →
    IsHidden p f (asterisk ∷ text) →
    Arrived (step p mode (base (place a) f o) slash (asterisk ∷ text)) (asterisk ∷ text) false true
    (byte_after p no_part slash (asterisk ∷ text) (record { after = a; part = no_part; out = o }))
sign_of p mode a f [] o e q h = absurd (true≢false (sym e))
sign_of p mode a f (x ∷ xs) o e q h = go (or_cases (x == exclamation_mark) (x == plus) e)
  where
    plus_case : (p : Program) → is_quiet (plus ∷ xs) ≡ true → IsHidden p f (asterisk ∷ plus ∷ xs) →
        Arrived (step p mode (base (place a) f o) slash (asterisk ∷ plus ∷ xs)) (asterisk ∷ plus ∷ xs) false true
        (byte_after p no_part slash (asterisk ∷ plus ∷ xs) (record { after = a; part = no_part; out = o }))
    plus_case mysql q h =
        special_goes hint (pass_on slash (asterisk ∷ plus ∷ xs) (send_if a o)) (hint_sign mode a f xs o h) (gathered_hint_sign a xs o) refl (star_quiet (plus ∷ xs) refl q)
    plus_case mariadb q h =
        hint_goes opens_comment false (pass_with_next slash (send_if a o)) (hint_opens mode a f xs o h) refl refl
        (at_its_star (plus ∷ xs) refl refl refl) (star_quiet (plus ∷ xs) refl q)

    go : ((x == exclamation_mark) ≡ true) ⊎ ((x == plus) ≡ true) →
        Arrived (step p mode (base (place a) f o) slash (asterisk ∷ x ∷ xs)) (asterisk ∷ x ∷ xs) false true
        (byte_after p no_part slash (asterisk ∷ x ∷ xs) (record { after = a; part = no_part; out = o }))
    go (inl t) =
        let is : x ≡ exclamation_mark = eqb-true x exclamation_mark t in
        subst (λ y. Arrived (step p mode (base (place a) f o) slash (asterisk ∷ y ∷ xs)) (asterisk ∷ y ∷ xs) false true
        (byte_after p no_part slash (asterisk ∷ y ∷ xs) (record { after = a; part = no_part; out = o }))) (sym is)
        (special_goes executed (pass_on slash (asterisk ∷ exclamation_mark ∷ xs) (send_if a o)) (executed_sign p mode a f xs o (subst (λ y. IsHidden p f (asterisk ∷ y ∷ xs)) is h))
        (gathered_sign p a xs o) refl (star_quiet (exclamation_mark ∷ xs) refl (subst (λ y. is_quiet (y ∷ xs) ≡ true) is q)))
    go (inr t) =
        let is : x ≡ plus = eqb-true x plus t in
        subst (λ y. Arrived (step p mode (base (place a) f o) slash (asterisk ∷ y ∷ xs)) (asterisk ∷ y ∷ xs) false true
        (byte_after p no_part slash (asterisk ∷ y ∷ xs) (record { after = a; part = no_part; out = o }))) (sym is)
        (plus_case p (subst (λ y. is_quiet (y ∷ xs) ≡ true) is q) (subst (λ y. IsHidden p f (asterisk ∷ y ∷ xs)) is h))

-- ---- a hint that is a block comment

no_opener : (b : ℕ) (rest : List ℕ) → begins_slash_star (b ∷ rest) ≡ false → begins_opener (b ∷ rest) ≡ false
no_opener b [] h = refl
no_opener b (c ∷ []) h = refl
no_opener b (c ∷ d ∷ ds) h = go (b == slash) (c == asterisk) (is_extension d || d == slash) h
  where
    go : (x y z : Bool) → (x && y) ≡ false → (x && (y && z)) ≡ false
    go true true z h = absurd (true≢false h)
    go true false z h = refl
    go false y z h = refl

-- the `*` of its sign
star_of : (p : Program) (mode d : Bool) (text : List ℕ) (o : Outgoing) →
    step p mode (in_block opens_comment false d o) asterisk text ≡ in_block in_comment false d (comment_byte p asterisk text o)
star_of p mode d text o = refl

-- the `*` at its end
close_of : (p : Program) (mode d : Bool) (b : ℕ) (rest : List ℕ) (o : Outgoing) → IsQuietByte b rest → begins_close b rest ≡ true →
    step p mode (in_block in_comment false d o) b rest ≡ in_block closes_comment false d (pass_with_next b o)
close_of p mode d b rest o q c =
    let star : (b == asterisk) ≡ true = (and_parts (b == asterisk) (begins (λ x. x == slash) rest) c).0 in
    let r : (b == carriage_return) ≡ false = differs b carriage_return (λ x. x == asterisk) star refl in
    let n : (b == newline) ≡ false = differs b newline (λ x. x == asterisk) star refl in
    rw (r, n, no_block p b rest q.no_slash, c) refl

pub text_at_close : (b : ℕ) (rest : List ℕ) → begins_close b rest ≡ true → (text : List ℕ) × (rest ≡ slash ∷ text)
text_at_close b [] c = absurd (true≢false (sym (and_parts (b == asterisk) false c).1))
text_at_close b (x ∷ xs) c = (xs, ap (λ y. y ∷ xs) (eqb-true x slash (and_parts (b == asterisk) (x == slash) c).1))

-- a byte of it
pub hint_byte : (p : Program) (mode : Bool) (r : Reading) (d st ln : Bool) (b : ℕ) (rest : List ℕ) (o : Outgoing) → InHint r (b ∷ rest) →
    is_quiet (b ∷ rest) ≡ true → HasNoZero (b ∷ rest) → st ≡ false →
    Arrived (step p mode (in_block r false d o) b rest) rest st ln (byte_after p in_hint b rest (record { after = false; part = in_hint; out = o }))
hint_byte p mode r d st ln b rest o (at_its_star text r_is text_is apart) q z s =
    let b_is : b ≡ asterisk = cc in
    let rest_is : rest ≡ text = cc in
    let none : begins (λ c. c == slash) rest ≡ false = ap (begins (λ c. c == slash)) rest_is ∙ apart in
    let close : begins_close b rest ≡ false = rw none (and_no (b == asterisk)) in
    let state : step p mode (in_block r false d o) b rest ≡ in_block in_comment false d (comment_byte p b rest o) =
    ap (λ y. step p mode (in_block y false d o) b rest) r_is
    ∙ subst (λ y. step p mode (in_block opens_comment false d o) y rest ≡ in_block in_comment false d (comment_byte p y rest o)) (sym b_is) (star_of p mode d rest o) in
    hint_goes in_comment d (comment_byte p b rest o) state (rw close refl) s (behind_it refl) ((quiet_byte b rest q).more close)
hint_byte p mode r d st ln b rest o (behind_it r_is) q z s =
    let byte_is = quiet_byte b rest q in
    elim (cases_Bool (begins_close b rest)) [
      | inl c ↦
          let text = text_at_close b rest c in
          hint_ends d (pass_with_next b o) text.0 (ap (λ y. step p mode (in_block y false d o) b rest) r_is ∙ close_of p mode d b rest o byte_is c) (rw c refl) s text.1
          (ap (λ y. stands_apart (drop 1 y)) (sym text.1) ∙ byte_is.apart c)
      | inr n ↦
          let next = byte_in_block p mode false d b rest o z n (no_block p b rest byte_is.no_slash) (no_opener b rest byte_is.no_slash) in
          hint_goes in_comment next.0 (comment_byte p b rest o) (ap (λ y. step p mode (in_block y false d o) b rest) r_is ∙ next.1) (rw n refl) s (behind_it refl) (byte_is.more n)
    ]

-- ---- the `/` at the end

no_slash : (front text : List ℕ) → front ≡ slash ∷ text → begins (λ c. c == slash) front ≡ false → ⊥
no_slash front text e n = true≢false (sym (ap (begins (λ c. c == slash)) e) ∙ n)

-- such a token is a plain byte
pub slash_token : (mode : Bool) (t : Token) (rest text : List ℕ) → IsToken mode t rest → bytes_of t ++ rest ≡ slash ∷ text →
    stands_apart text ≡ true → (t ≡ Plain slash) × (rest ≡ text)
slash_token mode (QuotedString q tail) rest text h e s =
    let same : q ≡ slash = cc in
    absurd (true≢false (sym h.0 ∙ ap is_string_quote same))
slash_token mode (QuotedIdentifier tail) rest text h e s = absurd (no_slash _ text e refl)
slash_token mode (HashComment tail) rest text h e s = absurd (no_slash _ text e refl)
slash_token mode (DashComment gap tail) rest text h e s = absurd (no_slash _ text e refl)
slash_token mode (BlockComment tail) rest text h e s =
    let same : asterisk ∷ (tail ++ rest) ≡ text = cc in
    absurd (true≢false (sym s ∙ ap stands_apart (sym same)))
slash_token mode (Name name) rest text h e s = absurd (no_slash _ text e refl)
slash_token mode Mark rest text h e s = absurd (no_slash _ text e refl)
slash_token mode (Plain b) rest text h e s = let same : b ≡ slash = cc in (ap Plain same, cc)
