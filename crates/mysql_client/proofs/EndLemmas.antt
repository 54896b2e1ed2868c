-- Where a token ends: at its first end byte, or at its first `*/`.
use Rattle.std.specs.Prelude.{Bool, not}
use Rattle.std.proofs.Common.{◌≡◌, ℕ, true, false, ◌==◌, ◌&&◌, List, [], ◌∷◌, ◌++◌, refl, sym, ap, ◌∙◌, inl, inr, true≢false}
use Rattle.std.specs.List.{list_all}
use Rattle.std.proofs.lemmas.Bool.{cases_Bool, and_parts, not-true, eqb-true, eqb-false}
use Rattle.mysql_named_params.specs.Bytes.{asterisk, slash, begins, HoldsOnlyAtEnd, IsUpTo, up_to_word, up_to_end}
use Rattle.mysql_portable.specs.FoundInClient.{letter_of, begins_word}
use Rattle.mysql_client.specs.ClientState.{begins_close, State}
use Rattle.mysql_client.specs.Outgoing.{Outgoing}
use Rattle.mysql_client.specs.Sends.{goes_on}
use Rattle.mysql_client.specs.ClientState.{outside}
use Rattle.mysql_client.proofs.StepLemmas.{base}

-- the state at the end of a token: outside, or the text ends
pub data Ends (s : State) (rest : List ℕ) (fresh : Bool) (o : Outgoing) : Type 0 where
  closed_end : s ≡ base outside fresh o → Ends s rest fresh o
  open_end : rest ≡ [] → goes_on s.reading ≡ true → s.out ≡ o → Ends s rest fresh o

-- ---- an end byte

-- the bytes go up to the first such byte, or to the end of the text
abbrev pub UpToByte : ℕ → List ℕ → List ℕ → Type 0
UpToByte e [] rest = rest ≡ []
UpToByte e (b ∷ bs) rest = ((b == e) ≡ true → bs ≡ []) × ((b == e) ≡ false → UpToByte e bs rest)

not_nil : (e : ℕ) (body : List ℕ) → body ++ e ∷ [] ≡ [] → ⊥
not_nil e [] p = cc
not_nil e (b ∷ bs) p = cc

pub up_to_byte : (e : ℕ) (tail rest : List ℕ) → IsUpTo (e ∷ []) tail rest → UpToByte e tail rest
up_to_byte e [] rest (up_to_word body x once) = absurd (not_nil e body x)
up_to_byte e [] rest (up_to_end lacks nil) = nil
up_to_byte e (b ∷ bs) rest (up_to_word [] x once) =
    (λ t. once [] bs (ap (λ y. y ∷ bs) (sym (eqb-true b e t))), λ f. let same : b ≡ e = cc in absurd (eqb-false b e f same))
up_to_byte e (b ∷ bs) rest (up_to_word (c ∷ cs) x once) =
    let tails : cs ++ e ∷ [] ≡ bs = cc in
    (λ t. once [] bs (ap (λ y. y ∷ bs) (sym (eqb-true b e t))), λ f. up_to_byte e bs rest (up_to_word cs tails (λ front back q. once (b ∷ front) back (ap (λ y. b ∷ y) q))))
up_to_byte e (b ∷ bs) rest (up_to_end lacks nil) =
    (λ t. absurd (lacks [] bs (ap (λ y. y ∷ bs) (sym (eqb-true b e t)))), λ f. up_to_byte e bs rest (up_to_end (λ front back q. lacks (b ∷ front) back (ap (λ y. b ∷ y) q)) nil))

-- a word begins there only if it does without the rest
pub word_up_to : (e : ℕ) (word xs rest : List ℕ) → list_all (λ w. not (letter_of e == w)) word ≡ true →
    UpToByte e xs rest → begins_word word xs ≡ false → begins_word word (xs ++ rest) ≡ false
word_up_to e [] xs rest l u h = absurd (true≢false h)
word_up_to e (w ∷ ws) [] rest l u h = rw u refl
word_up_to e (w ∷ ws) (x ∷ xs) rest l u h =
    let p = and_parts (not (letter_of e == w)) (list_all (λ v. not (letter_of e == v)) ws) l in
    elim (cases_Bool (letter_of x == w)) [
      | inl t ↦
          elim (cases_Bool (x == e)) [
            | inl s ↦
                let f : (letter_of x == w) ≡ false = ap (λ y. letter_of y == w) (eqb-true x e s) ∙ not-true _ p.0 in
                rw f refl
            | inr n ↦
                let h' : begins_word ws xs ≡ false = sym (ap (λ c. c && begins_word ws xs) t) ∙ h in
                rw (t, word_up_to e ws xs rest p.1 (u.1 n) h') refl
          ]
      | inr f ↦ rw f refl
    ]

pub begins_up_to : (test : ℕ → Bool) (e : ℕ) (xs rest : List ℕ) → UpToByte e xs rest →
    begins test (xs ++ rest) ≡ begins test xs
begins_up_to test e [] rest u = rw u refl
begins_up_to test e (x ∷ xs) rest u = refl

-- ---- the end of a block comment

-- the bytes go up to the first `*/`, or to the end of the text
abbrev pub UpToClose : List ℕ → List ℕ → Type 0
UpToClose [] rest = rest ≡ []
UpToClose (b ∷ bs) rest =
    (begins_close b bs ≡ true → bs ≡ slash ∷ []) × (begins_close b bs ≡ false → UpToClose bs rest)

not_nil_close : (body : List ℕ) → body ++ asterisk ∷ slash ∷ [] ≡ [] → ⊥
not_nil_close [] p = cc
not_nil_close (b ∷ bs) p = cc

closed_bytes : (b : ℕ) (bs : List ℕ) → begins_close b bs ≡ true →
    (back : List ℕ) × (asterisk ∷ slash ∷ back ≡ b ∷ bs)
closed_bytes b [] t = absurd (true≢false (sym (and_parts (b == asterisk) false t).1))
closed_bytes b (c ∷ cs) t =
    let p = and_parts (b == asterisk) (c == slash) t in
    (cs, rw (eqb-true b asterisk p.0, eqb-true c slash p.1) refl)

at_close : (b : ℕ) (bs : List ℕ) → HoldsOnlyAtEnd (asterisk ∷ slash ∷ []) (b ∷ bs) → begins_close b bs ≡ true → bs ≡ slash ∷ []
at_close b bs once t =
    let k = closed_bytes b bs t in
    let nil : k.0 ≡ [] = once [] k.0 k.1 in
    let both : asterisk ∷ slash ∷ k.0 ≡ b ∷ bs = k.1 in
    let tails : slash ∷ k.0 ≡ bs = cc in
    sym tails ∙ ap (λ y. slash ∷ y) nil

pub up_to_close : (tail rest : List ℕ) → IsUpTo (asterisk ∷ slash ∷ []) tail rest → UpToClose tail rest
up_to_close [] rest (up_to_word body x once) = absurd (not_nil_close body x)
up_to_close [] rest (up_to_end lacks nil) = nil
up_to_close (b ∷ bs) rest (up_to_word [] x once) =
    let same : b ≡ asterisk = cc in
    let tails : bs ≡ slash ∷ [] = cc in
    let yes : begins_close b bs ≡ true = ap (λ y. begins_close y bs) same ∙ ap (begins_close asterisk) tails in
    (λ t. tails, λ f. absurd (true≢false (sym yes ∙ f)))
up_to_close (b ∷ bs) rest (up_to_word (c ∷ cs) x once) =
    let tails : cs ++ asterisk ∷ slash ∷ [] ≡ bs = cc in
    (at_close b bs once, λ f. up_to_close bs rest (up_to_word cs tails (λ front back q. once (b ∷ front) back (ap (λ y. b ∷ y) q))))
up_to_close (b ∷ bs) rest (up_to_end lacks nil) =
    (λ t. let k = closed_bytes b bs t in absurd (lacks [] k.0 k.1), λ f. up_to_close bs rest (up_to_end (λ front back q. lacks (b ∷ front) back (ap (λ y. b ∷ y) q)) nil))

pub begins_up_to_close : (test : ℕ → Bool) (xs rest : List ℕ) → UpToClose xs rest →
    begins test (xs ++ rest) ≡ begins test xs
begins_up_to_close test [] rest u = rw u refl
begins_up_to_close test (x ∷ xs) rest u = refl
