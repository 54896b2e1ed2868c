-- A run of bytes that begin no construct: none of servers begins in it.
use Rattle.std.specs.Prelude.{Bool}
use Rattle.std.proofs.Common.{◌≡◌, true≢false, ◌&&◌, ◌≢◌, ◌⊎◌, inl, inr, ℕ, zero, suc, ◌+◌, ◌-◌, ◌<◌, ◌≤◌, true, false, ◌||◌, ◌==◌, ne_eqb, List, [], ◌∷◌, length, length-drop, drop, get_or, None, refl, ap, ◌∙◌, subst, arith, below_more}
use Rattle.std.specs.Char.{is_ascii_digit}
use Rattle.std.specs.Str.{byte}
use Rattle.std.proofs.lemmas.Bool.{and_parts, and_right, or_from, or_parts, cases_lt}
use Rattle.std.proofs.lemmas.List.{take_rest, drop_more}
use Rattle.mysql_named_params.specs.Bytes.{backquote, bracket, dash, dollar, double_quote, hash, plus, point, slash, begins}
use Rattle.mysql_named_params.specs.Lanes.{EachPasses}
use Rattle.mysql_named_params.specs.declared.tokens.TokenKind.TheVariants as kind
use Rattle.mysql_named_params.proofs.TokenEndLemmas.{slice_from}
use Rattle.mysql_named_params.proofs.FirstPlaceLemmas.{plain_token}
use Rattle.mysql_portable.specs.Portable.{begins_exponent}
use Rattle.mysql_portable.specs.ServerTokens.{begins_place}
use Rattle.mysql_portable.specs.NoConstruct.{begins_exponent_sign, begins_no_construct, is_of_exponent, StandBeforeNoExponent, StandBeforeNoSign}
use Rattle.mysql_portable.specs.FrontConstruct.{front_construct}
use Rattle.mysql_portable.proofs.UnportableLemmas.{WalkedSoFar, walked_more}

-- a byte that begins no construct is none of those that may
pub no_construct-not : (b : ℕ) → begins_no_construct b ≡ true → (bad : ℕ) → begins_no_construct bad ≡ false → (b == bad) ≡ false
no_construct-not b p bad q = ne_eqb b bad (other b p bad q)
  where
    other : (b : ℕ) → begins_no_construct b ≡ true → (bad : ℕ) → begins_no_construct bad ≡ false → b ≢ bad
    other b p bad q e = cc

-- one byte more
pub no_construct_more : (text : List ℕ) (at : ℕ) → EachPasses begins_no_construct text 0 at → begins_no_construct (get_or text at 0) ≡ true → EachPasses begins_no_construct text 0 (at + 1)
no_construct_more text at no_construct here k low high = below_more _ _ (λ j lt. no_construct j (omega arith) lt) here k high

-- ---- no byte of the run is before an exponent

no_sign : (b : ℕ) → begins_no_construct b ≡ true → (b == plus || b == dash) ≡ false
no_sign b p = or_from _ _ (no_construct-not b p plus refl) (no_construct-not b p dash refl)

-- an exponent begins with a letter
no_letter_first : (b c : ℕ) (bs : List ℕ) → (b == byte "e" || b == byte "E") ≡ false → begins_exponent_sign (b ∷ c ∷ bs) ≡ false
no_letter_first b c bs l = rw l refl

-- and then with a sign
no_sign_second : (b c : ℕ) (bs : List ℕ) → (c == plus || c == dash) ≡ false → begins_exponent_sign (b ∷ c ∷ bs) ≡ false
no_sign_second b c bs s = rw s (and_right (b == byte "e" || b == byte "E") false refl)

short_text : (text : List ℕ) → length text < 2 → begins_exponent_sign text ≡ false
short_text [] lt = refl
short_text (b ∷ []) lt = refl
short_text (b ∷ c ∷ bs) lt = absurd (omega arith)

module _ (text : List ℕ) (end : ℕ) (no_construct : EachPasses begins_no_construct text 0 end) where
  -- no exponent begins with the two bytes after this one
  abbrev Apart : ℕ → Type 0
  Apart k = begins_exponent_sign (get_or text (k + 1) 0 ∷ get_or text (k + 1 + 1) 0 ∷ drop (k + 1 + 1 + 1) text) ≡ false

  -- if they are there at all
  apart : (k : ℕ) → (k + 2 < length text → Apart k) → begins_exponent_sign (drop (k + 1) text) ≡ false
  apart k two =
      elim (cases_lt (k + 2) (length text)) [
        | inl more ↦
            ap begins_exponent_sign (drop_more text (k + 1) 0 (omega arith) ∙ ap (λ x. get_or text (k + 1) 0 ∷ x) (drop_more text (k + 1 + 1) 0 (omega arith)))
            ∙ two more
        | inr less ↦ short_text (drop (k + 1) text) (omega (arith, length-drop (k + 1) text))
      ]

  no_sign_inside : (k : ℕ) → k + 2 < end → Apart k
  no_sign_inside k lt =
      let second = get_or text (k + 1 + 1) 0 in
      no_sign_second (get_or text (k + 1) 0) second (drop (k + 1 + 1 + 1) text) (no_sign second (no_construct (k + 1 + 1) (omega arith) (omega arith)))

  pub apart_within : (n : ℕ) → n ≡ end - 2 → StandBeforeNoSign text n
  apart_within n e k lt = apart k (λ more. no_sign_inside k (omega arith))

  pub apart_at_end : begins is_of_exponent (slice_from end text) ≡ false → StandBeforeNoSign text end
  apart_at_end none k lt = apart k (λ more. go more (cases_lt (k + 2) end) (cases_lt (k + 1) end))
    where
      at_end : (i : ℕ) → end ≡ i → i < length text →
          ((get_or text i 0 == byte "e" || get_or text i 0 == byte "E") ≡ false) × ((get_or text i 0 == plus || get_or text i 0 == dash) ≡ false)
      at_end i same some =
          let here : is_of_exponent (get_or text end 0) ≡ false = subst (λ x. begins is_of_exponent x ≡ false) (take_rest text end ∙ drop_more text end 0 (omega arith)) none in
          or_parts (get_or text i 0 == byte "e" || get_or text i 0 == byte "E") (get_or text i 0 == plus || get_or text i 0 == dash) (subst (λ j. is_of_exponent (get_or text j 0) ≡ false) same here)

      go : k + 2 < length text → (k + 2 < end) ⊎ (end ≤ k + 2) → (k + 1 < end) ⊎ (end ≤ k + 1) → Apart k
      go more (inl within) q = no_sign_inside k within
      go more (inr past) (inl within) =
          no_sign_second (get_or text (k + 1) 0) (get_or text (k + 1 + 1) 0) (drop (k + 1 + 1 + 1) text) (at_end (k + 1 + 1) (omega arith) (omega arith)).1
      go more (inr past) (inr last) =
          no_letter_first (get_or text (k + 1) 0) (get_or text (k + 1 + 1) 0) (drop (k + 1 + 1 + 1) text) (at_end (k + 1) (omega arith) (omega arith)).0

-- no exponent without its sign
pub no_sign_no_exponent : (text : List ℕ) → begins_exponent_sign text ≡ false → begins_exponent text ≡ false
no_sign_no_exponent [] h = refl
no_sign_no_exponent (e ∷ []) h = refl
no_sign_no_exponent (e ∷ sign ∷ bs) h = go (e == byte "e" || e == byte "E") (sign == plus || sign == dash) h
  where
    go : (l s : Bool) → (l && s) ≡ false → (l && (s && begins_place bs)) ≡ false
    go false s h = refl
    go true false h = refl
    go true true h = absurd (true≢false h)

pub apart_of_signs : (text : List ℕ) (end : ℕ) → StandBeforeNoSign text end → StandBeforeNoExponent text end
apart_of_signs text end apart k lt = no_sign_no_exponent (drop (k + 1) text) (apart k lt)

-- ---- the walk goes on over the run

-- a run after its first byte
pub no_construct_after : (b : ℕ) (bs : List ℕ) (n : ℕ) → EachPasses begins_no_construct (b ∷ bs) 0 (suc n) → EachPasses begins_no_construct bs 0 n
no_construct_after b bs n no_construct k from to = no_construct (suc k) (omega arith) (omega arith)

pub apart_after : (b : ℕ) (bs : List ℕ) (n : ℕ) → StandBeforeNoExponent (b ∷ bs) (suc n) → StandBeforeNoExponent bs n
apart_after b bs n apart k lt =
    let same : suc k + 1 ≡ suc (k + 1) = omega arith in
    subst (λ i. begins_exponent (drop i (b ∷ bs)) ≡ false) same (apart (suc k) (omega arith))

pub no_construct_front : (b : ℕ) (bs : List ℕ) → begins_no_construct b ≡ true → begins_exponent bs ≡ false → front_construct (b ∷ bs) 1 ≡ None
no_construct_front b bs p x =
    rw (no_construct-not b p double_quote refl, no_construct-not b p backquote refl, no_construct-not b p hash refl, no_construct-not b p dash refl, no_construct-not b p slash refl, no_construct-not b p bracket refl, no_construct-not b p dollar refl, no_construct-not b p point refl, x)
    (rw (and_right (is_ascii_digit b || false) false refl) refl)

pub walked_no_construct : (mode : Bool) (query rest : List ℕ) (n : ℕ) → WalkedSoFar mode query rest → n ≤ length rest →
    EachPasses begins_no_construct rest 0 n → StandBeforeNoExponent rest n → WalkedSoFar mode query (slice_from n rest)
walked_no_construct mode query rest n w le no_construct apart = rw take_rest (go n rest w le no_construct apart)
  where
    go : (n : ℕ) (rest : List ℕ) → WalkedSoFar mode query rest → n ≤ length rest → EachPasses begins_no_construct rest 0 n →
        StandBeforeNoExponent rest n → WalkedSoFar mode query (drop n rest)
    go zero rest w le no_construct apart = w
    go (suc n) [] w le no_construct apart = absurd (omega arith)
    go (suc n) (b ∷ bs) w le no_construct apart =
        let here : begins_no_construct b ≡ true = no_construct 0 (omega arith) (omega arith) in
        let first = plain_token mode b bs (and_parts _ _ here).0 in
        let step = walked_more mode query (b ∷ bs) kind.Other 1 w first (no_construct_front b bs here (apart 0 (omega arith))) in
        go n bs (subst (WalkedSoFar mode query) (take_rest (b ∷ bs) 1) step) (omega arith) (no_construct_after b bs n no_construct) (apart_after b bs n apart)
