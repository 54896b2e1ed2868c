-- A client finds nothing in quotes in which nothing begins.
use Rattle.std.specs.Prelude.{Bool}
use Rattle.std.proofs.Common.{get_or-take, ◌≡◌, ◌≢◌, ℕ, zero, suc, ◌<◌, ◌≤◌, true, false, ◌==◌, ne_eqb, List, [], ◌∷◌, length, length-take-le, take, drop, None, refl, sym, ap, ◌∙◌, subst, arith, true≢false}
use Rattle.std.specs.List.{list_any}
use Rattle.std.specs.Str.{byte}
use Rattle.mysql_named_params.specs.Bytes.{newline, slash}
use Rattle.mysql_named_params.specs.Lanes.{EachPasses}
use Rattle.mysql_portable.specs.NothingInQuotes.{opens_text, begins_nothing_in_quotes, HoldsNothingInQuotes}
use Rattle.mysql_portable.specs.FoundInClient.{escapes_newline, begins_delimiter_line}
use Rattle.mysql_portable.specs.FrontInClient.{first_of, found_or_zero, found_in_front}
use Rattle.mysql_portable.specs.FrontConstruct.{front_construct}
use Rattle.mysql_portable.proofs.RunLemmas.{fails_at}

-- a byte that begins nothing is none of those that may
nothing_in_quotes-not : (b : ℕ) → begins_nothing_in_quotes b ≡ true → (bad : ℕ) → begins_nothing_in_quotes bad ≡ false → (b == bad) ≡ false
nothing_in_quotes-not b p bad q = ne_eqb b bad (other b p bad q)
  where
    other : (b : ℕ) → begins_nothing_in_quotes b ≡ true → (bad : ℕ) → begins_nothing_in_quotes bad ≡ false → b ≢ bad
    other b p bad q e = cc

line-passes : (b : ℕ) (bs : List ℕ) → begins_nothing_in_quotes b ≡ true → escapes_newline (b ∷ bs) ≡ escapes_newline bs
line-passes b bs p = rw (nothing_in_quotes-not b p (byte "\\") refl) refl

word-passes : (b : ℕ) (bs : List ℕ) → begins_nothing_in_quotes b ≡ true → begins_delimiter_line (b ∷ bs) ≡ begins_delimiter_line bs
word-passes b bs p = rw (nothing_in_quotes-not b p newline refl) refl

zero-passes : (b : ℕ) (bs : List ℕ) → begins_nothing_in_quotes b ≡ true → list_any (λ x. x == 0) (b ∷ bs) ≡ list_any (λ x. x == 0) bs
zero-passes b bs p = rw (nothing_in_quotes-not b p 0 refl) refl

nothing_after : (b : ℕ) (bs : List ℕ) → EachPasses begins_nothing_in_quotes (b ∷ bs) 0 (length (b ∷ bs)) → EachPasses begins_nothing_in_quotes bs 0 (length bs)
nothing_after b bs nothing k from to = nothing (suc k) (omega arith) (omega arith)

-- nothing is found in such a text
nothing_in_text : (s l : Bool) (b c : ℕ) (bs rest : List ℕ) → opens_text b ≡ true →
    EachPasses begins_nothing_in_quotes (b ∷ c ∷ bs) 0 (length (b ∷ c ∷ bs)) → found_or_zero s l (b ∷ c ∷ bs) rest ≡ None
nothing_in_text s l b c bs rest quote nothing =
    let no_slash : (b == slash) ≡ false = ne_eqb b slash (λ e. true≢false (sym quote ∙ ap opens_text e)) in
    let tail = nothing_after b (c ∷ bs) nothing in
    let zero : list_any (λ x. x == 0) (b ∷ c ∷ bs) ≡ false = fails_at begins_nothing_in_quotes (list_any (λ x. x == 0)) zero-passes refl (b ∷ c ∷ bs) nothing in
    let line : escapes_newline (c ∷ bs) ≡ false = fails_at begins_nothing_in_quotes escapes_newline line-passes refl (c ∷ bs) tail in
    let word : begins_delimiter_line (c ∷ bs) ≡ false = fails_at begins_nothing_in_quotes begins_delimiter_line word-passes refl (c ∷ bs) tail in
    rw (zero, no_slash, quote, line, word) refl

nothing_in_quotes_front : (text : List ℕ) (len : ℕ) → len ≤ length text → EachPasses begins_nothing_in_quotes text 0 len → EachPasses begins_nothing_in_quotes (take len text) 0 (length (take len text))
nothing_in_quotes_front text len le nothing k from to =
    let high : k < len = omega (arith, length-take-le len text le) in
    subst (λ x. begins_nothing_in_quotes x ≡ true) (sym (get_or-take len text k 0 high)) (nothing k from high)

pub nothing_in_token : (s l : Bool) (text : List ℕ) (len : ℕ) (rest : List ℕ) → len ≤ length text → HoldsNothingInQuotes text len →
    found_or_zero s l (take len text) rest ≡ None
nothing_in_token s l [] len rest le h = absurd (true≢false (sym h.0))
nothing_in_token s l (b ∷ bs) zero rest le h = absurd (omega (arith, h.1))
nothing_in_token s l (b ∷ []) (suc len) rest le h = absurd (omega (arith, h.1))
nothing_in_token s l (b ∷ c ∷ bs) (suc zero) rest le h = absurd (omega (arith, h.1))
nothing_in_token s l (b ∷ c ∷ bs) (suc (suc len)) rest le h =
    nothing_in_text s l b c (take len bs) rest h.0 (nothing_in_quotes_front (b ∷ c ∷ bs) (suc (suc len)) le h.2)

pub nothing_in_quotes_in_front : (s l : Bool) (text : List ℕ) (len : ℕ) → len ≤ length text → front_construct text len ≡ None →
    HoldsNothingInQuotes text len → None ≡ found_in_front s l text len
nothing_in_quotes_in_front s l text len le none nothing =
    sym (ap (λ x. first_of x (found_or_zero s l (take len text) (drop len text))) none ∙ nothing_in_token s l text len (drop len text) le nothing)
