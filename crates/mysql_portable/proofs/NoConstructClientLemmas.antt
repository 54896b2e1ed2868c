-- A run of bytes that begin no construct, for a client, where neither a statement nor a line may
-- begin.
use Rattle.std.specs.Prelude.{Bool}
use Rattle.std.proofs.Common.{◌≡◌, ℕ, zero, suc, ◌<◌, ◌≤◌, true, false, ◌||◌, ◌==◌, List, [], ◌∷◌, length, drop, None, refl, sym, ap, ◌∙◌, subst, arith}
use Rattle.std.specs.Str.{byte}
use Rattle.std.proofs.lemmas.Bool.{and_parts, and_right}
use Rattle.std.proofs.lemmas.List.{take_rest}
use Rattle.mysql_named_params.specs.Bytes.{asterisk, dash, hash, newline, slash}
use Rattle.mysql_named_params.specs.Lanes.{EachPasses}
use Rattle.mysql_named_params.specs.declared.tokens.TokenKind.TheVariants as kind
use Rattle.mysql_named_params.proofs.TokenEndLemmas.{slice_from}
use Rattle.mysql_named_params.proofs.FirstPlaceLemmas.{plain_token}
use Rattle.mysql_portable.specs.NoConstruct.{begins_no_construct, StandBeforeNoExponent}
use Rattle.mysql_portable.specs.FoundInClient.{begins_no_word}
use Rattle.mysql_portable.specs.FrontInClient.{statement_after, line_after, first_of, found_or_zero, found_in_front}
use Rattle.mysql_portable.specs.FrontConstruct.{front_construct}
use Rattle.mysql_portable.proofs.ClientWalkLemmas.{WalkedInClient, walked_more}
use Rattle.mysql_portable.proofs.NoConstructLemmas.{no_construct-not, no_construct_front, no_construct_after, apart_after}

pub nothing_at : (b : ℕ) (bs : List ℕ) → begins_no_construct b ≡ true → found_or_zero false false (b ∷ []) bs ≡ None
nothing_at b bs p = rw (no_construct-not b p 0 refl, no_construct-not b p (byte "\\") refl, no_construct-not b p asterisk refl, no_construct-not b p dash refl) refl

nothing_in_front : (b : ℕ) (bs : List ℕ) → begins_no_construct b ≡ true → front_construct (b ∷ bs) 1 ≡ None →
    found_in_front false false (b ∷ bs) 1 ≡ None
nothing_in_front b bs p none = ap (λ x. first_of x (found_or_zero false false (b ∷ []) bs)) none ∙ nothing_at b bs p

pub no_statement : (b : ℕ) → begins_no_construct b ≡ true → statement_after false (b ∷ []) ≡ false
no_statement b p = rw (no_construct-not b p (byte ";") refl) (and_right (begins_no_word b || b == hash) false refl)

pub no_line : (b : ℕ) → begins_no_construct b ≡ true → line_after false (b ∷ []) ≡ false
no_line b p =
    rw (no_construct-not b p (byte ";") refl, no_construct-not b p newline refl, no_construct-not b p slash refl, no_construct-not b p hash refl)
    (and_right (begins_no_word b) false refl)

no_construct_run : (mode : Bool) (query : List ℕ) (n : ℕ) (rest : List ℕ) → WalkedInClient mode query rest false false →
    n ≤ length rest → EachPasses begins_no_construct rest 0 n → StandBeforeNoExponent rest n →
    WalkedInClient mode query (drop n rest) false false
no_construct_run mode query zero rest w le no_construct apart = w
no_construct_run mode query (suc n) [] w le no_construct apart = absurd (omega arith)
no_construct_run mode query (suc n) (b ∷ bs) w le no_construct apart =
    let here : begins_no_construct b ≡ true = no_construct 0 (omega arith) (omega arith) in
    let first = plain_token mode b bs (and_parts _ _ here).0 in
    let none = nothing_in_front b bs here (no_construct_front b bs here (apart 0 (omega arith))) in
    let step = walked_more mode query (b ∷ bs) kind.Other 1 false false false false w first none (no_statement b here) (no_line b here) in
    no_construct_run mode query n bs (subst (λ x. WalkedInClient mode query x false false) (take_rest (b ∷ bs) 1) step) (omega arith) (no_construct_after b bs n no_construct) (apart_after b bs n apart)

-- a run of no bytes, or one where nothing may begin
pub walked_no_construct : (mode : Bool) (query rest : List ℕ) (n : ℕ) (s l : Bool) → WalkedInClient mode query rest s l →
    n ≤ length rest → EachPasses begins_no_construct rest 0 n → StandBeforeNoExponent rest n →
    (0 < n → (s ≡ false) × (l ≡ false)) → WalkedInClient mode query (slice_from n rest) s l
walked_no_construct mode query rest zero s l w le no_construct apart flags = rw take_rest w
walked_no_construct mode query rest (suc n) s l w le no_construct apart flags =
    let f = flags (omega arith) in
    let start : WalkedInClient mode query rest false false = subst (λ x. WalkedInClient mode query rest x false) f.0 (subst (λ x. WalkedInClient mode query rest s x) f.1 w) in
    let end = no_construct_run mode query (suc n) rest start le no_construct apart in
    rw take_rest (subst (λ x. WalkedInClient mode query (drop (suc n) rest) x l) (sym f.0) (subst (λ x. WalkedInClient mode query (drop (suc n) rest) false x) (sym f.1) end))
