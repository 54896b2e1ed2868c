-- Tokens in which nothing is found.
use Rattle.std.specs.Prelude.{Bool, not, codes, ⊤}
use Rattle.std.proofs.Common.{◌≡◌, ◌⊎◌, ℕ, ◌+◌, true, false, cond, ◌==◌, ◌&&◌, List, [], ◌∷◌, ◌++◌, length, Option, Some, None, refl, ap, ◌∙◌, inl, inr}
use Rattle.std.specs.List.{list_any}
use Rattle.std.proofs.lemmas.Bool.{or_from}
use Rattle.std.proofs.lemmas.List.Folds.{list_any-append}
use Rattle.mysql_named_params.specs.Bytes.{single_quote, double_quote}
use Rattle.mysql_named_params.specs.Tokens.{Token, bytes_of, text_of, AreTokensBefore, QuotedString, QuotedIdentifier, HashComment, DashComment, BlockComment, Name, Mark, Plain}
use Rattle.mysql_portable.specs.Portable.{is_read_alike, joins_number}
use Rattle.mysql_portable.specs.FoundInClient.{begins_word, begins_statement, begins_line, found_in_token, found_in_client}
use Rattle.mysql_portable.specs.FirstUnportable.{construct_at}
use Rattle.mysql_portable.specs.FirstUnportableInClient.{found_or, found_at, first_in_client_from}
use Rattle.mysql_portable.specs.declared.portable.Construct.{Construct}
use Rattle.mysql_portable.specs.declared.portable.Unportable.{Unportable}
use Rattle.mysql_portable.proofs.FrontLemmas.{quote_is}
use Rattle.mysql_client.proofs.StepLemmas.{HasNoZero}
use Rattle.mysql_client.proofs.PlainFactLemmas.{found_not, word_not, delimiter_not}

nothing_at : (found : Option Construct) (at : ℕ) (later : Option Unportable) → found_or found at later ≡ None →
    (later ≡ None) × (found ≡ None)
nothing_at None at later e = (e, refl)
nothing_at (Some c) at later e = cc

nothing_in : (st ln : Bool) (t : Token) (rest : List ℕ) → found_at st ln t rest ≡ None →
    (is_read_alike t rest ≡ true) × (found_in_client st ln t rest ≡ None)
nothing_in st ln t rest e = go (is_read_alike t rest) (joins_number t rest) e
  where
    go : (x y : Bool) → cond (x && not y) (found_in_client st ln t rest) (Some (construct_at t rest)) ≡ None → (x ≡ true) × (found_in_client st ln t rest ≡ None)
    go true false e = (refl, e)
    go true true e = cc
    go false y e = cc

pub zero_not : (st ln : Bool) (t : Token) (rest : List ℕ) → found_in_client st ln t rest ≡ None →
    (list_any (λ b. b == 0) (bytes_of t) ≡ false) × (found_in_token st ln t rest ≡ None)
zero_not st ln t rest h = found_not (list_any (λ b. b == 0) (bytes_of t)) _ _ h

-- nothing is found in the tokens
abbrev pub IsClear : Bool → Bool → List Token → Type 0
IsClear st ln [] = ⊤
IsClear st ln (t ∷ ts) =
    (is_read_alike t (text_of ts) ≡ true) × (found_in_client st ln t (text_of ts) ≡ None) × IsClear (begins_statement st t) (begins_line ln t) ts

pub clear_of : (ts : List Token) (at : ℕ) (st ln : Bool) → first_in_client_from at st ln ts ≡ None → IsClear st ln ts
clear_of [] at st ln e = tt
clear_of (t ∷ ts) at st ln e =
    let both = nothing_at (found_at st ln t (text_of ts)) at (first_in_client_from (at + length (bytes_of t)) (begins_statement st t) (begins_line ln t) ts) e in
    let here = nothing_in st ln t (text_of ts) both.1 in
    (here.0, here.1, clear_of ts (at + length (bytes_of t)) (begins_statement st t) (begins_line ln t) both.0)

-- no byte is 0
pub no_zero : (st ln : Bool) (ts : List Token) → IsClear st ln ts → HasNoZero (text_of ts)
no_zero st ln [] e = refl
no_zero st ln (t ∷ ts) e =
    list_any-append (λ b. b == 0) (bytes_of t) (text_of ts)
    ∙ or_from (list_any (λ b. b == 0) (bytes_of t)) (list_any (λ b. b == 0) (text_of ts)) (zero_not st ln t (text_of ts) e.1).0 (no_zero (begins_statement st t) (begins_line ln t) ts e.2)

-- no line begins with the word `delimiter`
pub no_word : (mode st : Bool) (ts : List Token) → AreTokensBefore mode [] ts → IsClear st true ts →
    begins_word (codes "delimiter") (text_of ts) ≡ false
no_word mode st [] h e = refl
no_word mode st (QuotedString q tail ∷ ts) h e = go (quote_is q h.0.0)
  where
    go : (q ≡ single_quote) ⊎ (q ≡ double_quote) → begins_word (codes "delimiter") (q ∷ (tail ++ text_of ts)) ≡ false
    go (inl x) = ap (λ y. begins_word (codes "delimiter") (y ∷ (tail ++ text_of ts))) x
    go (inr x) = ap (λ y. begins_word (codes "delimiter") (y ∷ (tail ++ text_of ts))) x
no_word mode st (QuotedIdentifier tail ∷ ts) h e = refl
no_word mode st (HashComment tail ∷ ts) h e = refl
no_word mode st (DashComment gap tail ∷ ts) h e = refl
no_word mode st (BlockComment tail ∷ ts) h e = refl
no_word mode st (Name name ∷ ts) h e = refl
no_word mode st (Mark ∷ ts) h e = refl
no_word mode st (Plain b ∷ ts) h e =
    delimiter_not st b (text_of ts) (word_not st true b (text_of ts) (zero_not st true (Plain b) (text_of ts) e.1).1)
