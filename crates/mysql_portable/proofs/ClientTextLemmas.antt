-- Walks over the bytes of a text for a client.
use Rattle.std.specs.Prelude.{Bool}
use Rattle.std.proofs.Common.{◌≡◌, ◌<◌, ◌≤◌, ℕ, ◌+◌, false, not, ◌&&◌, ◌||◌, List, [], ◌∷◌, length, drop, get_or, sym, ap, ◌∙◌, subst}
use Rattle.std.proofs.lemmas.List.{take_rest, drop_more, at_drop_all}
use Rattle.mysql_named_params.proofs.TokenEndLemmas.{slice_from}
use Rattle.mysql_portable.specs.Client.{begins_opener, begins_end, holds_opener}
use Rattle.mysql_portable.specs.FoundInClient.{begins_word}

-- a byte that neither begins an opener nor ends a comment
pub holds_opener-passed : (text : List ℕ) (i : ℕ) → i < length text → begins_opener (slice_from i text) ≡ false →
    begins_end (slice_from i text) ≡ false → holds_opener (drop i text) ≡ holds_opener text →
    holds_opener (drop (i + 1) text) ≡ holds_opener text
holds_opener-passed text i lt p q inv =
    sym (passed (get_or text i 0) (drop (i + 1) text) (at begins_opener p) (at begins_end q)) ∙ (ap holds_opener (sym (drop_more text i 0 lt)) ∙ inv)
  where
    at : (test : List ℕ → Bool) → test (slice_from i text) ≡ false → test (get_or text i 0 ∷ drop (i + 1) text) ≡ false
    at test = subst (λ x. test x ≡ false) (take_rest text i ∙ drop_more text i 0 lt)

    passed : (b : ℕ) (bs : List ℕ) → begins_opener (b ∷ bs) ≡ false → begins_end (b ∷ bs) ≡ false →
        holds_opener (b ∷ bs) ≡ holds_opener bs
    passed b bs p q = ap (λ x. x || (not (begins_end (b ∷ bs)) && holds_opener bs)) p ∙ ap (λ x. false || (not x && holds_opener bs)) q

-- the text ends before the word does
pub begins_word-short : (word text : List ℕ) (i : ℕ) → i < length word → length text ≤ i →
    begins_word (drop i word) (drop i text) ≡ begins_word word text → false ≡ begins_word word text
begins_word-short word text i lt le inv =
    ap (λ x. begins_word x []) (sym (drop_more word i 0 lt)) ∙ (sym (at_drop_all (begins_word (drop i word)) text i le) ∙ inv)
