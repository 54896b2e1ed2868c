-- The words that are left.
use Rattle.std.specs.Prelude.{if◌then◌else◌}
use Rattle.std.specs.Str.{bytes_eq}
use Rattle.std.proofs.Common.{◌≡◌, ℕ, suc, ◌<◌, Bool, true, false, List, length, drop, get_or, sym, ap, ◌∙◌, arith}
use Rattle.std.proofs.lemmas.List.{get_or-map, length-map}
use Rattle.std.proofs.Math.Seq.{drop-cons}
use Rattle.std.specs.Borrow.{Bor}
use Rattle.mysql_params_core.specs.Referents.{referents}
use Rattle.mysql_flat_params.specs.Keywords.{word_of}

-- the word at an index is the text, or the words after it decide
at : (words : List (List ℕ)) (i : ℕ) (d text : List ℕ) → i < length words →
    word_of (drop i words) text ≡ (if bytes_eq (get_or words i d) text then get_or words i d else word_of (drop (suc i) words) text)
at words i d text below = ap (λ ws. word_of ws text) (drop-cons words i d below)

module _ (words : List (Bor (List ℕ))) (i : ℕ) (d : Bor (List ℕ)) (text whole : List ℕ) (below : i < length words)
    (so_far : whole ≡ word_of (drop i (referents words)) text) (same : Bool) (same_is : same ≡ bytes_eq (get_or words i d).now text) where
  -- .. which is one of these
  decided : whole ≡ (if same then (get_or words i d).now else word_of (drop (suc i) (referents words)) text)
  decided =
      let there : i < length (referents words) = omega (arith, length-map words (λ x. x.now), below) in
      let word : get_or (referents words) i d.now ≡ (get_or words i d).now = get_or-map (λ x. x.now) words i d d.now below in
      so_far ∙ (at (referents words) i d.now text there
      ∙ (ap (λ w. if bytes_eq w text then w else word_of (drop (suc i) (referents words)) text) word
      ∙ ap (λ b. if b then (get_or words i d).now else word_of (drop (suc i) (referents words)) text) (sym same_is)))

  pub word_found : same ≡ true → (get_or words i d).now ≡ whole
  word_found e = sym (decided ∙ ap (λ b. if b then (get_or words i d).now else word_of (drop (suc i) (referents words)) text) e)

  pub word_passed : same ≡ false → (next : ℕ) → next ≡ suc i → whole ≡ word_of (drop next (referents words)) text
  word_passed e next next_is =
      decided ∙ (ap (λ b. if b then (get_or words i d).now else word_of (drop (suc i) (referents words)) text) e
      ∙ ap (λ n. word_of (drop n (referents words)) text) (sym next_is))
