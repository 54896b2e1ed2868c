-- Readings of many of a kind, one after another.
use Rattle.std.specs.Prelude.{Option, Ok, Err, ⊤}
use Rattle.std.proofs.Common.{◌≡◌, ℕ, zero, suc, ◌-◌, ◌<◌, List, [], ◌∷◌, ◌++◌, map, sym, ap, ◌∙◌, arith}
use Rattle.std.proofs.lemmas.List.{map-append}
use Rattle.mysql_wire_part.specs.Answer.{IsExpectedRefusal}
use Rattle.mysql_wire_part.proofs.AnswerLemmas.{refusal_expected_too}
use Rattle.mysql_flat_params.specs.FlatForm.{FormReading, FormRefusal}
use Rattle.mysql_flat_params.specs.FlatFragments.{and_then_form, read_count, read_each, read_all}

module _ {X : Type 0} (one : List ℕ → FormReading X) where
  each_with : (n : ℕ) (xs : List X) (bytes : List ℕ) (x : X) (rest : List ℕ) → 0 < n → one bytes ≡ Ok (x, rest) →
      read_each one n xs bytes ≡ read_each one (n - 1) (xs ++ x ∷ []) rest
  each_with zero xs bytes x rest some is = absurd (omega arith)
  each_with (suc n) xs bytes x rest some is =
      let one_less : n ≡ suc n - 1 = omega arith in
      ap (λ r. and_then_form r (λ y left. read_each one n (xs ++ y ∷ []) left)) is ∙ ap (λ k. read_each one k (xs ++ x ∷ []) rest) one_less

  each_refused : (n : ℕ) (xs : List X) (bytes : List ℕ) (why : FormRefusal) → 0 < n → one bytes ≡ Err why →
      read_each one n xs bytes ≡ Err why
  each_refused zero xs bytes why some is = absurd (omega arith)
  each_refused (suc n) xs bytes why some is = ap (λ r. and_then_form r (λ y left. read_each one n (xs ++ y ∷ []) left)) is

  module _ {Y : Type 0} (see : Y → X) where
    -- one more is read
    pub one_more : (whole : FormReading (List X)) (n : ℕ) (ys new : List Y) (y : Y) (bytes rest : List ℕ) → 0 < n →
        whole ≡ read_each one n (map see ys) bytes → one bytes ≡ Ok (see y, rest) → new ≡ ys ++ y ∷ [] →
        whole ≡ read_each one (n - 1) (map see new) rest
    one_more whole n ys new y bytes rest some so_far is pushed =
        so_far ∙ (each_with n (map see ys) bytes (see y) rest some is
        ∙ ap (λ seen. read_each one (n - 1) seen rest) (sym (ap (map see) pushed ∙ map-append see ys (y ∷ []))))

    -- the next is refused
    pub next_refused : (whole : FormReading (List X)) (n : ℕ) (ys : List Y) (bytes : List ℕ) (refusal : Option FormRefusal) → 0 < n →
        whole ≡ read_each one n (map see ys) bytes → IsExpectedRefusal (one bytes) ⊤ refusal → IsExpectedRefusal whole ⊤ refusal
    next_refused whole n ys bytes refusal some so_far answer =
        refusal_expected_too (one bytes) whole ⊤ ⊤ refusal (λ why e. so_far ∙ each_refused n (map see ys) bytes why some e) (λ _. tt) answer

    -- none is left
    pub all_read : (whole : FormReading (List X)) (n : ℕ) (ys : List Y) (bytes : List ℕ) → n ≡ 0 →
        whole ≡ read_each one n (map see ys) bytes → whole ≡ Ok (map see ys, bytes)
    all_read whole zero ys bytes none so_far = so_far
    all_read whole (suc n) ys bytes none so_far = absurd (omega arith)

    -- the count is read
    pub count_read : (place position n : ℕ) (bytes rest : List ℕ) (ys : List Y) → ys ≡ [] → read_count place position bytes ≡ Ok (n, rest) →
        read_all place position one bytes ≡ read_each one n (map see ys) rest
    count_read place position n bytes rest ys none is =
        ap (λ r. and_then_form r (λ count left. read_each one count [] left)) is ∙ ap (λ zs. read_each one n (map see zs) rest) (sym none)

  -- the count is refused
  pub count_refused : (place position : ℕ) (bytes : List ℕ) (refusal : Option FormRefusal) →
      IsExpectedRefusal (read_count place position bytes) ⊥ refusal → IsExpectedRefusal (read_all place position one bytes) ⊤ refusal
  count_refused place position bytes refusal answer =
      refusal_expected_too (read_count place position bytes) (read_all place position one bytes) ⊥ ⊤ refusal
      (λ why e. ap (λ r. and_then_form r (λ count left. read_each one count [] left)) e) (λ _. tt) answer
