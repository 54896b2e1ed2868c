-- Texts with a separator between them, one after the other, and their length.
use Rattle.std.proofs.Common.{◌≡◌, ◌+◌, ◌++◌, ◌<◌, ◌≤◌, ◌==◌, ◌≢◌, ℕ, zero, suc, Bool, true, false, List, [], ◌∷◌, length, map, take, get_or, if◌then◌else◌, arith, refl, sym, ap, ◌∙◌, append_assoc, append-nil, eq-eqb, ne_eqb, length-append}
use Rattle.std.specs.List.{sum_by}
use Rattle.std.proofs.lemmas.List.{take_more}
use Rattle.std.proofs.lemmas.List.Sums.{sum_by-cons}
use Rattle.mysql_named_params.specs.Bytes.{backquote}
use Rattle.mysql_fragments.specs.FilledText.{separator_before}
use Rattle.mysql_fragments.specs.FragmentText.{doubled, each_after, joined}
use Rattle.mysql_fragments.proofs.TextLemmas.{joined_step, doubled_step}

-- ---- one text more

before_first : (separator : List ℕ) (i : ℕ) → i ≡ 0 → separator_before separator i ≡ []
before_first separator i e = rw (eq-eqb i 0 e) refl

before_next : (separator : List ℕ) (i : ℕ) → 0 < i → separator_before separator i ≡ separator
before_next separator i below = rw (ne_eqb i 0 (λ e. absurd (omega (arith, e, below)))) refl

-- after the texts before it
pub joined_next : {X : Type 0} (separator : List ℕ) (f : X → List ℕ) (xs : List X) (i : ℕ) (x : X) →
    i < length xs → x ≡ get_or xs i x →
    joined separator (map f (take (i + 1) xs)) ≡ joined separator (map f (take i xs)) ++ (separator_before separator i ++ f x)
joined_next separator f xs i x below x_is =
    let so_far : List ℕ = joined separator (map f (take i xs)) in
    sym (joined_step separator f xs i x [] so_far (so_far ++ separator_before separator i) ((so_far ++ separator_before separator i) ++ f x) below x_is refl
    (λ z. ap (λ u. so_far ++ u) (before_first separator i z) ∙ append-nil so_far) (λ z. ap (λ u. so_far ++ u) (before_next separator i z)) refl)
    ∙ append_assoc so_far (separator_before separator i) (f x)

-- ---- lengths

each_after_le : {X : Type 0} (separator : List ℕ) (f : X → List ℕ) (xs : List X) (i : ℕ) →
    length (each_after separator (map f (take i xs))) ≤ length (each_after separator (map f xs))
each_after_le separator f [] zero = omega arith
each_after_le separator f [] (suc i) = omega arith
each_after_le separator f (x ∷ xs) zero = omega arith
each_after_le separator f (x ∷ xs) (suc i) =
    omega (
      arith,
      each_after_le separator f xs i,
      length-append (separator ++ f x) (each_after separator (map f (take i xs))),
      length-append (separator ++ f x) (each_after separator (map f xs)),
    )

joined_le : {X : Type 0} (separator : List ℕ) (f : X → List ℕ) (xs : List X) (i : ℕ) →
    length (joined separator (map f (take i xs))) ≤ length (joined separator (map f xs))
joined_le separator f [] zero = omega arith
joined_le separator f [] (suc i) = omega arith
joined_le separator f (x ∷ xs) zero = omega arith
joined_le separator f (x ∷ xs) (suc i) =
    omega (
      arith,
      each_after_le separator f xs i,
      length-append (f x) (each_after separator (map f (take i xs))),
      length-append (f x) (each_after separator (map f xs)),
    )

pub joined_len : {X : Type 0} (separator : List ℕ) (f : X → List ℕ) (xs : List X) (i : ℕ) (x : X) →
    i < length xs → x ≡ get_or xs i x →
    length (joined separator (map f (take (i + 1) xs))) ≡ length (joined separator (map f (take i xs))) + (length (separator_before separator i) + length (f x))
joined_len separator f xs i x below x_is =
    let so_far : List ℕ = joined separator (map f (take i xs)) in
    ap length (joined_next separator f xs i x below x_is)
    ∙ omega (arith, length-append so_far (separator_before separator i ++ f x), length-append (separator_before separator i) (f x))

-- the text that is written so far and the next text are no longer than all texts
pub joined_fits : {X : Type 0} (separator : List ℕ) (f : X → List ℕ) (xs : List X) (i : ℕ) (x : X) →
    i < length xs → x ≡ get_or xs i x →
    length (joined separator (map f (take i xs))) + (length (separator_before separator i) + length (f x)) ≤ length (joined separator (map f xs))
joined_fits separator f xs i x below x_is = omega (arith, joined_len separator f xs i x below x_is, joined_le separator f xs (i + 1))

-- ---- a text that is written as far as an index

-- one text more, in the text that is written
pub appended_next : {X : Type 0} (separator : List ℕ) (f : X → List ℕ) (xs : List X) (i : ℕ) (x : X) (old text text1 text2 : List ℕ) →
    i < length xs → x ≡ get_or xs i x → text ≡ old ++ joined separator (map f (take i xs)) →
    text1 ≡ text ++ separator_before separator i → text2 ≡ text1 ++ f x →
    text2 ≡ old ++ joined separator (map f (take (i + 1) xs))
appended_next separator f xs i x old text text1 text2 below x_is e e1 e2 =
    joined_step separator f xs i x old text text1 text2 below x_is e
    (λ z. e1 ∙ (ap (λ u. text ++ u) (before_first separator i z) ∙ append-nil text)) (λ z. e1 ∙ ap (λ u. text ++ u) (before_next separator i z)) e2

-- ---- backquotes

doubled_le : (name : List ℕ) (i : ℕ) → length (doubled (take i name)) ≤ length (doubled name)
doubled_le [] zero = omega arith
doubled_le [] (suc i) = omega arith
doubled_le (b ∷ name) zero = omega arith
doubled_le (b ∷ name) (suc i) = go (b == backquote) (doubled_le name i)
  where
    go : (c : Bool) → length (doubled (take i name)) ≤ length (doubled name) →
        length (if c then b ∷ b ∷ doubled (take i name) else b ∷ doubled (take i name)) ≤ length (if c then b ∷ b ∷ doubled name else b ∷ doubled name)
    go true h = omega (arith, h)
    go false h = omega (arith, h)

pub doubled_len : (name : List ℕ) (i b : ℕ) → i < length name → b ≡ get_or name i 0 →
    length (doubled (take (i + 1) name)) ≡ length (doubled (take i name)) + length (doubled (b ∷ []))
doubled_len name i b below b_is =
    ap length (sym (doubled_step name i b [] (doubled (take i name)) (doubled (take i name) ++ doubled (b ∷ [])) below b_is refl refl))
    ∙ length-append (doubled (take i name)) (doubled (b ∷ []))

pub doubled_fits : (name : List ℕ) (i b : ℕ) → i < length name → b ≡ get_or name i 0 →
    length (doubled (take i name)) + length (doubled (b ∷ [])) ≤ length (doubled name)
doubled_fits name i b below b_is = omega (arith, doubled_len name i b below b_is, doubled_le name (i + 1))

pub doubled_two : (b : ℕ) → b ≡ backquote → length (doubled (b ∷ [])) ≡ 2
doubled_two b e = rw (eq-eqb b backquote e) refl

pub doubled_one : (b : ℕ) → b ≢ backquote → length (doubled (b ∷ [])) ≡ 1
doubled_one b n = rw (ne_eqb b backquote n) refl

-- ---- the texts of fragments

texts_le : {X : Type 0} (f : X → List ℕ) (xs : List X) (i : ℕ) →
    sum_by length (map f (take i xs)) ≤ sum_by length (map f xs)
texts_le f [] zero = omega arith
texts_le f [] (suc i) = omega arith
texts_le f (x ∷ xs) zero = omega arith
texts_le f (x ∷ xs) (suc i) =
    omega (arith, texts_le f xs i, sum_by-cons length (f x) (map f (take i xs)), sum_by-cons length (f x) (map f xs))

texts_len_push : {X : Type 0} (f : X → List ℕ) (xs : List X) (x : X) →
    sum_by length (map f (xs ++ x ∷ [])) ≡ sum_by length (map f xs) + length (f x)
texts_len_push f [] x = omega (arith, sum_by-cons length (f x) [])
texts_len_push f (y ∷ xs) x =
    omega (arith, texts_len_push f xs x, sum_by-cons length (f y) (map f (xs ++ x ∷ [])), sum_by-cons length (f y) (map f xs))

pub texts_len : {X : Type 0} (f : X → List ℕ) (xs : List X) (i : ℕ) (x : X) → i < length xs → x ≡ get_or xs i x →
    sum_by length (map f (take (i + 1) xs)) ≡ sum_by length (map f (take i xs)) + length (f x)
texts_len f xs i x below x_is =
    ap (λ ys. sum_by length (map f ys)) (take_more xs i x below ∙ ap (λ u. take i xs ++ u ∷ []) (sym x_is))
    ∙ texts_len_push f (take i xs) x

pub texts_fit : {X : Type 0} (f : X → List ℕ) (xs : List X) (i : ℕ) (x : X) → i < length xs → x ≡ get_or xs i x →
    sum_by length (map f (take i xs)) + length (f x) ≤ sum_by length (map f xs)
texts_fit f xs i x below x_is = omega (arith, texts_len f xs i x below x_is, texts_le f xs (i + 1))
