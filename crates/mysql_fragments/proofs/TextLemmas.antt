-- Texts of fragments that are written as far as an index.
use Rattle.std.proofs.Common.{◌≡◌, ◌+◌, ◌++◌, ◌<◌, ◌==◌, ℕ, Bool, true, false, List, [], ◌∷◌, length, map, take, get_or, if◌then◌else◌, arith, refl, sym, ap, ◌∙◌, append_assoc, append-nil, eq-eqb, ne_eqb, ◌≢◌}
use Rattle.std.specs.Prelude.{codes, Result, Ok, Err, OnErr}
use Rattle.std.specs.Io.{StartsWith}
use Rattle.std.specs.Str.{byte}
use Rattle.std.specs.List.{flat_map}
use Rattle.std.proofs.Transfers.{starts_with_of_append, starts_with_trans}
use Rattle.std.proofs.lemmas.List.{take_more, length-take-le, length-map, map-append}
use Rattle.mysql_named_params.specs.Bytes.{backquote}
use Rattle.mysql_fragments.specs.FragmentText.{doubled, each_after, joined}
use Rattle.std.specs.Borrow.{Bor}
use Rattle.std.proofs.lemmas.List.{get_or-map}
use Rattle.mysql_params_core.specs.Referents.{referents}

pub flat_map_more : {X Y : Type 0} (f : X → List Y) (xs : List X) (x : X) → flat_map f (xs ++ x ∷ []) ≡ flat_map f xs ++ f x
flat_map_more f [] x = append-nil (f x)
flat_map_more f (y ∷ xs) x = ap (λ u. f y ++ u) (flat_map_more f xs x) ∙ sym (append_assoc (f y) (flat_map f xs) (f x))

joined_more : (separator : List ℕ) (ys : List (List ℕ)) (y old text text1 text2 : List ℕ) → text ≡ old ++ joined separator ys →
    (length ys ≡ 0 → text1 ≡ text) → (0 < length ys → text1 ≡ text ++ separator) → text2 ≡ text1 ++ y →
    text2 ≡ old ++ joined separator (ys ++ y ∷ [])
joined_more separator [] y old text text1 text2 e none some e2 =
    e2 ∙ (ap (λ u. u ++ y) (none refl ∙ (e ∙ append-nil old)) ∙ ap (λ u. old ++ u) (sym (append-nil y)))
joined_more separator (z ∷ zs) y old text text1 text2 e none some e2 =
    e2 ∙ (ap (λ u. u ++ y) (some (omega arith) ∙ ap (λ u. u ++ separator) e)
    ∙ (append_assoc (old ++ (z ++ each_after separator zs)) separator y
    ∙ (append_assoc old (z ++ each_after separator zs) (separator ++ y)
    ∙ ap (λ u. old ++ u) (append_assoc z (each_after separator zs) (separator ++ y)
    ∙ ap (λ u. z ++ u) (sym (flat_map_more (λ text. separator ++ text) zs y))))))

-- one text more, after a separator if it isn't the first
pub joined_step : {X : Type 0} (separator : List ℕ) (f : X → List ℕ) (xs : List X) (i : ℕ) (x : X) (old text text1 text2 : List ℕ) →
    i < length xs → x ≡ get_or xs i x → text ≡ old ++ joined separator (map f (take i xs)) →
    (i ≡ 0 → text1 ≡ text) → (0 < i → text1 ≡ text ++ separator) → text2 ≡ text1 ++ f x →
    text2 ≡ old ++ joined separator (map f (take (i + 1) xs))
joined_step separator f xs i x old text text1 text2 below x_is e none some e2 =
    let n : length (map f (take i xs)) ≡ i = length-map (take i xs) f ∙ length-take-le i xs (omega arith) in
    let taken : take (i + 1) xs ≡ take i xs ++ x ∷ [] = take_more xs i x below ∙ ap (λ u. take i xs ++ u ∷ []) (sym x_is) in
    joined_more separator (map f (take i xs)) (f x) old text text1 text2 e (λ z. none (sym n ∙ z)) (λ z. some (omega (arith, z, n))) e2
    ∙ ap (λ u. old ++ joined separator u) (sym (ap (map f) taken ∙ map-append f (take i xs) (x ∷ [])))

-- one element more of a flat_map
pub flat_step : {X Y : Type 0} (f : X → List Y) (xs : List X) (i : ℕ) (x : X) (old text text1 : List Y) →
    i < length xs → x ≡ get_or xs i x → text ≡ old ++ flat_map f (take i xs) → text1 ≡ text ++ f x →
    text1 ≡ old ++ flat_map f (take (i + 1) xs)
flat_step f xs i x old text text1 below x_is e e1 =
    let taken : take (i + 1) xs ≡ take i xs ++ x ∷ [] = take_more xs i x below ∙ ap (λ u. take i xs ++ u ∷ []) (sym x_is) in
    e1 ∙ (ap (λ u. u ++ f x) e ∙ (append_assoc old (flat_map f (take i xs)) (f x)
    ∙ ap (λ u. old ++ u) (sym (ap (flat_map f) taken ∙ flat_map_more f (take i xs) x))))

-- the referent of a reference in a list
pub referent_is : {X : Type 0} (rs : List (Bor X)) (i : ℕ) (r : Bor X) → i < length rs → r ≡ get_or rs i r →
    r.now ≡ get_or (referents rs) i r.now
referent_is rs i r below is = ap (λ x. x.now) is ∙ sym (get_or-map (λ x. x.now) rs i r r.now below)

-- one more element among the referents
pub flat_step_referents : {X Y : Type 0} (f : X → List Y) (rs : List (Bor X)) (i : ℕ) (r : Bor X) (old text text1 : List Y) →
    i < length rs → r ≡ get_or rs i r → text ≡ old ++ flat_map f (take i (referents rs)) → text1 ≡ text ++ f r.now →
    text1 ≡ old ++ flat_map f (take (i + 1) (referents rs))
flat_step_referents f rs i r old text text1 below is e e1 =
    flat_step f (referents rs) i r.now old text text1 (omega (arith, length-map rs (λ x. x.now), below)) (referent_is rs i r below is) e e1

-- a row, in brackets
pub row_written : (before marks text1 text2 text3 : List ℕ) → text1 ≡ before ++ byte "(" ∷ [] → text2 ≡ text1 ++ marks →
    text3 ≡ text2 ++ byte ")" ∷ [] → text3 ≡ before ++ (codes "(" ++ (marks ++ codes ")"))
row_written before marks text1 text2 text3 e1 e2 e3 =
    e3 ∙ (ap (λ u. u ++ byte ")" ∷ []) (e2 ∙ ap (λ u. u ++ marks) e1)
    ∙ (append_assoc (before ++ byte "(" ∷ []) marks (byte ")" ∷ []) ∙ append_assoc before (byte "(" ∷ []) (marks ++ byte ")" ∷ [])))

-- ---- backquotes

doubled_more : (xs : List ℕ) (b : ℕ) → doubled (xs ++ b ∷ []) ≡ doubled xs ++ doubled (b ∷ [])
doubled_more [] b = refl
doubled_more (x ∷ xs) b = go (x == backquote) (doubled_more xs b)
  where
    go : (c : Bool) → doubled (xs ++ b ∷ []) ≡ doubled xs ++ doubled (b ∷ []) →
        (if c then x ∷ x ∷ doubled (xs ++ b ∷ []) else x ∷ doubled (xs ++ b ∷ [])) ≡ (if c then x ∷ x ∷ doubled xs else x ∷ doubled xs) ++ doubled (b ∷ [])
    go true e = ap (λ u. x ∷ x ∷ u) e
    go false e = ap (λ u. x ∷ u) e

pub doubled_step : (name : List ℕ) (i b : ℕ) (old text text1 : List ℕ) → i < length name →
    b ≡ get_or name i 0 → text ≡ old ++ doubled (take i name) → text1 ≡ text ++ doubled (b ∷ []) →
    text1 ≡ old ++ doubled (take (i + 1) name)
doubled_step name i b old text text1 below b_is e e1 =
    let taken : take (i + 1) name ≡ take i name ++ b ∷ [] = take_more name i 0 below ∙ ap (λ u. take i name ++ u ∷ []) (sym b_is) in
    e1 ∙ (ap (λ u. u ++ doubled (b ∷ [])) e ∙ (append_assoc old (doubled (take i name)) (doubled (b ∷ []))
    ∙ ap (λ u. old ++ u) (sym (ap doubled taken ∙ doubled_more (take i name) b))))

pub twice : (b : ℕ) (text text1 text2 : List ℕ) → b ≡ backquote → text1 ≡ text ++ b ∷ [] →
    text2 ≡ text1 ++ b ∷ [] → text2 ≡ text ++ doubled (b ∷ [])
twice b text text1 text2 e e1 e2 = rw (eq-eqb b backquote e) (e2 ∙ (ap (λ u. u ++ b ∷ []) e1 ∙ append_assoc text (b ∷ []) (b ∷ [])))

pub once : (b : ℕ) (text text1 : List ℕ) → b ≢ backquote → text1 ≡ text ++ b ∷ [] →
    text1 ≡ text ++ doubled (b ∷ [])
once b text text1 n e1 = rw (ne_eqb b backquote n) e1

-- a text still begins with its old bytes, also after an error
pub still_begins : {T E : Type 0} (r : Result T E) (old written before next new : List ℕ) → before ≡ old ++ written →
    StartsWith next before → StartsWith new next → OnErr r (StartsWith new old)
still_begins (Ok x) old written before next new is begun more = tt
still_begins (Err e) old written before next new is begun more =
    starts_with_trans new next old more (starts_with_trans next before old begun (starts_with_of_append before old written is))
