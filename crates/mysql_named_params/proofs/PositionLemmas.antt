-- The positions of names and marks.
use Rattle.std.proofs.Common.{◌≡◌, ℕ, ◌+◌, ◌≤◌, List, [], ◌∷◌, ◌++◌, length, refl, ap, ◌∙◌, subst, arith, append_assoc, append-nil, length-append}
use Rattle.mysql_named_params.specs.Tokens.{Token, bytes_of, text_of, Name, Mark}
use Rattle.mysql_named_params.specs.Places.{names, marks}
use Rattle.mysql_named_params.specs.Positions.{positions_from, HavePlacesAt, AscendFrom}
use Rattle.mysql_named_params.proofs.TokenRowLemmas.{text_of-append}

-- as many positions as names and marks
pub length-positions_from : (at : ℕ) (ts : List Token) →
    length (positions_from at ts) ≡ length (names ts) + marks ts
length-positions_from at [] = omega arith
length-positions_from at (Name name ∷ ts) = omega (arith, length-positions_from (at + length (bytes_of (Name name))) ts)
length-positions_from at (Mark ∷ ts) = omega (arith, length-positions_from (at + length (bytes_of Mark)) ts)
length-positions_from at (t ∷ ts) = length-positions_from (at + length (bytes_of t)) ts

-- a list that ascends from a number ascends from a smaller one
AscendFrom-weaker : (m n : ℕ) (ns : List ℕ) → m ≤ n → AscendFrom n ns → AscendFrom m ns
AscendFrom-weaker m n [] le h = tt
AscendFrom-weaker m n (k ∷ ns) le h =
    let first : n ≤ k = h.0 in
    (omega arith, h.1)

-- the positions ascend from the index at which the tokens begin
pub positions_ascend : (at : ℕ) (ts : List Token) → AscendFrom at (positions_from at ts)
positions_ascend at [] = tt
positions_ascend at (Name name ∷ ts) =
    (omega arith, AscendFrom-weaker (at + 1) (at + length (bytes_of (Name name))) _ (omega arith) (positions_ascend (at + length (bytes_of (Name name))) ts))
positions_ascend at (Mark ∷ ts) = (omega arith, positions_ascend (at + length (bytes_of Mark)) ts)
positions_ascend at (t ∷ ts) =
    AscendFrom-weaker at (at + length (bytes_of t)) _ (omega arith) (positions_ascend (at + length (bytes_of t)) ts)

-- a token more in front of the index
HavePlacesAt-after_front : (front : List Token) (t : Token) (ts : List Token) →
    HavePlacesAt ((front ++ t ∷ []) ++ ts) (positions_from (length (text_of (front ++ t ∷ []))) ts) →
    HavePlacesAt (front ++ t ∷ ts) (positions_from (length (text_of front) + length (bytes_of t)) ts)
HavePlacesAt-after_front front t ts h =
    let more : length (text_of (front ++ t ∷ [])) ≡ length (text_of front) + length (bytes_of t) =
    ap length (text_of-append front (t ∷ [])) ∙ (length-append (text_of front) (text_of (t ∷ [])) ∙ ap (λ xs. length (text_of front) + length xs) (append-nil (bytes_of t))) in
    subst (λ x. HavePlacesAt x (positions_from (length (text_of front) + length (bytes_of t)) ts)) (append_assoc front (t ∷ []) ts)
    (subst (λ n. HavePlacesAt ((front ++ t ∷ []) ++ ts) (positions_from n ts)) more h)

-- a place begins at each position of the tokens after a front
pub positions_have_places : (front ts : List Token) →
    HavePlacesAt (front ++ ts) (positions_from (length (text_of front)) ts)
positions_have_places front [] = tt
positions_have_places front (Name name ∷ ts) =
    ((front, Name name, ts, refl, refl, tt), HavePlacesAt-after_front front (Name name) ts (positions_have_places (front ++ Name name ∷ []) ts))
positions_have_places front (Mark ∷ ts) =
    ((front, Mark, ts, refl, refl, tt), HavePlacesAt-after_front front Mark ts (positions_have_places (front ++ Mark ∷ []) ts))
positions_have_places front (t ∷ ts) = HavePlacesAt-after_front front t ts (positions_have_places (front ++ t ∷ []) ts)
