-- How many bytes the pieces of a query have, and the literals of values.
use Rattle.std.specs.Prelude.{option_map, unwrap_or}
use Rattle.std.specs.List.{sum_by}
use Rattle.std.proofs.Common.{◌≡◌, ℕ, ◌+◌, ◌<◌, List, [], ◌∷◌, ◌++◌, map, length, drop, get_or, refl, sym, ap, ◌∙◌, arith, length-append, Option, Some, None}
use Rattle.std.proofs.lemmas.List.{get_or-map}
use Rattle.std.proofs.lemmas.List.Sums.{sum_by-cons, sum_by-drop_more}
use Rattle.mysql_values.specs.declared.value.Value.{Value}
use Rattle.mysql_named_params.specs.Tokens.{Token, bytes_of, text_of, Name, Mark}
use Rattle.mysql_named_params.specs.Places.{place_count}
use Rattle.mysql_named_params.specs.FirstPlace.{place_kind}
use Rattle.mysql_named_params.specs.declared.places.PlaceKind.{PlaceKind}
use Rattle.mysql_binding.specs.Pieces.{pieces_from}
use Rattle.mysql_binding.specs.LiteralForm.{Literals, literal_len}
use Rattle.mysql_binding.specs.TextLength.{pieces_len}

-- ---- pieces

-- how many bytes the tokens have that are no places, in the form for induction
abbrev pub plain_len : List Token → ℕ
plain_len [] = 0
plain_len (Name name ∷ ts) = plain_len ts
plain_len (Mark ∷ ts) = plain_len ts
plain_len (t ∷ ts) = length (bytes_of t) + plain_len ts

pieces_from-len : (piece : List ℕ) (ts : List Token) →
    sum_by length (pieces_from piece ts) ≡ length piece + plain_len ts
pieces_from-len piece [] = omega (arith, sum_by-cons length piece [])
pieces_from-len piece (Name name ∷ ts) = omega (arith, sum_by-cons length piece (pieces_from [] ts), pieces_from-len [] ts)
pieces_from-len piece (Mark ∷ ts) = omega (arith, sum_by-cons length piece (pieces_from [] ts), pieces_from-len [] ts)
pieces_from-len piece (t ∷ ts) = omega (arith, pieces_from-len (piece ++ bytes_of t) ts, length-append piece (bytes_of t))

pub pieces_len-plain_len : (ts : List Token) → pieces_len ts ≡ plain_len ts
pieces_len-plain_len ts = omega (arith, pieces_from-len [] ts)

-- tokens that are parted at their first place
pub plain_len-place : (front : List Token) (t : Token) (k : PlaceKind) (back : List Token) →
    place_count front ≡ 0 → place_kind t ≡ Some k →
    plain_len (front ++ t ∷ back) ≡ length (text_of front) + plain_len back
plain_len-place [] (Name name) k back e is = omega arith
plain_len-place [] Mark k back e is = omega arith
plain_len-place [] t k back e is = cc
plain_len-place (Name name ∷ front) t k back e is = absurd (omega arith)
plain_len-place (Mark ∷ front) t k back e is = absurd (omega arith)
plain_len-place (u ∷ front) t k back e is = omega (arith, plain_len-place front t k back e is, length-append (bytes_of u) (text_of front))

-- tokens without places
pub plain_len-no_place : (ts : List Token) → place_count ts ≡ 0 → plain_len ts ≡ length (text_of ts)
plain_len-no_place [] e = refl
plain_len-no_place (Name name ∷ ts) e = absurd (omega arith)
plain_len-no_place (Mark ∷ ts) e = absurd (omega arith)
plain_len-no_place (t ∷ ts) e = omega (arith, plain_len-no_place ts e, length-append (bytes_of t) (text_of ts))

-- ---- literals

pub literal_len-literal : (literal : Literals) (v : Value) (text : List ℕ) → literal v ≡ Some text →
    literal_len literal v ≡ length text
literal_len-literal literal v text e = ap (λ o. length (unwrap_or o [])) e

-- the length that is reported for a literal
pub length_or_zero : (o : Option (List ℕ)) →
    unwrap_or (option_map length o) 0 ≡ length (unwrap_or o [])
length_or_zero None = refl
length_or_zero (Some text) = refl

-- the lengths that are left, from one value on
pub lens_left : (literal : Literals) (values : List Value) (i : ℕ) (v : Value) → i < length values →
    v ≡ get_or values i v →
    sum_by (literal_len literal) (drop i values) ≡ literal_len literal v + sum_by (literal_len literal) (drop (i + 1) values)
lens_left literal values i v below v_is =
    sum_by-drop_more (literal_len literal) values i v below
    ∙ ap (λ x. literal_len literal x + sum_by (literal_len literal) (drop (i + 1) values)) (sym v_is)

-- the length at a place is that of its value
pub len_at : (literal : Literals) (values : List Value) (lens : List ℕ) (i d : ℕ) (v : Value) → i < length values →
    v ≡ get_or values i v → lens ≡ map (literal_len literal) values → get_or lens i d ≡ literal_len literal v
len_at literal values lens i d v below v_is lens_are =
    ap (λ x. get_or x i d) lens_are ∙ (get_or-map (literal_len literal) values i v d below ∙ ap (literal_len literal) (sym v_is))
