-- The pieces of a query with literals between them.
use Rattle.std.proofs.Common.{◌≡◌, ◌++◌, ℕ, List, [], ◌∷◌, length, arith, refl, ap, ◌∙◌, sym, append_assoc, append-nil, Option, Some, None}
use Rattle.std.specs.Prelude.{option_map}
use Rattle.mysql_named_params.specs.Tokens.{Token, text_of, bytes_of, Name, Mark}
use Rattle.mysql_named_params.specs.Places.{with_marks, place_count}
use Rattle.mysql_binding.specs.Pieces.{pieces, pieces_from, last_piece, joined_text}
use Rattle.mysql_binding.proofs.BoundText.{bound}

pub bound_none : (ts : List Token) → place_count ts ≡ 0 → bound ts [] ≡ text_of ts
bound_none [] e = refl
bound_none (Name name ∷ ts) e = absurd (omega arith)
bound_none (Mark ∷ ts) e = absurd (omega arith)
bound_none (t ∷ ts) e = ap (λ u. bytes_of t ++ u) (bound_none ts e)

pub joined_text-pieces_from : (piece : List ℕ) (ts : List Token) (literals : List (List ℕ)) →
    length literals ≡ place_count ts →
    joined_text (pieces_from piece ts) literals ≡ Some (piece ++ bound ts literals)
joined_text-pieces_from piece [] [] l = ap Some (sym (append-nil piece))
joined_text-pieces_from piece [] (literal ∷ literals) l = absurd (omega arith)
joined_text-pieces_from piece (Name name ∷ ts) [] l = absurd (omega arith)
joined_text-pieces_from piece (Name name ∷ ts) (literal ∷ literals) l = rw (joined_text-pieces_from [] ts literals (omega arith)) refl
joined_text-pieces_from piece (Mark ∷ ts) [] l = absurd (omega arith)
joined_text-pieces_from piece (Mark ∷ ts) (literal ∷ literals) l = rw (joined_text-pieces_from [] ts literals (omega arith)) refl
joined_text-pieces_from piece (t ∷ ts) literals l =
    joined_text-pieces_from (piece ++ bytes_of t) ts literals l ∙ ap Some (append_assoc piece (bytes_of t) _)

-- the query with a mark in place of each name has the same text around the places
pub bound-with_marks : (ts : List Token) (literals : List (List ℕ)) →
    length literals ≡ place_count ts → bound (with_marks ts) literals ≡ bound ts literals
bound-with_marks [] literals l = refl
bound-with_marks (Name name ∷ ts) [] l = absurd (omega arith)
bound-with_marks (Name name ∷ ts) (literal ∷ literals) l = ap (λ u. literal ++ u) (bound-with_marks ts literals (omega arith))
bound-with_marks (Mark ∷ ts) [] l = absurd (omega arith)
bound-with_marks (Mark ∷ ts) (literal ∷ literals) l = ap (λ u. literal ++ u) (bound-with_marks ts literals (omega arith))
bound-with_marks (t ∷ ts) literals l = ap (λ u. bytes_of t ++ u) (bound-with_marks ts literals l)

option_map_parts : {A B : Type 0} (f : A → B) (x : Option A) (b : B) → option_map f x ≡ Some b →
    (a : A) × (x ≡ Some a)
option_map_parts f None b e = cc
option_map_parts f (Some a) b e = (a, refl)

-- after a place there is one piece more
more_pieces : (piece : List ℕ) (ts : List Token) (text : List ℕ) →
    last_piece piece (pieces_from [] ts) ≡ Some text → ⊥
more_pieces piece ts text e = go [] ts e
  where
    go : (next : List ℕ) (ts : List Token) → last_piece piece (pieces_from next ts) ≡ Some text → ⊥
    go next [] e = cc
    go next (Name name ∷ ts) e = cc
    go next (Mark ∷ ts) e = cc
    go next (t ∷ ts) e = go (next ++ bytes_of t) ts e

-- if a text can be joined, there are as many literals as places, and it is the bound text
pub joined_text_count : (piece : List ℕ) (ts : List Token) (literals : List (List ℕ)) (text : List ℕ) →
    joined_text (pieces_from piece ts) literals ≡ Some text → length literals ≡ place_count ts
joined_text_count piece [] [] text e = refl
joined_text_count piece [] (literal ∷ literals) text e = cc
joined_text_count piece (Name name ∷ ts) [] text e = absurd (more_pieces piece ts text e)
joined_text_count piece (Name name ∷ ts) (literal ∷ literals) text e =
    let r = option_map_parts _ (joined_text (pieces_from [] ts) literals) text e in
    omega (arith, joined_text_count [] ts literals r.0 r.1)
joined_text_count piece (Mark ∷ ts) [] text e = absurd (more_pieces piece ts text e)
joined_text_count piece (Mark ∷ ts) (literal ∷ literals) text e =
    let r = option_map_parts _ (joined_text (pieces_from [] ts) literals) text e in
    omega (arith, joined_text_count [] ts literals r.0 r.1)
joined_text_count piece (t ∷ ts) literals text e = joined_text_count (piece ++ bytes_of t) ts literals text e

pub joined_text_is : (ts : List Token) (literals : List (List ℕ)) (text : List ℕ) →
    joined_text (pieces ts) literals ≡ Some text → text ≡ bound ts literals
joined_text_is ts literals text e =
    let same : Some text ≡ Some (bound ts literals) = sym e ∙ joined_text-pieces_from [] ts literals (joined_text_count [] ts literals text e) in
    cc
