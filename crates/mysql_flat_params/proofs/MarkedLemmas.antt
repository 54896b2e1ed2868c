-- Tokens with marks in place of their names, and those names, at the first place.
use Rattle.std.proofs.Common.{◌≡◌, ℕ, ◌+◌, ◌*◌, ◌^◌, ◌<◌, ◌≤◌, List, [], ◌∷◌, ◌++◌, length, drop, Some, refl, ap, ◌∙◌, arith, ltb, length-append}
use Rattle.std.specs.List.{All}
use Rattle.std.proofs.lemmas.List.Elements.{All-head}
use Rattle.std.proofs.lemmas.Bool.{cond_both, ltb-false}
use Rattle.mysql_wire_part.specs.Lenenc.{length_spelling, lenenc_spelling}
use Rattle.mysql_named_params.specs.Bytes.{question_mark}
use Rattle.mysql_named_params.specs.Tokens.{Token, bytes_of, text_of, Name, Mark}
use Rattle.mysql_named_params.specs.Places.{names, place_count, with_marks}
use Rattle.mysql_named_params.specs.FirstPlace.{place_kind}
use Rattle.mysql_named_params.specs.declared.places.PlaceKind.{PlaceKind}
use Rattle.mysql_named_params.specs.declared.places.PlaceKind.TheVariants as kind
use Rattle.mysql_named_params.specs.WideNames.{IsWideName}
use Rattle.mysql_named_params.proofs.FoundPlaceLemmas.{names-no_place}
use Rattle.mysql_named_params.proofs.ReparsedLemmas.{names_in_reading}
use Rattle.mysql_named_params.proofs.TokenRowLemmas.{text_of-append, with_marks-append, with_marks-nameless}
use Rattle.mysql_named_params.specs.Reading.{IsTokensIn}
use Rattle.mysql_named_params.specs.declared.places.Reading.{Reading}

-- a mark in place of the first name or mark
pub text-with_marks_at_place : (front : List Token) (place : Token) (k : PlaceKind) (back : List Token) →
    place_count front ≡ 0 → place_kind place ≡ Some k →
    text_of (with_marks (front ++ place ∷ back)) ≡ text_of front ++ question_mark ∷ text_of (with_marks back)
text-with_marks_at_place front place k back no_place is =
    ap text_of (with_marks-append front (place ∷ back) ∙ ap (λ x. x ++ with_marks (place ∷ back)) (with_marks-nameless front (ap length (names-no_place front no_place))))
    ∙ (text_of-append front (with_marks (place ∷ back)) ∙ ap (λ x. text_of front ++ x) (one place is))
  where
    one : (t : Token) → place_kind t ≡ Some k → text_of (with_marks (t ∷ back)) ≡ question_mark ∷ text_of (with_marks back)
    one (Name name) e = refl
    one Mark e = refl
    one t e = cc

pub length-with_marks_at_place : (front : List Token) (place : Token) (k : PlaceKind) (back : List Token) →
    place_count front ≡ 0 → place_kind place ≡ Some k →
    length (text_of (with_marks (front ++ place ∷ back))) ≡ length (text_of front) + 1 + length (text_of (with_marks back))
length-with_marks_at_place front place k back no_place is =
    ap length (text-with_marks_at_place front place k back no_place is)
    ∙ (length-append (text_of front) (question_mark ∷ text_of (with_marks back)) ∙ omega arith)

wide_has_byte : (name : List ℕ) → IsWideName name → 0 < length name
wide_has_byte [] is = absurd is
wide_has_byte (b ∷ bs) is = omega arith

-- a name has a byte
pub name_has_byte : (reading : Reading) (text : List ℕ) (t : Token) (back : List Token) → place_kind t ≡ Some kind.Name →
    IsTokensIn reading text (t ∷ back) → 0 < length (drop 1 (bytes_of t))
name_has_byte reading text t back e is = by t e (names_in_reading reading text (t ∷ back) is)
  where
    by : (t : Token) → place_kind t ≡ Some kind.Name → All IsWideName (names (t ∷ back)) → 0 < length (drop 1 (bytes_of t))
    by (Name name) e all = wide_has_byte name (All-head IsWideName name (names back) all)
    by Mark e all = cc
    by t e all = cc

-- ---- lengths of length-encoded strings

length_head_most : (n : ℕ) → length (length_spelling n) ≤ 9
length_head_most n =
    let Few : List ℕ → Type 0 = λ spelling. length spelling ≤ 9 in
    cond_both (ltb n 251) _ _ Few (λ _. omega arith) (λ _.
    cond_both (ltb n (2 ^ 16)) _ _ Few (λ _. omega arith) (λ _.
    cond_both (ltb n (2 ^ 24)) _ _ Few (λ _. omega arith) (λ _. omega arith)))

pub lenenc_at_most : (text : List ℕ) → length (lenenc_spelling text) ≤ length text + 9
lenenc_at_most text = omega (arith, length_head_most (length text), length-append (length_spelling (length text)) text)

length_head_small : (n : ℕ) → 0 < n → 2 * length (length_spelling n) ≤ n + 1
length_head_small n some =
    let Few : List ℕ → Type 0 = λ spelling. 2 * length spelling ≤ n + 1 in
    cond_both (ltb n 251) _ _ Few (λ _. omega (arith, some)) (λ a.
    cond_both (ltb n (2 ^ 16)) _ _ Few (λ _. omega (arith, ltb-false n 251 a)) (λ _.
    cond_both (ltb n (2 ^ 24)) _ _ Few (λ _. omega (arith, ltb-false n 251 a)) (λ _. omega (arith, ltb-false n 251 a))))

-- a mark and a name take at most half as many bytes again as the name with its colon
pub lenenc_small : (text : List ℕ) → 0 < length text → 2 * (length (lenenc_spelling text) + 1) ≤ 3 * (length text + 1)
lenenc_small text some = omega (arith, length_head_small (length text) some, length-append (length_spelling (length text)) text)
