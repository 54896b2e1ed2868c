-- If the places of a query stand alone, so do those of the query with a mark in place of each name.
use Rattle.std.proofs.Common.{◌≡◌, ◌+◌, ◌++◌, ℕ, All, Bool, true, false, List, [], ◌∷◌, if◌then◌else◌, arith, refl, ◌∙◌, sym, Option, Some, None, true≢false}
use Rattle.std.specs.List.{list_all}
use Rattle.std.proofs.lemmas.Bool.{and_parts, and_from}
use Rattle.std.proofs.lemmas.List.Elements.{All-tail}
use Rattle.mysql_named_params.specs.Bytes.{colon, question_mark}
use Rattle.mysql_named_params.specs.Tokens.{Token, text_of, bytes_of, Name, Mark}
use Rattle.mysql_named_params.specs.Places.{names, with_marks, place_count}
use Rattle.mysql_named_params.specs.WideNames.{IsWideName, is_wide_byte}
use Rattle.mysql_named_params.proofs.WideLemmas.{start_wide}
use Rattle.mysql_binding.specs.StandsAlone.{may_stand_before, may_stand_after, none_or_first, none_or_last, stands_alone, first_not_alone_from}
use Rattle.mysql_binding.proofs.ByteTestLemmas.{wide_byte_not_before}
use Rattle.mysql_binding.proofs.ContentsLemmas.{alone_parts}

pub last-append : (test : ℕ → Bool) (xs : List ℕ) (b : ℕ) (ys : List ℕ) →
    none_or_last test (xs ++ b ∷ ys) ≡ none_or_last test (b ∷ ys)
last-append test [] b ys = refl
last-append test (x ∷ []) b ys = refl
last-append test (x ∷ x' ∷ xs) b ys = last-append test (x' ∷ xs) b ys

pub name_last : (b : ℕ) (ys : List ℕ) → may_stand_before b ≡ false → list_all is_wide_byte ys ≡ true →
    none_or_last may_stand_before (b ∷ ys) ≡ false
name_last b [] f h = f
name_last b (y ∷ ys) f h = let p = and_parts (is_wide_byte y) (list_all is_wide_byte ys) h in name_last y ys (wide_byte_not_before y p.0) p.1

-- the second text ends as well as the first
abbrev pub EndsAsWell : List ℕ → List ℕ → Type 0
EndsAsWell before after = none_or_last may_stand_before before ≡ true → none_or_last may_stand_before after ≡ true

pub as_well-append : (xs ys : List ℕ) (b : ℕ) (bytes : List ℕ) →
    EndsAsWell (xs ++ b ∷ bytes) (ys ++ b ∷ bytes)
as_well-append xs ys b bytes h = last-append may_stand_before ys b bytes ∙ (sym (last-append may_stand_before xs b bytes) ∙ h)

pub as_well-name : (xs name after : List ℕ) → IsWideName name → EndsAsWell (xs ++ colon ∷ name) after
as_well-name xs [] after is h = absurd is
as_well-name xs (b ∷ bs) after is h =
    absurd (true≢false (sym h ∙ (last-append may_stand_before xs colon (b ∷ bs) ∙ name_last b bs (wide_byte_not_before b (start_wide b is.0)) is.1)))

first_as_well : (ts : List Token) → none_or_first may_stand_after (text_of ts) ≡ true →
    none_or_first may_stand_after (text_of (with_marks ts)) ≡ true
first_as_well [] h = refl
first_as_well (Name name ∷ ts) h = absurd (true≢false (sym h))
first_as_well (Mark ∷ ts) h = h
first_as_well (t ∷ ts) h = h

alone_as_well : (before before' : List ℕ) (ts : List Token) → EndsAsWell before before' →
    stands_alone before (text_of ts) ≡ true → stands_alone before' (text_of (with_marks ts)) ≡ true
alone_as_well before before' ts e h = let p = and_parts (none_or_last may_stand_before before) _ h in and_from _ _ (e p.0) (first_as_well ts p.1)

pub if_alone : (b : Bool) (x : Option (ℕ × ℕ)) (p : ℕ × ℕ) → b ≡ true → x ≡ None →
    (if b then x else Some p) ≡ None
if_alone true x p e h = h
if_alone false x p e h = absurd (true≢false (sym e))

pub first_not_alone-with_marks : (ts : List Token) (place place' : ℕ) (before before' : List ℕ) →
    All IsWideName (names ts) → EndsAsWell before before' →
    first_not_alone_from place before ts ≡ None →
    first_not_alone_from place' before' (with_marks ts) ≡ None
first_not_alone-with_marks [] place place' before before' h e a = refl
first_not_alone-with_marks (Name name ∷ ts) place place' before before' h e a =
    let p = alone_parts (stands_alone before (text_of ts)) _ _ a in
    if_alone _ _ _ (alone_as_well before before' ts e p.0) (first_not_alone-with_marks ts (place + 1) (place' + 1) (before ++ bytes_of (Name name)) (before' ++ bytes_of Mark) (All-tail IsWideName name (names ts) h) (as_well-name before name (before' ++ bytes_of Mark) (h 0 name (omega arith))) p.1)
first_not_alone-with_marks (Mark ∷ ts) place place' before before' h e a =
    let p = alone_parts (stands_alone before (text_of ts)) _ _ a in
    if_alone _ _ _ (alone_as_well before before' ts e p.0) (first_not_alone-with_marks ts (place + 1) (place' + 1) (before ++ bytes_of Mark) (before' ++ bytes_of Mark) h (as_well-append before before' question_mark []) p.1)
first_not_alone-with_marks (t ∷ ts) place place' before before' h e a =
    first_not_alone-with_marks ts place place' (before ++ bytes_of t) (before' ++ bytes_of t) h (as_well-append before before' _ _) a

-- without places

pub no_place_alone : (ts : List Token) (place : ℕ) (before : List ℕ) → place_count ts ≡ 0 →
    first_not_alone_from place before ts ≡ None
no_place_alone [] place before e = refl
no_place_alone (Name name ∷ ts) place before e = absurd (omega arith)
no_place_alone (Mark ∷ ts) place before e = absurd (omega arith)
no_place_alone (t ∷ ts) place before e = no_place_alone ts place (before ++ bytes_of t) e
