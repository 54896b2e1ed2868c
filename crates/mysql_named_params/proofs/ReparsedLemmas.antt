-- The tokens of the query with a mark in place of each name, and its parsed form.
use Rattle.std.specs.Prelude.{Bool}
use Rattle.std.proofs.Common.{◌≡◌, ◌≢◌, ◌+◌, ◌∙◌, ℕ, true, false, All, List, [], ◌∷◌, append-nil, length, arith, inl, refl, sym, ap, subst}
use Rattle.std.proofs.lemmas.List.Elements.{All-nil, All-cons}
use Rattle.mysql_named_params.specs.Tokens.{Token, AreTokensBefore, text_of, bytes_of, IsTokens, OnTokens, Name, Mark}
use Rattle.mysql_named_params.specs.Parsed.{Parsed, parsed}
use Rattle.mysql_named_params.proofs.RenameLemmas.{with_names-with_marks}
use Rattle.mysql_named_params.specs.Places.{names, marks, with_marks, with_names}
use Rattle.mysql_named_params.specs.Reading.{IsTokensWith, IsTokensIn}
use Rattle.mysql_named_params.specs.WideNames.{IsWideName}
use Rattle.mysql_named_params.specs.declared.places.Reading.{Reading}
use Rattle.mysql_named_params.proofs.WideLemmas.{IsTokens-wide_marks, names_from, wide_of_name}
use Rattle.mysql_named_params.proofs.RestLemmas.{SameUpToPlace, at_end, same, at_place, same-append, IsToken-move, mark_opens_nothing}

with_marks_up_to_place : (ts : List Token) → SameUpToPlace (text_of ts) (text_of (with_marks ts))
with_marks_up_to_place [] = at_end
with_marks_up_to_place (Name name ∷ ts) = at_place (inl refl) (mark_opens_nothing _)
with_marks_up_to_place (Mark ∷ ts) = same (with_marks_up_to_place ts)
with_marks_up_to_place (t ∷ ts) = same-append (bytes_of t) (with_marks_up_to_place ts)

pub AreTokensBefore-with_marks : (mode : Bool) (ts : List Token) → AreTokensBefore mode [] ts →
    AreTokensBefore mode [] (with_marks ts)
AreTokensBefore-with_marks mode [] h = tt
AreTokensBefore-with_marks mode (Name name ∷ ts) h = (tt, AreTokensBefore-with_marks mode ts h.1)
AreTokensBefore-with_marks mode (Mark ∷ ts) h = (tt, AreTokensBefore-with_marks mode ts h.1)
AreTokensBefore-with_marks mode (t ∷ ts) h = (IsToken-move mode t _ _ (λ p. elim p [ ]) (with_marks_up_to_place ts) h.0, AreTokensBefore-with_marks mode ts h.1)

pub names-with_marks : (ts : List Token) → names (with_marks ts) ≡ []
names-with_marks [] = refl
names-with_marks (Name name ∷ ts) = names-with_marks ts
names-with_marks (Mark ∷ ts) = names-with_marks ts
names-with_marks (t ∷ ts) = names-with_marks ts

pub marks-with_marks : (ts : List Token) → marks (with_marks ts) ≡ marks ts + length (names ts)
marks-with_marks [] = refl
marks-with_marks (Name name ∷ ts) = omega (arith, marks-with_marks ts)
marks-with_marks (Mark ∷ ts) = omega (arith, marks-with_marks ts)
marks-with_marks (t ∷ ts) = marks-with_marks ts

-- the tokens of the query with marks
pub IsTokens-with_marks : (mode : Bool) (query : List ℕ) (ts : List Token) → IsTokens mode query ts →
    IsTokens mode (text_of (with_marks ts)) (with_marks ts)
IsTokens-with_marks mode query ts is = record { text = refl; each = AreTokensBefore-with_marks mode ts is.each }

-- ---- in a reading

marked_with : (wide mode : Bool) (query : List ℕ) (ts : List Token) → IsTokensWith wide mode query ts →
    IsTokens mode (text_of (with_marks ts)) (with_marks ts)
marked_with false mode query ts is = IsTokens-with_marks mode query ts is
marked_with true mode query ts is =
    subst (λ us. IsTokens mode (text_of (with_marks us)) (with_marks us)) (sym is.2) (IsTokens-wide_marks mode query is.0 is.1)

-- with marks in the place of its names, wide ones too, a query has tokens of the grammar
pub marked_reading : (reading : Reading) (query : List ℕ) (ts : List Token) →
    IsTokensIn reading query ts →
    IsTokens reading.no_backslash_escape (text_of (with_marks ts)) (with_marks ts)
marked_reading reading = marked_with reading.wide_names reading.no_backslash_escape

names_of_grammar : (mode : Bool) (ts : List Token) → AreTokensBefore mode [] ts → All IsWideName (names ts)
names_of_grammar mode [] h = All-nil IsWideName
names_of_grammar mode (Name name ∷ ts) h =
    All-cons IsWideName name (names ts) (subst IsWideName (append-nil name) (wide_of_name name [] h.0.0 refl)) (names_of_grammar mode ts h.1)
names_of_grammar mode (t ∷ ts) h = names_of_grammar mode ts h.1

names_with : (wide mode : Bool) (query : List ℕ) (ts : List Token) → IsTokensWith wide mode query ts →
    All IsWideName (names ts)
names_with false mode query ts is = names_of_grammar mode ts is.each
names_with true mode query ts is =
    subst (λ us. All IsWideName (names us)) (sym is.2) (names_from mode false is.0 is.1.each)

-- the names of a query, those of the grammar too, are wide names
pub names_in_reading : (reading : Reading) (query : List ℕ) (ts : List Token) →
    IsTokensIn reading query ts → All IsWideName (names ts)
names_in_reading reading = names_with reading.wide_names reading.no_backslash_escape

-- ---- of a parsed query

pub reparsed_nameless : (mode : Bool) (query : List ℕ) (ts : List Token) (p : Parsed) →
    IsTokens mode query ts → p ≡ parsed ts → OnTokens mode p.query (λ us. names us ≡ [])
reparsed_nameless mode query ts p is e =
    rw e (with_marks ts, IsTokens-with_marks mode query ts is, names-with_marks ts)

pub reparsed_marked : (mode : Bool) (query : List ℕ) (ts : List Token) (p : Parsed) →
    IsTokens mode query ts → p ≡ parsed ts → (names ts ≢ [] → marks ts ≡ 0) →
    OnTokens mode p.query (λ us. p.params ≢ [] → marks us ≡ length p.params)
reparsed_marked mode query ts p is e unmixed =
    rw e (with_marks ts, IsTokens-with_marks mode query ts is, λ some. omega (arith, marks-with_marks ts, unmixed some))

pub reparsed_restored : (mode : Bool) (query : List ℕ) (ts : List Token) (p : Parsed) →
    IsTokens mode query ts → p ≡ parsed ts → (names ts ≢ [] → marks ts ≡ 0) →
    OnTokens mode p.query (λ us. p.params ≢ [] → text_of (with_names us p.params) ≡ query)
reparsed_restored mode query ts p is e unmixed =
    rw e (with_marks ts, IsTokens-with_marks mode query ts is, λ some. ap text_of (with_names-with_marks ts (unmixed some)) ∙ is.text)
