-- The splice law: lists of tokens in the places of a query. Whatever stands in the places, the tokens of
-- the text, that it is portable, and what a server reads (SplicedOnServerLemmas) follow from facts of
-- each place:
--   `IsSpliced`   before the text that follows, the list's tokens are tokens, and after the byte
--                 before the place, its first bytes open nothing (`opens_nothing_after`);
--   `IsSettled`   before the text that follows, the list's tokens are read alike on all servers, and
--                 are no part of an empty comment; for the portable reading and servers alone;
--   `IsPlaceless` the list has no place; for `spliced_places` alone.
-- `AtPlaces Holds before ts lists` says that there are as many lists as places, and that `Holds` is true
-- in each place, of the byte before it (`before` at the front; `space` for a whole query), its list, and
-- the text after it.
-- An instance, as literals (ReplacedLemmas), proves the facts of one list, and has them in the places
-- by `everywhere`, if they hold between any byte and any text, or by `alone`, if they hold between
-- what may stand before a place and what may stand after one, and the places stand alone. It then
-- cites `spliced_tokens` (or `isolated_splice`, of the joined text), `spliced_places`,
-- `spliced_portable`, `spliced_on` and `spliced_read`.
use Rattle.std.specs.Prelude.{Bool, ⊤}
use Rattle.std.proofs.Common.{◌≡◌, ◌+◌, ◌++◌, ℕ, List, [], ◌∷◌, length, arith, true, Some, None, refl, ap, ◌∙◌, sym, subst, true≢false}
use Rattle.std.proofs.lemmas.Bool.{and_parts}
use Rattle.mysql_named_params.specs.Bytes.{colon, question_mark, space}
use Rattle.mysql_named_params.specs.Tokens.{Token, IsTokens, IsName, AreTokensBefore, text_of, text_then, bytes_of, Name, Mark}
use Rattle.mysql_named_params.specs.Places.{place_count}
use Rattle.mysql_named_params.proofs.TokenRowLemmas.{text_then-append, text_then-text_of, AreTokensBefore-append, place_count-append}
use Rattle.mysql_portable.specs.Portable.{AreReadAlikeBefore}
use Rattle.mysql_portable.specs.Server.{begins_place}
use Rattle.mysql_portable.proofs.QuietLemmas.{wider_token}
use Rattle.mysql_binding.specs.Pieces.{pieces, joined_text}
use Rattle.mysql_binding.specs.Replaced.{AreTokensOf, with_literal_tokens}
use Rattle.mysql_binding.specs.StandsAlone.{may_stand_before, may_stand_after, none_or_first, none_or_last, stands_alone, first_not_alone, first_not_alone_from}
use Rattle.mysql_binding.proofs.BoundText.{bound}
use Rattle.mysql_binding.proofs.ContentsLemmas.{alone_parts}
use Rattle.mysql_binding.proofs.LiteralTokenLemmas.{AreSettledBefore}
use Rattle.mysql_binding.proofs.PieceLemmas.{joined_text_count, joined_text_is}
use Rattle.mysql_binding.proofs.QuietTextLemmas.{alike_move}
use Rattle.mysql_binding.proofs.UpToSpliceLemmas.{SameUpToSplice, at_end, at_place, same-append, last_byte, opens_nothing_after, token_move}

-- ---- the facts of a place

-- between this byte and this text, the tokens of the list are tokens, and it opens nothing
pub record IsSpliced (mode : Bool) (before : ℕ) (list : List Token) (rest : List ℕ) : Type 0 where
  pub tokens : AreTokensBefore mode rest list
  pub opens_nothing : opens_nothing_after before (text_then rest list) ≡ true

-- before this text the list is read alike on all servers, and is no part of an empty comment
abbrev pub IsSettled : ℕ → List Token → List ℕ → Type 0
IsSettled before list rest = AreSettledBefore rest list

-- the list has no place
abbrev pub IsPlaceless : ℕ → List Token → List ℕ → Type 0
IsPlaceless before list rest = place_count list ≡ 0

-- There are as many lists as places. In each place `Holds` is true for the byte before it, its list
-- and the text after it. The byte `before` comes before the tokens.
abbrev pub AtPlaces : (ℕ → List Token → List ℕ → Type 0) → ℕ → List Token → List (List Token) → Type 0
AtPlaces Holds before [] [] = ⊤
AtPlaces Holds before [] (list ∷ lists) = ⊥
AtPlaces Holds before (Name name ∷ ts) [] = ⊥
AtPlaces Holds before (Name name ∷ ts) (list ∷ lists) =
    Holds before list (text_of (with_literal_tokens ts lists)) × AtPlaces Holds (last_byte colon name) ts lists
AtPlaces Holds before (Mark ∷ ts) [] = ⊥
AtPlaces Holds before (Mark ∷ ts) (list ∷ lists) =
    Holds before list (text_of (with_literal_tokens ts lists)) × AtPlaces Holds question_mark ts lists
AtPlaces Holds before (t ∷ ts) lists = AtPlaces Holds (last_byte before (bytes_of t)) ts lists

-- ---- the law

pub name_begins : (name rest : List ℕ) → IsName name → begins_place (colon ∷ (name ++ rest)) ≡ true
name_begins [] rest h = absurd h
name_begins (b ∷ bs) rest h = h.0

list_opens_nothing : (mode : Bool) (before : ℕ) (list ts : List Token) → IsSpliced mode before list (text_of ts) →
    opens_nothing_after before (text_of (list ++ ts)) ≡ true
list_opens_nothing mode before list ts s = rw (text_then-append list ts []) s.opens_nothing

pub spliced_up_to : (mode : Bool) (before : ℕ) (ts : List Token) (lists : List (List Token)) →
    AreTokensBefore mode [] ts → AtPlaces (IsSpliced mode) before ts lists →
    SameUpToSplice before (text_of ts) (text_of (with_literal_tokens ts lists))
spliced_up_to mode before [] [] h s = at_end
spliced_up_to mode before [] (list ∷ lists) h s = absurd s
spliced_up_to mode before (Name name ∷ ts) [] h s = absurd s
spliced_up_to mode before (Name name ∷ ts) (list ∷ lists) h s =
    at_place (name_begins name (text_of ts) h.0.0) (list_opens_nothing mode before list (with_literal_tokens ts lists) s.0)
spliced_up_to mode before (Mark ∷ ts) [] h s = absurd s
spliced_up_to mode before (Mark ∷ ts) (list ∷ lists) h s =
    at_place refl (list_opens_nothing mode before list (with_literal_tokens ts lists) s.0)
spliced_up_to mode before (t ∷ ts) lists h s =
    same-append before (bytes_of t) (spliced_up_to mode (last_byte before (bytes_of t)) ts lists h.1 s)

-- the tokens of the text
pub spliced_tokens : (mode : Bool) (before : ℕ) (ts : List Token) (lists : List (List Token)) →
    AreTokensBefore mode [] ts → AtPlaces (IsSpliced mode) before ts lists →
    AreTokensBefore mode [] (with_literal_tokens ts lists)
spliced_tokens mode before [] lists h s = tt
spliced_tokens mode before (Name name ∷ ts) [] h s = absurd s
spliced_tokens mode before (Name name ∷ ts) (list ∷ lists) h s =
    AreTokensBefore-append mode list (with_literal_tokens ts lists) [] s.0.tokens (spliced_tokens mode (last_byte colon name) ts lists h.1 s.1)
spliced_tokens mode before (Mark ∷ ts) [] h s = absurd s
spliced_tokens mode before (Mark ∷ ts) (list ∷ lists) h s =
    AreTokensBefore-append mode list (with_literal_tokens ts lists) [] s.0.tokens (spliced_tokens mode question_mark ts lists h.1 s.1)
spliced_tokens mode before (t ∷ ts) lists h s = (
  token_move mode before t _ _ (λ p. p) (spliced_up_to mode (last_byte before (bytes_of t)) ts lists h.1 s) h.0,
  spliced_tokens mode (last_byte before (bytes_of t)) ts lists h.1 s,
)

-- no place is left
pub spliced_places : (before : ℕ) (ts : List Token) (lists : List (List Token)) → AtPlaces IsPlaceless before ts lists →
    place_count (with_literal_tokens ts lists) ≡ 0
spliced_places before [] lists s = refl
spliced_places before (Name name ∷ ts) [] s = absurd s
spliced_places before (Name name ∷ ts) (list ∷ lists) s =
    rw (place_count-append list (with_literal_tokens ts lists), s.0, spliced_places (last_byte colon name) ts lists s.1) refl
spliced_places before (Mark ∷ ts) [] s = absurd s
spliced_places before (Mark ∷ ts) (list ∷ lists) s =
    rw (place_count-append list (with_literal_tokens ts lists), s.0, spliced_places question_mark ts lists s.1) refl
spliced_places before (t ∷ ts) lists s = spliced_places (last_byte before (bytes_of t)) ts lists s

AreReadAlikeBefore-append : (xs ys : List Token) (rest : List ℕ) → AreSettledBefore (text_then rest ys) xs →
    AreReadAlikeBefore rest ys → AreReadAlikeBefore rest (xs ++ ys)
AreReadAlikeBefore-append [] ys rest b h = h
AreReadAlikeBefore-append (x ∷ xs) ys rest b h = (rw (text_then-append xs ys rest) (wider_token x (text_then (text_then rest ys) xs) b.0), AreReadAlikeBefore-append xs ys rest b.2 h)

-- every honest server reads the text as the grammar does, if it so reads the query
pub spliced_portable : (mode : Bool) (before : ℕ) (ts : List Token) (lists : List (List Token)) →
    AreTokensBefore mode [] ts → AreReadAlikeBefore [] ts → AtPlaces (IsSpliced mode) before ts lists →
    AtPlaces IsSettled before ts lists → AreReadAlikeBefore [] (with_literal_tokens ts lists)
spliced_portable mode before [] lists h p s q = tt
spliced_portable mode before (Name name ∷ ts) [] h p s q = absurd s
spliced_portable mode before (Name name ∷ ts) (list ∷ lists) h p s q =
    AreReadAlikeBefore-append list (with_literal_tokens ts lists) [] q.0 (spliced_portable mode (last_byte colon name) ts lists h.1 p.1 s.1 q.1)
spliced_portable mode before (Mark ∷ ts) [] h p s q = absurd s
spliced_portable mode before (Mark ∷ ts) (list ∷ lists) h p s q =
    AreReadAlikeBefore-append list (with_literal_tokens ts lists) [] q.0 (spliced_portable mode question_mark ts lists h.1 p.1 s.1 q.1)
spliced_portable mode before (t ∷ ts) lists h p s q = (
  alike_move before t (spliced_up_to mode (last_byte before (bytes_of t)) ts lists h.1 s) p.0,
  spliced_portable mode (last_byte before (bytes_of t)) ts lists h.1 p.1 s q,
)

-- ---- the text that is joined

list_text : (mode : Bool) (text : List ℕ) (list ts : List Token) (rest : List ℕ) →
    IsTokens mode text list → text_of ts ≡ rest → text_of (list ++ ts) ≡ text ++ rest
list_text mode text list ts rest h e = rw (text_then-append list ts [], text_then-text_of list (text_of ts), e, h.text)

spliced_bound : (mode : Bool) (ts : List Token) (texts : List (List ℕ)) (lists : List (List Token)) →
    AreTokensOf mode texts lists → length texts ≡ place_count ts →
    text_of (with_literal_tokens ts lists) ≡ bound ts texts
spliced_bound mode [] texts lists a l = refl
spliced_bound mode (Name name ∷ ts) [] lists a l = absurd (omega arith)
spliced_bound mode (Name name ∷ ts) (text ∷ texts) [] a l = absurd a
spliced_bound mode (Name name ∷ ts) (text ∷ texts) (list ∷ lists) a l = list_text mode text list _ _ a.0 (spliced_bound mode ts texts lists a.1 (omega arith))
spliced_bound mode (Mark ∷ ts) [] lists a l = absurd (omega arith)
spliced_bound mode (Mark ∷ ts) (text ∷ texts) [] a l = absurd a
spliced_bound mode (Mark ∷ ts) (text ∷ texts) (list ∷ lists) a l = list_text mode text list _ _ a.0 (spliced_bound mode ts texts lists a.1 (omega arith))
spliced_bound mode (t ∷ ts) texts lists a l = ap (λ u. bytes_of t ++ u) (spliced_bound mode ts texts lists a l)

pub spliced_text : (mode : Bool) (ts : List Token) (texts : List (List ℕ)) (lists : List (List Token)) (text : List ℕ) →
    AreTokensOf mode texts lists → joined_text (pieces ts) texts ≡ Some text →
    text_of (with_literal_tokens ts lists) ≡ text
spliced_text mode ts texts lists text a e =
    spliced_bound mode ts texts lists a (joined_text_count [] ts texts text e) ∙ sym (joined_text_is ts texts text e)

-- isolation: the tokens of the joined text
pub isolated_splice : (mode : Bool) (query text : List ℕ) (ts : List Token) (texts : List (List ℕ)) (lists : List (List Token)) →
    IsTokens mode query ts → AtPlaces (IsSpliced mode) space ts lists → AreTokensOf mode texts lists →
    joined_text (pieces ts) texts ≡ Some text → IsTokens mode text (with_literal_tokens ts lists)
isolated_splice mode query text ts texts lists is s a e = record {
  text = spliced_text mode ts texts lists text a e;
  each = spliced_tokens mode space ts lists is.each s;
}

-- ---- facts of one list, in the places

-- this holds of each list
abbrev pub Each : (List Token → Type 0) → List (List Token) → Type 0
Each Holds [] = ⊤
Each Holds (list ∷ lists) = Holds list × Each Holds lists

-- there are as many lists as texts
pub as_many_lists : (mode : Bool) (texts : List (List ℕ)) (lists : List (List Token)) →
    AreTokensOf mode texts lists → length lists ≡ length texts
as_many_lists mode [] [] h = refl
as_many_lists mode [] (list ∷ lists) h = absurd h
as_many_lists mode (text ∷ texts) [] h = absurd h
as_many_lists mode (text ∷ texts) (list ∷ lists) h = omega (arith, as_many_lists mode texts lists h.1)

pub everywhere : (Holds : ℕ → List Token → List ℕ → Type 0) (before : ℕ) (ts : List Token) (lists : List (List Token)) →
    Each (λ list. (before : ℕ) (rest : List ℕ) → Holds before list rest) lists → length lists ≡ place_count ts →
    AtPlaces Holds before ts lists
everywhere Holds before [] [] e l = tt
everywhere Holds before [] (list ∷ lists) e l = absurd (omega arith)
everywhere Holds before (Name name ∷ ts) [] e l = absurd (omega arith)
everywhere Holds before (Name name ∷ ts) (list ∷ lists) e l = (e.0 before _, everywhere Holds (last_byte colon name) ts lists e.1 (omega arith))
everywhere Holds before (Mark ∷ ts) [] e l = absurd (omega arith)
everywhere Holds before (Mark ∷ ts) (list ∷ lists) e l = (e.0 before _, everywhere Holds question_mark ts lists e.1 (omega arith))
everywhere Holds before (t ∷ ts) lists e l = everywhere Holds (last_byte before (bytes_of t)) ts lists e l

last_byte-append : (before : ℕ) (xs ys : List ℕ) → last_byte before (xs ++ ys) ≡ last_byte (last_byte before xs) ys
last_byte-append before [] ys = refl
last_byte-append before (x ∷ xs) ys = last_byte-append x xs ys

last_stands : (before b : ℕ) (bytes : List ℕ) → none_or_last may_stand_before (b ∷ bytes) ≡ true →
    may_stand_before (last_byte before (b ∷ bytes)) ≡ true
last_stands before b [] h = h
last_stands before b (c ∷ bytes) h = last_stands b c bytes h

stands_before : (text : List ℕ) → none_or_last may_stand_before text ≡ true → may_stand_before (last_byte space text) ≡ true
stands_before [] h = refl
stands_before (b ∷ bytes) h = last_stands space b bytes h

-- a byte that may be after a place begins no place, so it stays
pub first_stays : (ts : List Token) (lists : List (List Token)) → none_or_first may_stand_after (text_of ts) ≡ true →
    none_or_first may_stand_after (text_of (with_literal_tokens ts lists)) ≡ true
first_stays [] lists h = refl
first_stays (Name name ∷ ts) lists h = absurd (true≢false (sym h))
first_stays (Mark ∷ ts) lists h = absurd (true≢false (sym h))
first_stays (t ∷ ts) lists h = h

-- this holds of the list in each place that stands alone
abbrev pub HoldsAlone : (ℕ → List Token → List ℕ → Type 0) → List Token → Type 0
HoldsAlone Holds list = (before : ℕ) (rest : List ℕ) → may_stand_before before ≡ true →
    none_or_first may_stand_after rest ≡ true → Holds before list rest

alone_from : (Holds : ℕ → List Token → List ℕ → Type 0) (place : ℕ) (text : List ℕ) (ts : List Token) (lists : List (List Token)) →
    Each (HoldsAlone Holds) lists → length lists ≡ place_count ts → first_not_alone_from place text ts ≡ None →
    AtPlaces Holds (last_byte space text) ts lists
alone_from Holds place text [] [] e l n = tt
alone_from Holds place text [] (list ∷ lists) e l n = absurd (omega arith)
alone_from Holds place text (Name name ∷ ts) [] e l n = absurd (omega arith)
alone_from Holds place text (Name name ∷ ts) (list ∷ lists) e l n =
    let p = alone_parts (stands_alone text (text_of ts)) _ _ n in
    let q = and_parts (none_or_last may_stand_before text) (none_or_first may_stand_after (text_of ts)) p.0 in (
      e.0 (last_byte space text) _ (stands_before text q.0) (first_stays ts lists q.1),
      subst (λ b. AtPlaces Holds b ts lists) (last_byte-append space text (colon ∷ name)) (alone_from Holds (place + 1) (text ++ bytes_of (Name name)) ts lists e.1 (omega arith) p.1),
    )
alone_from Holds place text (Mark ∷ ts) [] e l n = absurd (omega arith)
alone_from Holds place text (Mark ∷ ts) (list ∷ lists) e l n =
    let p = alone_parts (stands_alone text (text_of ts)) _ _ n in
    let q = and_parts (none_or_last may_stand_before text) (none_or_first may_stand_after (text_of ts)) p.0 in (
      e.0 (last_byte space text) _ (stands_before text q.0) (first_stays ts lists q.1),
      subst (λ b. AtPlaces Holds b ts lists) (last_byte-append space text (question_mark ∷ [])) (alone_from Holds (place + 1) (text ++ bytes_of Mark) ts lists e.1 (omega arith) p.1),
    )
alone_from Holds place text (t ∷ ts) lists e l n =
    subst (λ b. AtPlaces Holds b ts lists) (last_byte-append space text (bytes_of t)) (alone_from Holds place (text ++ bytes_of t) ts lists e l n)

pub alone : (Holds : ℕ → List Token → List ℕ → Type 0) (ts : List Token) (lists : List (List Token)) →
    Each (HoldsAlone Holds) lists → length lists ≡ place_count ts → first_not_alone ts ≡ None →
    AtPlaces Holds space ts lists
alone Holds ts lists e l n = alone_from Holds 0 [] ts lists e l n
