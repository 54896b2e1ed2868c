-- The contents of a text with literals in the places of a query, by any reader of literals.
use Rattle.std.specs.Prelude.{Bool, ⊤}
use Rattle.std.proofs.Common.{◌≡◌, ◌+◌, ◌++◌, ℕ, true, false, sym, true≢false, List, [], ◌∷◌, length, if◌then◌else◌, arith, refl, append_assoc, Option, Some, None, eq-eqb}
use Rattle.std.proofs.lemmas.Bool.{and_parts}
use Rattle.mysql_sql_text.specs.ReadLiteral.{Content, after}
use Rattle.mysql_sql_text.specs.LiteralEnd.{BeginsWithout, continues_literal}
use Rattle.mysql_named_params.specs.Bytes.{backquote, colon, dash, hash, question_mark, slash}
use Rattle.mysql_named_params.specs.Tokens.{Token, text_of, bytes_of, QuotedString, QuotedIdentifier, HashComment, DashComment, BlockComment, Name, Mark, Plain}
use Rattle.mysql_named_params.specs.Places.{place_count}
use Rattle.mysql_binding.specs.StandsAlone.{may_stand_before, may_stand_after, none_or_first, none_or_last, stands_alone, first_not_alone_from}
use Rattle.mysql_binding.specs.Pieces.{pieces_from}
use Rattle.mysql_binding.specs.Contents.{LiteralReader, contents_before, contents_between, AreReadInPlace}
use Rattle.mysql_binding.proofs.BoundText.{bound}
use Rattle.mysql_binding.proofs.ByteTestLemmas.{behind_ends, piece_ends, last_piece_ends}
use Rattle.mysql_binding.proofs.PieceLemmas.{joined_text-pieces_from}

-- before all that doesn't continue it, the literal reads as the content
abbrev pub Reads : LiteralReader → List ℕ → Content → Type 0
Reads reader literal c =
    (rest : List ℕ) → BeginsWithout continues_literal rest → reader (literal ++ rest) ≡ Some (c, rest)

-- each literal reads so as its content
abbrev pub AreReadAs : LiteralReader → List (List ℕ) → List Content → Type 0
AreReadAs reader [] [] = ⊤
AreReadAs reader [] (c ∷ cs) = ⊥
AreReadAs reader (literal ∷ literals) [] = ⊥
AreReadAs reader (literal ∷ literals) (c ∷ cs) = Reads reader literal c × AreReadAs reader literals cs

after-append : (piece text : List ℕ) → after piece (piece ++ text) ≡ Some text
after-append [] text = refl
after-append (b ∷ piece) text = rw (eq-eqb b b refl) (after-append piece text)

-- the test of a place, passed
pub alone_parts : (b : Bool) (x : Option (ℕ × ℕ)) (p : ℕ × ℕ) →
    (if b then x else Some p) ≡ None → (b ≡ true) × (x ≡ None)
alone_parts true x p e = (refl, e)
alone_parts false x p e = cc

-- a place stands alone, and so do those after it
place_alone : (place : ℕ) (before bytes : List ℕ) (ts : List Token) →
    (if stands_alone before (text_of ts) then first_not_alone_from (place + 1) (before ++ bytes) ts else Some (place, length before)) ≡ None →
    (none_or_first may_stand_after (text_of ts) ≡ true) × (first_not_alone_from (place + 1) (before ++ bytes) ts ≡ None)
place_alone place before bytes ts e =
    let p = alone_parts (stands_alone before (text_of ts)) _ _ e in
    ((and_parts (none_or_last may_stand_before before) _ p.0).1, p.1)

-- the text after a place that stands alone doesn't continue the literal in the place
ends_before : (ts : List Token) (literals : List (List ℕ)) →
    none_or_first may_stand_after (text_of ts) ≡ true →
    BeginsWithout continues_literal (bound ts literals)
ends_before [] literals h = tt
ends_before (QuotedString quote tail ∷ ts) literals h = behind_ends quote h
ends_before (QuotedIdentifier tail ∷ ts) literals h = behind_ends backquote h
ends_before (HashComment tail ∷ ts) literals h = behind_ends hash h
ends_before (DashComment gap tail ∷ ts) literals h = behind_ends dash h
ends_before (BlockComment tail ∷ ts) literals h = behind_ends slash h
ends_before (Name name ∷ ts) literals h = absurd (true≢false (sym h))
ends_before (Mark ∷ ts) literals h = absurd (true≢false (sym h))
ends_before (Plain b ∷ ts) literals h = behind_ends b h

module _ (reader : LiteralReader) where
  -- the first literal, and those after it
  in_place_more : (ts : List Token) (piece literal : List ℕ) (literals : List (List ℕ)) (c : Content) (cs : List Content) →
      Reads reader literal c → none_or_first may_stand_after (text_of ts) ≡ true →
      length literals ≡ place_count ts → AreReadInPlace reader (pieces_from [] ts) literals cs →
      AreReadInPlace reader (piece ∷ pieces_from [] ts) (literal ∷ literals) (c ∷ cs)
  in_place_more ts piece literal literals c cs r n l more =
      ((bound ts literals, joined_text-pieces_from [] ts literals l, r (bound ts literals) (ends_before ts literals n)), more)

  -- each literal reads in its place
  pub in_place : (ts : List Token) (place : ℕ) (before piece : List ℕ) (literals : List (List ℕ)) (cs : List Content) →
      first_not_alone_from place before ts ≡ None → AreReadAs reader literals cs → length literals ≡ place_count ts →
      AreReadInPlace reader (pieces_from piece ts) literals cs
  in_place [] place before piece [] [] a rs l = tt
  in_place [] place before piece [] (c ∷ cs) a rs l = absurd rs
  in_place [] place before piece (literal ∷ literals) cs a rs l = absurd (omega arith)
  in_place (Name name ∷ ts) place before piece [] cs a rs l = absurd (omega arith)
  in_place (Name name ∷ ts) place before piece (literal ∷ literals) [] a rs l = absurd rs
  in_place (Name name ∷ ts) place before piece (literal ∷ literals) (c ∷ cs) a rs l =
      let p = place_alone place before (bytes_of (Name name)) ts a in
      let same : length literals ≡ place_count ts = omega arith in
      in_place_more ts piece literal literals c cs rs.0 p.0 same (in_place ts (place + 1) (before ++ bytes_of (Name name)) [] literals cs p.1 rs.1 same)
  in_place (Mark ∷ ts) place before piece [] cs a rs l = absurd (omega arith)
  in_place (Mark ∷ ts) place before piece (literal ∷ literals) [] a rs l = absurd rs
  in_place (Mark ∷ ts) place before piece (literal ∷ literals) (c ∷ cs) a rs l =
      let p = place_alone place before (bytes_of Mark) ts a in
      let same : length literals ≡ place_count ts = omega arith in
      in_place_more ts piece literal literals c cs rs.0 p.0 same (in_place ts (place + 1) (before ++ bytes_of Mark) [] literals cs p.1 rs.1 same)
  in_place (t ∷ ts) place before piece literals cs a rs l =
      in_place ts place (before ++ bytes_of t) (piece ++ bytes_of t) literals cs a rs l

  one_more : (literal : List ℕ) (c : Content) (piece rest : List ℕ) (pieces : List (List ℕ)) (cs : List Content) →
      Reads reader literal c → BeginsWithout continues_literal (piece ++ rest) →
      contents_before reader pieces rest ≡ Some cs →
      contents_before reader (piece ∷ pieces) (literal ++ (piece ++ rest)) ≡ Some (c ∷ cs)
  one_more literal c piece rest pieces cs r n h = rw (r (piece ++ rest) n, after-append piece rest, h) refl

  -- a literal, after it a beginning of a piece, and then the tokens
  Goal : List Token → List ℕ → List (List ℕ) → List Content → Type 0
  Goal ts piece literals cs = (literal : List ℕ) (c : Content) →
      Reads reader literal c → none_or_first may_stand_after (piece ++ text_of ts) ≡ true →
      contents_before reader (pieces_from piece ts) (literal ++ (piece ++ bound ts literals)) ≡ Some (c ∷ cs)

  Goal-place : (ts : List Token) (piece : List ℕ) (b : ℕ) (more : List ℕ) (literal' : List ℕ) (literals : List (List ℕ)) (c' : Content) (cs : List Content) →
      may_stand_after b ≡ false → Reads reader literal' c' → none_or_first may_stand_after (text_of ts) ≡ true → Goal ts [] literals cs →
      (literal : List ℕ) (c : Content) → Reads reader literal c → none_or_first may_stand_after (piece ++ b ∷ more) ≡ true →
      contents_before reader (piece ∷ pieces_from [] ts) (literal ++ (piece ++ (literal' ++ bound ts literals))) ≡ Some (c ∷ c' ∷ cs)
  unfolding Goal
  Goal-place ts piece b more literal' literals c' cs f r' n' g literal c r n =
      one_more literal c piece (literal' ++ bound ts literals) (pieces_from [] ts) (c' ∷ cs) r (piece_ends piece _ b more f n) (g literal' c' r' n')

  Goal-other : (ts : List Token) (piece bytes : List ℕ) (literals : List (List ℕ)) (cs : List Content) →
      Goal ts (piece ++ bytes) literals cs →
      (literal : List ℕ) (c : Content) → Reads reader literal c → none_or_first may_stand_after (piece ++ (bytes ++ text_of ts)) ≡ true →
      contents_before reader (pieces_from (piece ++ bytes) ts) (literal ++ (piece ++ (bytes ++ bound ts literals))) ≡ Some (c ∷ cs)
  unfolding Goal
  Goal-other ts piece bytes literals cs g literal c r n =
      rw (← append_assoc piece bytes (bound ts literals)) (g literal c r (rw (append_assoc piece bytes (text_of ts)) n))

  then_law : (ts : List Token) (place : ℕ) (before piece : List ℕ) (literals : List (List ℕ)) (cs : List Content) →
      first_not_alone_from place before ts ≡ None → AreReadAs reader literals cs → length literals ≡ place_count ts → Goal ts piece literals cs
  unfolding Goal
  then_law [] place before piece [] [] a rs l literal c r n = one_more literal c piece [] [] [] r (last_piece_ends piece n) refl
  then_law [] place before piece [] (c' ∷ cs) a rs l literal c r n = absurd rs
  then_law [] place before piece (literal' ∷ literals) cs a rs l literal c r n = absurd (omega arith)
  then_law (Name name ∷ ts) place before piece [] cs a rs l literal c r n = absurd (omega arith)
  then_law (Name name ∷ ts) place before piece (literal' ∷ literals) [] a rs l literal c r n = absurd rs
  then_law (Name name ∷ ts) place before piece (literal' ∷ literals) (c' ∷ cs) a rs l literal c r n =
      let p = place_alone place before (bytes_of (Name name)) ts a in
      Goal-place ts piece colon _ literal' literals c' cs refl rs.0 p.0 (then_law ts (place + 1) (before ++ bytes_of (Name name)) [] literals cs p.1 rs.1 (omega arith)) literal c r n
  then_law (Mark ∷ ts) place before piece [] cs a rs l literal c r n = absurd (omega arith)
  then_law (Mark ∷ ts) place before piece (literal' ∷ literals) [] a rs l literal c r n = absurd rs
  then_law (Mark ∷ ts) place before piece (literal' ∷ literals) (c' ∷ cs) a rs l literal c r n =
      let p = place_alone place before (bytes_of Mark) ts a in
      Goal-place ts piece question_mark _ literal' literals c' cs refl rs.0 p.0 (then_law ts (place + 1) (before ++ bytes_of Mark) [] literals cs p.1 rs.1 (omega arith)) literal c r n
  then_law (t ∷ ts) place before piece literals cs a rs l literal c r n =
      Goal-other ts piece (bytes_of t) literals cs (then_law ts place (before ++ bytes_of t) (piece ++ bytes_of t) literals cs a rs l) literal c r n

  contents-other : (ts : List Token) (piece bytes : List ℕ) (literals : List (List ℕ)) (cs : List Content) →
      contents_between reader (pieces_from (piece ++ bytes) ts) ((piece ++ bytes) ++ bound ts literals) ≡ Some cs →
      contents_between reader (pieces_from (piece ++ bytes) ts) (piece ++ (bytes ++ bound ts literals)) ≡ Some cs
  contents-other ts piece bytes literals cs h = rw (← append_assoc piece bytes (bound ts literals)) h

  -- the contents of the text are those of the literals
  pub contents_of_bound : (ts : List Token) (place : ℕ) (before piece : List ℕ) (literals : List (List ℕ)) (cs : List Content) →
      first_not_alone_from place before ts ≡ None → AreReadAs reader literals cs → length literals ≡ place_count ts →
      contents_between reader (pieces_from piece ts) (piece ++ bound ts literals) ≡ Some cs
  unfolding Goal
  contents_of_bound [] place before piece [] [] a rs l = rw (after-append piece []) refl
  contents_of_bound [] place before piece [] (c' ∷ cs) a rs l = absurd rs
  contents_of_bound [] place before piece (literal' ∷ literals) cs a rs l = absurd (omega arith)
  contents_of_bound (Name name ∷ ts) place before piece [] cs a rs l = absurd (omega arith)
  contents_of_bound (Name name ∷ ts) place before piece (literal' ∷ literals) [] a rs l = absurd rs
  contents_of_bound (Name name ∷ ts) place before piece (literal' ∷ literals) (c' ∷ cs) a rs l =
      let p = place_alone place before (bytes_of (Name name)) ts a in
      rw (after-append piece (literal' ++ bound ts literals)) (then_law ts (place + 1) (before ++ bytes_of (Name name)) [] literals cs p.1 rs.1 (omega arith) literal' c' rs.0 p.0)
  contents_of_bound (Mark ∷ ts) place before piece [] cs a rs l = absurd (omega arith)
  contents_of_bound (Mark ∷ ts) place before piece (literal' ∷ literals) [] a rs l = absurd rs
  contents_of_bound (Mark ∷ ts) place before piece (literal' ∷ literals) (c' ∷ cs) a rs l =
      let p = place_alone place before (bytes_of Mark) ts a in
      rw (after-append piece (literal' ++ bound ts literals)) (then_law ts (place + 1) (before ++ bytes_of Mark) [] literals cs p.1 rs.1 (omega arith) literal' c' rs.0 p.0)
  contents_of_bound (t ∷ ts) place before piece literals cs a rs l =
      contents-other ts piece (bytes_of t) literals cs (contents_of_bound ts place (before ++ bytes_of t) (piece ++ bytes_of t) literals cs a rs l)
