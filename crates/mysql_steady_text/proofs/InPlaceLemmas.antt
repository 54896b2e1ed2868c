-- Guarded literals in the places of a query that stand alone read in these places as their contents.
use Rattle.std.specs.Prelude.{Bool, ⊤}
use Rattle.std.proofs.Common.{◌≡◌, ◌+◌, ◌++◌, ℕ, true, true≢false, List, [], ◌∷◌, length, sym, None, arith}
use Rattle.std.proofs.lemmas.Bool.{and_parts}
use Rattle.mysql_sql_text.specs.ReadLiteral.{Content}
use Rattle.mysql_named_params.specs.Bytes.{backquote, dash, hash, slash}
use Rattle.mysql_named_params.specs.Tokens.{Token, text_of, bytes_of, Plain, QuotedString, QuotedIdentifier, HashComment, DashComment, BlockComment, Name, Mark}
use Rattle.mysql_named_params.specs.Places.{place_count}
use Rattle.mysql_portable.specs.CharacterSet.{CharacterSet}
use Rattle.mysql_binding.specs.StandsAlone.{may_stand_after, may_stand_before, none_or_first, none_or_last, first_not_alone_from}
use Rattle.mysql_binding.specs.Pieces.{pieces_from}
use Rattle.mysql_binding.proofs.BoundText.{bound}
use Rattle.mysql_binding.proofs.ByteTestLemmas.{behind_ends}
use Rattle.mysql_binding.proofs.ContentsLemmas.{alone_parts}
use Rattle.mysql_binding.proofs.PieceLemmas.{joined_text-pieces_from}
use Rattle.mysql_steady_text.specs.ClientSet.{IsClientSet}
use Rattle.mysql_steady_text.specs.ReadGuarded.{AreReadOver, IsReadIn, ReadsOver}

-- each literal reads in the mode as its content
abbrev pub AreReadAs : Bool → List (List ℕ) → List Content → Type 0
AreReadAs mode [] [] = ⊤
AreReadAs mode [] (c ∷ cs) = ⊥
AreReadAs mode (literal ∷ literals) [] = ⊥
AreReadAs mode (literal ∷ literals) (c ∷ cs) = ReadsOver mode literal c × AreReadAs mode literals cs

module _ (set : CharacterSet) (client : IsClientSet set) (mode : Bool) where
  -- a literal reads before the text after a place that stands alone
  reads_before : (ts : List Token) (literal : List ℕ) (literals : List (List ℕ)) (c : Content) → ReadsOver mode literal c →
      none_or_first may_stand_after (text_of ts) ≡ true → IsReadIn set mode (literal ++ bound ts literals) c (bound ts literals)
  reads_before [] literal literals c r h = r set client [] tt
  reads_before (QuotedString quote tail ∷ ts) literal literals c r h = r set client _ (behind_ends quote h)
  reads_before (QuotedIdentifier tail ∷ ts) literal literals c r h = r set client _ (behind_ends backquote h)
  reads_before (HashComment tail ∷ ts) literal literals c r h = r set client _ (behind_ends hash h)
  reads_before (DashComment gap tail ∷ ts) literal literals c r h = r set client _ (behind_ends dash h)
  reads_before (BlockComment tail ∷ ts) literal literals c r h = r set client _ (behind_ends slash h)
  reads_before (Name name ∷ ts) literal literals c r h = absurd (true≢false (sym h))
  reads_before (Mark ∷ ts) literal literals c r h = absurd (true≢false (sym h))
  reads_before (Plain b ∷ ts) literal literals c r h = r set client _ (behind_ends b h)

  -- the first literal, and those after it
  in_place_more : (ts : List Token) (piece literal : List ℕ) (literals : List (List ℕ)) (c : Content) (cs : List Content) →
      ReadsOver mode literal c → none_or_first may_stand_after (text_of ts) ≡ true → length literals ≡ place_count ts →
      AreReadOver set mode (pieces_from [] ts) literals cs → AreReadOver set mode (piece ∷ pieces_from [] ts) (literal ∷ literals) (c ∷ cs)
  in_place_more ts piece literal literals c cs r n l more =
      ((bound ts literals, joined_text-pieces_from [] ts literals l, reads_before ts literal literals c r n), more)

  -- each literal reads in its place
  pub in_place : (ts : List Token) (place : ℕ) (before piece : List ℕ) (literals : List (List ℕ)) (cs : List Content) →
      first_not_alone_from place before ts ≡ None → AreReadAs mode literals cs → length literals ≡ place_count ts →
      AreReadOver set mode (pieces_from piece ts) literals cs
  in_place [] place before piece [] [] a rs l = tt
  in_place [] place before piece [] (c ∷ cs) a rs l = absurd rs
  in_place [] place before piece (literal ∷ literals) cs a rs l = absurd (omega arith)
  in_place (Name name ∷ ts) place before piece [] cs a rs l = absurd (omega arith)
  in_place (Name name ∷ ts) place before piece (literal ∷ literals) [] a rs l = absurd rs
  in_place (Name name ∷ ts) place before piece (literal ∷ literals) (c ∷ cs) a rs l =
      let same : length literals ≡ place_count ts = omega arith in
      let p = alone_parts _ _ _ a in
      in_place_more ts piece literal literals c cs rs.0 (and_parts (none_or_last may_stand_before before) _ p.0).1 same (in_place ts (place + 1) (before ++ bytes_of (Name name)) [] literals cs p.1 rs.1 same)
  in_place (Mark ∷ ts) place before piece [] cs a rs l = absurd (omega arith)
  in_place (Mark ∷ ts) place before piece (literal ∷ literals) [] a rs l = absurd rs
  in_place (Mark ∷ ts) place before piece (literal ∷ literals) (c ∷ cs) a rs l =
      let same : length literals ≡ place_count ts = omega arith in
      let p = alone_parts _ _ _ a in
      in_place_more ts piece literal literals c cs rs.0 (and_parts (none_or_last may_stand_before before) _ p.0).1 same (in_place ts (place + 1) (before ++ bytes_of Mark) [] literals cs p.1 rs.1 same)
  in_place (t ∷ ts) place before piece literals cs a rs l =
      in_place ts place (before ++ bytes_of t) (piece ++ bytes_of t) literals cs a rs l
