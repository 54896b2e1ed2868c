-- Fragments in the places of a query that stand alone: an instance of the splice law.
use Rattle.std.specs.Prelude.{Bool}
use Rattle.std.proofs.Common.{◌≡◌, ◌+◌, ◌++◌, ℕ, All, true, List, [], ◌∷◌, length, Some, None, arith, refl, ap, ◌∙◌, sym, subst, true≢false}
use Rattle.std.proofs.lemmas.Bool.{and_parts}
use Rattle.std.proofs.lemmas.List.Elements.{All-tail}
use Rattle.mysql_named_params.specs.Bytes.{colon, question_mark, space}
use Rattle.mysql_named_params.specs.Tokens.{Token, IsTokens, text_of, bytes_of, Name, Mark}
use Rattle.mysql_named_params.specs.Places.{names, marks, place_count, with_marks}
use Rattle.mysql_named_params.specs.Reading.{IsTokensIn}
use Rattle.mysql_named_params.specs.WideNames.{IsWideName}
use Rattle.mysql_named_params.specs.declared.places.Reading.{Reading}
use Rattle.mysql_named_params.proofs.ReparsedLemmas.{marked_reading, names_in_reading}
use Rattle.mysql_named_params.proofs.TokenListLemmas.{one_token_list}
use Rattle.mysql_named_params.proofs.TokenRowLemmas.{names-append, marks-append}
use Rattle.mysql_named_params.proofs.WideLemmas.{start_wide}
use Rattle.mysql_portable.specs.Portable.{AreReadAlikeBefore, IsReadAs}
use Rattle.mysql_portable.specs.Quiet.{IsHonest, DecidesWithin}
use Rattle.mysql_portable.specs.Server.{Server, IsReadOn}
use Rattle.mysql_portable.specs.FirstUnportableInClient.{AreSentExceptMarks}
use Rattle.mysql_binding.specs.Pieces.{pieces, joined_text}
use Rattle.mysql_binding.specs.Replaced.{AreTokensOf, with_literal_tokens}
use Rattle.mysql_binding.specs.StandsAlone.{may_stand_before, none_or_last, first_not_alone, first_not_alone_from}
use Rattle.mysql_binding.proofs.BoundAgainLemmas.{pieces-with_marks, with_literal_tokens-with_marks}
use Rattle.mysql_binding.proofs.BoundStatementLemmas.{StayWithin}
use Rattle.mysql_binding.proofs.ByteTestLemmas.{wide_byte_not_before}
use Rattle.mysql_binding.proofs.ContentsLemmas.{alone_parts}
use Rattle.mysql_binding.proofs.PieceLemmas.{joined_text_count}
use Rattle.mysql_binding.proofs.SpliceLemmas.{AtPlaces, Each, HoldsAlone, IsSpliced, IsSettled, alone, as_many_lists, first_stays, isolated_splice, spliced_portable, spliced_text}
use Rattle.mysql_binding.proofs.SplicedOnServerLemmas.{spliced_on, spliced_read}
use Rattle.mysql_fragments.specs.FragmentShape.{IsFragment, AreFragments}
use Rattle.mysql_fragments.proofs.FragmentLemmas.{fragment_list_of}
use Rattle.mysql_fragments.proofs.FragmentListLemmas.{IsFragmentList, StandAlone}
use Rattle.mysql_fragments.proofs.SentFragmentLemmas.{fragment_sent}
use Rattle.mysql_fragments.specs.SentFragments.{BeginNoWords}
use Rattle.mysql_sql_text.specs.InLine.{AreInLine}
use Rattle.mysql_binding.proofs.SentLiteralLemmas.{sent_alone}
use Rattle.mysql_binding.proofs.SentTextLemmas.{IsSentAt, spliced_sent}
use Rattle.mysql_binding.proofs.RenamedPlaceLemmas.{last-append, name_last, as_well-append, first_not_alone-with_marks}

-- the tokens of a fragment, read on its own
pub fragment_list : (mode : Bool) (n : ℕ) (text : List ℕ) (list : List Token) → IsFragment mode n text →
    IsTokens mode text list → IsFragmentList mode n text list
fragment_list mode n text list h u =
    let f = fragment_list_of mode h in
    let is : IsTokens mode text f.0 = record { text = f.1.list_text; each = f.1.list_tokens [] } in
    subst (IsFragmentList mode n text) (one_token_list mode text f.0 list is u) f.1

-- fragments have tokens
pub fragment_lists : (mode : Bool) (counts : List ℕ) (texts : List (List ℕ)) → AreFragments mode counts texts →
    (lists : List (List Token)) × AreTokensOf mode texts lists
fragment_lists mode [] [] h = ([], tt)
fragment_lists mode [] (text ∷ texts) h = absurd h
fragment_lists mode (n ∷ counts) [] h = absurd h
fragment_lists mode (n ∷ counts) (text ∷ texts) h =
    let f = fragment_list_of mode h.0 in
    let more = fragment_lists mode counts texts h.1 in
    (f.0 ∷ more.0, (record { text = f.1.list_text; each = f.1.list_tokens [] }, more.1))

-- the facts of each list, by a fact of one
each_list : (mode : Bool) (Fact : List Token → Type 0) →
    ((n : ℕ) (text : List ℕ) (list : List Token) → IsFragmentList mode n text list → Fact list) →
    (counts : List ℕ) (texts : List (List ℕ)) (lists : List (List Token)) →
    AreFragments mode counts texts → AreTokensOf mode texts lists → Each Fact lists
each_list mode Fact f [] [] [] s a = tt
each_list mode Fact f [] [] (list ∷ lists) s a = absurd a
each_list mode Fact f [] (text ∷ texts) lists s a = absurd s
each_list mode Fact f (n ∷ counts) [] lists s a = absurd s
each_list mode Fact f (n ∷ counts) (text ∷ texts) [] s a = absurd a
each_list mode Fact f (n ∷ counts) (text ∷ texts) (list ∷ lists) s a =
    (f n text list (fragment_list mode n text list s.0 a.0), each_list mode Fact f counts texts lists s.1 a.1)

-- no fragment holds a comment or a `;`
pub fragments_within : (mode : Bool) (counts : List ℕ) (texts : List (List ℕ)) (lists : List (List Token)) →
    AreFragments mode counts texts → AreTokensOf mode texts lists → Each StayWithin lists
fragments_within mode counts texts lists s a = each_list mode StayWithin (λ n text list f. f.list_within) counts texts lists s a

-- fragments that a client sends as they are
fragments_sent_each : (mode : Bool) (counts : List ℕ) (texts : List (List ℕ)) (lists : List (List Token)) → AreFragments mode counts texts →
    AreInLine texts → BeginNoWords texts → AreTokensOf mode texts lists → Each (HoldsAlone IsSentAt) lists
fragments_sent_each mode [] [] [] s k w a = tt
fragments_sent_each mode [] [] (list ∷ lists) s k w a = absurd a
fragments_sent_each mode [] (text ∷ texts) lists s k w a = absurd s
fragments_sent_each mode (n ∷ counts) [] lists s k w a = absurd s
fragments_sent_each mode (n ∷ counts) (text ∷ texts) [] s k w a = absurd a
fragments_sent_each mode (n ∷ counts) (text ∷ texts) (list ∷ lists) s k w a =
    (sent_alone mode text list (fragment_sent mode s.0 k.0 w.0) a.0, fragments_sent_each mode counts texts lists s.1 k.1 w.1 a.1)

-- ---- in the places

module _ (mode : Bool) (text : List ℕ) (ts : List Token) (counts : List ℕ) (texts : List (List ℕ)) (lists : List (List Token)) (n : first_not_alone ts ≡ None) (s : AreFragments mode counts texts) (a : AreTokensOf mode texts lists) (e : joined_text (pieces ts) texts ≡ Some text) where
  pub as_many : length lists ≡ place_count ts
  as_many = as_many_lists mode texts lists a ∙ joined_text_count [] ts texts text e

  spliced : AtPlaces (IsSpliced mode) space ts lists
  spliced =
      alone (IsSpliced mode) ts lists (each_list mode (HoldsAlone (IsSpliced mode)) (λ n text list f. λ before rest b r. record { tokens = f.list_tokens rest; opens_nothing = f.list_opens before rest b }) counts texts lists s a) as_many n

  settled : AtPlaces IsSettled space ts lists
  settled = alone IsSettled ts lists (each_list mode (HoldsAlone IsSettled) (λ n text list f. λ before rest b r. f.list_settled rest r) counts texts lists s a) as_many n

  module _ (query : List ℕ) (h : IsTokens mode query ts) where
    pub fragments_are_sent : AreInLine texts → BeginNoWords texts → AreSentExceptMarks ts → AreSentExceptMarks (with_literal_tokens ts lists)
    fragments_are_sent k w o =
        spliced_sent mode space ts lists true true h.each (alone IsSentAt ts lists (fragments_sent_each mode counts texts lists s k w a) as_many n) o

    -- the tokens of the text
    pub fragments_isolated : IsTokens mode text (with_literal_tokens ts lists)
    fragments_isolated = isolated_splice mode query text ts texts lists h spliced a e

    module _ (p : AreReadAlikeBefore [] ts) where
      pub fragments_portable : AreReadAlikeBefore [] (with_literal_tokens ts lists)
      fragments_portable = spliced_portable mode space ts lists h.each p spliced settled

      -- the tokens on a server that decides within a quiet comment
      pub fragments_on : (server : Server) (us : List Token) → IsHonest server → DecidesWithin server →
          IsReadOn server mode query us → IsReadOn server mode text (with_literal_tokens us lists)
      fragments_on server us honest within u =
          subst (λ x. IsReadOn server mode x (with_literal_tokens us lists)) (spliced_text mode ts texts lists text a e)
          (spliced_on server mode query ts us lists honest within h p spliced settled u)

      -- the tokens on any honest server
      pub fragments_read : (server : Server) (vs : List Token) → IsHonest server → IsReadOn server mode text vs →
          IsReadAs (with_literal_tokens ts lists) vs
      fragments_read server vs honest v =
          spliced_read server mode ts vs lists honest h.each p spliced settled
          (subst (λ x. IsReadOn server mode x vs) (sym (spliced_text mode ts texts lists text a e)) v)

-- the tokens of the text of a query that is read in any reading: those of the query with marks, with
-- the same fragments in their places
pub fragments_isolated_in : (reading : Reading) (query text : List ℕ) (ts : List Token) (counts : List ℕ) (texts : List (List ℕ))
    (lists : List (List Token)) → IsTokensIn reading query ts → first_not_alone ts ≡ None →
    AreFragments reading.no_backslash_escape counts texts → AreTokensOf reading.no_backslash_escape texts lists →
    joined_text (pieces ts) texts ≡ Some text → IsTokens reading.no_backslash_escape text (with_literal_tokens ts lists)
fragments_isolated_in reading query text ts counts texts lists is n s a e =
    let mode = reading.no_backslash_escape in
    let alone = first_not_alone-with_marks ts 0 0 [] [] (names_in_reading reading query ts is) (λ k. k) n in
    let exact = ap (λ ps. joined_text ps texts) (pieces-with_marks [] ts) ∙ e in
    subst (IsTokens mode text) (with_literal_tokens-with_marks ts lists (as_many mode text ts counts texts lists n s a e))
    (fragments_isolated mode text (with_marks ts) counts texts lists alone s a exact (text_of (with_marks ts)) (marked_reading reading query ts is))

-- ---- their places

-- no name is left
pub fragments_nameless : (mode : Bool) (ts : List Token) (counts : List ℕ) (texts : List (List ℕ)) (lists : List (List Token)) →
    AreFragments mode counts texts → AreTokensOf mode texts lists → length lists ≡ place_count ts →
    names (with_literal_tokens ts lists) ≡ []
fragments_nameless mode ts counts texts lists s a l = go ts lists (each_list mode (λ list. names list ≡ []) (λ n text list f. f.list_names) counts texts lists s a) l
  where
    go : (ts : List Token) (lists : List (List Token)) → Each (λ list. names list ≡ []) lists →
        length lists ≡ place_count ts → names (with_literal_tokens ts lists) ≡ []
    go [] lists e l = refl
    go (Name name ∷ ts) [] e l = absurd (omega arith)
    go (Name name ∷ ts) (list ∷ lists) e l = names-append list (with_literal_tokens ts lists) ∙ (ap (λ z. z ++ names (with_literal_tokens ts lists)) e.0 ∙ go ts lists e.1 (omega arith))
    go (Mark ∷ ts) [] e l = absurd (omega arith)
    go (Mark ∷ ts) (list ∷ lists) e l = names-append list (with_literal_tokens ts lists) ∙ (ap (λ z. z ++ names (with_literal_tokens ts lists)) e.0 ∙ go ts lists e.1 (omega arith))
    go (t ∷ ts) lists e l = go ts lists e l

abbrev pub total : List ℕ → ℕ
total [] = 0
total (n ∷ counts) = n + total counts

-- as many marks as the fragments have
pub fragments_marks : (mode : Bool) (ts : List Token) (counts : List ℕ) (texts : List (List ℕ)) (lists : List (List Token)) →
    AreFragments mode counts texts → AreTokensOf mode texts lists → length lists ≡ place_count ts →
    marks (with_literal_tokens ts lists) ≡ total counts
fragments_marks mode [] [] [] [] s a l = refl
fragments_marks mode [] (n ∷ counts) texts [] s a l = none texts s a
  where
    none : (texts : List (List ℕ)) → AreFragments mode (n ∷ counts) texts → AreTokensOf mode texts [] → 0 ≡ total (n ∷ counts)
    none [] s a = absurd s
    none (text ∷ texts) s a = absurd a
fragments_marks mode [] [] (text ∷ texts) lists s a l = absurd s
fragments_marks mode [] counts texts (list ∷ lists) s a l = absurd (omega arith)
fragments_marks mode (Name name ∷ ts) counts texts [] s a l = absurd (omega arith)
fragments_marks mode (Name name ∷ ts) [] [] (list ∷ lists) s a l = absurd a
fragments_marks mode (Name name ∷ ts) [] (text ∷ texts) (list ∷ lists) s a l = absurd s
fragments_marks mode (Name name ∷ ts) (n ∷ counts) [] (list ∷ lists) s a l = absurd a
fragments_marks mode (Name name ∷ ts) (n ∷ counts) (text ∷ texts) (list ∷ lists) s a l =
    omega (arith, marks-append list (with_literal_tokens ts lists), (fragment_list mode n text list s.0 a.0).list_marks, fragments_marks mode ts counts texts lists s.1 a.1 (omega arith))
fragments_marks mode (Mark ∷ ts) counts texts [] s a l = absurd (omega arith)
fragments_marks mode (Mark ∷ ts) [] [] (list ∷ lists) s a l = absurd a
fragments_marks mode (Mark ∷ ts) [] (text ∷ texts) (list ∷ lists) s a l = absurd s
fragments_marks mode (Mark ∷ ts) (n ∷ counts) [] (list ∷ lists) s a l = absurd a
fragments_marks mode (Mark ∷ ts) (n ∷ counts) (text ∷ texts) (list ∷ lists) s a l =
    omega (arith, marks-append list (with_literal_tokens ts lists), (fragment_list mode n text list s.0 a.0).list_marks, fragments_marks mode ts counts texts lists s.1 a.1 (omega arith))
fragments_marks mode (t ∷ ts) counts texts lists s a l = fragments_marks mode ts counts texts lists s a l

-- ---- they stand alone

-- the second text ends as well as the first
abbrev EndsAsWell : List ℕ → List ℕ → Type 0
EndsAsWell before after = none_or_last may_stand_before before ≡ true → none_or_last may_stand_before after ≡ true

-- a text that ends in a name may not be before a place
name_ends : (xs name : List ℕ) → IsWideName name → none_or_last may_stand_before (xs ++ colon ∷ name) ≡ true → ⊥
name_ends xs [] is h = absurd is
name_ends xs (b ∷ bs) is h =
    true≢false (sym h ∙ (last-append may_stand_before xs colon (b ∷ bs) ∙ name_last b bs (wide_byte_not_before b (start_wide b is.0)) is.1))

-- after a place anything ends as well
after_place : (ts : List Token) (lists : List (List Token)) (place place' : ℕ) (before before' : List ℕ) →
    All IsWideName (names ts) → Each StandAlone lists → length lists ≡ place_count ts →
    EndsAsWell before before' → first_not_alone_from place before ts ≡ None →
    first_not_alone_from place' before' (with_literal_tokens ts lists) ≡ None
after_place [] lists place place' before before' h s l e n = refl
after_place (Name name ∷ ts) [] place place' before before' h s l e n = absurd (omega arith)
after_place (Name name ∷ ts) (list ∷ lists) place place' before before' h s l e n =
    let p = alone_parts _ _ _ n in
    let q = and_parts (none_or_last may_stand_before before) _ p.0 in
    s.0 (with_literal_tokens ts lists) (first_stays ts lists q.1)
    (λ place'' before''. after_place ts lists (place + 1) place'' (before ++ bytes_of (Name name)) before'' (All-tail IsWideName name (names ts) h) s.1 (omega arith)
    (λ k. absurd (name_ends before name (h 0 name (omega arith)) k)) p.1)
    place' before' (e q.0)
after_place (Mark ∷ ts) [] place place' before before' h s l e n = absurd (omega arith)
after_place (Mark ∷ ts) (list ∷ lists) place place' before before' h s l e n =
    let p = alone_parts _ _ _ n in
    let q = and_parts (none_or_last may_stand_before before) _ p.0 in
    s.0 (with_literal_tokens ts lists) (first_stays ts lists q.1)
    (λ place'' before''. after_place ts lists (place + 1) place'' (before ++ bytes_of Mark) before'' h s.1 (omega arith)
    (λ k. absurd (true≢false (sym k ∙ last-append may_stand_before before question_mark []))) p.1)
    place' before' (e q.0)
after_place (t ∷ ts) lists place place' before before' h s l e n =
    after_place ts lists place place' (before ++ bytes_of t) (before' ++ bytes_of t) h s l (as_well-append before before' _ _) n

pub fragments_stand_alone : (mode : Bool) (ts : List Token) (counts : List ℕ) (texts : List (List ℕ))
    (lists : List (List Token)) → All IsWideName (names ts) → AreFragments mode counts texts → AreTokensOf mode texts lists →
    length lists ≡ place_count ts → first_not_alone ts ≡ None → first_not_alone (with_literal_tokens ts lists) ≡ None
fragments_stand_alone mode ts counts texts lists wide s a l n =
    after_place ts lists 0 0 [] [] wide (each_list mode StandAlone (λ n text list f. f.list_alone) counts texts lists s a) l (λ k. k) n
