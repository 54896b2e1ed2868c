-- Steady literals in the places of a query that stand alone: an instance of the splice law.
use Rattle.std.specs.Prelude.{Bool, codes}
use Rattle.std.specs.List.{list_all}
use Rattle.std.proofs.Common.{◌≡◌, ◌++◌, ℕ, List, [], ◌∷◌, length, true, None, Some, refl, sym, ◌∙◌, subst}
use Rattle.std.proofs.lemmas.Bool.{and_from}
use Rattle.std.proofs.lemmas.List.Folds.{list_all-append}
use Rattle.mysql_sql_text.specs.LiteralShape.{hexadecimal_literal, quoted_literal}
use Rattle.mysql_named_params.specs.Bytes.{colon, space, underscore}
use Rattle.mysql_named_params.specs.Tokens.{Token, bytes_of, text_of, IsTokens, Plain, QuotedString, QuotedIdentifier, HashComment, DashComment, BlockComment, Name, Mark}
use Rattle.mysql_named_params.specs.Places.{place_count}
use Rattle.mysql_named_params.proofs.TokenEnds.{plain_at}
use Rattle.mysql_named_params.proofs.TokenListLemmas.{one_token_list}
use Rattle.mysql_named_params.proofs.TokenRowLemmas.{text_then-text_of}
use Rattle.mysql_portable.specs.Portable.{AreReadAlikeBefore, IsReadAs}
use Rattle.mysql_portable.specs.Server.{Server, IsReadOn}
use Rattle.mysql_portable.specs.Quiet.{IsHonest, DecidesWithin}
use Rattle.mysql_portable.specs.Steady.{is_steady}
use Rattle.mysql_portable.specs.CharacterSet.{CharacterSet, seen}
use Rattle.mysql_portable.proofs.OtherModeLemmas.{all_parts, tokens_before_other}
use Rattle.mysql_portable.proofs.SteadyLemmas.{steady_tokens, steady_other, steady_seen}
use Rattle.mysql_binding.specs.Pieces.{pieces, joined_text}
use Rattle.mysql_binding.specs.Replaced.{AreTokensOf, with_literal_tokens}
use Rattle.mysql_binding.specs.StandsAlone.{may_stand_before, first_not_alone}
use Rattle.mysql_binding.proofs.BoundText.{bound}
use Rattle.mysql_binding.proofs.LiteralTokenLemmas.{IsCutBefore, IsLiteral-cut, IsLiteral-opens_nothing, alphanumeric_cut, cut_both, other}
use Rattle.mysql_binding.proofs.PieceLemmas.{joined_text_count, joined_text_is}
use Rattle.mysql_binding.proofs.SpliceLemmas.{AtPlaces, Each, HoldsAlone, IsSpliced, IsSettled, IsPlaceless, alone, as_many_lists, isolated_splice, spliced_places, spliced_portable, spliced_text}
use Rattle.mysql_binding.proofs.SplicedOnServerLemmas.{spliced_on, spliced_read}
use Rattle.mysql_binding.proofs.UpToSpliceLemmas.{opens_nothing_after}
use Rattle.mysql_steady_text.specs.SteadyShape.{IsSteadyLiteral, bare_literal, introduced_string, introduced_pairs}
use Rattle.mysql_steady_text.specs.SteadyLiterals.{AreSteadyLiterals}

-- ---- the tokens of a steady literal

underscore_cut : (mode : Bool) → IsCutBefore mode (codes "_") (Plain underscore ∷ [])
underscore_cut mode = record {
  cut_text = refl;
  cut_tokens = λ rest. (plain_at mode underscore rest refl, tt);
  cut_settled = λ rest. (refl, refl, tt);
  cut_places = refl;
}

pub space_cut : (mode : Bool) → IsCutBefore mode (codes " ") (Plain space ∷ [])
space_cut mode = record {
  cut_text = refl;
  cut_tokens = λ rest. (plain_at mode space rest refl, tt);
  cut_settled = λ rest. (refl, refl, tt);
  cut_places = refl;
}

unfoldable pub HasCut : Bool → List ℕ → Type 0
HasCut mode text = (ts : List Token) × IsCutBefore mode text ts

both_cut : (mode : Bool) (text more : List ℕ) → HasCut mode text → HasCut mode more → HasCut mode (text ++ more)
unfolding HasCut
both_cut mode text more a b = (a.0 ++ b.0, cut_both mode text more a.0 b.0 a.1 b.1)

introducer_cut : (mode : Bool) → HasCut mode (codes "_utf8mb4")
unfolding HasCut
introducer_cut mode = both_cut mode (codes "_") (codes "utf8mb4") (_, underscore_cut mode) (alphanumeric_cut mode (codes "utf8mb4") refl)

pub IsSteadyLiteral-cut : {literal : List ℕ} → IsSteadyLiteral literal → HasCut true literal
unfolding HasCut
IsSteadyLiteral-cut (bare_literal literal h) = IsLiteral-cut true h
IsSteadyLiteral-cut (introduced_string literal h) =
    both_cut true (codes "_utf8mb4") literal (introducer_cut true) (IsLiteral-cut true (quoted_literal literal h))
IsSteadyLiteral-cut (introduced_pairs pairs h) =
    both_cut true (codes "_utf8mb4") (codes " " ++ (codes "0x" ++ pairs)) (introducer_cut true)
    (both_cut true (codes " ") (codes "0x" ++ pairs) (_, space_cut true) (IsLiteral-cut true (hexadecimal_literal pairs h)))

-- a steady text without a backslash has the same tokens in both modes, before any text
pub cut_in : (mode : Bool) (literal : List ℕ) (ts : List Token) → list_all is_steady literal ≡ true →
    IsCutBefore true literal ts → IsCutBefore mode literal ts
cut_in mode literal ts s c = record {
  cut_text = c.cut_text;
  cut_tokens = λ rest. tokens_before_other true mode rest ts (steady_tokens ts (subst (λ x. list_all is_steady x ≡ true) (sym c.cut_text) s)) (c.cut_tokens rest);
  cut_settled = c.cut_settled;
  cut_places = c.cut_places;
}

-- the tokens of a steady literal end where it ends, before any text
literal_tokens : (mode : Bool) (literal : List ℕ) (ts : List Token) → IsSteadyLiteral literal →
    list_all is_steady literal ≡ true → IsTokens mode literal ts → IsCutBefore mode literal ts
unfolding HasCut
literal_tokens mode literal ts h s u =
    let c = IsSteadyLiteral-cut h in
    let d = cut_in mode literal c.0 s c.1 in
    subst (λ x. IsCutBefore mode literal x) (one_token_list mode literal c.0 ts (record { text = d.cut_text; each = d.cut_tokens [] }) u) d

-- steady literals have tokens
pub steady_lists : (literals : List (List ℕ)) → AreSteadyLiterals literals → (lists : List (List Token)) × AreTokensOf true literals lists
unfolding HasCut
steady_lists [] s = ([], tt)
steady_lists (literal ∷ literals) s =
    let c = IsSteadyLiteral-cut s.0 in
    let more = steady_lists literals s.2 in
    (c.0 ∷ more.0, (record { text = c.1.cut_text; each = c.1.cut_tokens [] }, more.1))

-- ---- its first bytes

introducer_opens_nothing : (before : ℕ) (bs : List ℕ) → may_stand_before before ≡ true →
    opens_nothing_after before (underscore ∷ bs) ≡ true
introducer_opens_nothing before bs h = rw (other may_stand_before before colon h refl) refl

pub literal_opens_nothing : {literal : List ℕ} → IsSteadyLiteral literal → (before : ℕ) (rest : List ℕ) →
    may_stand_before before ≡ true → opens_nothing_after before (literal ++ rest) ≡ true
literal_opens_nothing (bare_literal literal h) before rest b = IsLiteral-opens_nothing true h before rest
literal_opens_nothing (introduced_string literal h) before rest b = introducer_opens_nothing before (codes "utf8mb4" ++ (literal ++ rest)) b
literal_opens_nothing (introduced_pairs pairs h) before rest b = introducer_opens_nothing before (codes "utf8mb4 0x" ++ (pairs ++ rest)) b

-- ---- the facts of one literal, in a place that stands alone

each_spliced : (mode : Bool) (literals : List (List ℕ)) (lists : List (List Token)) → AreSteadyLiterals literals →
    AreTokensOf mode literals lists → Each (HoldsAlone (IsSpliced mode)) lists
each_spliced mode [] [] s a = tt
each_spliced mode [] (list ∷ lists) s a = absurd a
each_spliced mode (literal ∷ literals) [] s a = absurd a
each_spliced mode (literal ∷ literals) (list ∷ lists) s a = (
  λ before rest b n. record {
    tokens = (literal_tokens mode literal list s.0 s.1 a.0).cut_tokens rest;
    opens_nothing = rw (text_then-text_of list rest, a.0.text) (literal_opens_nothing s.0 before rest b);
  },
  each_spliced mode literals lists s.2 a.1,
)

each_settled : (mode : Bool) (literals : List (List ℕ)) (lists : List (List Token)) → AreSteadyLiterals literals →
    AreTokensOf mode literals lists → Each (HoldsAlone IsSettled) lists
each_settled mode [] [] s a = tt
each_settled mode [] (list ∷ lists) s a = absurd a
each_settled mode (literal ∷ literals) [] s a = absurd a
each_settled mode (literal ∷ literals) (list ∷ lists) s a =
    (λ before rest b n. (literal_tokens mode literal list s.0 s.1 a.0).cut_settled rest, each_settled mode literals lists s.2 a.1)

each_placeless : (mode : Bool) (literals : List (List ℕ)) (lists : List (List Token)) → AreSteadyLiterals literals →
    AreTokensOf mode literals lists → Each (HoldsAlone IsPlaceless) lists
each_placeless mode [] [] s a = tt
each_placeless mode [] (list ∷ lists) s a = absurd a
each_placeless mode (literal ∷ literals) [] s a = absurd a
each_placeless mode (literal ∷ literals) (list ∷ lists) s a =
    (λ before rest b n. (literal_tokens mode literal list s.0 s.1 a.0).cut_places, each_placeless mode literals lists s.2 a.1)

-- the tokens of the literals in the other mode
pub tokens_of_other : (mode other : Bool) (literals : List (List ℕ)) (lists : List (List Token)) → AreSteadyLiterals literals →
    AreTokensOf mode literals lists → AreTokensOf other literals lists
tokens_of_other mode other [] [] s a = tt
tokens_of_other mode other [] (list ∷ lists) s a = absurd a
tokens_of_other mode other (literal ∷ literals) [] s a = absurd a
tokens_of_other mode other (literal ∷ literals) (list ∷ lists) s a =
    (steady_other mode other literal list s.1 a.0, tokens_of_other mode other literals lists s.2 a.1)

-- ---- literals in the places

module _ (mode : Bool) (text : List ℕ) (ts : List Token) (literals : List (List ℕ)) (lists : List (List Token)) (n : first_not_alone ts ≡ None) (s : AreSteadyLiterals literals) (a : AreTokensOf mode literals lists) (e : joined_text (pieces ts) literals ≡ Some text) where
  as_many : length lists ≡ place_count ts
  as_many = as_many_lists mode literals lists a ∙ joined_text_count [] ts literals text e

  spliced : AtPlaces (IsSpliced mode) space ts lists
  spliced = alone (IsSpliced mode) ts lists (each_spliced mode literals lists s a) as_many n

  settled : AtPlaces IsSettled space ts lists
  settled = alone IsSettled ts lists (each_settled mode literals lists s a) as_many n

  -- no place is left
  pub steady_places : place_count (with_literal_tokens ts lists) ≡ 0
  steady_places = spliced_places space ts lists (alone IsPlaceless ts lists (each_placeless mode literals lists s a) as_many n)

  module _ (query : List ℕ) (h : IsTokens mode query ts) where
    -- isolation: the tokens of the text
    pub steady_isolated : IsTokens mode text (with_literal_tokens ts lists)
    steady_isolated = isolated_splice mode query text ts literals lists h spliced a e

    module _ (p : AreReadAlikeBefore [] ts) where
      pub steady_portable : AreReadAlikeBefore [] (with_literal_tokens ts lists)
      steady_portable = spliced_portable mode space ts lists h.each p spliced settled

      -- the tokens on a server that decides within a quiet comment
      pub steady_on : (server : Server) (us : List Token) → IsHonest server → DecidesWithin server →
          IsReadOn server mode query us → IsReadOn server mode text (with_literal_tokens us lists)
      steady_on server us honest within u =
          subst (λ x. IsReadOn server mode x (with_literal_tokens us lists)) (spliced_text mode ts literals lists text a e)
          (spliced_on server mode query ts us lists honest within h p spliced settled u)

      -- the tokens on any honest server
      pub steady_read : (server : Server) (vs : List Token) → IsHonest server → IsReadOn server mode text vs →
          IsReadAs (with_literal_tokens ts lists) vs
      steady_read server vs honest v =
          spliced_read server mode ts vs lists honest h.each p spliced settled
          (subst (λ x. IsReadOn server mode x vs) (sym (spliced_text mode ts literals lists text a e)) v)

-- ---- the text is steady

pub all_both : (xs ys : List ℕ) → list_all is_steady xs ≡ true → list_all is_steady ys ≡ true → list_all is_steady (xs ++ ys) ≡ true
all_both xs ys h k = list_all-append is_steady xs ys ∙ and_from _ _ h k

token_steady : (t : Token) (ts : List Token) (more : List ℕ) → list_all is_steady (bytes_of t ++ text_of ts) ≡ true →
    (list_all is_steady (text_of ts) ≡ true → list_all is_steady more ≡ true) → list_all is_steady (bytes_of t ++ more) ≡ true
token_steady t ts more h k =
    let p = all_parts is_steady (bytes_of t) (text_of ts) h in
    all_both (bytes_of t) more p.0 (k p.1)

bound_steady : (ts : List Token) (literals : List (List ℕ)) → list_all is_steady (text_of ts) ≡ true →
    AreSteadyLiterals literals → list_all is_steady (bound ts literals) ≡ true
bound_steady [] literals h s = refl
bound_steady (Name name ∷ ts) [] h s = token_steady (Name name) ts (bound ts []) h (λ k. bound_steady ts [] k s)
bound_steady (Name name ∷ ts) (literal ∷ literals) h s =
    all_both literal (bound ts literals) s.1 (bound_steady ts literals ((all_parts is_steady (bytes_of (Name name)) (text_of ts) h).1) s.2)
bound_steady (Mark ∷ ts) [] h s = token_steady Mark ts (bound ts []) h (λ k. bound_steady ts [] k s)
bound_steady (Mark ∷ ts) (literal ∷ literals) h s =
    all_both literal (bound ts literals) s.1 (bound_steady ts literals ((all_parts is_steady (bytes_of Mark) (text_of ts) h).1) s.2)
bound_steady (QuotedString quote tail ∷ ts) literals h s = token_steady (QuotedString quote tail) ts (bound ts literals) h (λ k. bound_steady ts literals k s)
bound_steady (QuotedIdentifier tail ∷ ts) literals h s = token_steady (QuotedIdentifier tail) ts (bound ts literals) h (λ k. bound_steady ts literals k s)
bound_steady (HashComment tail ∷ ts) literals h s = token_steady (HashComment tail) ts (bound ts literals) h (λ k. bound_steady ts literals k s)
bound_steady (DashComment gap tail ∷ ts) literals h s = token_steady (DashComment gap tail) ts (bound ts literals) h (λ k. bound_steady ts literals k s)
bound_steady (BlockComment tail ∷ ts) literals h s = token_steady (BlockComment tail) ts (bound ts literals) h (λ k. bound_steady ts literals k s)
bound_steady (Plain b ∷ ts) literals h s = token_steady (Plain b) ts (bound ts literals) h (λ k. bound_steady ts literals k s)

pub joined_steady : (mode : Bool) (query text : List ℕ) (ts : List Token) (literals : List (List ℕ)) → IsTokens mode query ts →
    list_all is_steady query ≡ true → AreSteadyLiterals literals → joined_text (pieces ts) literals ≡ Some text →
    list_all is_steady text ≡ true
joined_steady mode query text ts literals h q s e =
    subst (λ x. list_all is_steady x ≡ true) (sym (joined_text_is ts literals text e))
    (bound_steady ts literals (subst (λ x. list_all is_steady x ≡ true) (sym h.text) q) s)

pub joined_seen : (set : CharacterSet) (mode : Bool) (query text : List ℕ) (ts : List Token) (literals : List (List ℕ)) →
    IsTokens mode query ts → list_all is_steady query ≡ true → AreSteadyLiterals literals →
    joined_text (pieces ts) literals ≡ Some text → seen set text ≡ text
joined_seen set mode query text ts literals h q s e = steady_seen set text (joined_steady mode query text ts literals h q s e)
