-- Guarded literals in the places of a query that stand alone: an instance of the splice law, with
-- the same tokens in both modes.
use Rattle.std.specs.Prelude.{Bool, codes}
use Rattle.std.proofs.Common.{◌≡◌, ◌++◌, ℕ, List, [], ◌∷◌, length, true, false, None, Some, refl, sym, ◌∙◌, subst, append-nil, append_assoc}
use Rattle.mysql_sql_text.specs.StringUnits.{AreUnits}
use Rattle.mysql_named_params.specs.Bytes.{single_quote, space}
use Rattle.mysql_named_params.specs.Tokens.{Token, IsTokens, Plain, QuotedString}
use Rattle.mysql_named_params.specs.Tokens.{closed_string as closed_tail}
use Rattle.mysql_named_params.specs.Places.{place_count}
use Rattle.mysql_named_params.proofs.TokenListLemmas.{one_token_list}
use Rattle.mysql_named_params.proofs.TokenRowLemmas.{text_then-text_of}
use Rattle.mysql_portable.specs.Portable.{AreReadAlikeBefore, IsReadAs}
use Rattle.mysql_portable.specs.Server.{Server, IsReadOn}
use Rattle.mysql_portable.specs.Quiet.{IsHonest, DecidesWithin}
use Rattle.mysql_binding.specs.Pieces.{pieces, joined_text}
use Rattle.mysql_binding.specs.Replaced.{AreTokensOf, with_literal_tokens}
use Rattle.mysql_binding.specs.StandsAlone.{may_stand_before, first_not_alone}
use Rattle.mysql_binding.proofs.LiteralTokenLemmas.{IsCutBefore, cut_both}
use Rattle.mysql_binding.proofs.PieceLemmas.{joined_text_count}
use Rattle.mysql_binding.proofs.SpliceLemmas.{AtPlaces, Each, HoldsAlone, IsSpliced, IsSettled, IsPlaceless, alone, as_many_lists, isolated_splice, spliced_places, spliced_portable, spliced_text}
use Rattle.mysql_binding.proofs.SplicedOnServerLemmas.{spliced_on, spliced_read}
use Rattle.mysql_binding.proofs.UpToSpliceLemmas.{opens_nothing_after}
use Rattle.mysql_steady_text.proofs.SteadySpliceLemmas as steady
use Rattle.mysql_steady_text.proofs.SteadySpliceLemmas.{HasCut, IsSteadyLiteral-cut, cut_in, space_cut}
use Rattle.mysql_steady_text.specs.GuardedShape.{IsGuardedString, guarded_string, AreGuardedStrings, one_guarded, more_guarded, spaced_guarded, IsGuardedLiteral, guarded_strings, steady_literal, AreGuardedLiterals}

-- ---- the tokens of a guarded literal

-- this text is the same tokens in both modes, whatever follows
HasCuts : List ℕ → Type 0
HasCuts text = (ts : List Token) × ((mode : Bool) → IsCutBefore mode text ts)

in_mode : (mode : Bool) (body : List ℕ) → AreUnits false single_quote body → AreUnits true single_quote body → AreUnits mode single_quote body
in_mode false body u v = u
in_mode true body u v = v

string_cuts : {string : List ℕ} → IsGuardedString string → HasCuts string
unfolding HasCuts
string_cuts (guarded_string body u v) = (
  QuotedString single_quote (body ++ single_quote ∷ []) ∷ [],
  λ mode. record {
    cut_text = append-nil (single_quote ∷ (body ++ single_quote ∷ []));
    cut_tokens = λ rest. ((refl, closed_tail body (in_mode mode body u v) refl), tt);
    cut_settled = λ rest. (refl, refl, tt);
    cut_places = refl;
  },
)

strings_cuts : {literal : List ℕ} → AreGuardedStrings literal → HasCuts literal
unfolding HasCuts
strings_cuts (one_guarded string h) = string_cuts h
strings_cuts (more_guarded string rest h hs) =
    let a = string_cuts h in
    let b = strings_cuts hs in
    (a.0 ++ b.0, λ mode. cut_both mode string rest a.0 b.0 (a.1 mode) (b.1 mode))
strings_cuts (spaced_guarded string rest h hs) =
    let a = string_cuts h in
    let b = strings_cuts hs in (
      a.0 ++ (Plain space ∷ b.0),
      λ mode.
          cut_both mode string (codes " " ++ rest) a.0 (Plain space ∷ b.0) (a.1 mode)
          (cut_both mode (codes " ") rest (Plain space ∷ []) b.0 (space_cut mode) (b.1 mode)),
    )

literal_cuts : {literal : List ℕ} → IsGuardedLiteral literal → HasCuts literal
unfolding HasCuts HasCut
literal_cuts (guarded_strings literal h) = strings_cuts h
literal_cuts (steady_literal literal h s) =
    let c = IsSteadyLiteral-cut h in
    (c.0, λ mode. cut_in mode literal c.0 s c.1)

-- the tokens of a guarded literal end where it ends, before any text, in each mode
literal_tokens : (mode other : Bool) (literal : List ℕ) (ts : List Token) → IsGuardedLiteral literal →
    IsTokens mode literal ts → IsCutBefore other literal ts
unfolding HasCuts
literal_tokens mode other literal ts h u =
    let c = literal_cuts h in
    let d = c.1 mode in
    subst (λ x. IsCutBefore other literal x) (one_token_list mode literal c.0 ts (record { text = d.cut_text; each = d.cut_tokens [] }) u) (c.1 other)

-- guarded literals have tokens
pub guarded_lists : (mode : Bool) (literals : List (List ℕ)) → AreGuardedLiterals literals → (lists : List (List Token)) × AreTokensOf mode literals lists
unfolding HasCuts
guarded_lists mode [] s = ([], tt)
guarded_lists mode (literal ∷ literals) s =
    let c = literal_cuts s.0 in
    let more = guarded_lists mode literals s.1 in
    (c.0 ∷ more.0, (record { text = (c.1 mode).cut_text; each = (c.1 mode).cut_tokens [] }, more.1))

-- the tokens of the literals in the other mode
pub tokens_of_other : (mode other : Bool) (literals : List (List ℕ)) (lists : List (List Token)) → AreGuardedLiterals literals →
    AreTokensOf mode literals lists → AreTokensOf other literals lists
tokens_of_other mode other [] [] s a = tt
tokens_of_other mode other [] (list ∷ lists) s a = absurd a
tokens_of_other mode other (literal ∷ literals) [] s a = absurd a
tokens_of_other mode other (literal ∷ literals) (list ∷ lists) s a =
    let d = literal_tokens mode other literal list s.0 a.0 in
    (record { text = d.cut_text; each = d.cut_tokens [] }, tokens_of_other mode other literals lists s.1 a.1)

-- ---- its first bytes

string_opens_nothing : {string : List ℕ} → IsGuardedString string → (before : ℕ) (rest : List ℕ) → opens_nothing_after before (string ++ rest) ≡ true
string_opens_nothing (guarded_string body u v) before rest = refl

strings_open_nothing : {literal : List ℕ} → AreGuardedStrings literal → (before : ℕ) (rest : List ℕ) → opens_nothing_after before (literal ++ rest) ≡ true
strings_open_nothing (one_guarded string h) before rest = string_opens_nothing h before rest
strings_open_nothing (more_guarded string more h hs) before rest = rw (append_assoc string more rest) (string_opens_nothing h before (more ++ rest))
strings_open_nothing (spaced_guarded string more h hs) before rest =
    rw (append_assoc string (space ∷ more) rest) (string_opens_nothing h before (space ∷ (more ++ rest)))

literal_opens_nothing : {literal : List ℕ} → IsGuardedLiteral literal → (before : ℕ) (rest : List ℕ) →
    may_stand_before before ≡ true → opens_nothing_after before (literal ++ rest) ≡ true
literal_opens_nothing (guarded_strings literal h) before rest b = strings_open_nothing h before rest
literal_opens_nothing (steady_literal literal h s) before rest b = steady.literal_opens_nothing h before rest b

-- ---- the facts of one literal, in a place that stands alone

each_spliced : (mode : Bool) (literals : List (List ℕ)) (lists : List (List Token)) → AreGuardedLiterals literals →
    AreTokensOf mode literals lists → Each (HoldsAlone (IsSpliced mode)) lists
each_spliced mode [] [] s a = tt
each_spliced mode [] (list ∷ lists) s a = absurd a
each_spliced mode (literal ∷ literals) [] s a = absurd a
each_spliced mode (literal ∷ literals) (list ∷ lists) s a = (
  λ before rest b n. record {
    tokens = (literal_tokens mode mode literal list s.0 a.0).cut_tokens rest;
    opens_nothing = rw (text_then-text_of list rest, a.0.text) (literal_opens_nothing s.0 before rest b);
  },
  each_spliced mode literals lists s.1 a.1,
)

each_settled : (mode : Bool) (literals : List (List ℕ)) (lists : List (List Token)) → AreGuardedLiterals literals →
    AreTokensOf mode literals lists → Each (HoldsAlone IsSettled) lists
each_settled mode [] [] s a = tt
each_settled mode [] (list ∷ lists) s a = absurd a
each_settled mode (literal ∷ literals) [] s a = absurd a
each_settled mode (literal ∷ literals) (list ∷ lists) s a =
    (λ before rest b n. (literal_tokens mode mode literal list s.0 a.0).cut_settled rest, each_settled mode literals lists s.1 a.1)

each_placeless : (mode : Bool) (literals : List (List ℕ)) (lists : List (List Token)) → AreGuardedLiterals literals →
    AreTokensOf mode literals lists → Each (HoldsAlone IsPlaceless) lists
each_placeless mode [] [] s a = tt
each_placeless mode [] (list ∷ lists) s a = absurd a
each_placeless mode (literal ∷ literals) [] s a = absurd a
each_placeless mode (literal ∷ literals) (list ∷ lists) s a =
    (λ before rest b n. (literal_tokens mode mode literal list s.0 a.0).cut_places, each_placeless mode literals lists s.1 a.1)

-- ---- literals in the places

module _ (mode : Bool) (text : List ℕ) (ts : List Token) (literals : List (List ℕ)) (lists : List (List Token)) (n : first_not_alone ts ≡ None) (s : AreGuardedLiterals literals) (a : AreTokensOf mode literals lists) (e : joined_text (pieces ts) literals ≡ Some text) where
  as_many : length lists ≡ place_count ts
  as_many = as_many_lists mode literals lists a ∙ joined_text_count [] ts literals text e

  spliced : AtPlaces (IsSpliced mode) space ts lists
  spliced = alone (IsSpliced mode) ts lists (each_spliced mode literals lists s a) as_many n

  settled : AtPlaces IsSettled space ts lists
  settled = alone IsSettled ts lists (each_settled mode literals lists s a) as_many n

  -- no place is left
  pub guarded_places : place_count (with_literal_tokens ts lists) ≡ 0
  guarded_places = spliced_places space ts lists (alone IsPlaceless ts lists (each_placeless mode literals lists s a) as_many n)

  module _ (query : List ℕ) (h : IsTokens mode query ts) where
    -- isolation: the tokens of the text
    pub guarded_isolated : IsTokens mode text (with_literal_tokens ts lists)
    guarded_isolated = isolated_splice mode query text ts literals lists h spliced a e

    module _ (p : AreReadAlikeBefore [] ts) where
      pub guarded_portable : AreReadAlikeBefore [] (with_literal_tokens ts lists)
      guarded_portable = spliced_portable mode space ts lists h.each p spliced settled

      -- the tokens on a server that decides within a quiet comment
      pub guarded_on : (server : Server) (us : List Token) → IsHonest server → DecidesWithin server →
          IsReadOn server mode query us → IsReadOn server mode text (with_literal_tokens us lists)
      guarded_on server us honest within u =
          subst (λ x. IsReadOn server mode x (with_literal_tokens us lists)) (spliced_text mode ts literals lists text a e)
          (spliced_on server mode query ts us lists honest within h p spliced settled u)

      -- the tokens on any honest server
      pub guarded_read : (server : Server) (vs : List Token) → IsHonest server → IsReadOn server mode text vs →
          IsReadAs (with_literal_tokens ts lists) vs
      guarded_read server vs honest v =
          spliced_read server mode ts vs lists honest h.each p spliced settled
          (subst (λ x. IsReadOn server mode x vs) (sym (spliced_text mode ts literals lists text a e)) v)
