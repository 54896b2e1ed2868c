-- A text that is bound ends within no token, if the query doesn't.
use Rattle.std.specs.Prelude.{Bool}
use Rattle.std.proofs.Common.{◌≡◌, ◌++◌, ◌∙◌, ℕ, true, false, List, [], ◌∷◌, None, Some, length, map, refl, sym, subst}
use Rattle.std.specs.Char.{to_ascii_lowercase}
use Rattle.std.specs.List.{list_all}
use Rattle.mysql_named_params.specs.Bytes.{newline, question_mark}
use Rattle.mysql_named_params.specs.LoweredNames.{lower_names}
use Rattle.mysql_named_params.specs.Places.{place_count}
use Rattle.mysql_named_params.specs.Reading.{IsTokensIn, wide_reading}
use Rattle.mysql_named_params.specs.WideNames.{run, widened_from}
use Rattle.mysql_named_params.specs.Tokens.{Token, IsTokens, OnTokens, AreTokensBefore, text_of, text_then, QuotedString, QuotedIdentifier, HashComment, DashComment, BlockComment, Name, Mark, Plain}
use Rattle.mysql_named_params.proofs.LoweredLemmas.{lowered_tokens}
use Rattle.mysql_named_params.proofs.TokenEnds.{plain_at}
use Rattle.mysql_named_params.proofs.TokenRowLemmas.{text_then-append, AreTokensBefore-after}
use Rattle.mysql_named_params.proofs.WideLemmas.{goes_on, opens, plain_case, stays}
use Rattle.mysql_portable.specs.Steady.{holds_no_escape, HoldNoEscapes, is_steady}
use Rattle.mysql_portable.proofs.OtherModeLemmas.{tokens_before_other}
use Rattle.mysql_portable.proofs.SteadyLemmas.{steady_tokens}
use Rattle.mysql_binding.specs.Pieces.{joined_text, pieces}
use Rattle.mysql_binding.specs.Replaced.{AreLiterals, AreTokensOf, with_literal_tokens}
use Rattle.mysql_binding.proofs.ReplacedLemmas.{IsLiteral-tokens}
use Rattle.mysql_binding.proofs.PieceLemmas.{joined_text_count}
use Rattle.mysql_binding.proofs.SpliceLemmas.{Each, as_many_lists}
use Rattle.mysql_steady_text.specs.SteadyLiterals.{AreSteadyLiterals}
use Rattle.mysql_steady_text.proofs.SteadySpliceLemmas.{steady_isolated}
use Rattle.mysql_steady_text.proofs.SteadyTextLemmas.{shapes_in}
use Rattle.mysql_steady_text.proofs.WideSteadyLemmas.{with_literal_tokens-lowered}
use Rattle.mysql_fragments.specs.Expanded.{IsExpanded, IsBoundFragments}
use Rattle.mysql_fragments.specs.FragmentShape.{AreFragments}
use Rattle.mysql_fragments.specs.FragmentText.{fragment_text, mark_number}
use Rattle.mysql_fragments.specs.GivenFragments.{GivenFragments}
use Rattle.mysql_fragments.proofs.ExpandedLemmas.{expanded_shapes}
use Rattle.mysql_fragments.proofs.SplicedFragmentLemmas.{fragment_list}
use Rattle.mysql_fragments.specs.SteadyFragments.{IsSteadyFragments}
use Rattle.mysql_bind_core.specs.QueryEnd.{end, long_end}
use Rattle.mysql_bind_core.specs.ScriptTokens.{semicolon}
use Rattle.mysql_bind_core.proofs.ClosedQueryLemmas.{closed_query}
use Rattle.mysql_bind_core.proofs.LineLemmas.{line_end, EndsAtLine, EndClosed, closed_before, closed_append, closed_rest, closed_kept}

-- ---- lists of tokens in the places

closed_bound : (mode : Bool) (ts : List Token) (lists : List (List Token)) → AreTokensBefore mode [] ts →
    AreTokensBefore mode [] (with_literal_tokens ts lists) → EndClosed mode ts → Each (EndClosed mode) lists →
    EndClosed mode (with_literal_tokens ts lists)
closed_bound mode [] lists h k c e = tt
closed_bound mode (Name name ∷ ts) [] h k c e =
    closed_kept mode (Name name) ts (with_literal_tokens ts []) h.0 k.0 c (closed_bound mode ts [] h.1 k.1 (closed_rest mode (Name name) ts c) e)
closed_bound mode (Name name ∷ ts) (list ∷ lists) h k c e =
    closed_append mode list (with_literal_tokens ts lists) e.0 (closed_bound mode ts lists h.1 (AreTokensBefore-after mode list _ [] k) (closed_rest mode (Name name) ts c) e.1)
closed_bound mode (Mark ∷ ts) [] h k c e =
    closed_kept mode Mark ts (with_literal_tokens ts []) h.0 k.0 c (closed_bound mode ts [] h.1 k.1 (closed_rest mode Mark ts c) e)
closed_bound mode (Mark ∷ ts) (list ∷ lists) h k c e =
    closed_append mode list (with_literal_tokens ts lists) e.0 (closed_bound mode ts lists h.1 (AreTokensBefore-after mode list _ [] k) (closed_rest mode Mark ts c) e.1)
closed_bound mode (t ∷ ts) lists h k c e =
    closed_kept mode t ts (with_literal_tokens ts lists) h.0 k.0 c (closed_bound mode ts lists h.1 k.1 (closed_rest mode t ts c) e)

-- ---- the tokens of what stands in a place

closed_literals : (mode : Bool) (literals : List (List ℕ)) (lists : List (List Token)) → AreLiterals mode literals →
    AreTokensOf mode literals lists → Each (EndClosed mode) lists
closed_literals mode [] [] s a = tt
closed_literals mode [] (list ∷ lists) s a = absurd a
closed_literals mode (literal ∷ literals) [] s a = absurd a
closed_literals mode (literal ∷ literals) (list ∷ lists) s a =
    (closed_before mode list ((IsLiteral-tokens mode literal list s.0 a.0).cut_tokens line_end), closed_literals mode literals lists s.1 a.1)

front_before : (mode : Bool) (xs ys : List Token) (rest : List ℕ) → AreTokensBefore mode rest (xs ++ ys) →
    AreTokensBefore mode (text_then rest ys) xs
front_before mode [] ys rest h = tt
front_before mode (x ∷ xs) ys rest h = (rw (text_then-append xs ys rest) at h.0, front_before mode xs ys rest h.1)

-- a mark before a newline and `;`
marked : List Token
marked = Mark ∷ Plain newline ∷ Plain semicolon ∷ []

closed_steady : (mode : Bool) (literals : List (List ℕ)) (lists : List (List Token)) → AreSteadyLiterals literals →
    AreTokensOf mode literals lists → Each (EndClosed mode) lists
unfolding marked
closed_steady mode [] [] s a = tt
closed_steady mode [] (list ∷ lists) s a = absurd a
closed_steady mode (literal ∷ literals) [] s a = absurd a
closed_steady mode (literal ∷ literals) (list ∷ lists) s a =
    (closed_before mode list (front_before mode list (Plain newline ∷ Plain semicolon ∷ []) [] isolated.each), closed_steady mode literals lists s.2 a.1)
  where
    isolated : IsTokens mode (literal ++ line_end) (list ++ (Plain newline ∷ Plain semicolon ∷ []))
    isolated =
        steady_isolated mode (literal ++ line_end) marked (literal ∷ []) (list ∷ []) refl (s.0, s.1, tt) (a.0, tt) refl
        (question_mark ∷ line_end)
        (record { text = refl; each = (tt, (plain_at mode newline (semicolon ∷ []) refl, (plain_at mode semicolon [] refl, tt))) })

closed_fragments : (mode : Bool) (counts : List ℕ) (texts : List (List ℕ)) (lists : List (List Token)) →
    AreFragments mode counts texts → AreTokensOf mode texts lists → Each (EndClosed mode) lists
closed_fragments mode [] [] [] s a = tt
closed_fragments mode [] [] (list ∷ lists) s a = absurd a
closed_fragments mode [] (text ∷ texts) lists s a = absurd s
closed_fragments mode (n ∷ counts) [] lists s a = absurd s
closed_fragments mode (n ∷ counts) (text ∷ texts) [] s a = absurd a
closed_fragments mode (n ∷ counts) (text ∷ texts) (list ∷ lists) s a =
    (closed_before mode list ((fragment_list mode n text list s.0 a.0).list_tokens line_end), closed_fragments mode counts texts lists s.1 a.1)

-- ---- the other mode

last_other : (mode : Bool) (t : Token) → holds_no_escape t ≡ true → EndsAtLine false t → EndsAtLine mode t
last_other mode (HashComment tail) n c = tt
last_other mode (DashComment gap tail) n c = tt
last_other mode (QuotedString quote tail) n c = (tokens_before_other false mode line_end (QuotedString quote tail ∷ []) (n, tt) (c, tt)).0
last_other mode (QuotedIdentifier tail) n c = (tokens_before_other false mode line_end (QuotedIdentifier tail ∷ []) (n, tt) (c, tt)).0
last_other mode (BlockComment tail) n c = (tokens_before_other false mode line_end (BlockComment tail ∷ []) (n, tt) (c, tt)).0
last_other mode (Name name) n c = (tokens_before_other false mode line_end (Name name ∷ []) (n, tt) (c, tt)).0
last_other mode Mark n c = tt
last_other mode (Plain b) n c = (tokens_before_other false mode line_end (Plain b ∷ []) (n, tt) (c, tt)).0

closed_other : (mode : Bool) (ts : List Token) → HoldNoEscapes ts → EndClosed false ts → EndClosed mode ts
closed_other mode [] n c = tt
closed_other mode (t ∷ []) n c = last_other mode t n.0 c
closed_other mode (t ∷ u ∷ ts) n c = closed_other mode (u ∷ ts) n.1 c

-- ---- bound texts

-- the text has tokens, and ends within none
pub record HasLine (mode : Bool) (text : List ℕ) : Type 0 where
  pub tokens : List Token
  pub is : IsTokens mode text tokens
  pub closed : EndClosed mode tokens

-- ---- by wide names: the query with its names in lower case has the same literals in its places

-- one token more in front, which ends the line if none follows
ends_with : (mode : Bool) (t : Token) (us : List Token) → (us ≡ [] → EndsAtLine mode t) → EndClosed mode us → EndClosed mode (t ∷ us)
ends_with mode t [] f c = f refl
ends_with mode t (u ∷ us) f c = c

nothing_read : (ts : List Token) → widened_from false ts ≡ [] → ts ≡ []
nothing_read [] e = refl
nothing_read (Plain b ∷ ts) e = elim (plain_case false b ts) [
  | goes_on i w f ↦ absurd cc
  | opens c w f ↦ let no : Name (run ts) ∷ widened_from true ts ≡ [] = sym f ∙ e in absurd cc
  | stays i c f ↦ let no : Plain b ∷ widened_from false ts ≡ [] = sym f ∙ e in absurd cc
]
nothing_read (t ∷ ts) e = absurd cc

nothing_lowered : (ts : List Token) → lower_names ts ≡ [] → ts ≡ []
nothing_lowered [] e = refl
nothing_lowered (Name name ∷ ts) e = absurd cc
nothing_lowered (t ∷ ts) e = absurd cc

-- a name ends the line
name_ends : (mode : Bool) (name : List ℕ) (us : List Token) → AreTokensBefore mode [] (Name name ∷ us) → us ≡ [] → EndsAtLine mode (Name name)
name_ends mode name us h e = (h.0.0, refl)

-- the last token stays, if it is no part of a name
stays_last : (mode : Bool) (t : Token) (ts : List Token) → EndClosed mode (t ∷ ts) → lower_names (widened_from false ts) ≡ [] → EndsAtLine mode t
stays_last mode t ts c e =
    let none : ts ≡ [] = nothing_read ts (nothing_lowered (widened_from false ts) e) in
    subst (λ us. EndClosed mode (t ∷ us)) none c

lowered_closed : (mode inside : Bool) (own : List Token) → EndClosed mode own → AreTokensBefore mode [] (lower_names (widened_from inside own)) →
    EndClosed mode (lower_names (widened_from inside own))
lowered_closed mode inside [] c h = tt
lowered_closed mode inside (Plain b ∷ ts) c h = elim (plain_case inside b ts) [
  | goes_on i w e ↦
      subst (λ us. EndClosed mode (lower_names us)) (sym e)
      (lowered_closed mode true ts (closed_rest mode (Plain b) ts c) (subst (λ us. AreTokensBefore mode [] (lower_names us)) e h))
  | opens o w e ↦
      let k : AreTokensBefore mode [] (lower_names (Name (run ts) ∷ widened_from true ts)) = subst (λ us. AreTokensBefore mode [] (lower_names us)) e h in
      subst (λ us. EndClosed mode (lower_names us)) (sym e)
      (ends_with mode (Name (map to_ascii_lowercase (run ts))) (lower_names (widened_from true ts)) (name_ends mode (map to_ascii_lowercase (run ts)) (lower_names (widened_from true ts)) k)
      (lowered_closed mode true ts (closed_rest mode (Plain b) ts c) k.1))
  | stays i o e ↦
      let k : AreTokensBefore mode [] (lower_names (Plain b ∷ widened_from false ts)) = subst (λ us. AreTokensBefore mode [] (lower_names us)) e h in
      subst (λ us. EndClosed mode (lower_names us)) (sym e)
      (ends_with mode (Plain b) (lower_names (widened_from false ts)) (stays_last mode (Plain b) ts c)
      (lowered_closed mode false ts (closed_rest mode (Plain b) ts c) k.1))
]
lowered_closed mode inside (Name name ∷ ts) c h =
    ends_with mode (Name (map to_ascii_lowercase (name ++ run ts))) (lower_names (widened_from true ts)) (name_ends mode (map to_ascii_lowercase (name ++ run ts)) (lower_names (widened_from true ts)) h)
    (lowered_closed mode true ts (closed_rest mode (Name name) ts c) h.1)
lowered_closed mode inside (t ∷ ts) c h =
    ends_with mode t (lower_names (widened_from false ts)) (stays_last mode t ts c)
    (lowered_closed mode false ts (closed_rest mode t ts c) h.1)

-- a query that ends within no token, with its wide names in lower case
pub record IsClosedLowered (mode : Bool) (ts : List Token) : Type 0 where
  pub is : IsTokens mode (text_of (lower_names ts)) (lower_names ts)
  pub closed : EndClosed mode (lower_names ts)

pub closed_lowered : (mode : Bool) (query : List ℕ) (ts : List Token) → IsTokensIn (wide_reading mode) query ts →
    OnTokens mode (query ++ end) (λ us. None ≡ long_end us) → IsClosedLowered mode ts
closed_lowered mode query ts is closed =
    let low = lowered_tokens mode query is.0 is.1 in
    subst (IsClosedLowered mode) (sym is.2)
    (record { is = low; closed = lowered_closed mode false is.0 (closed_query mode query is.0 is.1 closed) low.each })

-- with other tokens in its places
replaced_closed : (mode : Bool) (ts : List Token) (lists : List (List Token)) → IsClosedLowered mode ts → length lists ≡ place_count ts →
    AreTokensBefore mode [] (with_literal_tokens ts lists) → Each (EndClosed mode) lists → EndClosed mode (with_literal_tokens ts lists)
replaced_closed mode ts lists h n k e =
    let same = with_literal_tokens-lowered ts lists n in
    subst (EndClosed mode) same
    (closed_bound mode (lower_names ts) lists h.is.each (subst (AreTokensBefore mode []) (sym same) k) h.closed e)

-- as many lists as places
pub places_filled : (mode : Bool) (ts : List Token) (texts : List (List ℕ)) (lists : List (List Token)) (text : List ℕ) → AreTokensOf mode texts lists →
    joined_text (pieces ts) texts ≡ Some text → length lists ≡ place_count ts
places_filled mode ts texts lists text t e = as_many_lists mode texts lists t ∙ joined_text_count [] ts texts text e

-- the tokens of an expanded query, in which no names are left
pub expanded_closed : (mode : Bool) (ts : List Token) (given : GivenFragments) (text : List ℕ) →
    IsClosedLowered mode ts → (x : IsExpanded true mode ts given text) → EndClosed mode (with_literal_tokens ts x.lists)
expanded_closed mode ts given text c x =
    replaced_closed mode ts x.lists c (places_filled mode ts (map fragment_text x.fragments) x.lists text x.tokens_of_fragments x.text_is) x.isolated.each
    (closed_fragments mode (map mark_number x.fragments) (map fragment_text x.fragments) x.lists (expanded_shapes x) x.tokens_of_fragments)

pub fragments_line : (mode : Bool) (ts : List Token) (given : GivenFragments) (text : List ℕ) →
    IsClosedLowered mode ts → IsBoundFragments mode ts given text → HasLine mode text
fragments_line mode ts given text c b =
    let us = with_literal_tokens ts b.expanded.lists in
    record {
      tokens = with_literal_tokens us b.bound.literal_tokens;
      is = b.bound.isolated;
      closed = closed_bound mode us b.bound.literal_tokens b.expanded.isolated.each b.bound.isolated.each (expanded_closed mode ts given b.query c b.expanded)
          (closed_literals mode b.bound.literals b.bound.literal_tokens b.bound.shapes b.bound.tokens_of_literals);
    }

pub steady_fragments_line : (ts : List Token) (given : GivenFragments) (text : List ℕ) →
    IsClosedLowered false ts → IsSteadyFragments ts given text → (mode : Bool) → HasLine mode text
steady_fragments_line ts given text c b mode =
    let us = with_literal_tokens ts b.expanded.lists in
    let vs : List Token = with_literal_tokens us b.bound.literal_tokens in
    let closed : EndClosed false vs = closed_bound false us b.bound.literal_tokens (b.isolated false).each (b.bound.isolated false).each (expanded_closed false ts given b.query c b.expanded)
    (closed_steady false b.bound.literals b.bound.literal_tokens (shapes_in b.bound) (b.bound.tokens_of_literals false)) in
    record {
      tokens = vs;
      is = b.bound.isolated mode;
      closed = closed_other mode vs (steady_tokens vs (subst (λ x. list_all is_steady x ≡ true) (sym (b.bound.isolated false).text) b.bound.steady)) closed;
    }
