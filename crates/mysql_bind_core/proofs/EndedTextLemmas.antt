-- The line of a written text is read alike: with its end, the text is bound to the query with its end.
use Rattle.std.specs.Prelude.{Bool}
use Rattle.std.proofs.Common.{◌≡◌, ◌++◌, ℕ, true, false, List, [], ◌∷◌, None, Some, map, subst, sym}
use Rattle.mysql_named_params.specs.LoweredNames.{lower_names}
use Rattle.mysql_named_params.specs.Places.{names}
use Rattle.mysql_named_params.specs.Reading.{IsTokensIn, wide_reading}
use Rattle.mysql_named_params.specs.Tokens.{Token, IsTokens, text_of, text_then, Plain}
use Rattle.mysql_named_params.proofs.TokenListLemmas.{one_token_list}
use Rattle.mysql_named_params.proofs.TokenRowLemmas.{text_then-append}
use Rattle.mysql_portable.specs.Portable.{AreReadAlikeBefore}
use Rattle.mysql_portable.proofs.SteadyLemmas.{steady_other}
use Rattle.mysql_binding.specs.Pieces.{joined_text, pieces}
use Rattle.mysql_binding.specs.Replaced.{AreLiterals, AreTokensOf, with_literal_tokens}
use Rattle.mysql_binding.specs.StandsAlone.{first_not_alone}
use Rattle.mysql_binding.proofs.BoundOnServerLemmas.{bound_portable}
use Rattle.mysql_binding.proofs.ReplacedLemmas.{isolated}
use Rattle.mysql_steady_text.specs.SteadyLiterals.{AreSteadyLiterals}
use Rattle.mysql_steady_text.proofs.SteadyClientLemmas.{bound_alone}
use Rattle.mysql_steady_text.proofs.SteadySpliceLemmas.{steady_isolated, steady_portable}
use Rattle.mysql_steady_text.proofs.SteadyTextLemmas.{shapes_in}
use Rattle.mysql_fragments.specs.Expanded.{IsBoundFragments}
use Rattle.mysql_fragments.specs.FragmentShape.{AreFragments}
use Rattle.mysql_fragments.specs.FragmentText.{fragment_text, mark_number}
use Rattle.mysql_fragments.specs.GivenFragments.{GivenFragments}
use Rattle.mysql_fragments.specs.SteadyFragments.{IsSteadyFragments}
use Rattle.mysql_fragments.proofs.ExpandedLemmas.{expanded_alone, expanded_shapes}
use Rattle.mysql_fragments.proofs.SplicedFragmentLemmas.{fragments_isolated, fragments_portable}
use Rattle.mysql_bind_core.specs.Bound.{IsAssignedText, IsTaken}
use Rattle.mysql_bind_core.specs.Entries.{IsAskedText, given_to}
use Rattle.mysql_bind_core.specs.QueryEnd.{end}
use Rattle.mysql_bind_core.specs.Requests.{IsReadIn, mode_of}
use Rattle.mysql_bind_core.specs.ScriptTokens.{semicolon, with_newline}
use Rattle.mysql_bind_core.specs.declared.assignment.Assignment.{Assignment}
use Rattle.mysql_bind_core.specs.declared.request.Literals.{Literals}
use Rattle.mysql_bind_core.specs.declared.request.Literals.TheVariants as literals
use Rattle.mysql_bind_core.specs.declared.request.Portability.TheVariants as portability
use Rattle.mysql_bind_core.specs.declared.request.Request.{Request}
use Rattle.mysql_bind_core.proofs.BoundLineLemmas.{HasLine, IsClosedLowered, closed_lowered, expanded_closed, fragments_line, steady_fragments_line}
use Rattle.mysql_bind_core.proofs.EndedTokenLemmas.{alone_with_end, ended_tokens, joined_ended, lowered_ended, with_end}
use Rattle.mysql_bind_core.proofs.FragmentTextLemmas.{IsBoundFor, bound_for}
use Rattle.mysql_bind_core.proofs.LineLemmas.{EndClosed}
use Rattle.mysql_bind_core.proofs.LoweredTextLemmas.{low_alone, low_joined}

-- ---- texts in the places of a query with its end

same_end : (mode : Bool) (text : List ℕ) (vs ws : List Token) → IsTokens mode text vs → EndClosed mode vs →
    IsTokens mode (text ++ end) ws → ws ≡ with_end vs
same_end mode text vs ws v ends h = one_token_list mode (text ++ end) ws (with_end vs) h (ended_tokens mode text vs v ends)

module _ (mode : Bool) (query text : List ℕ) (ts : List Token) (is : IsTokens mode query ts) (closed : EndClosed mode ts) (alike : AreReadAlikeBefore [] (with_end ts)) (vs : List Token) (v : IsTokens mode text vs) (ends : EndClosed mode vs) where
  tokens : IsTokens mode (query ++ end) (with_end ts)
  tokens = ended_tokens mode query ts is closed

  with_literals : (literals : List (List ℕ)) (lists : List (List Token)) → AreLiterals mode literals → AreTokensOf mode literals lists →
      joined_text (pieces ts) literals ≡ Some text → AreReadAlikeBefore [] (with_end vs)
  with_literals literals lists s a e =
      let j = joined_ended ts literals text e in
      subst (AreReadAlikeBefore []) (same_end mode text vs (with_literal_tokens (with_end ts) lists) v ends
      (isolated mode (query ++ end) (text ++ end) (with_end ts) literals lists tokens s a j))
      (bound_portable mode (query ++ end) (text ++ end) (with_end ts) literals lists tokens alike s a j)

  with_steady : (literals : List (List ℕ)) (lists : List (List Token)) → first_not_alone ts ≡ None → AreSteadyLiterals literals →
      AreTokensOf mode literals lists → joined_text (pieces ts) literals ≡ Some text → AreReadAlikeBefore [] (with_end vs)
  with_steady literals lists n s a e =
      let j = joined_ended ts literals text e in
      let alone = alone_with_end ts n in
      subst (AreReadAlikeBefore []) (same_end mode text vs (with_literal_tokens (with_end ts) lists) v ends
      (steady_isolated mode (text ++ end) (with_end ts) literals lists alone s a j (query ++ end) tokens))
      (steady_portable mode (text ++ end) (with_end ts) literals lists alone s a j (query ++ end) tokens alike)

  with_fragments : (counts : List ℕ) (texts : List (List ℕ)) (lists : List (List Token)) → first_not_alone ts ≡ None →
      AreFragments mode counts texts → AreTokensOf mode texts lists → joined_text (pieces ts) texts ≡ Some text →
      AreReadAlikeBefore [] (with_end vs)
  with_fragments counts texts lists n s a e =
      let j = joined_ended ts texts text e in
      let alone = alone_with_end ts n in
      subst (AreReadAlikeBefore []) (same_end mode text vs (with_literal_tokens (with_end ts) lists) v ends
      (fragments_isolated mode (text ++ end) (with_end ts) counts texts lists alone s a j (query ++ end) tokens))
      (fragments_portable mode (text ++ end) (with_end ts) counts texts lists alone s a j (query ++ end) tokens alike)

-- ---- bound texts

closed_of : (mode : Bool) (text : List ℕ) → HasLine mode text → (vs : List Token) → IsTokens mode text vs → EndClosed mode vs
closed_of mode text l vs v = subst (EndClosed mode) (one_token_list mode text l.tokens vs l.is v) l.closed

-- a query with wide names, which with its end and with these names in lower case is read alike
record IsEnded (mode : Bool) (query : List ℕ) (ts : List Token) : Type 0 where
  is : IsTokensIn (wide_reading mode) query ts
  low : IsClosedLowered mode ts
  alike : AreReadAlikeBefore [] (with_end (lower_names ts))

fragments_alike : (mode : Bool) (query text : List ℕ) (ts vs : List Token) (given : GivenFragments) → IsEnded mode query ts →
    IsBoundFragments mode ts given text → IsTokens mode text vs → AreReadAlikeBefore [] (with_end vs)
fragments_alike mode query text ts vs given q b v =
    let x = b.expanded in
    let texts = map fragment_text x.fragments in
    let us = with_literal_tokens ts x.lists in
    let ends = expanded_closed mode ts given b.query q.low x in
    let alike = with_fragments mode (text_of (lower_names ts)) b.query (lower_names ts) q.low.is q.low.closed q.alike us x.isolated ends
    (map mark_number x.fragments) texts x.lists (low_alone mode query ts q.is (expanded_alone true mode ts given b.query x))
    (expanded_shapes x) x.tokens_of_fragments (low_joined ts texts b.query x.text_is) in
    with_literals mode b.query text us x.isolated ends alike vs v (closed_of mode text (fragments_line mode ts given text q.low b) vs v)
    b.bound.literals b.bound.literal_tokens b.bound.shapes b.bound.tokens_of_literals b.bound.text_is

steady_fragments_alike : (mode : Bool) (query text : List ℕ) (ts vs : List Token) (given : GivenFragments) → IsEnded false query ts →
    IsSteadyFragments ts given text → IsTokens mode text vs → AreReadAlikeBefore [] (with_end vs)
steady_fragments_alike mode query text ts vs given q b v =
    let own : IsTokens false text vs = steady_other mode false text vs b.bound.steady v in
    let x = b.expanded in
    let texts = map fragment_text x.fragments in
    let us = with_literal_tokens ts x.lists in
    let ends = expanded_closed false ts given b.query q.low x in
    let alike = with_fragments false (text_of (lower_names ts)) b.query (lower_names ts) q.low.is q.low.closed q.alike us (b.isolated false) ends
    (map mark_number x.fragments) texts x.lists (low_alone false query ts q.is (expanded_alone true false ts given b.query x))
    (expanded_shapes x) x.tokens_of_fragments (low_joined ts texts b.query x.text_is) in
    with_steady false b.query text us (b.isolated false) ends alike vs own
    (closed_of false text (steady_fragments_line ts given text q.low b false) vs own)
    b.bound.literals b.bound.literal_tokens (bound_alone us _ text b.bound) (shapes_in b.bound) (b.bound.tokens_of_literals false) b.bound.text_is

named_alike : (asked : Literals) (query text : List ℕ) (ts vs : List Token) (given : GivenFragments) (mode : Bool) →
    IsReadIn asked mode → IsEnded (mode_of asked) query ts → IsBoundFor asked ts given text → IsTokens mode text vs →
    AreReadAlikeBefore [] (with_end vs)
named_alike literals.Steady query text ts vs given mode r q b v = steady_fragments_alike mode query text ts vs given q b v
named_alike (literals.Plain own) query text ts vs given mode r q b v =
    fragments_alike own query text ts vs given q b (subst (λ m. IsTokens m text vs) (sym r) v)

-- ---- written texts

-- before a `;`, the newline after tokens that are read alike with their end
alike_front : (xs ys : List Token) (rest : List ℕ) → AreReadAlikeBefore rest (xs ++ ys) → AreReadAlikeBefore (text_then rest ys) xs
alike_front [] ys rest h = tt
alike_front (x ∷ xs) ys rest h = (rw (text_then-append xs ys rest) at h.0, alike_front xs ys rest h.1)

module _ (request : Request) (query : List ℕ) (taken : IsTaken request query) (e : request.portability ≡ portability.Portable) (text : List ℕ) (mode : Bool) (r : IsReadIn request.literals mode) (vs : List Token) (v : IsTokens mode text vs) where
  ended_query : (ts : List Token) → IsTokensIn (wide_reading (mode_of request.literals)) query ts → IsEnded (mode_of request.literals) query ts
  ended_query ts is =
      let p = (taken.portable e).1 in record {
        is = is;
        low = closed_lowered (mode_of request.literals) query ts is taken.closed;
        alike = subst (AreReadAlikeBefore []) (lowered_ended (mode_of request.literals) query ts p.0 is taken.closed p.1) p.2.portable.alike;
      }

  pub line_of_fragments : (ts : List Token) (given : GivenFragments) → IsTokensIn (wide_reading (mode_of request.literals)) query ts →
      IsAskedText request.literals ts given text → AreReadAlikeBefore (semicolon ∷ []) (with_newline vs)
  line_of_fragments ts given is b =
      alike_front (with_newline vs) (Plain semicolon ∷ []) []
      (named_alike request.literals query text ts vs given mode r (ended_query ts is) (bound_for request.literals query text ts given is b) v)

  pub line_of_text : (assignments : List Assignment) → IsAssignedText request query assignments text →
      AreReadAlikeBefore (semicolon ∷ []) (with_newline vs)
  line_of_text assignments x =
      let o = x.bound in
      line_of_fragments o.0 (given_to assignments x.entries (names o.0)) o.1 o.2
