use Rattle.std.specs.List.{list_all}
use Rattle.std.proofs.Common.{◌≡◌, ◌∙◌, ℕ, Bool, true, List, ap, length, map, subst, sym}
use Rattle.mysql_named_params.specs.LoweredNames.{lower_names}
use Rattle.mysql_named_params.specs.Places.{names}
use Rattle.mysql_named_params.specs.Reading.{IsTokensIn, OnWideTokens, wide_reading}
use Rattle.mysql_named_params.specs.Tokens.{Token, text_of}
use Rattle.mysql_named_params.proofs.ReadingLemmas.{one_reading, reading_text}
use Rattle.mysql_portable.specs.Client.{Client, IsReadBy}
use Rattle.mysql_portable.specs.FirstUnportableInClient.{IsPortableInClient}
use Rattle.mysql_portable.specs.Portable.{IsReadAs}
use Rattle.mysql_portable.specs.Quiet.{DecidesWithin, IsHonest}
use Rattle.mysql_portable.specs.Statements.{statements}
use Rattle.mysql_portable.specs.Steady.{IsSteady, is_steady}
use Rattle.mysql_portable.proofs.StatementLemmas.{read_statements}
use Rattle.mysql_binding.specs.BoundStatements.{statements_with_literals}
use Rattle.mysql_binding.specs.Replaced.{AreTokensOf, with_literal_tokens}
use Rattle.mysql_binding.proofs.BoundStatementLemmas.{length-with_literals}
use Rattle.mysql_steady_text.proofs.WideSteadyLemmas.{lowered_steady}
use Rattle.mysql_fragments.specs.FragmentText.{filled_text}
use Rattle.mysql_fragments.specs.GivenFragments.{GivenFragments}
use Rattle.mysql_bind_core.specs.Bound.{IsAssignedText, IsPortableQuery, IsTaken}
use Rattle.mysql_bind_core.specs.Entries.{IsAskedText, asked_literal, given_to}
use Rattle.mysql_bind_core.specs.Requests.{mode_of}
use Rattle.mysql_bind_core.specs.Statements.{put_in_places}
use Rattle.mysql_bind_core.specs.declared.assignment.Assignment.{Assignment}
use Rattle.mysql_bind_core.specs.declared.request.Literals.{Literals}
use Rattle.mysql_bind_core.specs.declared.request.Portability.TheVariants as portability
use Rattle.mysql_bind_core.specs.declared.request.Request.{Request}
use Rattle.mysql_bind_core.proofs.EachModeLemmas.{assigned_steady, own_mode, read_in_other, read_in_own, wide_in}
use Rattle.mysql_bind_core.proofs.FragmentTextLemmas.{alone_for, shapes_for}
use Rattle.mysql_bind_core.proofs.LoweredTextLemmas.{low_alone, low_joined, low_replaced, low_tokens}
use Rattle.mysql_bind_core.proofs.laws.written_in_clients.Goals as goal

pub returns : goal.returns
returns c = record {
  count = λ client request mode query text assignments vs honest e r w v.
      let o = w.portable_text e (mode_of request.literals) (own_mode request.literals) in
      let b = w.assigned.bound in
      wide_in request.literals mode r query w.taken.steady (λ ts. length (statements vs) ≡ length (statements ts)) (
        b.0,
        b.1,
        counted request.literals client query text b.0 vs (given_to assignments w.assigned.entries (names b.0)) honest (portable_for request query (w.taken.portable e).0 b.0 b.1) b.1 b.2
            (read_in_own request.literals mode r client honest text (λ s. assigned_steady request query assignments text s w.assigned) o.0 o.1 o.2.portable.alike o.2.no_opener vs v),
      );
  tokens = λ client request mode query text assignments us honest decides e r w.
      let own = mode_of request.literals in
      let put = put_in_places request query assignments text w.assigned in
      let o = w.portable_text e own (own_mode request.literals) in
      let b = w.assigned.bound in
      let p = portable_for request query (w.taken.portable e).0 b.0 b.1 in
      wide_in request.literals mode r query w.taken.steady (λ ts. IsReadBy client mode (text_of (lower_names ts)) us → IsReadBy client mode text (with_literal_tokens us put)) (
        b.0,
        b.1,
        λ u.
            read_in_other request.literals mode r client honest text (λ s. assigned_steady request query assignments text s w.assigned) o.0 o.1 o.2.portable.alike o.2.no_opener (with_literal_tokens us put)
            (read request.literals client query text b.0 us (given_to assignments w.assigned.entries (names b.0)) honest decides p b.1 b.2
            (read_in_own request.literals mode r client honest (text_of (lower_names b.0)) (λ s. low_steady own query b.0 b.1 (w.taken.steady s))
            (lower_names b.0) (low_tokens own query b.0 b.1) p.portable.alike p.no_opener us u)),
      );
  statements = λ request query text assignments us w.
      let b = w.assigned.bound in
      put_statements request.literals b.0 us (given_to assignments w.assigned.entries (names b.0)) text b.2;
}
  where
    low_steady : (mode : Bool) (query : List ℕ) (ts : List Token) → IsTokensIn (wide_reading mode) query ts → IsSteady query → IsSteady (text_of (lower_names ts))
    low_steady mode query ts is q =
        lowered_steady ts (subst (λ (x : List ℕ). list_all is_steady x ≡ true) (sym (reading_text (wide_reading mode) query ts is)) q)

    portable_for : (request : Request) (query : List ℕ) (o : IsPortableQuery (mode_of request.literals) query) (ts : List Token) →
        IsTokensIn (wide_reading (mode_of request.literals)) query ts → IsPortableInClient (lower_names ts)
    portable_for request query o ts is =
        subst (λ us. IsPortableInClient (lower_names us)) (one_reading (wide_reading (mode_of request.literals)) query o.0 ts o.1 is) o.2

    -- the tokens of the fragments in the mode in which the query is read
    own_tokens : (asked : Literals) (ts : List Token) (given : GivenFragments) (text : List ℕ) → (b : IsAskedText asked ts given text) →
        AreTokensOf (mode_of asked) (map (filled_text (asked_literal asked)) b.placed.fragments) b.placed.lists
    own_tokens asked ts given text b = b.placed.tokens_of_fragments (mode_of asked) (own_mode asked)

    put_statements : (asked : Literals) (ts us : List Token) (given : GivenFragments) (text : List ℕ) → (b : IsAskedText asked ts given text) →
        statements (with_literal_tokens us b.placed.lists) ≡ statements_with_literals (statements us) b.placed.lists
    put_statements asked ts us given text b =
        c.fragments_in_clients.ensures.statements (mode_of asked) us _ _ b.placed.lists (shapes_for asked ts given text b) (own_tokens asked ts given text b)

    counted : (asked : Literals) (client : Client) (query text : List ℕ) (ts vs : List Token) (given : GivenFragments) → IsHonest client.reader → IsPortableInClient (lower_names ts) →
        IsTokensIn (wide_reading (mode_of asked)) query ts → IsAskedText asked ts given text → IsReadBy client (mode_of asked) text vs → length (statements vs) ≡ length (statements ts)
    counted asked client query text ts vs given honest p is b v =
        let own = mode_of asked in
        let texts = map (filled_text (asked_literal asked)) b.placed.fragments in
        let tokens = own_tokens asked ts given text b in
        let r : IsReadAs (with_literal_tokens ts b.placed.lists) vs =
        subst (λ us. IsReadAs us vs) (low_replaced own ts texts b.placed.lists text tokens b.placed.text_is)
        (c.fragments_in_clients.ensures.read client own (text_of (lower_names ts)) text (lower_names ts) vs _ texts b.placed.lists honest (low_tokens own query ts is) p.portable.alike p.no_opener
        (low_alone own query ts is (alone_for asked ts given text b)) (shapes_for asked ts given text b) tokens (low_joined ts texts text b.placed.text_is) v) in
        read_statements r ∙ (ap length (put_statements asked ts ts given text b) ∙ length-with_literals (statements ts) b.placed.lists)

    read : (asked : Literals) (client : Client) (query text : List ℕ) (ts us : List Token) (given : GivenFragments) → IsHonest client.reader → DecidesWithin client.reader →
        IsPortableInClient (lower_names ts) → IsTokensIn (wide_reading (mode_of asked)) query ts → (b : IsAskedText asked ts given text) →
        IsReadBy client (mode_of asked) (text_of (lower_names ts)) us → IsReadBy client (mode_of asked) text (with_literal_tokens us b.placed.lists)
    read asked client query text ts us given honest decides p is b u =
        let own = mode_of asked in
        let texts = map (filled_text (asked_literal asked)) b.placed.fragments in
        c.fragments_in_clients.ensures.tokens client own (text_of (lower_names ts)) text (lower_names ts) us _ texts b.placed.lists honest decides (low_tokens own query ts is) p.portable.alike p.no_opener
        (low_alone own query ts is (alone_for asked ts given text b)) (shapes_for asked ts given text b) (own_tokens asked ts given text b) (low_joined ts texts text b.placed.text_is) u
