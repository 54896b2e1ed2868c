use Rattle.std.proofs.Common.{◌≡◌, ℕ, List, subst}
use Rattle.mysql_named_params.specs.Places.{names}
use Rattle.mysql_named_params.specs.Reading.{OnTokensIn, OnWideTokens, wide_reading}
use Rattle.mysql_named_params.specs.Tokens.{Token}
use Rattle.mysql_named_params.specs.declared.places.Reading.{Reading}
use Rattle.mysql_named_params.proofs.ReadingLemmas.{one_reading}
use Rattle.mysql_fragments.specs.GivenFragments.{GivenFragments, fragment_map, given_fragments}
use Rattle.mysql_bind_core.specs.Bound.{IsAssignedText}
use Rattle.mysql_bind_core.specs.Entries.{IsAskedText, given_to}
use Rattle.mysql_bind_core.specs.Refusals.{IsFragmentsRefusal, IsRefusal, of_fragments}
use Rattle.mysql_bind_core.specs.Requests.{mode_of}
use Rattle.mysql_bind_core.proofs.BindingLemmas.{if_ok, if_err}
use Rattle.mysql_bind_core.proofs.fragments_text.fragments_text.Goals as goal

-- what holds of the fragments that are given holds of them as the assignments give them
given_on : (reading : Reading) (query : List ℕ) (given : GivenFragments) (by : List (List ℕ) → GivenFragments) (P : List Token → GivenFragments → Type 0) →
    OnTokensIn reading query (λ ts. given ≡ by (names ts)) → OnTokensIn reading query (λ ts. P ts given) → OnTokensIn reading query (λ ts. P ts (by (names ts)))
given_on reading query given by P o b =
    let same : given ≡ by (names b.0) = subst (λ us. given ≡ by (names us)) (one_reading reading query o.0 b.0 o.1 b.1) o.2 in
    (b.0, b.1, subst (P b.0) same b.2)

pub returns-clause-bound : goal.returns-clause-bound
returns-clause-bound c =
    let request = c.args.request in
    let query = c.args.query.now.query.now in
    let assignments = c.args.assignments.now in
    let entries = fragment_map c.in_ok-entries.entries.entries in
    let found = c.in_ok-entries.ensures.given in
    let given = given_fragments c.given_to-fragments.result in
    let o = subst (λ (r : Reading). OnTokensIn r query (λ ts. given ≡ given_to assignments entries (names ts))) c.requires.reading c.given_to-fragments.ensures in
    if_ok c.named_text.result
    (λ text. OnWideTokens (mode_of request.literals) query (λ ts. IsAskedText request.literals ts given text.items))
    (λ text. IsAssignedText request query assignments text.items)
    (λ text bound. record {
      pairs = found.0;
      entries = entries;
      contents_are = found.1;
      entries_are = found.2;
      bound = given_on (wide_reading (mode_of request.literals)) query given (given_to assignments entries) (λ ts g. IsAskedText request.literals ts g text.items) o bound;
    })
    c.named_text.ensures.bound

pub returns-clause-refused : goal.returns-clause-refused
returns-clause-refused c =
    let request = c.args.request in
    let query = c.args.query.now.query.now in
    let assignments = c.args.assignments.now in
    let entries = fragment_map c.in_ok-entries.entries.entries in
    let found = c.in_ok-entries.ensures.given in
    let given = given_fragments c.given_to-fragments.result in
    let o = subst (λ (r : Reading). OnTokensIn r query (λ ts. given ≡ given_to assignments entries (names ts))) c.requires.reading c.given_to-fragments.ensures in
    if_err c.named_text.result
    (λ why. OnWideTokens (mode_of request.literals) query (λ ts. IsFragmentsRefusal request.literals ts given why))
    (IsRefusal request query assignments)
    (λ why refused. of_fragments c.requires.taken found.0 entries found.1 found.2
    (given_on (wide_reading (mode_of request.literals)) query given (given_to assignments entries) (λ ts g. IsFragmentsRefusal request.literals ts g why) o refused))
    c.named_text.ensures.refused
