use Rattle.std.specs.Prelude.{Result, Option, IfOk, IfSome, Err, Some, None}
use Rattle.std.proofs.Common.{◌≡◌, ◌∙◌, ap, ℕ, List, map, sym, Ok}
use Rattle.std.specs.Borrow.{Bor}
use Rattle.mysql_values.specs.declared.value.Value.{Value}
use Rattle.mysql_values.specs.declared.value.ValueRef.{ValueRef}
use Rattle.mysql_params_core.specs.Given.{Given}
use Rattle.mysql_params_core.specs.GivenBorrowed.{by_borrowed, given_by_borrowed}
use Rattle.mysql_query_core.specs.WordErrors.{seen_pair}
use Rattle.mysql_bind_core.specs.Assignments.{given_of}
use Rattle.mysql_bind_core.specs.FoundPairs.{IsPairsText}
use Rattle.mysql_bind_core.proofs.TakenQueryLemmas.{plain_text, steady_text}
use Rattle.mysql_bind_core.proofs.taken.TakenQuery.pairs_text.Goals as goal

-- pairs give what they give with their values borrowed
borrowed_give : (pairs : List (Bor (List ℕ) × Value)) (lent handed : List (Bor (List ℕ) × ValueRef)) (given : Given) → handed ≡ lent →
    map by_borrowed lent ≡ map seen_pair pairs → given_of (map by_borrowed handed) ≡ Ok given → given_of (map seen_pair pairs) ≡ Ok given
borrowed_give pairs lent handed given is_handed same gives =
    ap given_of (sym same) ∙ (ap (λ ps. given_of (map by_borrowed ps)) (sym is_handed) ∙ gives)

-- what holds of a bound text holds of the text that is kept of it
text_kept : {A E F : Type 0} (kept : Result (Option A) F) (bound : Result A E) (Q : A → Type 0) → ((a : A) → bound ≡ Ok a → Q a) →
    IfOk kept (λ found. IfSome found (λ a. bound ≡ Ok a)) → IfOk kept (λ found. IfSome found Q)
text_kept (Ok (Some a)) bound Q f h = f a h
text_kept (Ok None) bound Q f h = tt
text_kept (Err e) bound Q f h = tt

pub returns-in-Plain : goal.returns-in-Plain
returns-in-Plain c =
    let t = c.self.inside in
    let q = c.args.self.now in
    let s = c.surveyed-surveyed in
    let pairs = c.args.pairs.now in
    let params = given_by_borrowed c.in-Some.params in
    text_kept c.bound_or_none.result c.bind_surveyed_as.result (λ text. IsPairsText q.request q.query (map seen_pair pairs) text.items)
    (λ text is. record {
      given = params;
      given_is = borrowed_give pairs c.in_ok-borrowed.borrowed.items c.as_slice.result.now params c.as_slice.ensures.value c.in_ok-borrowed.ensures
          (rw c.in-Some.is at c.in_ok-params.ensures);
      bound = plain_text t.request t.parsed q c.self.invariant c.self.view_is s.result s.ensures.query s.ensures.reading params
          c.in-Plain.no_backslash_escape text.items c.in-Plain.is (rw is at c.bind_surveyed_as.ensures.text);
    })
    c.bound_or_none.ensures.bound

pub returns : goal.returns
returns c =
    let t = c.self.inside in
    let q = c.args.self.now in
    let s = c.surveyed-surveyed in
    let pairs = c.args.pairs.now in
    let params = given_by_borrowed c.in-Some.params in
    text_kept c.bound_or_none-in-Steady.result c.bind_surveyed_as-in-Steady.result (λ text. IsPairsText q.request q.query (map seen_pair pairs) text.items)
    (λ text is. record {
      given = params;
      given_is = borrowed_give pairs c.in_ok-borrowed.borrowed.items c.as_slice.result.now params c.as_slice.ensures.value c.in_ok-borrowed.ensures
          (rw c.in-Some.is at c.in_ok-params.ensures);
      bound = steady_text t.request t.parsed q c.self.invariant c.self.view_is s.result s.ensures.query s.ensures.reading params
          text.items c.in-Steady.is (rw is at c.bind_surveyed_as-in-Steady.ensures.text);
    })
    c.bound_or_none-in-Steady.ensures.bound
