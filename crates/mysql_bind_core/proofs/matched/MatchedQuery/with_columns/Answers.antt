use Rattle.std.specs.Prelude.{Option, Some, None, alloc_error}
use Rattle.std.specs.Global.{Vec}
use Rattle.std.specs.Option.{IfSome}
use Rattle.std.proofs.Common.{◌≡◌, ◌<◌, ℕ, Err, List, true, ap, inl, length, refl, subst, sym, arith}
use Rattle.std.proofs.lemmas.List.{length-map}
use Rattle.mysql_named_params.specs.Places.{names}
use Rattle.mysql_named_params.specs.Reading.{OnWideTokens}
use Rattle.mysql_params_core.specs.Referents.{referents}
use Rattle.mysql_binding.specs.ParsedQuery.{QueryInMode}
use Rattle.mysql_bind_core.specs.Bound.{IsTaken}
use Rattle.mysql_bind_core.specs.Cells.{AreNumbersOf, are_distinct_names}
use Rattle.mysql_bind_core.specs.MatchedQuery.{HaveNumbers}
use Rattle.mysql_bind_core.specs.TakenQuery.{RequestedQuery, in_its_mode}
use Rattle.mysql_bind_core.specs.declared.failure.Failure.TheVariants.{Memory}
use Rattle.mysql_bind_core.proofs.BindingLemmas.{was_error}
use Rattle.mysql_bind_core.proofs.matched.MatchedQuery.with_columns.Goals as goal

have_numbers : (query : QueryInMode) (columns : List (List ℕ)) (count : ℕ) (numbers : Option (Vec ℕ)) → length columns ≡ count →
    IfSome numbers (λ n. are_distinct_names columns ≡ true) → IfSome numbers (λ n. 0 < count) → IfSome numbers (λ n. 0 < length n.items) →
    IfSome numbers (λ n. OnWideTokens query.mode query.query (λ ts. AreNumbersOf columns (names ts) n.items)) →
    IfSome numbers (λ n. HaveNumbers query columns n.items)
have_numbers query columns count None e distinct some asked are = tt
have_numbers query columns count (Some n) e distinct some asked are = record { some = omega (arith, some, e); asked = asked; distinct = distinct; are = are }

pub invariant_of-result : goal.invariant_of-result
invariant_of-result c =
    let taken = c.in_ok-taken.taken in
    let parsed = c.parsed.result.now in
    let same : parsed ≡ in_its_mode taken = rw (sym c.parsed.ensures.query, sym c.parsed.ensures.mode) refl in
    record {
      is_taken = subst (λ (w : RequestedQuery). IsTaken w.request w.query) (sym c.in_ok-taken.ensures.query) c.in_ok-taken.ensures.taken;
      numbered = subst (λ (q : QueryInMode). IfSome c.in_ok-numbers.numbers (λ n. HaveNumbers q (referents c.args.columns.now) n.items)) same
          (have_numbers parsed (referents c.args.columns.now) (length c.args.columns.now) c.in_ok-numbers.numbers (length-map c.args.columns.now (λ r. r.now)) c.in_ok-numbers.ensures.distinct c.in_ok-numbers.ensures.some c.in_ok-numbers.ensures.asked c.in_ok-numbers.ensures.numbers);
    }

pub returns-in_err-taken-clause-memory : goal.returns-in_err-taken-clause-memory
returns-in_err-taken-clause-memory c = λ memory.
    c.in_err-taken.ensures.memory (ap (λ e. Err e) (was_error c.from_residual.result c.in_err-taken.field-0.0 (Memory alloc_error) c.from_residual.ensures.1 memory))

pub returns-in_err-numbers-clause-memory : goal.returns-in_err-numbers-clause-memory
returns-in_err-numbers-clause-memory c = λ memory. inl c.in_ok-taken.ensures.taken
