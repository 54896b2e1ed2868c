-- The test of `QueryInMode` decides equality. This is a proof. It is here, since a law of an `impl`
-- can't cite proofs/.
use Rattle.std.specs.Prelude.{◌≡◌, Decides}
use Rattle.std.specs.Cmp.{IsEquivalence, booleans_Decides, decided, unsigned_Decides}
use Rattle.std.specs.Cmp.Lexicographic.{pointwise_decides}
use Rattle.std.proofs.Common.{ap}
use Rattle.std.proofs.lemmas.Bool.{and_parts, and_from}
use Rattle.mysql_binding.specs.ParsedQuery.{QueryInMode, same_query}

pub same_query_decides : (p q : QueryInMode) → Decides (same_query p q) (p ≡ q)
same_query_decides p q =
    let mode = booleans_Decides p.mode q.mode in
    let query = pointwise_decides unsigned_Decides p.query q.query in (
      λ h.
          let parts = and_parts _ _ h in
          let a : p.mode ≡ q.mode = mode.0 parts.0 in
          let b : p.query ≡ q.query = query.0 parts.1 in
          let same : ◌≡◌ {A = QueryInMode} (record { mode = p.mode; query = p.query })
          (record { mode = q.mode; query = q.query }) = cc in
          same,
      λ e.
          let a : p.mode ≡ q.mode = ap (λ (r : QueryInMode). r.mode) e in
          let b : p.query ≡ q.query = ap (λ (r : QueryInMode). r.query) e in
          and_from _ _ (mode.1 a) (query.1 b),
    )

pub same_query_is_equivalence : IsEquivalence same_query
same_query_is_equivalence = decided same_query same_query_decides
