-- The test of `Parsed` decides equality. This is a proof. It is here, since a law of an `impl`
-- can't cite proofs/.
use Rattle.std.specs.Prelude.{◌≡◌, Decides}
use Rattle.std.specs.Cmp.{IsEquivalence, decided, unsigned_Decides}
use Rattle.std.specs.Cmp.Lexicographic.{pointwise_decides}
use Rattle.std.proofs.Common.{ap}
use Rattle.std.proofs.lemmas.Bool.{and_parts, and_from}
use Rattle.mysql_named_params.specs.Parsed.{Parsed, same_parsed}

pub same_parsed_decides : (p q : Parsed) → Decides (same_parsed p q) (p ≡ q)
same_parsed_decides p q =
    let texts = pointwise_decides unsigned_Decides in
    let query = texts p.query q.query in
    let params = pointwise_decides texts p.params q.params in (
      λ h.
          let parts = and_parts _ _ h in
          let a : p.query ≡ q.query = query.0 parts.0 in
          let b : p.params ≡ q.params = params.0 parts.1 in
          let same : ◌≡◌ {A = Parsed} (record { query = p.query; params = p.params })
          (record { query = q.query; params = q.params }) = cc in
          same,
      λ e.
          let a : p.query ≡ q.query = ap (λ (r : Parsed). r.query) e in
          let b : p.params ≡ q.params = ap (λ (r : Parsed). r.params) e in
          and_from _ _ (query.1 a) (params.1 b),
    )

pub same_parsed_is_equivalence : IsEquivalence same_parsed
same_parsed_is_equivalence = decided same_parsed same_parsed_decides
