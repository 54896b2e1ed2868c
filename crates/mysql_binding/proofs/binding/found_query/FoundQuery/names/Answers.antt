use Rattle.std.proofs.Common.{arith, refl}
use Rattle.mysql_binding.proofs.FoundQueryLemmas.{on_parsed}
use Rattle.mysql_binding.proofs.binding.found_query.FoundQuery.names.Goals as goal

pub returns-then-self-gt0-2-clause-ok : goal.returns-then-self-gt0-2-clause-ok
returns-then-self-gt0-2-clause-ok c =
    let o = on_parsed _ _ _ _ c.args.self.now.parsed in
    (o.0, o.1, tt)

pub returns-then-self-gt0-2-clause-mixed : goal.returns-then-self-gt0-2-clause-mixed
returns-then-self-gt0-2-clause-mixed c =
    let o = on_parsed _ _ _ _ c.args.self.now.parsed in
    (o.0, o.1, (λ e. (omega (arith, o.2.0.0, c.if-self-gt0.true), omega (arith, o.2.0.1, c.if-self-gt0-2.true)), λ both. refl))

pub returns-then-self-gt0-2-clause-memory : goal.returns-then-self-gt0-2-clause-memory
returns-then-self-gt0-2-clause-memory c =
    let o = on_parsed _ _ _ _ c.args.self.now.parsed in
    (o.0, o.1, λ e. cc)
