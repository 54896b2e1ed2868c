use Rattle.std.specs.Prelude.{◌≡◌, true}
use Rattle.mysql_named_params.specs.Places.{marks}
use Rattle.mysql_binding.proofs.FoundQueryLemmas.{on_parsed, seen_on}
use Rattle.mysql_binding.proofs.binding.wide_query.WideQuery.marks.Goals as goal

pub returns : goal.returns
returns c =
    let i = on_parsed _ _ _ _ c.self.inside.found.parsed in
    seen_on true _ _ _ c.self.invariant c.self.view_is (λ ts. c.self.inside.found.survey.marks ≡ marks ts) (i.0, i.1, i.2.0.1)
