use Rattle.std.proofs.Common.{false, length, ap, sym, arith, ◌≡◌, ◌∙◌}
use Rattle.mysql_binding.specs.FirstCause.{mark_count_differs}
use Rattle.mysql_fragments.proofs.BoundBorrowedLemmas.{first_is_later}
use Rattle.mysql_fragments.proofs.CauseLemmas.{same_counts}
use Rattle.mysql_fragments.proofs.bound_refs.borrowed_error.Goals as goal

pub returns-then-survey-eq0-clause-cause : goal.returns-then-survey-eq0-clause-cause
returns-then-survey-eq0-clause-cause c ts said s is =
    c.placed_error.ensures.cause ts said s is ∙ first_is_later ts said (omega (arith, is.0, c.if-survey-eq0.true))

pub returns-then-survey-eq0-clause-count : goal.returns-then-survey-eq0-clause-count
returns-then-survey-eq0-clause-count c none =
    let same : mark_count_differs 0 c.args.survey.marks (length c.args.fragments.now) ≡ false =
    ap (λ n. mark_count_differs n c.args.survey.marks (length c.args.fragments.now)) (sym c.if-survey-eq0.true) ∙ c.placed_error.ensures.count none in
    omega (arith, same_counts c.args.survey.marks (length c.args.fragments.now) same, c.if-survey-eq0.true)
