use Rattle.std.proofs.Common.{refl, sym, true, ◌∙◌}
use Rattle.mysql_flat_params.proofs.AnywhereTableLemmas.{is_anywhere_refusal, made_anywhere, refused_anywhere, table_made_anywhere}
use Rattle.mysql_flat_params.proofs.SteadyOutcomeLemmas.{byte_first, none_of}
use Rattle.mysql_flat_params.specs.declared.steady_room.Steadiness.TheVariants.{Anywhere}
use Rattle.mysql_flat_params.specs.declared.outcome.Outcome.TheVariants as variant
use Rattle.mysql_flat_params.proofs.anywhere_table.wide_anywhere_table_into.Goals as goal

pub returns-in-None-clause-outcome : goal.returns-in-None-clause-outcome
returns-in-None-clause-outcome c =
    table_made_anywhere c.args.query.now (none_of true Anywhere c.args.query.now _ c.query_outcome.ensures.told c.in-None.is) c.table_into_read.result c.table_into_read.ensures.outcome

pub returns-in-None-clause-made : goal.returns-in-None-clause-made
returns-in-None-clause-made c =
    made_anywhere c.args.query.now (none_of true Anywhere c.args.query.now _ c.query_outcome.ensures.told c.in-None.is) c.table_into_read.new.head c.args.room.now c.table_into_read.new.room c.table_into_read.result c.table_into_read.ensures.made

pub returns-in-Some-clause-outcome : goal.returns-in-Some-clause-outcome
returns-in-Some-clause-outcome c =
    let t = c.query_outcome.ensures.told true in
    refused_anywhere c.args.query.now c.in-Some.outcome
    (is_anywhere_refusal c.args.query.now t.0 c.in-Some.outcome (sym t.2 ∙ c.in-Some.is))
    (λ mode. let o = c.query_outcome.ensures.told mode in (o.0, o.1, sym o.2 ∙ c.in-Some.is))

-- ---- refusals without memory

pub returns-in-None-clause-unsteady : goal.returns-in-None-clause-unsteady
returns-in-None-clause-unsteady c at first =
    let o = none_of true Anywhere c.args.query.now _ c.query_outcome.ensures.told c.in-None.is true in
    let never = sym (byte_first true Anywhere c.args.query.now o.0 (variant.Unsteady at) (rw first refl)) ∙ o.2 in cc

pub returns-in-None-clause-refused : goal.returns-in-None-clause-refused
returns-in-None-clause-refused c mode =
    let o = none_of true Anywhere c.args.query.now _ c.query_outcome.ensures.told c.in-None.is mode in
    (o.0, o.1, λ told is. let never = sym is ∙ o.2 in cc)

pub returns-in-Some-clause-unsteady : goal.returns-in-Some-clause-unsteady
returns-in-Some-clause-unsteady c at first =
    let o = c.query_outcome.ensures.told true in
    let same = sym (byte_first true Anywhere c.args.query.now o.0 (variant.Unsteady at) (rw first refl)) ∙ (sym o.2 ∙ c.in-Some.is) in cc

pub returns-in-Some-clause-refused : goal.returns-in-Some-clause-refused
returns-in-Some-clause-refused c mode =
    let o = c.query_outcome.ensures.told mode in
    (o.0, o.1, λ told is. let same = sym is ∙ (sym o.2 ∙ c.in-Some.is) in cc)
