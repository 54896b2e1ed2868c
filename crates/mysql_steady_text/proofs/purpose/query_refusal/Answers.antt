use Rattle.std.specs.Prelude.{None, Some}
use Rattle.mysql_steady_text.proofs.PurposeLemmas.{clear_passes, refused_by_construct, refused_by_scope}
use Rattle.mysql_steady_text.proofs.purpose.query_refusal.Goals as goal

pub returns-then-is_clear_for : goal.returns-then-is_clear_for
returns-then-is_clear_for c =
    clear_passes c.args.query.now c.args.purpose (c.is_clear_for.ensures.steady c.if-is_clear_for.true) (c.is_clear_for.ensures.portable c.if-is_clear_for.true)

pub returns-in-Some : goal.returns-in-Some
returns-in-Some c =
    refused_by_scope c.args.query.now c.args.purpose c.scope_refusal.result c.scope_refusal.ensures c.in-Some.refusal c.in-Some.is

pub returns-in-Some-first_construct : goal.returns-in-Some-first_construct
returns-in-Some-first_construct c =
    refused_by_construct c.args.query.now c.args.purpose c.scope_refusal.result c.scope_refusal.ensures c.in_default.is c.mode_of.result c.mode_of.ensures c.first_construct.result (Some c.in-Some-first_construct.found) c.in-Some-first_construct.is c.first_construct.ensures

pub returns-in-None : goal.returns-in-None
returns-in-None c =
    refused_by_construct c.args.query.now c.args.purpose c.scope_refusal.result c.scope_refusal.ensures c.in_default.is c.mode_of.result c.mode_of.ensures c.first_construct.result None c.in-None.is c.first_construct.ensures
