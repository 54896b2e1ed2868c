use Rattle.std.specs.Prelude.{alloc_error}
use Rattle.std.proofs.Common.{◌<◌, ◌∙◌, ◌++◌, ℕ, List, ap, arith, length, subst, sym}
use Rattle.mysql_binding.proofs.AppendedTextLemmas.{handed_on}
use Rattle.mysql_bind_core.specs.Groups.{AreGroupsAppended, IsGroupRefused, without_row}
use Rattle.mysql_bind_core.specs.Tables.{Fields}
use Rattle.mysql_bind_core.specs.declared.group_form.GroupRefusal.TheVariants.{Memory}
use Rattle.mysql_bind_core.proofs.GroupLemmas.{groups_none, groups_rest, so_far_group}
use Rattle.mysql_bind_core.proofs.groups.append_groups.Goals as goal

pub loop-count-init : goal.loop-count-init
loop-count-init c = groups_none c.args.query.now c.args.form.now c.args.text.now c.args.script.now.items c.requires.start c.requires.within

pub full_group-requires-clause-rest : goal.full_group-requires-clause-rest
full_group-requires-clause-rest c =
    let so_far = c.loop-count.invariant in
    groups_rest c.args.query.now c.args.form.now c.args.text.now so_far.groups so_far.appended.texts c.loop-count.rest.now so_far.appended.are

pub returns-in_err-group-clause-refused : goal.returns-in_err-group-clause-refused
returns-in_err-group-clause-refused c =
    let query = c.args.query.now in
    let form = c.args.form.now in
    let text = c.args.text.now in
    let so_far = c.loop-count.invariant in
    handed_on (λ e. (groups : List (List Fields)) × (rest : List ℕ) × AreGroupsAppended query form text groups rest c.args.script.now.items c.loop-count.script.items
    × (length groups < form.statements) × IsGroupRefused query form text rest e)
    c.from_residual.result c.in_err-group.field-0.0 c.from_residual.ensures.1
    (so_far.groups, c.loop-count.rest.now, so_far.appended, omega (arith, so_far.number, c.loop-count-test.true), c.in_err-group.ensures.refused)

pub loop-count-preserved : goal.loop-count-preserved
loop-count-preserved c =
    so_far_group c.args.query.now c.args.form.now c.args.text.now c.loop-count.rest.now c.args.script.now.items c.loop-count.script.items c.extend_from_slice.new.self.items
    c.loop-count._count c.loop-count.rows c.in_ok-group.group c.loop-count.invariant c.in_ok-group.ensures.fits c.in_ok-group.ensures.most c.in_ok-group.ensures.full
    (c.in_ok-extend_from_slice.ensures.items ∙ ap (λ s. c.loop-count.script.items ++ s) c.as_slice.ensures.value)

pub returns-in_err-extend_from_slice-clause-refused : goal.returns-in_err-extend_from_slice-clause-refused
returns-in_err-extend_from_slice-clause-refused c =
    let query = c.args.query.now in
    let form = c.args.form.now in
    let text = c.args.text.now in
    let so_far = c.loop-count.invariant in
    handed_on (λ e. (groups : List (List Fields)) × (rest : List ℕ) × AreGroupsAppended query form text groups rest c.args.script.now.items c.extend_from_slice.new.self.items
    × (length groups < form.statements) × IsGroupRefused query form text rest e)
    c.from_residual-in_err-extend_from_slice.result (Memory alloc_error) c.from_residual-in_err-extend_from_slice.ensures.1 (
      so_far.groups,
      c.loop-count.rest.now,
      subst (λ items. AreGroupsAppended query form text so_far.groups c.loop-count.rest.now c.args.script.now.items items) (sym c.in_err-extend_from_slice.ensures.items) so_far.appended,
      omega (arith, so_far.number, c.loop-count-test.true),
      without_row tt,
    )
