use Rattle.std.proofs.Common.{◌∙◌, refl, sym}
use Rattle.std.proofs.lemmas.List.{length-map, length-take-le}
use Rattle.mysql_values.specs.BorrowedValue.{owned, owned_values}
use Rattle.mysql_flat_params.proofs.FewValuesLemmas.{few_bound, some_if}
use Rattle.mysql_flat_params.proofs.few_values.bind_few.Goals as goal

pub returns-clause-text : goal.returns-clause-text
returns-clause-text g c =
    few_bound c.args.spanned.now (owned_values c.read_values.new.values) c.args.form.now (c.if-not-read_values.ensures.read refl)
    (c.if-not-has_few_marks.ensures.no_names refl) (sym (length-map c.read_values.new.values owned ∙ c.read_values.auto.values ∙ length-take-le _ _ (c.if-not-has_few_marks.ensures.few refl))) (c.if-not-has_few_marks.ensures.alone refl)
    (g.F.LiteralForm.literal c.args.literals.now) (g.F.LiteralForm.IsKnown c.args.literals.now) c.args.room.now c.write_few.new.room c.write_few.result
    c.write_few.ensures.no_float c.write_few.ensures.text c.write_few.ensures.in_room

pub returns-clause-some_form : goal.returns-clause-some_form
returns-clause-some_form g c = some_if c.args.form.now (owned_values c.read_values.new.values) (c.if-not-read_values.ensures.read refl) c.write_few.result
