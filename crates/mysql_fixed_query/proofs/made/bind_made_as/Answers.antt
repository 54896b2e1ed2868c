use Rattle.std.proofs.Common.{subst, ◌∙◌}
use Rattle.mysql_named_params.specs.Reading.{OnTokensIn}
use Rattle.mysql_params_core.specs.Given.{Given}
use Rattle.mysql_binding.specs.BindErrors.{IsCauseOrMemory}
use Rattle.mysql_binding.specs.FirstCause.{first_cause}
use Rattle.mysql_binding.specs.WrittenText.{IsGivenText}
use Rattle.mysql_fixed_query.proofs.AnswerLemmas.{made_is, memory_alone}
use Rattle.mysql_fixed_query.proofs.made.bind_made_as.Goals as goal

pub returns-in-Ok-bind_borrowed_as : goal.returns-in-Ok-bind_borrowed_as
returns-in-Ok-bind_borrowed_as g c = record {
  text = λ expected answer.
      subst (λ (h : Given). OnTokensIn c.args.reading c.args.query.now (λ ts.
      IsGivenText (g.F.LiteralForm.literal c.args.form.now) (g.F.LiteralForm.IsKnown c.args.form.now) ts h
      c.in-Ok-bind_borrowed_as.text.items))
      (c.borrowed.ensures ∙ made_is expected _ c.args.made c.in-Ok.is answer)
      c.in-Ok-bind_borrowed_as.ensures.text;
}

pub memory_of_binding-requires : goal.memory_of_binding-requires
memory_of_binding-requires g c =
    let known = c.requires.no_cause in
    let error = c.in-Err-bind_borrowed_as.error in
    memory_alone c.args.reading c.args.query.now known.0 error known.2
    (subst (λ (h : Given). OnTokensIn c.args.reading c.args.query.now (λ ts. IsCauseOrMemory (first_cause ts h) error))
    (c.borrowed.ensures ∙ made_is known.0 _ c.args.made c.in-Ok.is known.1)
    c.in-Err-bind_borrowed_as.ensures.refused)
