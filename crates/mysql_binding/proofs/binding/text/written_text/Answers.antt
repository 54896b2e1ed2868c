use Rattle.std.proofs.Common.{List, ℕ, sym, subst, arith}
use Rattle.mysql_named_params.specs.Reading.{OnTokensIn}
use Rattle.mysql_binding.specs.WrittenText.{IsGivenText}
use Rattle.mysql_binding.proofs.MeasuredTextLemmas.{whole_vector}
use Rattle.mysql_binding.proofs.binding.text.written_text.Goals as goal

pub returns : goal.returns
returns g c = λ given o.
    subst (λ (text : List ℕ). OnTokensIn c.args.surveyed.now.reading c.args.surveyed.now.query.now (λ ts. IsGivenText (g.F.LiteralForm.literal c.args.form.now) (g.F.LiteralForm.IsKnown c.args.form.now) ts given text))
    (sym (whole_vector c.fill_measured.new.room c.in_ok-text.text.items c.in_ok-text.text.len (omega (arith, c.fill_measured.auto.room, c.as_mut_slice.ensures.len, c.in_ok-text.ensures.len))))
    (c.fill_measured.ensures given o)
