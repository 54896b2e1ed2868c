use Rattle.std.proofs.Common.{sym, subst}
use Rattle.std.specs.Prelude.{⊤}
use Rattle.mysql_wire_part.specs.Answer.{IsAnswer}
use Rattle.mysql_flat_params.specs.FormErrors.{form_refusal}
use Rattle.mysql_flat_params.specs.FragmentContent.{content_of}
use Rattle.mysql_flat_params.proofs.FragmentsFormLemmas.{fragment_typed}
use Rattle.mysql_flat_params.proofs.fragment.eat_fragment.Goals as goal

pub returns : goal.returns
returns c =
    subst (λ expected. IsAnswer (λ fragment. (content_of fragment, c.eat_fragment_of.new.rest.0.now)) form_refusal expected ⊤ c.eat_fragment_of.result)
    (sym (fragment_typed c.args.spot.place c.args.spot.position c.args.rest.now.0.now _ c.layout_type-number.ensures c.in-len2-up.len_at_least))
    c.eat_fragment_of.ensures
