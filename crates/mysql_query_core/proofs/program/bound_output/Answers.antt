use Rattle.std.proofs.Common.{◌∙◌, ap, inl, inr, refl}
use Rattle.std.proofs.lemmas.Result.{err_from_is_err_and}
use Rattle.std.specs.Prelude.{option_map}
use Rattle.mysql_query_core.specs.Program.{binding_cause}
use Rattle.mysql_query_core.proofs.program.bound_output.Goals as goal

pub returns-in_err-text-clause-refused : goal.returns-in_err-text-clause-refused
returns-in_err-text-clause-refused c =
    let on = c.in_err-text.ensures.refused in
    let handed_on = err_from_is_err_and c.from_residual.result c.from_residual.ensures.1 in (
      on.0,
      on.1,
      rw handed_on.1 (elim on.2 [
        | inl memory ↦ inl (handed_on.2.1 memory)
        | inr (why, first, is) ↦ inr (binding_cause why, handed_on.2.0 ∙ ap (option_map binding_cause) is, (why, first, refl))
      ]),
    )
