use Rattle.std.proofs.Common.{◌++◌, ◌∷◌, [], ◌∙◌, ap, append_assoc}
use Rattle.mysql_bind_core.specs.Refusals.{of_query}
use Rattle.mysql_bind_core.proofs.table.append_record.Goals as goal

pub returns-in-Ok-clause-appended : goal.returns-in-Ok-clause-appended
returns-in-Ok-clause-appended c =
    let bound = c.in_ok-append_row.ensures.bound in (
      bound.0,
      bound.1,
      c.in-Ok.ensures.items
          ∙ ap (λ s. s ++ 10 ∷ 59 ∷ 10 ∷ []) bound.2
          ∙ append_assoc c.args.script.now.items bound.0 (10 ∷ 59 ∷ 10 ∷ []),
    )

pub returns-in-Err-clause-refused : goal.returns-in-Err-clause-refused
returns-in-Err-clause-refused c = λ assignments are. of_query tt
