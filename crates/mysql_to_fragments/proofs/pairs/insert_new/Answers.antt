use Rattle.std.proofs.Common.{ap, sym, ◌∙◌}
use Rattle.std.specs.Prelude.{Ok}
use Rattle.std.proofs.lemmas.Result.{err_from_is_err_and}
use Rattle.std.specs.FinMap as finite
use Rattle.mysql_to_fragments.specs.FragmentContent.{content_of}
use Rattle.mysql_to_fragments.specs.NamedContents.{content_map}
use Rattle.mysql_to_fragments.proofs.ContentMapLemmas.{content_map-insert, with_new-content, with_new-refused}
use Rattle.mysql_to_fragments.proofs.pairs.insert_new.Goals as goal

pub returns-clause-made : goal.returns-clause-made
returns-clause-made c = λ said answers.
    with_new-content (content_map c.args.entries.now.entries) c.args.name.now said c.args.answer c.in_ok-fragment.fragment c.in_ok-fragment.was answers
    ∙ ap (λ name. Ok (finite.insert (content_map c.args.entries.now.entries) name (content_of c.in_ok-fragment.fragment))) (sym c.in_ok-name.ensures.items)
    ∙ ap (λ m. Ok m) (sym (content_map-insert c.args.entries.now.entries c.insert.new.self.entries c.in_ok-name.name c.in_ok-fragment.fragment
    c.in_ok-insert.ensures.updates.3 c.in_ok-insert.ensures.updates.1))

pub returns-in_err-fragment-clause-made : goal.returns-in_err-fragment-clause-made
returns-in_err-fragment-clause-made c = λ said answers.
    let handed_on = err_from_is_err_and c.from_residual.result c.from_residual.ensures.1 in
    rw (handed_on.1, handed_on.2)
    (with_new-refused (content_map c.args.entries.now.entries) c.args.name.now said c.in_err-fragment.field-0.0 (rw c.in_err-fragment.was at answers))
