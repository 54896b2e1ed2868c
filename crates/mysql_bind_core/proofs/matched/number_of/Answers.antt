use Rattle.std.proofs.Common.{◌∙◌, ℕ, List, [], Some, ap, sym}
use Rattle.std.specs.Borrow.{Bor}
use Rattle.std.specs.Option.{option_map}
use Rattle.std.proofs.lemmas.Option.{slice_get-get_or, slice_get-map}
use Rattle.mysql_bind_core.proofs.FoundPairLemmas.{same_names}
use Rattle.mysql_bind_core.proofs.matched.number_of.Goals as goal

pub returns-then-eq : goal.returns-then-eq
returns-then-eq c =
    let d : Bor (List ℕ) = record { ref_ptr = (0, 0); now = [] } in
    slice_get-map (λ (r : Bor (List ℕ)). r.now) c.args.columns.now c.in-Some.number.now
    ∙ ap (option_map (λ (r : Bor (List ℕ)). r.now)) (slice_get-get_or c.args.columns.now c.in-Some.number.now d c.if-number-columns.true)
    ∙ ap (λ x. Some x) (same_names _ c.args.name.now (sym c.if-eq.ensures))
