use Rattle.std.specs.Prelude.{IfOk}
use Rattle.std.proofs.Common.{◌≡◌, ◌∙◌, ◌++◌, ℕ, List, length, map, refl, subst, sym}
use Rattle.std.proofs.lemmas.List.{length-map}
use Rattle.mysql_params_core.specs.Referents.{referents}
use Rattle.mysql_values.specs.BorrowedValue.{owned_values}
use Rattle.mysql_bind_core.specs.Cells.{TableQuery, value_said}
use Rattle.mysql_bind_core.specs.FoundPairs.{IsValuesText}
use Rattle.mysql_bind_core.specs.RowTexts.{IsAssignedRowText}
use Rattle.mysql_bind_core.specs.TakenQuery.{in_its_mode}
use Rattle.mysql_bind_core.specs.declared.taken.appended.Attempt.TheVariants as attempt
use Rattle.mysql_bind_core.proofs.AppendedRowLemmas.{done_so}
use Rattle.mysql_bind_core.proofs.CellRowLemmas.{cells_appended, values_length}
use Rattle.mysql_bind_core.proofs.MatchedLemmas.{cells_found}
use Rattle.mysql_bind_core.proofs.matched.MatchedQuery.append_cells.Goals as goal

pub append_found-requires : goal.append_found-requires
append_found-requires c =
    let inside = c.self.inside in
    let columns = referents inside.columns.now in
    let are = rw c.in-Some.is at c.self.invariant.numbered in
    let have = rw c.in-Some-2.is at c.in_ok-values.ensures in
    let found = rw (c.in-Some-3.is, c.as_slice-2.ensures.value, c.as_slice.ensures.value) at c.in_ok-placed.ensures in
    let same : length c.args.cells.now ≡ length columns = c.if-cells-self.false ∙ sym (length-map inside.columns.now (λ r. r.now)) in
    let given = cells_found (in_its_mode inside.taken) inside.taken.request columns c.in-Some.numbers.items (map value_said c.in-Some-2.values.items) (owned_values c.in-Some-3.placed.items)
    c.self.invariant.is_taken refl are (values_length c.args.cells.now c.in-Some-2.values.items have ∙ same) found in
    (given.0, given.2)

pub returns-clause-bound : goal.returns-clause-bound
returns-clause-bound c =
    let inside = c.self.inside in
    let columns = referents inside.columns.now in
    let are = rw c.in-Some.is at c.self.invariant.numbered in
    let have = rw c.in-Some-2.is at c.in_ok-values.ensures in
    let found = rw (c.in-Some-3.is, c.as_slice-2.ensures.value, c.as_slice.ensures.value) at c.in_ok-placed.ensures in
    let same : length c.args.cells.now ≡ length columns = c.if-cells-self.false ∙ sym (length-map inside.columns.now (λ r. r.now)) in
    let after = c.append_found.new.script.items in
    subst (λ (v : TableQuery). IfOk c.append_found.result (λ a. a ≡ attempt.Written → (x : List ℕ) × IsAssignedRowText v c.args.cells.now x × IsValuesText v.request v.query x × (after ≡ c.args.script.now.items ++ x)))
    c.self.view_is
    (done_so c.append_found.result _ _
    (cells_appended (in_its_mode inside.taken) inside.taken.request columns c.in-Some.numbers.items c.args.cells.now c.in-Some-2.values.items (owned_values c.in-Some-3.placed.items)
    c.self.invariant.is_taken refl are same have found c.args.script.now.items after)
    c.append_found.ensures.bound)
