use Rattle.std.proofs.Common.{◌&&◌, ap, sym, ◌∙◌}
use Rattle.std.specs.List.{list_all}
use Rattle.mysql_portable.specs.Steady.{is_steady}
use Rattle.mysql_fragments.specs.FragmentText.{fragment_text, item_text}
use Rattle.mysql_fragments.proofs.SteadyPartLemmas.{fragment_steady_assignments, fragment_steady_columns, fragment_steady_list, fragment_steady_rows, fragment_steady_name, fragment_steady_names}
use Rattle.mysql_fragments.proofs.unsteady.is_steady_fragment.Goals as goal

pub returns-in-List : goal.returns-in-List
returns-in-List c =
    c.are_steady_items.ensures ∙ (ap (list_all (λ item. list_all is_steady (item_text item))) c.as_slice-in-List.ensures.value ∙ (sym (fragment_steady_list c.in-List.items) ∙ ap (λ fragment. list_all is_steady (fragment_text fragment)) (sym c.in-List.is)))

pub returns-in-Rows : goal.returns-in-Rows
returns-in-Rows c =
    c.are_steady_rows.ensures ∙ (ap (list_all (λ row. list_all (λ item. list_all is_steady (item_text item)) row.items)) c.as_slice-in-Rows.ensures.value ∙ (sym (fragment_steady_rows c.in-Rows.rows) ∙ ap (λ fragment. list_all is_steady (fragment_text fragment)) (sym c.in-Rows.is)))

pub returns-in-Identifier : goal.returns-in-Identifier
returns-in-Identifier c =
    c.is_steady_text-in-Identifier.ensures ∙ (ap (list_all is_steady) c.as_slice-in-Identifier.ensures.value ∙ (sym (fragment_steady_name c.in-Identifier.name) ∙ ap (λ fragment. list_all is_steady (fragment_text fragment)) (sym c.in-Identifier.is)))

pub returns-in-Qualified : goal.returns-in-Qualified
returns-in-Qualified c =
    c.are_steady_names.ensures ∙ (ap (list_all (λ name. list_all is_steady name.items)) c.as_slice-in-Qualified.ensures.value ∙ (sym (fragment_steady_names c.in-Qualified.names) ∙ ap (λ fragment. list_all is_steady (fragment_text fragment)) (sym c.in-Qualified.is)))

pub returns-in-Identifiers : goal.returns-in-Identifiers
returns-in-Identifiers c =
    c.are_steady_columns.ensures ∙ (ap (list_all (λ names. list_all (λ name. list_all is_steady name.items) names.items)) c.as_slice-in-Identifiers.ensures.value ∙ (sym (fragment_steady_columns c.in-Identifiers.columns) ∙ ap (λ fragment. list_all is_steady (fragment_text fragment)) (sym c.in-Identifiers.is)))

pub returns-in-Assignments : goal.returns-in-Assignments
returns-in-Assignments c =
    c.are_steady_assignments.ensures ∙ (ap (list_all (λ x. list_all (λ name. list_all is_steady name.items) x.column.items && list_all is_steady (item_text x.item))) c.as_slice-in-Assignments.ensures.value ∙ (sym (fragment_steady_assignments c.in-Assignments.assignments) ∙ ap (λ fragment. list_all is_steady (fragment_text fragment)) (sym c.in-Assignments.is)))
