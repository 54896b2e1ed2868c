use Rattle.std.proofs.Common.{◌≡◌, ◌∙◌, ap, length, map, refl, sym, None, Some}
use Rattle.std.specs.Prelude.{option_map}
use Rattle.std.proofs.lemmas.List.{length-map}
use Rattle.mysql_records.specs.Seen.{lent_fields_seen, lent_seen}
use Rattle.mysql_bind_core.specs.Contents.{all_of, item_said}
use Rattle.mysql_bind_core.specs.RowItems.{cell_item, row_of}
use Rattle.mysql_bind_core.specs.Tables.{cell_said}
use Rattle.mysql_bind_core.proofs.RowItemLemmas.{no_row_if_long, no_row_if_none, record_at_rest, rest_of_fits}
use Rattle.mysql_bind_core.proofs.record_rows.row_of_record.Goals as goal

pub overflow_sub-at : goal.overflow_sub-at
overflow_sub-at c = rest_of_fits c.args.form.now c.args.unread.text.now c.args.unread.rest.now c.requires.rest

pub returns-then-fields-form : goal.returns-then-fields-form
returns-then-fields-form c =
    let fields = lent_fields_seen c.args.fields.now in
    let long : length fields ≡ length c.args.fields.now = length-map c.args.fields.now lent_seen in (
      no_row_if_long c.args.form.now c.args.unread.rest.now fields c.args.more.now c.requires.record (λ same. c.if-fields-form.true (sym long ∙ same)),
      (
        fields,
        record_at_rest c.args.form.now c.args.unread.text.now c.args.unread.rest.now fields c.args.more.now _ c.requires.rest c.requires.record refl,
        long,
        c.if-fields-form.true,
      ),
    )

pub returns : goal.returns
returns c =
    let form = c.args.form.now in
    let fields = lent_fields_seen c.args.fields.now in
    let long : length fields ≡ length form.columns.now = length-map c.args.fields.now lent_seen ∙ c.if-fields-form.false in
    let none : row_of form fields ≡ None =
    ap (all_of cell_item) (sym c.in_ok-cells.ensures)
    ∙ (ap (λ cells. all_of cell_item (map cell_said cells)) (sym c.as_slice.ensures.value)
    ∙ (sym c.in_ok-items.ensures ∙ ap (option_map (λ items. map item_said items.items)) c.in-None.is)) in (
      no_row_if_none form c.args.unread.rest.now fields c.args.more.now c.requires.record none,
      (
        fields,
        record_at_rest form c.args.unread.text.now c.args.unread.rest.now fields c.args.more.now _ c.requires.rest c.requires.record refl,
        long,
        none,
        refl,
      ),
    )

pub returns-in-Some : goal.returns-in-Some
returns-in-Some c =
    let form = c.args.form.now in
    let fields = lent_fields_seen c.args.fields.now in
    let long : length fields ≡ length form.columns.now = length-map c.args.fields.now lent_seen ∙ c.if-fields-form.false in
    let some : row_of form fields ≡ Some (map item_said c.in-Some.items.items) =
    ap (all_of cell_item) (sym c.in_ok-cells.ensures)
    ∙ (ap (λ cells. all_of cell_item (map cell_said cells)) (sym c.as_slice.ensures.value)
    ∙ (sym c.in_ok-items.ensures ∙ ap (option_map (λ items. map item_said items.items)) c.in-Some.is)) in
    (fields, record { begins = c.requires.record; as_many = long; items_are = some })
