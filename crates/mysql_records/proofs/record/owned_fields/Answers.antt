use Rattle.std.proofs.Common.{◌≡◌, ◌∙◌, ◌++◌, ◌∷◌, [], ap, sym, map, append_assoc, rules}
use Rattle.std.proofs.lemmas.List.{map-append}
use Rattle.std.specs.Vec.Iter.{into_iter_items}
use Rattle.mysql_records.specs.Seen.{field_seen, fields_seen, lent_seen}
use Rattle.mysql_records.proofs.record.owned_fields.Goals as goal

pub loop-field-preserved : goal.loop-field-preserved
loop-field-preserved c =
    let at = c.loop-field in
    let x = c.in-Some.field in
    let steps : into_iter_items at.field-iterator ≡ x ∷ into_iter_items c.next.new.self = c.in-Some.ensures.steps.0 in
    let pushed : c.push.new.self.items ≡ at.fields.items ++ c.in_ok-owned.owned ∷ [] = search rules in (
      append_assoc at.yielded (x ∷ []) _ ∙ rw (← steps) at.invariant.0,
      ap (map field_seen) pushed
          ∙ map-append field_seen at.fields.items (c.in_ok-owned.owned ∷ [])
          ∙ ap (λ s. fields_seen at.fields.items ++ s ∷ []) c.in_ok-owned.ensures
          ∙ ap (λ s. s ++ lent_seen x ∷ []) at.invariant.1
          ∙ sym (map-append lent_seen at.yielded (x ∷ [])),
    )
