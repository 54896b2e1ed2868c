use Rattle.std.proofs.Common.{◌<◌, length, map, ap, sym, ◌∙◌, arith}
use Rattle.std.specs.FinMap.{get}
use Rattle.std.proofs.lemmas.List.{take_all, length-map}
use Rattle.mysql_params_core.specs.Given.{value_map}
use Rattle.mysql_params_core.specs.Names.{names_of}
use Rattle.mysql_params_core.proofs.MapLemmas.{get-value_map}
use Rattle.mysql_params_core.proofs.TakenLemmas.{index_below, was_nowhere, taken_step, copied_step}
use Rattle.mysql_params_core.proofs.WalkLemmas.{none_missing, values_at-from}
use Rattle.mysql_params_core.proofs.params.lookup.take_values.Goals.{in-Some+in_ok-insert+in_ok-push, in_default+in-Some-get+in_ok-value+in_ok-push-2}
use Rattle.mysql_params_core.proofs.params.lookup.take_values.Goals as goal

pub index-requires : goal.index-requires
index-requires c =
    let stands = index_below c.args.entries.entries c.loop-name.left.entries c.loop-name.indices.entries c.loop-name.values.items
    c.loop-name.invariant.taken c.name-item.result c.in-Some-get.index.now (sym c.in-Some-get.ensures.value) in
    omega (arith, stands, c.loop-name.values.ok)

pub unreachable-requires : goal.unreachable-requires
unreachable-requires c =
    let n = c.name-item.result in
    let below : c.loop-name.name-index < length c.args.names.now = omega arith in
    none_missing (value_map c.args.entries.entries) c.args.names.now c.loop-name.name-index n below c.name-item.is c.requires
    (get-value_map c.args.entries.entries n.items
    ∙ was_nowhere c.args.entries.entries c.loop-name.left.entries c.loop-name.indices.entries c.loop-name.values.items
    c.loop-name.invariant.taken n (sym c.in_default.ensures.value) (sym c.in_default-get.ensures.value))

pub loop-name-preserved : goal.loop-name-preserved
loop-name-preserved c =
    let below : c.loop-name.name-index < length c.args.names.now = omega arith in
    elim c.match-remove_entry.branch [
      | in-Some+in_ok-insert+in_ok-push w ↦ rw (w.values-is, w.indices-is)
          (taken_step c.args.entries.entries c.loop-name.left.entries c.loop-name.indices.entries c.loop-name.values.items
          c.args.names.now c.loop-name.name-index c.name-item.result below c.name-item.is
          c.loop-name.invariant.so_far c.loop-name.invariant.taken
          w.in-Some.key w.in-Some.value w.in-Some.ensures.same_key (sym w.in-Some.ensures.value)
          c.remove_entry.new.self.entries w.insert.new.self.entries w.len.result (omega (arith, w.len.ensures, c.loop-name.values.ok))
          w.in-Some.ensures.updates.0 w.in_ok-insert.ensures.updates.0
          w.push.new.self.items w.in_ok-push.ensures.items)
      | in_default+in-Some-get+in_ok-value+in_ok-push-2 w ↦ rw (w.values-is, w.indices-is)
          (copied_step c.args.entries.entries c.loop-name.left.entries c.loop-name.indices.entries c.loop-name.values.items
          c.args.names.now c.loop-name.name-index c.name-item.result below c.name-item.is
          c.loop-name.invariant.so_far c.loop-name.invariant.taken
          w.in-Some-get.index.now (sym w.in-Some-get.ensures.value)
          w.in_ok-value.value w.index.result.now (w.in_ok-value.ensures.equal ∙ w.index.ensures)
          c.remove_entry.new.self.entries w.in_default.ensures.unchanged
          w.push-in-Some-get.new.self.items w.in_ok-push-2.ensures.items)
    ]

pub returns-clause-values : goal.returns-clause-values
returns-clause-values c =
    let ns = names_of c.args.names.now in
    values_at-from (value_map c.args.entries.entries) ns c.loop-name.values.items
    (ap (map (get (value_map c.args.entries.entries)))
    (sym (take_all c.loop-name.name-index ns (omega (arith, length-map c.args.names.now (λ x. x.items)))))
    ∙ c.loop-name.invariant.so_far)
