use Rattle.std.proofs.Common.{◌≡◌, ◌<◌, ◌-◌, ◌+◌, ℕ, List, [], length, drop, get_or, subst, arith}
use Rattle.std.specs.Borrow.{Bor}
use Rattle.mysql_value_core.specs.declared.value.ValueRef.{ValueRef}
use Rattle.mysql_value_core.specs.declared.value.ValueRef.TheVariants.{NULL}
use Rattle.mysql_params_core.specs.GivenBorrowed.{pair_map}
use Rattle.mysql_params_core.proofs.SortedPairLemmas.{inserted_before, pair_map-insert}
use Rattle.mysql_params_core.proofs.params.sorted_pairs.sorted_pairs.Goals as goal

pub loop-i-preserved : goal.loop-i-preserved
loop-i-preserved c =
    let d : Bor (List ℕ) × ValueRef = (record { ref_ptr = (0, 0); now = [] }, NULL) in
    let i = c.loop-i.i - 1 in
    let below : i < length c.args.pairs.now = omega arith in
    let next : c.loop-i.i ≡ i + 1 = omega arith in
    let pair = get_or c.args.pairs.now i d in (
      omega arith,
      inserted_before c.args.pairs.now i d below (pair_map c.loop-i.entries.entries) (pair_map c.insert.new.self.entries)
          (subst (λ (k : ℕ). pair_map c.loop-i.entries.entries ≡ pair_map (drop k c.args.pairs.now)) next c.loop-i.invariant.1)
          (pair_map-insert c.loop-i.entries.entries c.insert.new.self.entries pair.0 pair.1
          c.in_ok-insert.ensures.updates.3 c.in_ok-insert.ensures.updates.1),
    )
