use Rattle.std.proofs.Common.{arith, ap, ◌<◌, ◌-◌, length}
use Rattle.std.specs.List.{sum}
use Rattle.std.proofs.lemmas.List.Sums.{sum_by_push}
use Rattle.mysql_binding.proofs.MeasuredTextLemmas.{lens_more, range_more}
use Rattle.mysql_binding.proofs.binding.literals.lens_in.Goals as goal

pub loop-place-preserved : goal.loop-place-preserved
loop-place-preserved g c =
    let values = g.L.ValueList.values c.args.values in
    let below : c.loop-place.place < length values = omega (arith, c.loop-place-test.true, c.count-count.ensures) in
    let end = c.in-Some-end_after.ensures.end in (
      lens_more (g.F.LiteralForm.literal c.args.form.now) values c.loop-place.place _ _ _ _ below c.at.ensures c.loop-place.invariant.0 (omega (arith, end, c.literal_len.ensures.len)) c.in_ok-push.ensures.items,
      range_more values c.loop-place.place _ below c.at.ensures c.loop-place.invariant.1 c.literal_len.ensures.in_range,
      omega (arith, end, c.loop-place.invariant.2, ap sum c.in_ok-push.ensures.items, sum_by_push (λ n. n) c.loop-place.lens.items (c.in-Some-end_after.end - c.loop-place.len)),
      c.in-Some-end_after.ensures.fits,
    )
