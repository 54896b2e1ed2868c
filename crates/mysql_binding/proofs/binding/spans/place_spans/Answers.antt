use Rattle.std.proofs.Common.{ap, arith, length}
use Rattle.mysql_binding.proofs.SurveyedQueryLemmas.{counted_places}
use Rattle.mysql_binding.proofs.SpanLemmas.{as_many_places}
use Rattle.mysql_binding.proofs.binding.spans.place_spans.Goals as goal

pub write_spans-requires : goal.write_spans-requires
write_spans-requires c =
    let surveyed = c.args.surveyed.now in
    omega (
      arith,
      as_many_places _ _ _ _ (counted_places _ _ surveyed.survey surveyed.surveyed) c.in_ok-places.ensures.places,
      ap length c.as_slice.ensures.value,
      c.requires,
    )
