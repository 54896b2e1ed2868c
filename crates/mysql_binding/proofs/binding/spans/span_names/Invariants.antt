use Rattle.std.proofs.Common.{◌≡◌, ◌++◌, drop}
use Rattle.mysql_params_core.specs.Referents.{referents}
use Rattle.mysql_binding.specs.PlaceSpans.{FitIn, names_at}
use Rattle.mysql_binding.proofs.binding.spans.span_names.Given as goal

abbrev pub invariant-loop-span : goal.invariant-loop-span
invariant-loop-span l = record {
  fit : FitIn (drop l.span-index l.spans) l.rest;
  listed : referents l.list.items ++ names_at (drop l.span-index l.spans) l.rest ≡ names_at l.spans l.spanned.query.now;
}
