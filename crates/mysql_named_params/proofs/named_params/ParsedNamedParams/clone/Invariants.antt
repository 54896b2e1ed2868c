use Rattle.std.proofs.Common.{◌≡◌, take, map, All}
use Rattle.std.specs.Cow.{cow_slice_items, IsBorrowedSlice}
use Rattle.mysql_named_params.proofs.named_params.ParsedNamedParams.clone.Given as goal

abbrev pub invariant-loop-param : goal.invariant-loop-param
invariant-loop-param l = record {
  same : map cow_slice_items l.params.items ≡ map cow_slice_items (take l.param-index l.param-items);
  borrowed : All IsBorrowedSlice l.params.items;
}
