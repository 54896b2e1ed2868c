use Rattle.std.proofs.Common.{◌≡◌, ◌++◌, map, drop}
use Rattle.std.specs.Cow.{cow_slice_items}
use Rattle.mysql_query_core.specs.Program.{lines_of}
use Rattle.mysql_query_core.proofs.program.append_names.Given as goal

-- the text, and then a line for each name that is left, is the whole
abbrev pub invariant-loop-name : goal.invariant-loop-name
invariant-loop-name l =
    l.text.items ++ lines_of (map cow_slice_items (drop l.name-index l.names)) ≡ l.fn.text.items ++ lines_of (map cow_slice_items l.names)
