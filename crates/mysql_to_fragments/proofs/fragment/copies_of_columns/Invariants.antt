use Rattle.std.proofs.Common.{◌≡◌, map, take}
use Rattle.mysql_params_core.specs.Referents.{referents}
use Rattle.mysql_to_fragments.specs.FragmentContent.{columns_content}
use Rattle.mysql_to_fragments.proofs.fragment.copies_of_columns.Given as goal

-- the copies so far are those of the columns so far
abbrev pub invariant-loop-names : goal.invariant-loop-names
invariant-loop-names l = columns_content l.copied.items ≡ map referents (take l.names-index (referents l.columns))
