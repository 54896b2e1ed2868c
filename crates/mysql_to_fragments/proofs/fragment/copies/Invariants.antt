use Rattle.std.proofs.Common.{◌≡◌, take}
use Rattle.mysql_params_core.specs.Names.{names_of}
use Rattle.mysql_params_core.specs.Referents.{referents}
use Rattle.mysql_to_fragments.proofs.fragment.copies.Given as goal

-- the copies so far are those of the names so far
abbrev pub invariant-loop-name : goal.invariant-loop-name
invariant-loop-name l = names_of l.copies.items ≡ take l.name-index (referents l.names)
