use Rattle.std.proofs.Common.{◌≡◌, ◌++◌, drop, map}
use Rattle.mysql_params_core.specs.Referents.{referents}
use Rattle.mysql_bind_core.specs.Headers.{name_of_column, used_names}
use Rattle.mysql_bind_core.proofs.parts.names_of_used.Given as goal

-- the names so far, and those that are left
abbrev pub invariant-loop-i : goal.invariant-loop-i
invariant-loop-i l =
    referents l.names.items ++ used_names (drop l.i l.taken) (drop l.i (map name_of_column l.columns))
    ≡ used_names l.taken (map name_of_column l.columns)
