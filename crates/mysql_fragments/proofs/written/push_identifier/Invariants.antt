use Rattle.std.proofs.Common.{◌≡◌, ◌++◌, take, ◌∷◌, []}
use Rattle.mysql_named_params.specs.Bytes.{backquote}
use Rattle.mysql_fragments.specs.FragmentText.{doubled}
use Rattle.mysql_fragments.proofs.written.push_identifier.Given as goal

abbrev pub invariant-loop-b : goal.invariant-loop-b
invariant-loop-b l = l.text.items ≡ (l.fn.text.items ++ backquote ∷ []) ++ doubled (take l.b-index l.name)
