-- What assignments give if they aren't refused.
use Rattle.std.proofs.Common.{◌≡◌, Option, None, Some, Ok}
use Rattle.std.specs.Prelude.{ok_or}
use Rattle.mysql_bind_core.specs.Assignments.{no_value}

pub ok_or-found : {X : Type 0} (o : Option X) (x : X) → ok_or o no_value ≡ Ok x → o ≡ Some x
ok_or-found None x h = absurd cc
ok_or-found (Some y) x h = cc
