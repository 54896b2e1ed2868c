use Rattle.std.proofs.Common.{◌≡◌, subst, sym}
use Rattle.std.specs.Prelude.{option_map, IfOk}
use Rattle.mysql_bind_core.specs.Contents.{list_of_json, said}
use Rattle.mysql_bind_core.proofs.fragment_type.list_of_text.Goals as goal

pub returns-in-Ok : goal.returns-in-Ok
returns-in-Ok c =
    subst (λ d. IfOk c.list_of_json.result (λ found. option_map said found ≡ list_of_json d)) (sym c.in-Ok.ensures.ok) c.list_of_json.ensures
