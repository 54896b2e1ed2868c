-- What a written text has in the places of its query.
use Rattle.std.specs.Prelude.{ℕ, List}
use Rattle.mysql_named_params.specs.Tokens.{Token}
use Rattle.mysql_bind_core.specs.Bound.{IsAssignedText}
use Rattle.mysql_bind_core.specs.declared.assignment.Assignment.{Assignment}
use Rattle.mysql_bind_core.specs.declared.request.Request.{Request}

-- one list for each place: the tokens of the text of its fragment, with the literals of its values
abbrev pub put_in_places : (request : Request) (query : List ℕ) (assignments : List Assignment)
    (text : List ℕ) → IsAssignedText request query assignments text → List (List Token)
put_in_places request query assignments text assigned = assigned.bound.2.placed.lists
