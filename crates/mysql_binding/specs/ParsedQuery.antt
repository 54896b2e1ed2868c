-- The view that contracts have of a query that is parsed once: the query and its mode. Also the
-- facts that are kept about its places.
use Rattle.std.specs.Prelude.{◌≡◌, ℕ, Bool, List, ◌&&◌, nat_eq}
use Rattle.std.proofs.Math.Bool.{beq}
use Rattle.std.specs.Cmp.Lexicographic.{pointwise}
use Rattle.mysql_named_params.specs.declared.places.FoundPlace.{FoundPlace}
use Rattle.mysql_named_params.specs.Tokens.{Token}
use Rattle.mysql_named_params.specs.Reading.{IsTokensIn}
use Rattle.mysql_named_params.specs.declared.places.Reading.{Reading}
use Rattle.mysql_binding.specs.FoundPlaces.{found_places}
use Rattle.mysql_binding.specs.Survey.{IsSurvey}
use Rattle.mysql_binding.specs.declared.binding.survey.Survey.{Survey}

-- a query and the mode in which it is read
pub record QueryInMode : Type 0 where
  pub mode : Bool
  pub query : List ℕ

-- the survey and the places are those of the query in the reading
abbrev pub AreParsed : Survey → List FoundPlace → Reading → List ℕ → Type 0
AreParsed survey places reading query = (ts : List Token) → IsTokensIn reading query ts →
    IsSurvey survey ts × (places ≡ found_places ts)

-- whether the two are equal
abbrev pub same_query : QueryInMode → QueryInMode → Bool
same_query p q = beq p.mode q.mode && pointwise nat_eq p.query q.query
