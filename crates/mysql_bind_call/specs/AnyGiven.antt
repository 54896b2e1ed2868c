-- What can be given to the places of a query: values, or fragments.
use Rattle.mysql_params_core.specs.GivenValues.{Given}
use Rattle.mysql_fragments.specs.GivenFragments.{GivenFragments}

-- what is given to a query
pub data AnyGiven : Type 0 where
  values : Given → AnyGiven
  fragments : GivenFragments → AnyGiven
