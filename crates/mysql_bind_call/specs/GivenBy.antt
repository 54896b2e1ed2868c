-- What borrowed values or fragments give to a query.
use Rattle.std.specs.Prelude.{◌≡◌}
use Rattle.mysql_params_core.specs.GivenBorrowed.{given_by_borrowed}
use Rattle.mysql_fragments.specs.GivenFragments.{given_fragments}
use Rattle.mysql_bind_call.specs.AnyGiven.{AnyGiven, values, fragments}
use Rattle.mysql_bind_call.specs.declared.given.BorrowedGiven.{BorrowedGiven}
use Rattle.mysql_bind_call.specs.declared.given.BorrowedGiven.TheVariants as borrowed

-- they give this to a query
abbrev pub IsGivenBy : BorrowedGiven → AnyGiven → Type 0
IsGivenBy (borrowed.Values params) what = what ≡ values (given_by_borrowed params)
IsGivenBy (borrowed.Fragments list) what = what ≡ fragments (given_fragments list.now)
