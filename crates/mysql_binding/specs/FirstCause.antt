-- The causes for which binding is refused, and the first that holds for a query and parameters. Out
-- of memory is no cause.
use Rattle.std.specs.Prelude.{◌+◌, ◌&&◌, nat_eq, not, ℕ, Bool, List, [], ◌∷◌, length, if◌then◌else◌, Option, Some, None, option_map, Result, Ok, Err}
use Rattle.std.specs.Option.{option_or}
use Rattle.mysql_values.specs.declared.value.Value.{Value}
use Rattle.mysql_values.specs.Literal.{is_float}
use Rattle.mysql_named_params.specs.Tokens.{Token}
use Rattle.mysql_named_params.specs.NamesAndMarks.{names, marks, has_both}
use Rattle.mysql_params_core.specs.GivenValues.{Given}
use Rattle.mysql_params_core.specs.LookupValues.{LookupRefusal, lookup}
use Rattle.mysql_binding.specs.FirstNotAlone.{first_not_alone}

-- a cause for which binding is refused
pub data Cause : Type 0 where
  -- the query has both a name and a mark
  mixed_query : Cause
  -- the lookup is refused: a name has no value, or the parameters are of the other kind
  refused_params : LookupRefusal → Cause
  -- the query has no names, and this many marks for another number of values
  mark_count : (marks values : ℕ) → Cause
  -- the place of this number, at this position, doesn't stand alone
  not_alone : (place position : ℕ) → Cause
  -- the value of the place of this number is a float
  float_value : (place : ℕ) → Cause

-- the cause if there are both a name and a mark
abbrev pub mixed_cause : List Token → Option Cause
mixed_cause ts = if has_both ts then Some mixed_query else None

-- whether there are no names, and the number of marks isn't the number of values
abbrev pub mark_count_differs : ℕ → ℕ → ℕ → Bool
mark_count_differs names marks values = nat_eq names 0 && not (nat_eq marks values)

-- the cause if there are no names, and the number of marks isn't the number of values
abbrev pub count_cause : List Token → List Value → Option Cause
count_cause ts values =
    if mark_count_differs (length (names ts)) (marks ts) (length values)
    then Some (mark_count (marks ts) (length values))
    else None

-- the cause for the first place that doesn't stand alone
abbrev pub not_alone_cause : List Token → Option Cause
not_alone_cause ts = option_map (λ found. not_alone found.0 found.1) (first_not_alone ts)

-- the place of the first float among the values, which come after `place` other values
abbrev pub first_float_from : ℕ → List Value → Option ℕ
first_float_from place [] = None
first_float_from place (value ∷ values) =
    if is_float value then Some place else first_float_from (place + 1) values

-- the place of the first float
abbrev pub first_float : List Value → Option ℕ
first_float = first_float_from 0

-- the cause for the first float
abbrev pub float_cause : List Value → Option Cause
float_cause values = option_map float_value (first_float values)

-- the first cause after a lookup that gave values: the number of marks, then the places, then the
-- values
abbrev pub later_cause : List Token → List Value → Option Cause
later_cause ts values =
    option_or (count_cause ts values) (option_or (not_alone_cause ts) (float_cause values))

-- the first cause after the test for a mixed query, from the result of the lookup
abbrev pub cause_after_lookup : List Token → Result (List Value) LookupRefusal → Option Cause
cause_after_lookup ts (Err refusal) = Some (refused_params refusal)
cause_after_lookup ts (Ok values) = later_cause ts values

-- the first cause that holds for a query with these tokens and for its parameters, if any
abbrev pub first_cause : List Token → Given → Option Cause
first_cause ts given = option_or (mixed_cause ts) (cause_after_lookup ts (lookup given (names ts)))
