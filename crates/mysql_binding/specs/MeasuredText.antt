-- The values that a text is written from, and its length: for `measured_text` and `fill_measured`.
use Rattle.std.specs.Prelude.{◌≡◌, ◌+◌, ◌<◌, ◌^◌, false, ℕ, List, length, map, None, Ok}
use Rattle.std.specs.List.{All, sum}
use Rattle.mysql_values.specs.declared.value.Value.{Value}
use Rattle.mysql_values.specs.Value.{FieldsInRange}
use Rattle.mysql_named_params.specs.Tokens.{Token}
use Rattle.mysql_named_params.specs.NamesAndMarks.{names}
use Rattle.mysql_params_core.specs.GivenValues.{Given}
use Rattle.mysql_params_core.specs.LookupValues.{lookup}
use Rattle.mysql_binding.specs.FirstCause.{mark_count_differs, first_float, mixed_cause, later_cause}
use Rattle.mysql_binding.specs.PlaceValues.{placed_values}
use Rattle.mysql_binding.specs.LiteralForm.{Literals, LiteralFacts, literal_len}
use Rattle.mysql_binding.specs.TextLength.{pieces_len}
use Rattle.mysql_binding.specs.TextInRoom.{HasTextOf}
use Rattle.mysql_binding.specs.WrittenText.{IsGivenText}
use Rattle.mysql_binding.specs.declared.binding.literals.MeasuredText.{MeasuredText}
use Rattle.mysql_binding.specs.declared.binding.survey.Survey.{Survey}

-- the lookup gave these values, and there is no cause to refuse
abbrev pub IsLookedUp : List Token → Given → List Value → Type 0
IsLookedUp ts given values =
    (mixed_cause ts ≡ None) × (lookup given (names ts) ≡ Ok values) × (later_cause ts values ≡ None)

-- The values are those for the places of a query with these tokens, and there is no cause to
-- refuse. The lengths are those of their literals and of the text. The text has at most
-- `isize::MAX` bytes.
pub record IsMeasured (literal : Literals) (ts : List Token) (given : Given)
    (measured : MeasuredText) : Type 0 where
  pub looked_up : IsLookedUp ts given (placed_values measured.values)
  pub in_range : All FieldsInRange (placed_values measured.values)
  pub lens_are : measured.lens.items
      ≡ map (literal_len literal) (placed_values measured.values)
  pub len_is : measured.len ≡ pieces_len ts + sum measured.lens.items
  pub fits : measured.len < 2 ^ 63

-- The values can be those of a query with this survey, and none is a float. The lengths are those
-- of their literals and of the text.
pub record IsOfSurvey (literal : Literals) (survey : Survey) (values : List Value)
    (measured : MeasuredText) : Type 0 where
  pub values_are : placed_values measured.values ≡ values
  pub as_many_marks : mark_count_differs survey.names survey.marks (length values) ≡ false
  pub no_float : first_float values ≡ None
  pub lens_are : measured.lens.items ≡ map (literal_len literal) values
  pub len_is : measured.len ≡ survey.piece_bytes + sum measured.lens.items

-- the fact that is known about a literal before it is written: the fields of its value are in range
abbrev pub IsOfFields : LiteralFacts
IsOfFields value text = FieldsInRange value

-- the text of a query with these tokens and parameters has this length
abbrev pub HasGivenLength : Literals → List Token → Given → ℕ → Type 0
HasGivenLength literal ts given = HasTextOf (IsGivenText literal IsOfFields ts given)
