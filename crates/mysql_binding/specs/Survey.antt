-- The facts about the places of a query that are known before values are looked up: for the
-- invariants of `ParsedQuery` and `SurveyedQuery`.
use Rattle.std.specs.Prelude.{◌≡◌, ℕ, List, length}
use Rattle.mysql_named_params.specs.Tokens.{Token}
use Rattle.mysql_named_params.specs.NamesAndMarks.{names, marks}
use Rattle.mysql_named_params.specs.Reading.{IsTokensIn}
use Rattle.mysql_named_params.specs.declared.places.Reading.{Reading}
use Rattle.mysql_binding.specs.FirstNotAlone.{first_not_alone}
use Rattle.mysql_binding.specs.TextLength.{pieces_len}
use Rattle.mysql_binding.specs.declared.binding.survey.Survey.{Survey}

-- The tokens have this many names and marks. This is their first place that doesn't stand alone.
-- The pieces have this many bytes.
abbrev pub IsSurvey : Survey → List Token → Type 0
IsSurvey survey ts =
    (survey.names ≡ length (names ts)) × (survey.marks ≡ marks ts)
    × (survey.not_alone ≡ first_not_alone ts) × (survey.piece_bytes ≡ pieces_len ts)

-- the survey is that of the query in the reading
abbrev pub IsSurveyOf : Reading → List ℕ → Survey → Type 0
IsSurveyOf reading query survey =
    (ts : List Token) → IsTokensIn reading query ts → IsSurvey survey ts
