-- The facts about the names of a query before the answer is written. For the private
-- `names_survey`; no public contract cites it.
use Rattle.std.specs.Prelude.{◌≡◌, List, length}
use Rattle.mysql_named_params.specs.Tokens.{Token, text_of}
use Rattle.mysql_named_params.specs.NamesAndMarks.{names, marks}
use Rattle.mysql_named_params.specs.Places.{with_marks}
use Rattle.mysql_flat_params.specs.NamesAnswer.{lenenc_row}
use Rattle.mysql_flat_params.specs.declared.names_room.NamesSurvey.{NamesSurvey}

-- These tokens have this many names and marks. The lengths are that of their text with marks in
-- place of the names, and that of the names, each as a length-encoded string.
abbrev pub IsNamesSurvey : NamesSurvey → List Token → Type 0
IsNamesSurvey survey ts =
    (survey.names ≡ length (names ts)) × (survey.marks ≡ marks ts)
    × (survey.marked_len ≡ length (text_of (with_marks ts)))
    × (survey.row_len ≡ length (lenenc_row (names ts)))
