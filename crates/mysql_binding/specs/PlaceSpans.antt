-- The places of a query as plain numbers that a caller keeps: for `place_spans` and `SpannedQuery`.
use Rattle.std.specs.Prelude.{◌≡◌, ◌+◌, ◌++◌, ◌<◌, ◌≤◌, ℕ, List, [], ◌∷◌, length, map, take, drop, None, ⊤}
use Rattle.std.specs.Coded.{Unit-prop, le_prop}
use Rattle.std.specs.List.{sum}
use Rattle.mysql_values.specs.declared.value.Value.{Value}
use Rattle.mysql_named_params.specs.declared.places.FoundPlace.{FoundPlace}
use Rattle.mysql_named_params.specs.Reading.{OnTokensIn}
use Rattle.mysql_named_params.specs.declared.places.Reading.{Reading}
use Rattle.mysql_binding.specs.FirstCause.{first_float}
use Rattle.mysql_binding.specs.FoundPlaces.{found_places}
use Rattle.mysql_binding.specs.PlaceValues.{placed_values}
use Rattle.mysql_binding.specs.LiteralForm.{Literals, LiteralFacts, AreWrittenAs, literal_len}
use Rattle.mysql_binding.specs.Survey.{IsSurvey}
use Rattle.mysql_binding.specs.TextInRoom.{IsTextInRoom}
use Rattle.mysql_binding.specs.declared.binding.literals.MeasuredText.{MeasuredText}
use Rattle.mysql_binding.specs.declared.binding.room.TextInRoom.{TextInRoom}
use Rattle.mysql_binding.specs.declared.binding.spans.PlaceSpan.{PlaceSpan}
use Rattle.mysql_binding.specs.declared.binding.survey.Survey.{Survey}

-- the span of a place that was found
abbrev pub span_of : FoundPlace → PlaceSpan
span_of found = record { before = found.before; len = found.len }

-- the survey and the spans are those of the query in the reading
abbrev pub AreSpansOf : Survey → List PlaceSpan → Reading → List ℕ → Type 0
AreSpansOf survey spans reading query =
    OnTokensIn reading query (λ ts. IsSurvey survey ts × (spans ≡ map span_of (found_places ts)))

-- the bytes after a place
abbrev pub after_span : PlaceSpan → List ℕ → List ℕ
after_span span bytes = drop (span.before + span.len) bytes

-- each place has at least one byte, and the places follow one another within these bytes
abbrev pub FitIn : List PlaceSpan → List ℕ → Type 0
FitIn [] bytes = ⊤
FitIn (span ∷ spans) bytes = (0 < span.len) × (span.before + span.len ≤ length bytes)
    × FitIn spans (after_span span bytes)

-- any two proofs of this are equal
pub FitIn-prop : (spans : List PlaceSpan) (bytes : List ℕ) → IsProp (FitIn spans bytes)
FitIn-prop [] bytes = Unit-prop
FitIn-prop (span ∷ spans) bytes = λ x y i. (
  le_prop x.0 y.0 i,
  le_prop x.1 y.1 i,
  FitIn-prop spans (after_span span bytes) x.2 y.2 i,
)

-- the number of these bytes outside of the places
abbrev pub outside_len : List PlaceSpan → List ℕ → ℕ
outside_len [] bytes = length bytes
outside_len (span ∷ spans) bytes = span.before + outside_len spans (after_span span bytes)

-- the bytes of each place without their first byte
abbrev pub names_at : List PlaceSpan → List ℕ → List (List ℕ)
names_at [] bytes = []
names_at (span ∷ spans) bytes =
    drop 1 (take span.len (drop span.before bytes)) ∷ names_at spans (after_span span bytes)

-- these bytes with the literals in the places; they end at a place for which no literal is left
abbrev pub text_at : List PlaceSpan → List ℕ → List (List ℕ) → List ℕ
text_at [] bytes literals = bytes
text_at (span ∷ spans) bytes [] = []
text_at (span ∷ spans) bytes (literal ∷ literals) =
    take span.before bytes ++ (literal ++ text_at spans (after_span span bytes) literals)

-- a query of this length can have these numbers
pub record FitSurvey (survey : Survey) (spans : List PlaceSpan) (query : List ℕ) : Type 0 where
  pub fit : FitIn spans query
  pub outside : survey.piece_bytes ≡ outside_len spans query
  pub count : survey.names + survey.marks ≡ length spans

-- There is a value for each place, and none is a float. The lengths are those of their literals and
-- of the text.
pub record IsReady (literal : Literals) (spans : List PlaceSpan) (query : List ℕ)
    (measured : MeasuredText) : Type 0 where
  pub each : length (placed_values measured.values) ≡ length spans
  pub no_float : first_float (placed_values measured.values) ≡ None
  pub lens_are : measured.lens.items
      ≡ map (literal_len literal) (placed_values measured.values)
  pub len_is : measured.len ≡ outside_len spans query + sum measured.lens.items

-- these bytes with the literals of the values in the places
abbrev pub IsTextAt : Literals → LiteralFacts → List PlaceSpan → List ℕ → List Value → List ℕ
    → Type 0
IsTextAt literal IsKnown spans query values text = (literals : List (List ℕ))
    × AreWrittenAs literal IsKnown values literals × (text ≡ text_at spans query literals)

-- Either any text is at the front of the room, and the room after it is unchanged. Or the room is
-- too short for it, and unchanged.
abbrev pub StaysInRoom : (old new : List ℕ) → TextInRoom → Type 0
StaysInRoom = IsTextInRoom (λ text. ⊤) (λ len. ⊤)
