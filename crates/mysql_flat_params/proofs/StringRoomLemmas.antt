-- A text as a length-encoded string in a room of the caller.
use Rattle.std.specs.Prelude.{Ok, IfSome, None, Option, Some}
use Rattle.std.proofs.Common.{◌≡◌, ◌+◌, ◌≤◌, ◌<◌, ℕ, List, ◌++◌, length, length-append, take, drop, refl, sym, ap, ◌∙◌, arith}
use Rattle.std.proofs.Math.Seq.{take-append-add, take-append_seam, drop-append-add, drop-append_seam}
use Rattle.std.proofs.lemmas.List.{drop-drop}
use Rattle.mysql_named_params.specs.Reading.{OnTokensIn}
use Rattle.mysql_named_params.specs.declared.places.Reading.{Reading}
use Rattle.mysql_wire_part.specs.Lenenc.{length_spelling, lenenc_spelling}
use Rattle.mysql_values.specs.Literal.{literal_of}
use Rattle.mysql_value_core.proofs.LiteralLemmas.{is_none-literal_of}
use Rattle.mysql_params_core.specs.Given.{Given}
use Rattle.mysql_binding.specs.LiteralForm.{IsPlainLiteral}
use Rattle.mysql_binding.specs.MeasuredText.{IsMeasured}
use Rattle.mysql_binding.specs.WrittenText.{IsGivenText}
use Rattle.mysql_binding.specs.declared.binding.literals.MeasuredText.{MeasuredText}
use Rattle.mysql_binding.proofs.BoundTextLemmas.{is_bound_text}
use Rattle.mysql_binding.proofs.MeasuredTextLemmas.{measured_length}
use Rattle.mysql_binding.proofs.TextInRoomLemmas.{bound_length}
use Rattle.mysql_flat_params.specs.FlatForm.{IsFormReading}
use Rattle.mysql_flat_params.specs.RowInRoom.{IsFormInRoom, IsStringInRoom}
use Rattle.mysql_flat_params.specs.declared.outcome.Outcome.{Outcome}
use Rattle.mysql_flat_params.specs.declared.outcome.Outcome.TheVariants.{Done, Room}

-- how long a string is
string_length : (text : List ℕ) (count n : ℕ) → count ≡ length (length_spelling n) → length text ≡ n →
    length (lenenc_spelling text) ≡ count + n
string_length text count n count_is long =
    length-append (length_spelling (length text)) text
    ∙ omega (arith, ap (λ k. length (length_spelling k)) long, count_is, long)

-- a room that is too short
pub string_too_long : (reading : Reading) (query : List ℕ) (given : Given) (measured : MeasuredText) (room : List ℕ) (count : ℕ) →
    count ≡ length (length_spelling measured.len) → length room < count + measured.len →
    OnTokensIn reading query (λ ts. IsMeasured (literal_of reading.no_backslash_escape) ts given measured) →
    IsStringInRoom reading query given room room (Room (count + measured.len))
string_too_long reading query given measured room count count_is long (ts, is, m) =
    let (text, bound, len) = bound_length reading query ts given measured.len is (measured_length (literal_of reading.no_backslash_escape) ts given measured m (is_none-literal_of reading.no_backslash_escape)) in
    (text, (ts, is, bound), (string_length text count measured.len count_is len, long, refl))

-- a room that is written to
pub string_written : (reading : Reading) (query : List ℕ) (given : Given) (front text back room : List ℕ) (count n : ℕ) →
    front ≡ length_spelling n → count ≡ length (length_spelling n) → length text ≡ n → back ≡ drop count room →
    count + n ≤ length room →
    OnTokensIn reading query (λ ts. IsGivenText (literal_of reading.no_backslash_escape) (IsPlainLiteral reading.no_backslash_escape) ts given text) →
    IsStringInRoom reading query given room (front ++ (text ++ drop n back)) (Done (count + n))
string_written reading query given front text back room count n front_is count_is long back_is fits (ts, is, g) =
    let counted : count ≡ length front = count_is ∙ ap length (sym front_is) in
    let spelled : front ++ text ≡ lenenc_spelling text = ap (λ x. x ++ text) (front_is ∙ ap length_spelling (sym long)) in
    let whole : List ℕ = front ++ (text ++ drop n back) in
    let taken : take (count + n) whole ≡ lenenc_spelling text =
    ap (λ k. take (k + n) whole) counted
    ∙ (take-append-add front (text ++ drop n back) n
    ∙ (ap (λ k. front ++ take k (text ++ drop n back)) (sym long)
    ∙ (ap (λ x. front ++ x) (take-append_seam text (drop n back)) ∙ spelled))) in
    let dropped : drop (count + n) whole ≡ drop (count + n) room =
    ap (λ k. drop (k + n) whole) counted
    ∙ (drop-append-add front (text ++ drop n back) n
    ∙ (ap (λ k. drop k (text ++ drop n back)) (sym long)
    ∙ (drop-append_seam text (drop n back)
    ∙ (ap (drop n) back_is ∙ drop-drop n count room)))) in
    (text, (ts, is, is_bound_text reading query ts given text is g), (string_length text count n count_is long, fits, taken, dropped))

-- the string is that of a form
pub form_in_room : (reading : Reading) (query form : List ℕ) (given : Given) (old new : List ℕ) → IsFormReading form (Ok given) →
    (outcome : Outcome) → IsStringInRoom reading query given old new outcome → IsFormInRoom reading query form old new outcome
form_in_room reading query form given old new reads (Done len) (text, bound, room) = (text, (given, reads, bound), room)
form_in_room reading query form given old new reads (Room len) (text, bound, room) = (text, (given, reads, bound), room)
form_in_room reading query form given old new reads outcome (text, bound, room) = absurd room

-- .. if there is one
pub form_if_string : (reading : Reading) (query form : List ℕ) (given : Given) (old new : List ℕ) → IsFormReading form (Ok given) →
    (r : Option ℕ) → IfSome r (λ len. IsStringInRoom reading query given old new (Done len)) → IfSome r (λ len. IsFormInRoom reading query form old new (Done len))
form_if_string reading query form given old new reads None h = tt
form_if_string reading query form given old new reads (Some len) h = form_in_room reading query form given old new reads (Done len) h
