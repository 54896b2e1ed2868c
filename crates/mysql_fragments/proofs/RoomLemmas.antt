-- A text of fragments in a room of the caller, and its length.
use Rattle.std.specs.Prelude.{Bool}
use Rattle.std.specs.List.{flat_map, sum_by}
use Rattle.std.proofs.Common.{◌≡◌, ◌+◌, ◌++◌, ◌≤◌, ◌^◌, ℕ, true, List, [], length, map, take, drop, take_all, Some, arith, sym, ap, ◌∙◌, subst}
use Rattle.std.proofs.lemmas.List.{length-map, length-take-le, take-append-le}
use Rattle.std.proofs.lemmas.Slice.{drop-append-drop}
use Rattle.mysql_values.specs.declared.value.Value.{Value}
use Rattle.mysql_values.specs.Literal.{literal_of}
use Rattle.mysql_named_params.specs.Tokens.{Token}
use Rattle.mysql_named_params.specs.Places.{place_count}
use Rattle.mysql_named_params.specs.Reading.{OnTokensIn, grammar_reading}
use Rattle.mysql_named_params.specs.declared.places.Reading.{Reading}
use Rattle.mysql_named_params.proofs.ReadingLemmas.{one_reading}
use Rattle.mysql_named_params.proofs.TokenRowLemmas.{place_count-sum}
use Rattle.mysql_params_core.specs.Given as values
use Rattle.mysql_binding.specs.LiteralForm.{Literals, LiteralFacts, IsPlainLiteral, written_literal}
use Rattle.mysql_binding.specs.MeasuredText.{IsOfFields}
use Rattle.mysql_binding.specs.Pieces.{pieces, joined_text}
use Rattle.mysql_binding.specs.PushedLiteral.{AreKnownUnlessFloats}
use Rattle.mysql_binding.specs.Replaced.{with_literal_tokens}
use Rattle.mysql_binding.specs.Survey.{IsSurvey}
use Rattle.mysql_binding.specs.TextInRoom.{HasTextOf, IsTextInRoom}
use Rattle.mysql_binding.specs.TextLength.{pieces_len}
use Rattle.mysql_binding.specs.declared.binding.room.TextInRoom.{TextInRoom}
use Rattle.mysql_binding.specs.declared.binding.room.TextInRoom.TheVariants.{Written}
use Rattle.mysql_binding.specs.declared.binding.survey.Survey.{Survey}
use Rattle.mysql_binding.proofs.BoundText.{bound}
use Rattle.mysql_binding.proofs.MeasuredTextLemmas.{bound_len}
use Rattle.mysql_binding.proofs.PieceLemmas.{joined_text-pieces_from}
use Rattle.mysql_binding.proofs.TextInRoomLemmas.{bound_length, each_in_room}
use Rattle.mysql_binding.proofs.TextLengthLemmas.{pieces_len-plain_len}
use Rattle.mysql_fragments.specs.BorrowedFragments.{AreSaid}
use Rattle.mysql_fragments.specs.BorrowedText.{borrowed_text, borrowed_values}
use Rattle.mysql_fragments.specs.Expanded.{IsBoundFragments}
use Rattle.mysql_fragments.specs.FilledText.{ArePlaced, IsFilledQuery}
use Rattle.mysql_fragments.specs.FragmentText.{all_values, filled_text}
use Rattle.mysql_fragments.specs.FragmentsInRoom.{HasFilledLength, IsTooLong}
use Rattle.mysql_fragments.specs.GivenFragments.{GivenFragments}
use Rattle.mysql_fragments.specs.declared.fragment.Fragment.{Fragment}
use Rattle.mysql_fragments.specs.declared.fragment_ref.FragmentRef.{FragmentRef}
use Rattle.mysql_fragments.proofs.ExpandedLemmas.{each_on}
use Rattle.mysql_fragments.proofs.FilledLemmas.{bound_of_filled, filled_in_range, filled_on}
use Rattle.mysql_fragments.proofs.SaidLemmas.{said_all_values, said_count, said_texts}

-- the front of a room that is written over
front_written : (IsText : List ℕ → Type 0) (HasLength : ℕ → Type 0) (len : ℕ) (text room : List ℕ) →
    len ≤ length room → length text ≡ len → IsText text →
    IsTextInRoom IsText HasLength room (text ++ drop len room) (Written len)
front_written IsText HasLength len text room fits long is =
    let front : take len (text ++ drop len room) ≡ text = take-append-le len text (drop len room) (omega (arith, long)) ∙ take_all len text (omega (arith, long)) in
    (fits, subst IsText (sym front) is, drop-append-drop len room text len (omega arith) long)

-- a fragment for each place
pub places_of : (reading : Reading) (query : List ℕ) (survey : Survey) (fragments : List FragmentRef) → OnTokensIn reading query (IsSurvey survey) →
    survey.names + survey.marks ≡ length fragments → OnTokensIn reading query (λ ts. length fragments ≡ place_count ts)
places_of reading query survey fragments o sum = (o.0, o.1, omega (arith, sum, o.2.0, o.2.1, place_count-sum o.0))

-- so it is if those that say the same are placed
pub placed_count : (reading : Reading) (query : List ℕ) (survey : Survey) (given : GivenFragments) (fragments : List FragmentRef) (said : List Fragment) → AreSaid fragments said →
    OnTokensIn reading query (IsSurvey survey) → OnTokensIn reading query (λ ts. ArePlaced true ts given said) → survey.names + survey.marks ≡ length fragments
placed_count reading query survey given fragments said s o p =
    let each = each_on true reading query given said p in
    let same : each.0 ≡ o.0 = one_reading reading query each.0 o.0 each.1 o.1 in
    omega (arith, each.2, ap place_count same, o.2.0, o.2.1, place_count-sum o.0, said_count fragments said s)

-- the room for the text
pub room_of : (reading : Reading) (write : Value → List ℕ) (query : List ℕ) (survey : Survey) (fragments : List FragmentRef) (len : ℕ) (room : List ℕ) →
    OnTokensIn reading query (IsSurvey survey) → len ≡ survey.piece_bytes + sum_by length (map (borrowed_text write) fragments) → len ≤ length room →
    OnTokensIn reading query (λ ts. length (take len room) ≡ pieces_len ts + sum_by length (map (borrowed_text write) fragments))
room_of reading write query survey fragments len room o len_is fits =
    (o.0, o.1, omega (arith, len_is, o.2.3, length-take-le len room fits))

module _ (literal : Literals) (reading : Reading) (query : List ℕ) (survey : Survey) (o : OnTokensIn reading query (IsSurvey survey)) (fragments : List FragmentRef) (said : List Fragment) (s : AreSaid fragments said) where
  abbrev texts : List (List ℕ)
  texts = map (filled_text (written_literal literal)) said

  same_texts : texts ≡ map (borrowed_text (written_literal literal)) fragments
  same_texts = said_texts (written_literal literal) fragments said s

  pub text_too_long : 2 ^ 63 ≤ survey.piece_bytes + sum_by length (map (borrowed_text (written_literal literal)) fragments) →
      OnTokensIn reading query (λ ts. IsTooLong literal ts said)
  text_too_long long = (o.0, o.1, omega (arith, long, o.2.3, ap (sum_by length) same_texts))

  module _ (given : GivenFragments) (p : OnTokensIn reading query (λ ts. ArePlaced true ts given said)) (len : ℕ) where
    known_said : (IsKnown : LiteralFacts) → AreKnownUnlessFloats literal IsKnown (flat_map borrowed_values fragments) →
        AreKnownUnlessFloats literal IsKnown (all_values said)
    known_said IsKnown known = subst (AreKnownUnlessFloats literal IsKnown) (sym (said_all_values fragments said s)) known

    -- there is a text of the length that is measured
    pub placed_length : len ≡ survey.piece_bytes + sum_by length (map (borrowed_text (written_literal literal)) fragments) →
        AreKnownUnlessFloats literal IsOfFields (flat_map borrowed_values fragments) →
        OnTokensIn reading query (λ ts. HasFilledLength literal reading.no_backslash_escape ts given len)
    placed_length len_is known =
        let each = each_on true reading query given said p in
        let ts : List Token = each.0 in
        let many : length texts ≡ place_count ts = length-map said (filled_text (written_literal literal)) ∙ each.2 in
        let joined : joined_text (pieces ts) texts ≡ Some (bound ts texts) = joined_text-pieces_from [] ts texts many in
        let f = filled_on literal IsOfFields reading query given said (bound ts texts) p (ts, each.1, joined) (known_said IsOfFields known) in
        let same : o.0 ≡ ts = one_reading reading query o.0 ts o.1 each.1 in
        let long : length (bound ts texts) ≡ len =
        omega (arith, len_is, o.2.3, ap pieces_len same, bound_len ts texts many, pieces_len-plain_len ts, ap (sum_by length) same_texts) in
        (f.0, f.1, (bound ts texts, f.2, long))

    -- the text that is written
    pub placed_text : (IsKnown : LiteralFacts) (text room : List ℕ) → len ≤ length room → length text ≡ len →
        OnTokensIn reading query (λ ts. joined_text (pieces ts) (map (borrowed_text (written_literal literal)) fragments) ≡ Some text) →
        AreKnownUnlessFloats literal IsKnown (flat_map borrowed_values fragments) →
        OnTokensIn reading query (λ ts. IsTextInRoom (IsFilledQuery literal IsKnown reading.no_backslash_escape ts given) (HasFilledLength literal reading.no_backslash_escape ts given) room (text ++ drop len room) (Written len))
    placed_text IsKnown text room fits long joined known =
        let f = filled_on literal IsKnown reading query given said text p
        (subst (λ ls. OnTokensIn reading query (λ ts. joined_text (pieces ts) ls ≡ Some text)) (sym same_texts) joined) (known_said IsKnown known) in
        (f.0, f.1, front_written (IsFilledQuery literal IsKnown reading.no_backslash_escape f.0 given) (HasFilledLength literal reading.no_backslash_escape f.0 given) len text room fits long f.2)

-- ---- plain literals

-- the length of a bound text, before it is made
pub bound_fragments_length : (mode : Bool) (ts : List Token) (given : GivenFragments) (len : ℕ) →
    HasFilledLength (literal_of mode) mode ts given len → HasTextOf (IsBoundFragments mode ts given) len
bound_fragments_length mode ts given len (text, f, long) =
    let x = f.expanded in
    let b = bound_length (grammar_reading mode) f.query (with_literal_tokens ts x.lists) (values.positional (all_values x.fragments)) len x.isolated (text, f.filled, long) in (
      b.0,
      record {
        query = f.query;
        expanded = x;
        bound = b.1;
        in_range = filled_in_range (literal_of mode) IsOfFields (λ v text k. k) mode ts given text f;
      },
      b.2,
    )

module _ (reading : Reading) (query : List ℕ) (given : GivenFragments) (old new : List ℕ) (told : TextInRoom) where
  abbrev mode : Bool
  mode = reading.no_backslash_escape

  pub bound_fragments_in_room : OnTokensIn reading query (λ ts. IsTextInRoom (IsFilledQuery (literal_of mode) (IsPlainLiteral mode) mode ts given) (HasFilledLength (literal_of mode) mode ts given) old new told) →
      OnTokensIn reading query (λ ts. IsTextInRoom (IsBoundFragments mode ts given) (HasTextOf (IsBoundFragments mode ts given)) old new told)
  bound_fragments_in_room o = (o.0, o.1, each_in_room _ _ _ old new told (λ x f. bound_of_filled mode o.0 given x f) (λ len. bound_fragments_length mode o.0 given len) o.2)
