-- A query with marks in place of its names, and those names, that are written so far.
use Rattle.std.specs.Prelude.{Bool, None}
use Rattle.std.specs.List.{list_all}
use Rattle.std.proofs.Common.{◌≡◌, ◌==◌, ℕ, true, not, get_or, ◌+◌, ◌-◌, ◌≤◌, ◌<◌, List, [], ◌∷◌, ◌++◌, length, take, drop, Some, refl, sym, ap, ◌∙◌, subst, arith, append_assoc, append-nil, length-append, take_all, take_at}
use Rattle.std.proofs.lemmas.Bool.{and_parts}
use Rattle.std.proofs.lemmas.List.{length-take-le, nil_from_length}
use Rattle.std.proofs.lemmas.List.Elements.{All-from_get_or}
use Rattle.std.proofs.lemmas.List.Folds.{list_all-append}
use Rattle.std.proofs.lemmas.List.Sums.{list_all-from_AllPass}
use Rattle.memchr.specs.Find.{IsFirstByte, is_byte}
use Rattle.mysql_wire_part.specs.Lenenc.{length_spelling, lenenc_spelling}
use Rattle.mysql_named_params.specs.Bytes.{colon, question_mark}
use Rattle.mysql_named_params.specs.Tokens.{Token, bytes_of, text_of, Name, Mark}
use Rattle.mysql_named_params.specs.Places.{names, marks, place_count, with_marks, HasName, HasMark}
use Rattle.mysql_named_params.specs.Parsed.{parsed}
use Rattle.mysql_named_params.specs.FirstPlace.{place_kind, IsFirstPlace}
use Rattle.mysql_named_params.specs.declared.places.FoundPlace.{FoundPlace}
use Rattle.mysql_named_params.specs.declared.places.PlaceKind.TheVariants as kind
use Rattle.mysql_named_params.proofs.TokenRowLemmas.{place_count-sum, with_marks-nameless}
use Rattle.mysql_named_params.proofs.ClosingQuoteLemmas.{fails}
use Rattle.mysql_named_params.proofs.RenameLemmas.{name_found}
use Rattle.mysql_named_params.proofs.SurveyLemmas.{is_other}
use Rattle.mysql_named_params.proofs.FoundPlaceLemmas.{IsPartedIn, parted_in, names_at_name, marks_after, marks_at_name}
use Rattle.mysql_named_params.specs.Reading.{IsTokensIn, OnTokensIn}
use Rattle.mysql_named_params.specs.declared.places.Reading.{Reading}
use Rattle.mysql_named_params.proofs.ReadingLemmas.{one_reading, reading_text}
use Rattle.mysql_flat_params.specs.IntoRoom.{IsInRoom, IsInRoomOrMemory, IsNamesAnswerIn, IsNamesOutcomeIn}
use Rattle.mysql_flat_params.specs.NamesAnswer.{lenenc_row, names_answer}
use Rattle.mysql_flat_params.specs.NamesSurvey.{IsNamesSurvey}
use Rattle.mysql_flat_params.specs.declared.names_room.NamesSurvey.{NamesSurvey}
use Rattle.mysql_flat_params.specs.Outcomes.{IfDone}
use Rattle.mysql_flat_params.specs.declared.outcome.Outcome.{Outcome}
use Rattle.mysql_flat_params.specs.declared.outcome.Outcome.TheVariants.{Done, Room, OutOfMemory}
use Rattle.mysql_flat_params.proofs.MarkedLemmas.{text-with_marks_at_place}

-- text and row are gathered, except for the rest
pub record GatheredSoFar (reading : Reading) (query rest text row : List ℕ) : Type 0 where
  pub all : List Token
  pub tokens : IsTokensIn reading query all
  pub left : List Token
  pub rest_tokens : IsTokensIn reading rest left
  pub no_marks : marks left ≡ 0
  pub text_is : text ++ text_of (with_marks left) ≡ text_of (with_marks all)
  pub row_is : row ++ lenenc_row (names left) ≡ lenenc_row (names all)

pub gathered_none : (reading : Reading) (query text row : List ℕ) → OnTokensIn reading query (λ ts. marks ts ≡ 0) → text ≡ [] → row ≡ [] → GatheredSoFar reading query query text row
gathered_none reading query text row o no_text no_row = record {
  all = o.0;
  tokens = o.1;
  left = o.0;
  rest_tokens = o.1;
  no_marks = o.2;
  text_is = ap (λ x. x ++ text_of (with_marks o.0)) no_text;
  row_is = ap (λ x. x ++ lenenc_row (names o.0)) no_row;
}

module _ (reading : Reading) (query rest text row : List ℕ) (s : GatheredSoFar reading query rest text row) where
  module _ (found : FoundPlace) (o : OnTokensIn reading rest (λ us. IsFirstPlace us found)) (run place after name : List ℕ) (run_is : run ≡ take found.before rest)
      (place_is : place ≡ take found.len (drop found.before rest)) (after_is : after ≡ drop (found.before + found.len) rest) (name_is : name ≡ drop 1 place) where
    abbrev g : IsPartedIn reading rest s.left found
    g = parted_in reading rest s.left found s.rest_tokens o

    is_name : place_kind g.place ≡ Some kind.Name
    is_name = name_found reading rest s.left found s.no_marks g

    text_next : text_of (with_marks s.left) ≡ run ++ question_mark ∷ text_of (with_marks g.back)
    text_next =
        ap (λ x. text_of (with_marks x)) g.tokens_are
        ∙ (text-with_marks_at_place g.front g.place kind.Name g.back g.no_place is_name
        ∙ ap (λ x. x ++ question_mark ∷ text_of (with_marks g.back)) (g.front_text ∙ sym run_is))

    row_next : lenenc_row (names s.left) ≡ lenenc_spelling name ++ lenenc_row (names g.back)
    row_next =
        ap lenenc_row (ap names g.tokens_are ∙ (names_at_name g.front g.place g.back g.no_place is_name
        ∙ ap (λ n. n ∷ names g.back) (ap (drop 1) (g.place_bytes ∙ sym place_is) ∙ sym name_is)))

    pub gathered_more : (text' row' : List ℕ) → text' ≡ (text ++ run) ++ question_mark ∷ [] → row' ≡ row ++ lenenc_spelling name → GatheredSoFar reading query after text' row'
    gathered_more text' row' text_more row_more = record {
      all = s.all;
      tokens = s.tokens;
      left = g.back;
      rest_tokens = subst (λ x. IsTokensIn reading x g.back) (sym after_is) g.rest_tokens;
      no_marks = sym (marks_at_name g.front g.place g.back g.no_place is_name) ∙ (ap marks (sym g.tokens_are) ∙ s.no_marks);
      text_is =
          ap (λ x. x ++ text_of (with_marks g.back)) text_more
          ∙ (append_assoc (text ++ run) (question_mark ∷ []) _
          ∙ (append_assoc text run _
          ∙ (ap (λ x. text ++ x) (sym text_next) ∙ s.text_is)));
      row_is =
          ap (λ x. x ++ lenenc_row (names g.back)) row_more
          ∙ (append_assoc row (lenenc_spelling name) _
          ∙ (ap (λ x. row ++ x) (sym row_next) ∙ s.row_is));
    }

  -- if no place is left, the rest follows as it is, and the row is whole
  pub gathered_all : OnTokensIn reading rest (λ us. place_count us ≡ 0) → (text' : List ℕ) → text' ≡ text ++ rest →
      OnTokensIn reading query (λ ts. (text' ≡ text_of (with_marks ts)) × (row ≡ lenenc_row (names ts)))
  gathered_all o text' text_more =
      let same : o.0 ≡ s.left = one_reading reading rest o.0 s.left o.1 s.rest_tokens in
      let none : length (names s.left) ≡ 0 = omega (arith, ap place_count same, o.2, place_count-sum s.left) in
      let rest_is : rest ≡ text_of (with_marks s.left) = sym (ap text_of (with_marks-nameless s.left none) ∙ reading_text reading rest s.left s.rest_tokens) in
      let no_row : lenenc_row (names s.left) ≡ [] = ap lenenc_row (nil_from_length (names s.left) none) in (
        s.all,
        s.tokens,
        (
          text_more ∙ (ap (λ x. text ++ x) rest_is ∙ s.text_is),
          sym (append-nil row) ∙ (ap (λ x. row ++ x) (sym no_row) ∙ s.row_is),
        ),
      )

-- text and row are written up to the indices, and have room for the rest
pub record NamedSoFar (reading : Reading) (query rest text row : List ℕ) (text_at row_at : ℕ) : Type 0 where
  pub all : List Token
  pub tokens : IsTokensIn reading query all
  pub left : List Token
  pub rest_tokens : IsTokensIn reading rest left
  pub no_marks : marks left ≡ 0
  pub text_is : take text_at text ++ text_of (with_marks left) ≡ text_of (with_marks all)
  pub row_is : take row_at row ++ lenenc_row (names left) ≡ lenenc_row (names all)
  pub text_length : length text ≡ length (text_of (with_marks all))
  pub row_length : length row ≡ length (lenenc_row (names all))
  pub text_in_range : text_at ≤ length text
  pub row_in_range : row_at ≤ length row

pub named_none : (reading : Reading) (query text row : List ℕ) → OnTokensIn reading query (λ ts. marks ts ≡ 0) →
    OnTokensIn reading query (λ ts. length text ≡ length (text_of (with_marks ts))) →
    OnTokensIn reading query (λ ts. length row ≡ length (lenenc_row (names ts))) → NamedSoFar reading query query text row 0 0
named_none reading query text row o t r =
    let same_t : t.0 ≡ o.0 = one_reading reading query t.0 o.0 t.1 o.1 in
    let same_r : r.0 ≡ o.0 = one_reading reading query r.0 o.0 r.1 o.1 in
    record {
      all = o.0;
      tokens = o.1;
      left = o.0;
      rest_tokens = o.1;
      no_marks = o.2;
      text_is = refl;
      row_is = refl;
      text_length = t.2 ∙ ap (λ ts. length (text_of (with_marks ts))) same_t;
      row_length = r.2 ∙ ap (λ ts. length (lenenc_row (names ts))) same_r;
      text_in_range = omega arith;
      row_in_range = omega arith;
    }

module _ (reading : Reading) (query rest text row : List ℕ) (text_at row_at : ℕ) (s : NamedSoFar reading query rest text row text_at row_at) where
  text_filled : length (take text_at text) ≡ text_at
  text_filled = length-take-le text_at text s.text_in_range

  row_filled : length (take row_at row) ≡ row_at
  row_filled = length-take-le row_at row s.row_in_range

  text_room : text_at + length (text_of (with_marks s.left)) ≡ length text
  text_room = omega (arith, text_filled, ap length s.text_is, length-append (take text_at text) (text_of (with_marks s.left)), s.text_length)

  row_room : row_at + length (lenenc_row (names s.left)) ≡ length row
  row_room = omega (arith, row_filled, ap length s.row_is, length-append (take row_at row) (lenenc_row (names s.left)), s.row_length)

  module _ (found : FoundPlace) (o : OnTokensIn reading rest (λ us. IsFirstPlace us found)) (run place after name : List ℕ) (run_is : run ≡ take found.before rest)
      (place_is : place ≡ take found.len (drop found.before rest)) (after_is : after ≡ drop (found.before + found.len) rest) (name_is : name ≡ drop 1 place) where
    abbrev p : IsPartedIn reading rest s.left found
    p = parted_in reading rest s.left found s.rest_tokens o

    is : place_kind p.place ≡ Some kind.Name
    is = name_found reading rest s.left found s.no_marks p

    text_left : text_of (with_marks s.left) ≡ run ++ question_mark ∷ text_of (with_marks p.back)
    text_left =
        ap (λ x. text_of (with_marks x)) p.tokens_are
        ∙ (text-with_marks_at_place p.front p.place kind.Name p.back p.no_place is
        ∙ ap (λ x. x ++ question_mark ∷ text_of (with_marks p.back)) (p.front_text ∙ sym run_is))

    names_left : names s.left ≡ name ∷ names p.back
    names_left =
        ap names p.tokens_are ∙ (names_at_name p.front p.place p.back p.no_place is
        ∙ ap (λ n. n ∷ names p.back) (ap (drop 1) (p.place_bytes ∙ sym place_is) ∙ sym name_is))

    row_left : lenenc_row (names s.left) ≡ lenenc_spelling name ++ lenenc_row (names p.back)
    row_left = ap lenenc_row names_left

    both_fit : text_at + (length run + (1 + length (text_of (with_marks p.back)))) ≡ length text
    both_fit = omega (arith, text_room, ap length text_left, length-append run (question_mark ∷ text_of (with_marks p.back)))

    pub run_fits : text_at + length run ≤ length text
    run_fits = omega (arith, both_fit)

    pub name_fits : row_at + length (lenenc_spelling name) ≤ length row
    name_fits = omega (arith, row_room, ap length row_left, length-append (lenenc_spelling name) (lenenc_row (names p.back)))

    module _ (text' : List ℕ) (at' : ℕ) (at'_is : at' ≡ text_at + length run) (same : length text' ≡ length text) (written : take at' text' ≡ take text_at text ++ run) where
      pub mark_fits : at' < length text'
      mark_fits = omega (arith, both_fit, at'_is, same)

      pub named_more : (text'' row' : List ℕ) (at'' row_at' : ℕ) → at'' ≡ at' + 1 → length text'' ≡ length text' → take at'' text'' ≡ take at' text' ++ question_mark ∷ [] →
          row_at' ≡ row_at + length (lenenc_spelling name) → length row' ≡ length row → take row_at' row' ≡ take row_at row ++ lenenc_spelling name →
          NamedSoFar reading query after text'' row' at'' row_at'
      named_more text'' row' at'' row_at' at''_is same' marked row_at'_is same_row row_written = record {
        all = s.all;
        tokens = s.tokens;
        left = p.back;
        rest_tokens = subst (λ x. IsTokensIn reading x p.back) (sym after_is) p.rest_tokens;
        no_marks = sym (marks_at_name p.front p.place p.back p.no_place is) ∙ (ap marks (sym p.tokens_are) ∙ s.no_marks);
        text_is =
            ap (λ x. x ++ text_of (with_marks p.back)) (marked ∙ ap (λ x. x ++ question_mark ∷ []) written)
            ∙ (append_assoc (take text_at text ++ run) (question_mark ∷ []) _
            ∙ (append_assoc (take text_at text) run _
            ∙ (ap (λ x. take text_at text ++ x) (sym text_left) ∙ s.text_is)));
        row_is =
            ap (λ x. x ++ lenenc_row (names p.back)) row_written
            ∙ (append_assoc (take row_at row) (lenenc_spelling name) _
            ∙ (ap (λ x. take row_at row ++ x) (sym row_left) ∙ s.row_is));
        text_length = same' ∙ (same ∙ s.text_length);
        row_length = same_row ∙ s.row_length;
        text_in_range = omega (arith, both_fit, at'_is, same, at''_is, same');
        row_in_range = omega (arith, name_fits, row_at'_is, same_row);
      }

  -- if no place is left, the rest follows as it is, and the row is written
  module _ (o : OnTokensIn reading rest (λ us. place_count us ≡ 0)) where
    nameless : length (names s.left) ≡ 0
    nameless =
        let same : o.0 ≡ s.left = one_reading reading rest o.0 s.left o.1 s.rest_tokens in
        omega (arith, ap place_count same, o.2, place_count-sum s.left)

    rest_text : text_of (with_marks s.left) ≡ rest
    rest_text = ap text_of (with_marks-nameless s.left nameless) ∙ reading_text reading rest s.left s.rest_tokens

    pub rest_fits : text_at + length rest ≡ length text
    rest_fits = omega (arith, text_room, ap length rest_text)

    pub text_named : (text' : List ℕ) (at' : ℕ) → at' ≡ text_at + length rest → length text' ≡ length text → take at' text' ≡ take text_at text ++ rest →
        OnTokensIn reading query (λ ts. text' ≡ text_of (with_marks ts))
    text_named text' at' at'_is same written = (
      s.all,
      s.tokens,
      sym (take_all at' text' (omega (arith, at'_is, same, rest_fits)))
          ∙ (written ∙ (ap (λ x. take text_at text ++ x) (sym rest_text) ∙ s.text_is)),
    )

    pub row_named : OnTokensIn reading query (λ ts. row ≡ lenenc_row (names ts))
    row_named =
        let none : lenenc_row (names s.left) ≡ [] = ap lenenc_row (nil_from_length (names s.left) nameless) in (
          s.all,
          s.tokens,
          sym (take_all row_at row (omega (arith, row_room, ap length none)))
              ∙ (sym (append-nil (take row_at row)) ∙ (ap (λ x. take row_at row ++ x) (sym none) ∙ s.row_is)),
        )

-- ---- the answer

-- without names it is the query
pub nameless_answer : (reading : Reading) (query : List ℕ) (survey : NamesSurvey) → OnTokensIn reading query (IsNamesSurvey survey) → survey.names ≡ 0 →
    OnTokensIn reading query (λ ts. lenenc_spelling query ≡ names_answer (parsed ts))
nameless_answer reading query survey o none =
    let nameless : length (names o.0) ≡ 0 = sym o.2.0 ∙ none in
    let text : text_of (with_marks o.0) ≡ query = ap text_of (with_marks-nameless o.0 nameless) ∙ reading_text reading query o.0 o.1 in (
      o.0,
      o.1,
      sym (append-nil (lenenc_spelling query))
          ∙ (ap (λ ns. lenenc_spelling query ++ lenenc_row ns) (sym (nil_from_length (names o.0) nameless))
          ∙ ap (λ x. lenenc_spelling x ++ lenenc_row (names o.0)) (sym text)),
    )

module _ (reading : Reading) (query : List ℕ) (survey : NamesSurvey) (o : OnTokensIn reading query (IsNamesSurvey survey)) (marked : survey.marked_len ≤ length query) (end : ℕ)
    (end_is : end ≡ length (lenenc_spelling (take survey.marked_len query))) where
  abbrev n : ℕ
  n = survey.marked_len

  front_length : length (take n query) ≡ n
  front_length = length-take-le n query marked

  end_length : end ≡ length (length_spelling n) + n
  end_length = end_is ∙ (length-append (length_spelling (length (take n query))) (take n query) ∙ ap (λ k. length (length_spelling k) + k) front_length)

  answer_length : length (names_answer (parsed o.0)) ≡ end + survey.row_len
  answer_length =
      length-append (lenenc_spelling (text_of (with_marks o.0))) (lenenc_row (names o.0))
      ∙ omega (arith, length-append (length_spelling (length (text_of (with_marks o.0)))) (text_of (with_marks o.0)), ap (λ k. length (length_spelling k)) o.2.2, o.2.2, o.2.3, end_length)

  pub slice_length : (slice : List ℕ) → OnTokensIn reading query (λ ts. length slice ≡ length (names_answer (parsed ts))) → length slice ≡ end + survey.row_len
  slice_length slice exact =
      exact.2 ∙ (ap (λ ts. length (names_answer (parsed ts))) (one_reading reading query exact.0 o.0 exact.1 o.1) ∙ answer_length)

  pub row_length : (row : List ℕ) → length row ≡ survey.row_len → OnTokensIn reading query (λ ts. length row ≡ length (lenenc_row (names ts)))
  row_length row is = (o.0, o.1, is ∙ o.2.3)

  pub joined_answer : (head text row : List ℕ) → head ≡ take (end - n) (lenenc_spelling (take n query)) →
      OnTokensIn reading query (λ ts. text ≡ text_of (with_marks ts)) → OnTokensIn reading query (λ ts. row ≡ lenenc_row (names ts)) →
      OnTokensIn reading query (λ ts. (head ++ text) ++ row ≡ names_answer (parsed ts))
  joined_answer head text row head_is t r =
      let text_is : text ≡ text_of (with_marks o.0) = t.2 ∙ ap (λ ts. text_of (with_marks ts)) (one_reading reading query t.0 o.0 t.1 o.1) in
      let row_is : row ≡ lenenc_row (names o.0) = r.2 ∙ ap (λ ts. lenenc_row (names ts)) (one_reading reading query r.0 o.0 r.1 o.1) in
      let spelled : head ≡ length_spelling (length (text_of (with_marks o.0))) =
      head_is ∙ (take_at (length_spelling (length (take n query))) (take n query) (end - n) (ap (λ k. length (length_spelling k)) front_length ∙ omega (arith, end_length))
      ∙ ap length_spelling (front_length ∙ o.2.2)) in (
        o.0,
        o.1,
        ap (λ x. (x ++ text) ++ row) spelled
            ∙ (ap (λ x. (length_spelling (length (text_of (with_marks o.0))) ++ x) ++ row) text_is
            ∙ ap (λ x. lenenc_spelling (text_of (with_marks o.0)) ++ x) row_is),
      )

-- the room has the answer to a query that is not mixed
pub answered : (reading : Reading) (query old new : List ℕ) (survey : NamesSurvey) (outcome : Outcome) → OnTokensIn reading query (IsNamesSurvey survey) →
    ((0 < survey.names) × (0 < survey.marks) → ⊥) → OnTokensIn reading query (λ ts. IsInRoom (names_answer (parsed ts)) old new outcome) →
    (text : List ℕ) × IsNamesAnswerIn reading query text × IsInRoom text old new outcome
answered reading query old new survey outcome o unmixed a =
    let same : o.0 ≡ a.0 = one_reading reading query o.0 a.0 o.1 a.1 in
    let is : (survey.names ≡ length (names a.0)) × (survey.marks ≡ marks a.0) =
    subst (λ ts. (survey.names ≡ length (names ts)) × (survey.marks ≡ marks ts)) same (o.2.0, o.2.1) in
    let not_both : HasName a.0 × HasMark a.0 → ⊥ = λ both. unmixed (omega (arith, both.0, is.0), omega (arith, both.1, is.1)) in
    (names_answer (parsed a.0), (a.0, a.1, (not_both, refl)), a.2)

pub answer_is : (reading : Reading) (query text written : List ℕ) → written ≡ text →
    OnTokensIn reading query (λ ts. text ≡ names_answer (parsed ts)) → OnTokensIn reading query (λ ts. written ≡ names_answer (parsed ts))
answer_is reading query text written is o = (o.0, o.1, is ∙ o.2)

pub same_length : (reading : Reading) (query slice text : List ℕ) → OnTokensIn reading query (λ ts. length slice ≡ length (names_answer (parsed ts))) →
    OnTokensIn reading query (λ ts. text ≡ names_answer (parsed ts)) → length slice ≡ length text
same_length reading query slice text exact o =
    let same : exact.0 ≡ o.0 = one_reading reading query exact.0 o.0 exact.1 o.1 in
    exact.2 ∙ (ap (λ ts. length (names_answer (parsed ts))) same ∙ sym (ap length o.2))

-- both texts of the answer are in the room, or memory was refused
pub both_are_answer : (reading : Reading) (query text row old new : List ℕ) (outcome : Outcome) →
    OnTokensIn reading query (λ ts. (text ≡ text_of (with_marks ts)) × (row ≡ lenenc_row (names ts))) →
    IsInRoomOrMemory (lenenc_spelling text ++ row) old new outcome → OnTokensIn reading query (λ ts. IsInRoomOrMemory (names_answer (parsed ts)) old new outcome)
both_are_answer reading query text row old new outcome o in_room = (
  o.0,
  o.1,
  subst (λ x. IsInRoomOrMemory x old new outcome) (ap (λ x. lenenc_spelling x ++ row) o.2.0 ∙ ap (λ x. lenenc_spelling (text_of (with_marks o.0)) ++ x) o.2.1) in_room,
)

module _ (reading : Reading) (query old new : List ℕ) where
  -- a query without marks is not mixed
  answer_of : (ts : List Token) → IsTokensIn reading query ts → marks ts ≡ 0 → IsNamesAnswerIn reading query (names_answer (parsed ts))
  answer_of ts is none = (ts, is, ((λ both. omega (arith, both.1, none)), refl))

  pub gathered_told : (outcome : Outcome) → OnTokensIn reading query (λ ts. marks ts ≡ 0) →
      OnTokensIn reading query (λ ts. IsInRoomOrMemory (names_answer (parsed ts)) old new outcome) →
      IsNamesOutcomeIn reading query outcome × IfDone outcome (λ len. IsNamesAnswerIn reading query (take len new))
  gathered_told outcome m o =
      let same : m.0 ≡ o.0 = one_reading reading query m.0 o.0 m.1 o.1 in
      let is : IsNamesAnswerIn reading query (names_answer (parsed o.0)) = answer_of o.0 o.1 (ap marks (sym same) ∙ m.2) in
      by_outcome outcome (names_answer (parsed o.0)) is o.2
    where
      by_outcome : (outcome : Outcome) (answer : List ℕ) → IsNamesAnswerIn reading query answer → IsInRoomOrMemory answer old new outcome →
          IsNamesOutcomeIn reading query outcome × IfDone outcome (λ len. IsNamesAnswerIn reading query (take len new))
      by_outcome (Done len) answer answers room = ((answer, answers, room.0), subst (IsNamesAnswerIn reading query) (sym room.2) answers)
      by_outcome (Room len) answer answers room = ((answer, answers, room.0), tt)
      by_outcome OutOfMemory answer answers room = (tt, tt)
      by_outcome outcome answer answers room = absurd room

-- ---- without a byte `?` from the first place on there are no marks

marks-other : (ts : List Token) → list_all is_other (text_of ts) ≡ true → marks ts ≡ 0
marks-other [] h = refl
marks-other (Mark ∷ ts) h = cc
marks-other (Name name ∷ ts) h = marks-other ts (and_parts _ _ (sym (list_all-append is_other (colon ∷ name) (text_of ts)) ∙ h)).1
marks-other (t ∷ ts) h = marks-other ts (and_parts _ _ (sym (list_all-append is_other (bytes_of t) (text_of ts)) ∙ h)).1

all_other : (text : List ℕ) → IsFirstByte (is_byte question_mark) text None → list_all is_other text ≡ true
all_other text nowhere =
    list_all-from_AllPass is_other text (All-from_get_or (λ b. is_other b ≡ true) text 0 (λ k lt. ap not (fails (get_or text k 0 == question_mark) (nowhere k (omega arith) lt))))

pub names_alone_told : (reading : Reading) (query rest : List ℕ) (found : FoundPlace) → OnTokensIn reading query (λ ts. IsFirstPlace ts found) →
    rest ≡ drop found.before query → IsFirstByte (is_byte question_mark) rest None →
    OnTokensIn reading query (λ ts. ◌≡◌ {A = Bool} true true → HasName ts × (marks ts ≡ 0))
names_alone_told reading query rest found o rest_is nowhere =
    let p = parted_in reading query o.0 found o.1 o in
    let others : list_all is_other (text_of (p.place ∷ p.back)) ≡ true =
    ap (list_all is_other) (reading_text reading (drop found.before query) (p.place ∷ p.back) p.place_tokens ∙ sym rest_is) ∙ all_other rest nowhere in
    let markless : marks o.0 ≡ 0 = ap marks p.tokens_are ∙ (marks_after p.front p.place p.back p.no_place ∙ marks-other (p.place ∷ p.back) others) in
    let is = name_found reading query o.0 found markless p in
    let some : names o.0 ≡ drop 1 (bytes_of p.place) ∷ names p.back = ap names p.tokens_are ∙ names_at_name p.front p.place p.back p.no_place is in
    (o.0, o.1, λ _. (omega (arith, ap length some), markless))
