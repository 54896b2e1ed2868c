-- The names of a query that are surveyed so far, and those that are left.
use Rattle.std.proofs.Common.{◌≡◌, ℕ, ◌+◌, ◌*◌, ◌≤◌, ◌<◌, List, ◌∷◌, length, take, drop, Some, sym, ap, ◌∙◌, subst, arith, length-append, length-drop}
use Rattle.std.proofs.lemmas.List.{length-take-le, nil_from_length}
use Rattle.mysql_wire_part.specs.Lenenc.{lenenc_spelling}
use Rattle.mysql_named_params.specs.Tokens.{Token, bytes_of, text_of}
use Rattle.mysql_named_params.specs.Places.{names, marks, place_count, with_marks}
use Rattle.mysql_named_params.specs.FirstPlace.{place_kind, IsFirstPlace}
use Rattle.mysql_named_params.specs.declared.places.FoundPlace.{FoundPlace}
use Rattle.mysql_named_params.specs.declared.places.PlaceKind.TheVariants as kind
use Rattle.mysql_named_params.proofs.TokenRowLemmas.{place_count-sum, with_marks-nameless}
use Rattle.mysql_named_params.proofs.FoundPlaceLemmas.{IsPartedIn, parted_in, names_at_name, marks_at_name, names_at_mark, marks_at_mark}
use Rattle.mysql_named_params.specs.Reading.{IsTokensIn, OnTokensIn}
use Rattle.mysql_named_params.specs.declared.places.Reading.{Reading}
use Rattle.mysql_named_params.proofs.ReadingLemmas.{one_reading, reading_exists, reading_text}
use Rattle.mysql_flat_params.specs.NamesAnswer.{lenenc_row}
use Rattle.mysql_flat_params.proofs.MarkedLemmas.{length-with_marks_at_place, name_has_byte, lenenc_small}

-- these numbers of names, marks and bytes, with those of the rest, are those of the query
pub record SurveyedSoFar (reading : Reading) (query rest : List ℕ) (name_count mark_count marked_len row_len : ℕ) : Type 0 where
  pub all : List Token
  pub tokens : IsTokensIn reading query all
  pub left : List Token
  pub rest_tokens : IsTokensIn reading rest left
  pub names_are : name_count + length (names left) ≡ length (names all)
  pub marks_are : mark_count + marks left ≡ marks all
  pub marked_is : marked_len + length (text_of (with_marks left)) ≡ length (text_of (with_marks all))
  pub row_is : row_len + length (lenenc_row (names left)) ≡ length (lenenc_row (names all))
  -- each place has a byte
  pub room : name_count + mark_count + length rest ≤ length query
  pub marked_room : marked_len + length rest ≤ length query
  pub small : 2 * (marked_len + row_len) + 3 * length rest ≤ 3 * length query

pub surveyed_none : (reading : Reading) (query : List ℕ) → SurveyedSoFar reading query query 0 0 0 0
surveyed_none reading query =
    let ts = reading_exists reading query in
    record { all = ts.0; tokens = ts.1; left = ts.0; rest_tokens = ts.1; names_are = omega arith; marks_are = omega arith; marked_is = omega arith; row_is = omega arith; room = omega arith; marked_room = omega arith; small = omega arith }

module _ (reading : Reading) (query rest : List ℕ) (i j m r : ℕ) (s : SurveyedSoFar reading query rest i j m r) where
  module _ (found : FoundPlace) (o : OnTokensIn reading rest (λ us. IsFirstPlace us found)) where
    abbrev p : IsPartedIn reading rest s.left found
    p = parted_in reading rest s.left found s.rest_tokens o

    pub place_in_range : (0 < found.len) × (found.before + found.len ≤ length rest)
    place_in_range = (p.has_length, p.in_range)

    front_length : length (text_of p.front) ≡ found.before
    front_length = ap length p.front_text ∙ length-take-le found.before rest (omega (arith, p.in_range))

    marked_here : length (text_of (with_marks s.left)) ≡ found.before + 1 + length (text_of (with_marks p.back))
    marked_here =
        ap (λ x. length (text_of (with_marks x))) p.tokens_are
        ∙ (length-with_marks_at_place p.front p.place found.kind p.back p.no_place p.kind_is
        ∙ ap (λ n. n + 1 + length (text_of (with_marks p.back))) front_length)

    module _ (place after : List ℕ) (place_is : place ≡ take found.len (drop found.before rest)) (after_is : after ≡ drop (found.before + found.len) rest) where
      after_length : length after + (found.before + found.len) ≡ length rest
      after_length = omega (arith, ap length after_is, length-drop (found.before + found.len) rest, p.in_range)

      place_length : length place ≡ found.len
      place_length = ap length place_is ∙ length-take-le found.len (drop found.before rest) (omega (arith, length-drop found.before rest, p.in_range))

      bytes_are : place ≡ bytes_of p.place
      bytes_are = place_is ∙ sym p.place_bytes

      module _ (name : List ℕ) (name_is : name ≡ drop 1 place) (e : found.kind ≡ kind.Name) where
        is : place_kind p.place ≡ Some kind.Name
        is = p.kind_is ∙ ap Some e

        name_bytes : drop 1 (bytes_of p.place) ≡ name
        name_bytes = ap (drop 1) (sym bytes_are) ∙ sym name_is

        names_here : names s.left ≡ name ∷ names p.back
        names_here = ap names p.tokens_are ∙ (names_at_name p.front p.place p.back p.no_place is ∙ ap (λ n. n ∷ names p.back) name_bytes)

        row_here : length (lenenc_row (names s.left)) ≡ length (lenenc_spelling name) + length (lenenc_row (names p.back))
        row_here = ap (λ ns. length (lenenc_row ns)) names_here ∙ length-append (lenenc_spelling name) (lenenc_row (names p.back))

        name_length : length name + 1 ≡ found.len
        name_length = omega (arith, ap length name_is, length-drop 1 place, place_length, p.has_length)

        -- the length of a name in the answer
        pub name_small : 2 * (length (lenenc_spelling name) + 1) ≤ 3 * found.len
        name_small =
            omega (arith, name_length, lenenc_small name (omega (arith, name_has_byte reading _ p.place p.back is p.place_tokens, ap length name_bytes)))

        pub surveyed_name : (i' j' m' r' : ℕ) → i' ≡ i + 1 → j' ≡ j → m' ≡ m + (found.before + 1) → r' ≡ r + length (lenenc_spelling name) →
            SurveyedSoFar reading query after i' j' m' r'
        surveyed_name i' j' m' r' i_is j_is m_is r_is = record {
          all = s.all;
          tokens = s.tokens;
          left = p.back;
          rest_tokens = subst (λ x. IsTokensIn reading x p.back) (sym after_is) p.rest_tokens;
          names_are = omega (arith, i_is, ap length names_here, s.names_are);
          marks_are = omega (arith, j_is, ap marks p.tokens_are, marks_at_name p.front p.place p.back p.no_place is, s.marks_are);
          marked_is = omega (arith, m_is, marked_here, s.marked_is);
          row_is = omega (arith, r_is, row_here, s.row_is);
          room = omega (arith, i_is, j_is, after_length, p.has_length, s.room);
          marked_room = omega (arith, m_is, after_length, p.has_length, s.marked_room);
          small = omega (arith, m_is, r_is, after_length, name_small, s.small);
        }

      pub surveyed_mark : (i' j' m' r' : ℕ) → found.kind ≡ kind.Mark → i' ≡ i → j' ≡ j + 1 → m' ≡ m + (found.before + 1) → r' ≡ r →
          SurveyedSoFar reading query after i' j' m' r'
      surveyed_mark i' j' m' r' e i_is j_is m_is r_is =
          let is = p.kind_is ∙ ap Some e in
          let names_here : names s.left ≡ names p.back = ap names p.tokens_are ∙ names_at_mark p.front p.place p.back p.no_place is in
          record {
            all = s.all;
            tokens = s.tokens;
            left = p.back;
            rest_tokens = subst (λ x. IsTokensIn reading x p.back) (sym after_is) p.rest_tokens;
            names_are = omega (arith, i_is, ap length names_here, s.names_are);
            marks_are = omega (arith, j_is, ap marks p.tokens_are, marks_at_mark p.front p.place p.back p.no_place is, s.marks_are);
            marked_is = omega (arith, m_is, marked_here, s.marked_is);
            row_is = omega (arith, r_is, ap (λ ns. length (lenenc_row ns)) names_here, s.row_is);
            room = omega (arith, i_is, j_is, after_length, p.has_length, s.room);
            marked_room = omega (arith, m_is, after_length, p.has_length, s.marked_room);
            small = omega (arith, m_is, r_is, after_length, p.has_length, s.small);
          }

  -- if no place is left, all are surveyed
  pub surveyed_all : (m' : ℕ) → m' ≡ m + length rest → OnTokensIn reading rest (λ us. place_count us ≡ 0) →
      OnTokensIn reading query (λ ts. (i ≡ length (names ts)) × (j ≡ marks ts) × (m' ≡ length (text_of (with_marks ts))) × (r ≡ length (lenenc_row (names ts))))
  surveyed_all m' m_is o =
      let same : o.0 ≡ s.left = one_reading reading rest o.0 s.left o.1 s.rest_tokens in
      let none : place_count s.left ≡ 0 = sym (ap place_count same) ∙ o.2 in
      let nameless : length (names s.left) ≡ 0 = omega (arith, none, place_count-sum s.left) in
      let left_len : length (text_of (with_marks s.left)) ≡ length rest = ap (λ x. length (text_of x)) (with_marks-nameless s.left nameless) ∙ ap length (reading_text reading rest s.left s.rest_tokens) in
      let no_row : length (lenenc_row (names s.left)) ≡ 0 = ap (λ ns. length (lenenc_row ns)) (nil_from_length (names s.left) nameless) in
      (s.all, s.tokens, (omega (arith, nameless, s.names_are), omega (arith, none, place_count-sum s.left, s.marks_are), omega (arith, m_is, left_len, s.marked_is), omega (arith, no_row, s.row_is)))
