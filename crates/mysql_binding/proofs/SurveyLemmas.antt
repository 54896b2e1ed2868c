-- The places that are surveyed as far as a position, and those that are left.
use Rattle.std.specs.Prelude.{Bool}
use Rattle.std.specs.Option.{option_or}
use Rattle.std.proofs.Common.{◌≡◌, ℕ, ◌+◌, ◌-◌, ◌≤◌, true, false, List, [], ◌∷◌, ◌++◌, length, take, drop, if◌then◌else◌, Option, Some, None, refl, sym, ap, ◌∙◌, subst, arith, append_assoc, append-nil, drop-drop, length-drop}
use Rattle.std.proofs.Math.Seq.{take-add}
use Rattle.std.proofs.lemmas.List.{length-take-le}
use Rattle.mysql_named_params.specs.Tokens.{Token, bytes_of, text_of, Name, Mark}
use Rattle.mysql_named_params.specs.Places.{names, marks, place_count}
use Rattle.mysql_named_params.specs.FirstPlace.{place_kind, IsFirstPlace}
use Rattle.mysql_named_params.specs.declared.places.FoundPlace.{FoundPlace}
use Rattle.mysql_named_params.specs.declared.places.PlaceKind.{PlaceKind}
use Rattle.mysql_named_params.specs.declared.places.PlaceKind.TheVariants as kind
use Rattle.mysql_named_params.proofs.TokenRowLemmas.{place_count-sum}
use Rattle.mysql_named_params.proofs.FoundPlaceLemmas.{IsPartedIn, parted_in, names_at_name, marks_at_name, names_at_mark, marks_at_mark}
use Rattle.mysql_named_params.specs.Reading.{IsTokensIn, OnTokensIn}
use Rattle.mysql_named_params.specs.declared.places.Reading.{Reading}
use Rattle.mysql_named_params.proofs.ReadingLemmas.{one_reading, reading_exists, reading_text}
use Rattle.mysql_binding.specs.StandsAlone.{stands_alone, first_not_alone, first_not_alone_from}
use Rattle.mysql_binding.specs.TextLength.{pieces_len}
use Rattle.mysql_binding.proofs.RenamedPlaceLemmas.{no_place_alone}
use Rattle.mysql_binding.proofs.TextLengthLemmas.{plain_len, plain_len-place, plain_len-no_place, pieces_len-plain_len}

-- The names and marks so far, with those that are left, are those of the query. Its first place
-- that doesn't stand alone is the one found so far, or else among those that are left.
pub record SurveyedSoFar (reading : Reading) (query : List ℕ) (at name_count mark_count : ℕ) (not_alone : Option (ℕ × ℕ)) (piece_bytes : ℕ) : Type 0 where
  pub all : List Token
  pub tokens : IsTokensIn reading query all
  pub left : List Token
  pub rest_tokens : IsTokensIn reading (drop at query) left
  pub names_are : name_count + length (names left) ≡ length (names all)
  pub marks_are : mark_count + marks left ≡ marks all
  pub finds : option_or not_alone (first_not_alone_from (name_count + mark_count) (take at query) left) ≡ first_not_alone all
  -- each place has a byte
  pub room : name_count + mark_count ≤ at
  pub pieces_are : piece_bytes + plain_len left ≡ plain_len all
  pub pieces_room : piece_bytes ≤ at
  pub in_range : at ≤ length query

pub surveyed_none : (reading : Reading) (query : List ℕ) → SurveyedSoFar reading query 0 0 0 None 0
surveyed_none reading query =
    let ts = reading_exists reading query in
    record { all = ts.0; tokens = ts.1; left = ts.0; rest_tokens = ts.1; names_are = omega arith; marks_are = omega arith; finds = refl; room = omega arith; pieces_are = omega arith; pieces_room = omega arith; in_range = omega arith }

-- ---- options

option_or-assoc : {A : Type 0} (a b c : Option A) →
    option_or (option_or a b) c ≡ option_or a (option_or b c)
option_or-assoc None b c = refl
option_or-assoc (Some x) b c = refl

option_or-None : {A : Type 0} (a : Option A) → option_or a None ≡ a
option_or-None None = refl
option_or-None (Some x) = refl

if-option_or : {A : Type 0} (b : Bool) (x : Option A) (y : A) →
    (if b then x else Some y) ≡ option_or (if b then None else Some y) x
if-option_or true x y = refl
if-option_or false x y = refl

-- ---- the first place of tokens that are parted_in there

first_not_alone-append : (front : List Token) (ts : List Token) (place : ℕ) (before : List ℕ) →
    place_count front ≡ 0 →
    first_not_alone_from place before (front ++ ts) ≡ first_not_alone_from place (before ++ text_of front) ts
first_not_alone-append [] ts place before e = ap (λ x. first_not_alone_from place x ts) (sym (append-nil before))
first_not_alone-append (Name name ∷ front) ts place before e = absurd (omega arith)
first_not_alone-append (Mark ∷ front) ts place before e = absurd (omega arith)
first_not_alone-append (t ∷ front) ts place before e = first_not_alone-append front ts place (before ++ bytes_of t) e ∙ ap (λ x. first_not_alone_from place x ts) (append_assoc before (bytes_of t) (text_of front))

first_not_alone-place : (t : Token) (k : PlaceKind) (ts : List Token) (place : ℕ) (before : List ℕ) →
    place_kind t ≡ Some k →
    first_not_alone_from place before (t ∷ ts) ≡ (if stands_alone before (text_of ts) then first_not_alone_from (place + 1) (before ++ bytes_of t) ts else Some (place, length before))
first_not_alone-place (Name name) k ts place before e = refl
first_not_alone-place Mark k ts place before e = refl
first_not_alone-place t k ts place before e = cc

module _ (reading : Reading) (query rest : List ℕ) (at i j : ℕ) (not_alone : Option (ℕ × ℕ)) (b : ℕ) (found : FoundPlace) (s : SurveyedSoFar reading query at i j not_alone b) (rest_is : rest ≡ drop at query) (o : OnTokensIn reading rest (λ us. IsFirstPlace us found)) where
  abbrev pub start : ℕ
  start = at + found.before

  abbrev pub end : ℕ
  end = start + found.len

  abbrev pub here : Option (ℕ × ℕ)
  here = if stands_alone (take start query) (drop end query) then None else Some (i + j, start)

  abbrev pub p : IsPartedIn reading (drop at query) s.left found
  p = parted_in reading (drop at query) s.left found s.rest_tokens (subst (λ x. OnTokensIn reading x (λ us. IsFirstPlace us found)) rest_is o)

  end_is : at + (found.before + found.len) ≡ end
  end_is = omega arith

  back_text : text_of p.back ≡ drop end query
  back_text = reading_text reading _ p.back p.rest_tokens ∙ (drop-drop (found.before + found.len) at query ∙ ap (λ n. drop n query) end_is)

  front_text : take at query ++ text_of p.front ≡ take start query
  front_text = ap (λ x. take at query ++ x) p.front_text ∙ sym (take-add at found.before query)

  place_text : take start query ++ bytes_of p.place ≡ take end query
  place_text = ap (λ x. take start query ++ x) (p.place_bytes ∙ ap (take found.len) (drop-drop found.before at query)) ∙ sym (take-add start found.len query)

  end_in_range : end ≤ length query
  end_in_range = omega (arith, end_is, p.in_range, length-drop at query, s.in_range)

  start_length : length (take start query) ≡ start
  start_length = length-take-le start query (omega (arith, end_in_range))

  finds_here : first_not_alone_from (i + j) (take at query) s.left ≡ option_or here (first_not_alone_from (i + j + 1) (take end query) p.back)
  finds_here =
      ap (first_not_alone_from (i + j) (take at query)) p.tokens_are
      ∙ (first_not_alone-append p.front (p.place ∷ p.back) (i + j) (take at query) p.no_place
      ∙ (ap (λ x. first_not_alone_from (i + j) x (p.place ∷ p.back)) front_text
      ∙ (first_not_alone-place p.place found.kind p.back (i + j) (take start query) p.kind_is
      ∙ (ap (λ x. if stands_alone (take start query) x then first_not_alone_from (i + j + 1) (take start query ++ bytes_of p.place) p.back else Some (i + j, length (take start query))) back_text
      ∙ (ap (λ x. if stands_alone (take start query) (drop end query) then first_not_alone_from (i + j + 1) x p.back else Some (i + j, length (take start query))) place_text
      ∙ (ap (λ x. if stands_alone (take start query) (drop end query) then first_not_alone_from (i + j + 1) (take end query) p.back else Some (i + j, x)) start_length
      ∙ if-option_or (stands_alone (take start query) (drop end query)) (first_not_alone_from (i + j + 1) (take end query) p.back) (i + j, start)))))))

  front_length : length (text_of p.front) ≡ found.before
  front_length = ap length p.front_text ∙ length-take-le found.before (drop at query) (omega (arith, p.in_range))

  pieces_here : plain_len s.left ≡ found.before + plain_len p.back
  pieces_here = ap plain_len p.tokens_are ∙ (plain_len-place p.front p.place found.kind p.back p.no_place p.kind_is ∙ ap (λ m. m + plain_len p.back) front_length)

  -- one place more
  surveyed_place : (k l n c : ℕ) (not_alone' : Option (ℕ × ℕ)) → k + l ≡ i + j + 1 →
      k + length (names p.back) ≡ i + length (names s.left) → l + marks p.back ≡ j + marks s.left →
      n ≡ end → c ≡ b + found.before → not_alone' ≡ option_or not_alone here → SurveyedSoFar reading query n k l not_alone' c
  surveyed_place k l n c not_alone' more names_more marks_more n_is c_is not_alone_is =
      subst (λ x. SurveyedSoFar reading query x k l not_alone' c) (sym n_is) (record {
        all = s.all;
        tokens = s.tokens;
        left = p.back;
        rest_tokens = subst (λ x. IsTokensIn reading x p.back) (drop-drop (found.before + found.len) at query ∙ ap (λ m. drop m query) end_is) p.rest_tokens;
        names_are = names_more ∙ s.names_are;
        marks_are = marks_more ∙ s.marks_are;
        finds = ap (λ x. option_or x (first_not_alone_from (k + l) (take end query) p.back)) not_alone_is
            ∙ (ap (λ m. option_or (option_or not_alone here) (first_not_alone_from m (take end query) p.back)) more
            ∙ (option_or-assoc not_alone here _ ∙ (ap (option_or not_alone) (sym finds_here) ∙ s.finds)));
        room = omega (arith, more, s.room, p.has_length, end_is);
        pieces_are = omega (arith, c_is, pieces_here, s.pieces_are);
        pieces_room = omega (arith, c_is, s.pieces_room, end_is);
        in_range = end_in_range;
      })

  pub surveyed_name : (k l n c : ℕ) (not_alone' : Option (ℕ × ℕ)) → found.kind ≡ kind.Name → k ≡ i + 1 →
      l ≡ j → n ≡ end → c ≡ b + found.before → not_alone' ≡ option_or not_alone here →
      SurveyedSoFar reading query n k l not_alone' c
  surveyed_name k l n c not_alone' e ek el n_is c_is not_alone_is =
      let is = p.kind_is ∙ ap Some e in
      surveyed_place k l n c not_alone' (omega (arith, ek, el))
      (omega (arith, ek, ap (λ x. length (names x)) p.tokens_are, ap length (names_at_name p.front p.place p.back p.no_place is)))
      (omega (arith, el, ap marks p.tokens_are, marks_at_name p.front p.place p.back p.no_place is))
      n_is c_is not_alone_is

  pub surveyed_mark : (k l n c : ℕ) (not_alone' : Option (ℕ × ℕ)) → found.kind ≡ kind.Mark → k ≡ i →
      l ≡ j + 1 → n ≡ end → c ≡ b + found.before → not_alone' ≡ option_or not_alone here →
      SurveyedSoFar reading query n k l not_alone' c
  surveyed_mark k l n c not_alone' e ek el n_is c_is not_alone_is =
      let is = p.kind_is ∙ ap Some e in
      surveyed_place k l n c not_alone' (omega (arith, ek, el))
      (omega (arith, ek, ap (λ x. length (names x)) p.tokens_are, ap length (names_at_mark p.front p.place p.back p.no_place is)))
      (omega (arith, el, ap marks p.tokens_are, marks_at_mark p.front p.place p.back p.no_place is))
      n_is c_is not_alone_is

-- if no place is left, all are surveyed
pub surveyed_all : (reading : Reading) (query rest : List ℕ) (at i j : ℕ) (not_alone : Option (ℕ × ℕ)) (b c : ℕ) →
    SurveyedSoFar reading query at i j not_alone b → c ≡ b + (length query - at) → rest ≡ drop at query →
    OnTokensIn reading rest (λ us. place_count us ≡ 0) →
    OnTokensIn reading query (λ ts. (i ≡ length (names ts)) × (j ≡ marks ts) × (not_alone ≡ first_not_alone ts) × (c ≡ pieces_len ts))
surveyed_all reading query rest at i j not_alone b c s c_is rest_is o =
    let same : o.0 ≡ s.left = one_reading reading rest o.0 s.left o.1 (subst (λ x. IsTokensIn reading x s.left) (sym rest_is) s.rest_tokens) in
    let none : place_count s.left ≡ 0 = sym (ap place_count same) ∙ o.2 in
    let found : not_alone ≡ first_not_alone s.all = sym (option_or-None not_alone) ∙ (ap (option_or not_alone) (sym (no_place_alone s.left (i + j) (take at query) none)) ∙ s.finds) in
    let left_len : plain_len s.left ≡ length query - at = plain_len-no_place s.left none ∙ (ap length (reading_text reading _ s.left s.rest_tokens) ∙ length-drop at query) in
    let len : c ≡ pieces_len s.all = c_is ∙ (omega (arith, left_len, s.pieces_are) ∙ sym (pieces_len-plain_len s.all)) in
    (s.all, s.tokens, (omega (arith, s.names_are, none, place_count-sum s.left), omega (arith, s.marks_are, none, place_count-sum s.left), found, len))
