-- Places that are known, and those that are left after one.
use Rattle.std.proofs.Common.{◌≡◌, ◌⊎◌, inl, inr, ℕ, ◌+◌, ◌<◌, ◌≤◌, List, [], ◌∷◌, ◌++◌, length, length-append, drop, get_or, Some, refl, sym, ap, ◌∙◌, subst, arith, add-one, drop-cons, drop-drop, append_assoc, append-nil, length-drop, take, take_all, set, length-set}
use Rattle.std.proofs.Math.Nat.{eq-or-lt_of_le}
use Rattle.std.proofs.Math.Seq.{take-append_seam}
use Rattle.std.proofs.lemmas.List.{drop_all, length-take-le, nil_from_length, take_more_set}
use Rattle.mysql_named_params.specs.Tokens.{Token, bytes_of, text_of, Name, Mark}
use Rattle.mysql_named_params.specs.Places.{place_count}
use Rattle.mysql_named_params.specs.FirstPlace.{place_kind, IsFirstPlace}
use Rattle.mysql_named_params.specs.declared.places.FoundPlace.{FoundPlace}
use Rattle.mysql_named_params.specs.declared.places.PlaceKind.{PlaceKind}
use Rattle.mysql_named_params.specs.declared.places.PlaceKind.TheVariants as kind
use Rattle.mysql_named_params.proofs.FoundPlaceLemmas.{IsPartedIn, parted_in}
use Rattle.mysql_named_params.specs.Reading.{IsTokensIn, OnTokensIn}
use Rattle.mysql_named_params.specs.declared.places.Reading.{Reading}
use Rattle.mysql_named_params.proofs.ReadingLemmas.{one_reading, reading_exists}
use Rattle.mysql_binding.specs.FoundPlaces.{found_from, found_places, BeginWithPlaces}

-- the tokens up to the first of the places, itself and those after it
record IsFoundFrom (before : ℕ) (ts : List Token) (found : FoundPlace) : Type 0 where
  front : List Token
  place : Token
  back : List Token
  split : front ++ place ∷ back ≡ ts
  is_first : place_count front ≡ 0
  before_is : before + length (text_of front) ≡ found.before
  kind_is : place_kind place ≡ Some found.kind
  len_is : length (bytes_of place) ≡ found.len

found_first : (before : ℕ) (ts : List Token) (found : FoundPlace) (more : List FoundPlace) →
    found_from before ts ≡ found ∷ more → IsFoundFrom before ts found
found_first before [] found more e = cc
found_first before (Name name ∷ ts) found more e =
    let same : record { before = before; kind = kind.Name; len = length (bytes_of (Name name)) } ≡ found = cc in
    record { front = []; place = Name name; back = ts; split = refl; is_first = refl; before_is = omega (arith, ap (λ f. f.before) same); kind_is = ap (λ f. Some f.kind) same; len_is = ap (λ f. f.len) same }
found_first before (Mark ∷ ts) found more e =
    let same : record { before = before; kind = kind.Mark; len = length (bytes_of Mark) } ≡ found = cc in
    record { front = []; place = Mark; back = ts; split = refl; is_first = refl; before_is = omega (arith, ap (λ f. f.before) same); kind_is = ap (λ f. Some f.kind) same; len_is = ap (λ f. f.len) same }
found_first before (t ∷ ts) found more e =
    let h = found_first (before + length (bytes_of t)) ts found more e in
    record { front = t ∷ h.front; place = h.place; back = h.back; split = ap (λ u. t ∷ u) h.split; is_first = h.is_first; before_is = omega (arith, h.before_is, length-append (bytes_of t) (text_of h.front)); kind_is = h.kind_is; len_is = h.len_is }

-- the places after the first
found_rest : (before : ℕ) (front : List Token) (place : Token) (k : PlaceKind) (back : List Token) (found : FoundPlace) (more : List FoundPlace) →
    place_count front ≡ 0 → place_kind place ≡ Some k → found_from before (front ++ place ∷ back) ≡ found ∷ more →
    more ≡ found_places back
found_rest before [] (Name name) k back found more none is e = cc
found_rest before [] Mark k back found more none is e = cc
found_rest before [] t k back found more none is e = cc
found_rest before (Name name ∷ front) place k back found more none is e = absurd (omega arith)
found_rest before (Mark ∷ front) place k back found more none is e = absurd (omega arith)
found_rest before (t ∷ front) place k back found more none is e = found_rest (before + length (bytes_of t)) front place k back found more none is e

module _ (reading : Reading) (rest : List ℕ) (places : List FoundPlace) (i : ℕ) (o : OnTokensIn reading rest (BeginWithPlaces (drop i places))) where
  module _ (found d : FoundPlace) (below : i < length places) (found_is : found ≡ get_or places i d) where
    first_is : found ∷ (drop (i + 1) places ++ o.2.0) ≡ found_places o.0
    first_is =
        let cut : drop i places ≡ found ∷ drop (i + 1) places = rw add-one (drop-cons places i d below) ∙ ap (λ x. x ∷ drop (i + 1) places) (sym found_is) in
        ap (λ x. x ++ o.2.0) (sym cut) ∙ o.2.1

    -- a place that is known is the first of the rest
    pub found_before : OnTokensIn reading rest (λ us. IsFirstPlace us found)
    found_before =
        let h = found_first 0 o.0 found _ (sym first_is) in
        (o.0, o.1, record { front = h.front; place = h.place; back = h.back; split = h.split; is_first = h.is_first; before_is = omega (arith, h.before_is); kind_is = h.kind_is; len_is = h.len_is })

    pub places_after : OnTokensIn reading (drop (found.before + found.len) rest) (BeginWithPlaces (drop (i + 1) places))
    places_after =
        let p = parted_in reading rest o.0 found o.1 found_before in
        (p.back, p.rest_tokens, (o.2.0, found_rest 0 p.front p.place found.kind p.back found _ p.no_place p.kind_is (ap found_places (sym p.tokens_are) ∙ sym first_is)))

  -- after the last known place, none is known
  pub none_after : (found : FoundPlace) → length places ≤ i → OnTokensIn reading rest (λ us. IsFirstPlace us found) →
      OnTokensIn reading (drop (found.before + found.len) rest) (BeginWithPlaces (drop (i + 1) places))
  none_after found past first =
      let p = parted_in reading rest o.0 found o.1 first in
      (p.back, p.rest_tokens, (found_places p.back, ap (λ x. x ++ found_places p.back) (drop_all (i + 1) places (omega (arith, past)))))

-- the rest after a place, as it is cut
pub rest_after : (reading : Reading) (rest after : List ℕ) (k : ℕ) (P : List Token → Type 0) → after ≡ drop k rest →
    OnTokensIn reading (drop k rest) P → OnTokensIn reading after P
rest_after reading rest after k P e o = subst (λ x. OnTokensIn reading x P) (sym e) o

-- places are known after as many of them as are listed
pub none_passed : {X : Type 0} (reading : Reading) (query : List ℕ) (known : List FoundPlace) (list : List X) → list ≡ [] →
    OnTokensIn reading query (BeginWithPlaces known) → OnTokensIn reading query (BeginWithPlaces (drop (length list) known))
none_passed reading query known list e o = subst (λ n. OnTokensIn reading query (BeginWithPlaces (drop n known))) (sym (ap length e)) o

pub one_passed : {X : Type 0} (reading : Reading) (rest after : List ℕ) (known : List FoundPlace) (k i : ℕ) (list list' : List X) (x : X) →
    list' ≡ list ++ x ∷ [] → after ≡ drop k rest → i ≡ length list →
    OnTokensIn reading (drop k rest) (BeginWithPlaces (drop (i + 1) known)) →
    OnTokensIn reading after (BeginWithPlaces (drop (length list') known))
one_passed reading rest after known k i list list' x more after_is i_is o =
    let n : i + 1 ≡ length list' = omega (arith, i_is, ap length more, length-append list (x ∷ [])) in
    subst (λ m. OnTokensIn reading after (BeginWithPlaces (drop m known))) n (rest_after reading rest after k (BeginWithPlaces (drop (i + 1) known)) after_is o)

-- ---- all places

made : (b : ℕ) (k : PlaceKind) (l : ℕ) (found : FoundPlace) → b ≡ found.before → k ≡ found.kind → l ≡ found.len →
    record { before = b; kind = k; len = l } ≡ found
made b k l found eb ek el = rw (eb, ek, el) refl

found_here : (before : ℕ) (front : List Token) (place : Token) (back : List Token) (found : FoundPlace) →
    place_count front ≡ 0 → before + length (text_of front) ≡ found.before → place_kind place ≡ Some found.kind →
    length (bytes_of place) ≡ found.len → found_from before (front ++ place ∷ back) ≡ found ∷ found_places back
found_here before [] (Name name) back found none b k l =
    let k' : kind.Name ≡ found.kind = cc in
    let b' : before ≡ found.before = omega (arith, b) in
    ap (λ x. x ∷ found_places back) (made before kind.Name (length (bytes_of (Name name))) found b' k' l)
found_here before [] Mark back found none b k l =
    let k' : kind.Mark ≡ found.kind = cc in
    let b' : before ≡ found.before = omega (arith, b) in
    ap (λ x. x ∷ found_places back) (made before kind.Mark (length (bytes_of Mark)) found b' k' l)
found_here before [] t back found none b k l = cc
found_here before (Name name ∷ front) place back found none b k l = absurd (omega arith)
found_here before (Mark ∷ front) place back found none b k l = absurd (omega arith)
found_here before (t ∷ front) place back found none b k l =
    found_here (before + length (bytes_of t)) front place back found none (omega (arith, b, length-append (bytes_of t) (text_of front))) k l

front_len : (reading : Reading) (rest : List ℕ) (left : List Token) (found : FoundPlace) (p : IsPartedIn reading rest left found) →
    0 + length (text_of p.front) ≡ found.before
front_len reading rest left found p = omega (arith, ap length p.front_text, length-take-le found.before rest (omega (arith, p.in_range)))

place_len : (reading : Reading) (rest : List ℕ) (left : List Token) (found : FoundPlace) (p : IsPartedIn reading rest left found) →
    length (bytes_of p.place) ≡ found.len
place_len reading rest left found p = omega (arith, ap length p.place_bytes, length-take-le found.len (drop found.before rest) (omega (arith, p.in_range, length-drop found.before rest)))

pub found_count : (before : ℕ) (ts : List Token) → length (found_from before ts) ≡ place_count ts
found_count before [] = refl
found_count before (Name name ∷ ts) = omega (arith, found_count 0 ts)
found_count before (Mark ∷ ts) = omega (arith, found_count 0 ts)
found_count before (t ∷ ts) = found_count (before + length (bytes_of t)) ts

-- the places so far, with those of the rest, are those of the query, which has `count` places
pub record CollectedSoFar (reading : Reading) (query rest : List ℕ) (count : ℕ) (places : List FoundPlace) : Type 0 where
  pub all : List Token
  pub tokens : IsTokensIn reading query all
  pub left : List Token
  pub rest_tokens : IsTokensIn reading rest left
  pub places_are : places ++ found_places left ≡ found_places all
  pub count_is : length places + place_count left ≡ count

pub collected_none : (reading : Reading) (query : List ℕ) (count : ℕ) (places : List FoundPlace) →
    OnTokensIn reading query (λ ts. count ≡ place_count ts) → places ≡ [] → CollectedSoFar reading query query count places
collected_none reading query count places o e = record {
  all = o.0;
  tokens = o.1;
  left = o.0;
  rest_tokens = o.1;
  places_are = ap (λ x. x ++ found_places o.0) e;
  count_is = omega (arith, o.2, ap length e);
}

module _ (reading : Reading) (query rest : List ℕ) (count : ℕ) (places : List FoundPlace) (s : CollectedSoFar reading query rest count places) where
  -- as long as places are missing, one is found
  pub place_left : length places < count → OnTokensIn reading rest (λ us. place_count us ≡ 0) → ⊥
  place_left missing o =
      let same : o.0 ≡ s.left = one_reading reading rest o.0 s.left o.1 s.rest_tokens in
      omega (arith, missing, s.count_is, ap place_count same, o.2)

  -- one place more
  pub collected_more : (after : List ℕ) (places' : List FoundPlace) (found : FoundPlace) →
      OnTokensIn reading rest (λ us. IsFirstPlace us found) → after ≡ drop (found.before + found.len) rest →
      places' ≡ places ++ found ∷ [] → CollectedSoFar reading query after count places'
  collected_more after places' found o after_is more =
      let p = parted_in reading rest s.left found s.rest_tokens o in
      let here : found_places s.left ≡ found ∷ found_places p.back = ap found_places p.tokens_are ∙ found_here 0 p.front p.place p.back found p.no_place (front_len reading rest s.left found p) p.kind_is (place_len reading rest s.left found p) in
      record {
        all = s.all;
        tokens = s.tokens;
        left = p.back;
        rest_tokens = subst (λ x. IsTokensIn reading x p.back) (sym after_is) p.rest_tokens;
        places_are = ap (λ x. x ++ found_places p.back) more ∙ (append_assoc places (found ∷ []) (found_places p.back) ∙ (ap (λ x. places ++ x) (sym here) ∙ s.places_are));
        count_is = omega (arith, s.count_is, found_count 0 s.left, ap length here, found_count 0 p.back, ap length more, length-append places (found ∷ []));
      }

  -- once all are collected
  pub collected_all : count ≤ length places → OnTokensIn reading query (λ ts. places ≡ found_places ts)
  collected_all all_collected =
      let none : found_places s.left ≡ [] = nil_from_length (found_places s.left) (omega (arith, all_collected, s.count_is, found_count 0 s.left)) in
      (s.all, s.tokens, sym (append-nil places) ∙ (ap (λ x. places ++ x) (sym none) ∙ s.places_are))

-- ---- the first places, kept as far as there is room

pub record KeptSoFar (reading : Reading) (query : List ℕ) (at kept : ℕ) (first : List FoundPlace) : Type 0 where
  pub all : List Token
  pub tokens : IsTokensIn reading query all
  pub left : List Token
  pub rest_tokens : IsTokensIn reading (drop at query) left
  pub more : List FoundPlace
  pub kept_are : take kept first ++ more ≡ found_places all
  pub next : kept < length first → more ≡ found_places left
  pub in_range : kept ≤ length first

pub kept_none : (reading : Reading) (query : List ℕ) (first : List FoundPlace) → KeptSoFar reading query 0 0 first
kept_none reading query first =
    let ts = reading_exists reading query in
    record { all = ts.0; tokens = ts.1; left = ts.0; rest_tokens = ts.1; more = found_places ts.0; kept_are = refl; next = λ r. refl; in_range = omega arith }

module _ (reading : Reading) (query rest : List ℕ) (at kept : ℕ) (first : List FoundPlace) (found : FoundPlace) (s : KeptSoFar reading query at kept first) (rest_is : rest ≡ drop at query) (o : OnTokensIn reading rest (λ us. IsFirstPlace us found)) (at' : ℕ) (at_is : at' ≡ at + found.before + found.len) where
  kept_parted : IsPartedIn reading (drop at query) s.left found
  kept_parted = parted_in reading (drop at query) s.left found s.rest_tokens (subst (λ x. OnTokensIn reading x (λ us. IsFirstPlace us found)) rest_is o)

  kept_rest : IsTokensIn reading (drop at' query) kept_parted.back
  kept_rest = subst (λ x. IsTokensIn reading x kept_parted.back) (drop-drop (found.before + found.len) at query ∙ ap (λ n. drop n query) (omega (arith, at_is))) kept_parted.rest_tokens

  pub kept_full : length first ≤ kept → KeptSoFar reading query at' kept first
  kept_full full = record { all = s.all; tokens = s.tokens; left = kept_parted.back; rest_tokens = kept_rest; more = s.more; kept_are = s.kept_are; next = λ r. absurd (omega (arith, r, full)); in_range = s.in_range }

  pub kept_more : kept < length first → KeptSoFar reading query at' (kept + 1) (set first kept found)
  kept_more room =
      let p = kept_parted in
      let here : found_places s.left ≡ found ∷ found_places p.back = ap found_places p.tokens_are ∙ found_here 0 p.front p.place p.back found p.no_place (front_len reading (drop at query) s.left found p) p.kind_is (place_len reading (drop at query) s.left found p) in
      record {
        all = s.all;
        tokens = s.tokens;
        left = p.back;
        rest_tokens = kept_rest;
        more = found_places p.back;
        kept_are = ap (λ x. x ++ found_places p.back) (take_more_set first kept found room) ∙ (append_assoc (take kept first) (found ∷ []) (found_places p.back) ∙ (ap (λ x. take kept first ++ x) (sym here ∙ sym (s.next room)) ∙ s.kept_are));
        next = λ r. refl;
        in_range = omega (arith, room, length-set first kept found);
      }

-- once no place is left, those that are kept are the first, as many as there is room for
pub kept_all : (reading : Reading) (query : List ℕ) (at kept : ℕ) (first : List FoundPlace) → KeptSoFar reading query at kept first →
    (rest : List ℕ) → rest ≡ drop at query → OnTokensIn reading rest (λ us. place_count us ≡ 0) →
    OnTokensIn reading query (λ ts. take kept first ≡ take (length first) (found_places ts))
kept_all reading query at kept first s rest rest_is o = (s.all, s.tokens, by (eq-or-lt_of_le s.in_range))
  where
    kept_len : length (take kept first) ≡ kept
    kept_len = length-take-le kept first s.in_range

    none_left : found_places s.left ≡ []
    none_left =
        let same : o.0 ≡ s.left = one_reading reading (drop at query) o.0 s.left (subst (λ x. IsTokensIn reading x o.0) rest_is o.1) s.rest_tokens in
        nil_from_length (found_places s.left) (omega (arith, found_count 0 s.left, ap place_count same, o.2))

    by : (kept ≡ length first) ⊎ (kept < length first) → take kept first ≡ take (length first) (found_places s.all)
    by (inl full) = sym (take-append_seam (take kept first) s.more) ∙ (ap (λ n. take n (take kept first ++ s.more)) (kept_len ∙ full) ∙ ap (take (length first)) s.kept_are)
    by (inr room) =
        let all : take kept first ≡ found_places s.all = sym (append-nil (take kept first)) ∙ (ap (λ x. take kept first ++ x) (sym (s.next room ∙ none_left)) ∙ s.kept_are) in
        all ∙ sym (take_all (length first) (found_places s.all) (omega (arith, ap length all, kept_len, room)))

-- all places of a query
pub all_begin : (reading : Reading) (query : List ℕ) (places : List FoundPlace) →
    OnTokensIn reading query (λ ts. places ≡ found_places ts) → OnTokensIn reading query (BeginWithPlaces places)
all_begin reading query places o = (o.0, o.1, ([], append-nil places ∙ o.2))
