-- The state of renaming so far.
use Rattle.std.specs.Prelude.{Bool}
use Rattle.std.proofs.Common.{◌≡◌, ◌≢◌, ◌⊎◌, inl, inr, ℕ, ◌+◌, ◌≤◌, List, [], ◌∷◌, ◌++◌, length, take, drop, map, All, Some, refl, sym, ap, ◌∙◌, subst, arith, append_assoc, append-nil, take_at, drop_at}
use Rattle.std.specs.Cow.{cow_slice_items, IsBorrowedSlice}
use Rattle.std.specs.declared.borrow.CowSlice.{CowSlice}
use Rattle.std.proofs.lemmas.List.{nil_from_length, take_rest, map-append}
use Rattle.std.proofs.lemmas.List.Elements.{All-nil, All-push}
use Rattle.mysql_named_params.specs.Bytes.{question_mark}
use Rattle.mysql_named_params.specs.Tokens.{Token, bytes_of, AreTokensBefore, IsTokens, OnTokens, text_of, Name, Mark}
use Rattle.mysql_named_params.specs.Places.{names, marks, place_count, with_marks, with_names, HasName}
use Rattle.mysql_named_params.specs.FirstPlace.{place_kind, IsFirstPlace, BeginPlacesFrom}
use Rattle.mysql_named_params.specs.Parsed.{Parsed, parsed}
use Rattle.mysql_named_params.specs.declared.places.FoundPlace.{FoundPlace}
use Rattle.mysql_named_params.specs.declared.places.PlaceKind.{PlaceKind}
use Rattle.mysql_named_params.specs.declared.places.Reading.{Reading}
use Rattle.mysql_named_params.specs.declared.places.PlaceKind.TheVariants as kind
use Rattle.mysql_named_params.proofs.TokenEndLemmas.{slice_from}
use Rattle.mysql_named_params.proofs.TokenListLemmas.{one_token_list}
use Rattle.mysql_named_params.proofs.TokenRowLemmas.{text_of-append, AreTokensBefore-after, names-append, marks-append, with_marks-append, with_marks-nameless, place_count-sum}
use Rattle.mysql_named_params.proofs.FoundPlaceLemmas.{IsPartedIn, parted, names-no_place, names_at_name, marks_at_name, marks_at_mark}

-- the part that is renamed, with the rest of a query
pub record RenamedSoFar {Z : Type 0} (mode : Bool) (query rest text : List ℕ) (params : List (CowSlice ℕ Z)) : Type 0 where
  pub all : List Token
  pub tokens : IsTokens mode query all
  pub left : List Token
  pub rest_tokens : IsTokens mode rest left
  pub no_marks : marks left ≡ 0
  pub some : HasName all
  pub text_is : text ++ text_of (with_marks left) ≡ text_of (with_marks all)
  pub names_are : map cow_slice_items params ++ names left ≡ names all
  pub borrowed : All IsBorrowedSlice params

-- before the first place there is nothing to rename
pub renamed_none : {Z : Type 0} (mode : Bool) (query rest : List ℕ) (start : ℕ) (text : List ℕ) (params : List (CowSlice ℕ Z)) →
    OnTokens mode query (λ ts. HasName ts × (marks ts ≡ 0)) →
    OnTokens mode query (λ ts. BeginPlacesFrom ts start) → rest ≡ drop start query →
    text ≡ take start query → params ≡ [] → RenamedSoFar {Z = Z} mode query rest text params
renamed_none mode query rest start text params o b rest_is text_is no_params =
    let p = b.2 in
    let same : o.0 ≡ b.0 = one_token_list mode query o.0 b.0 o.1 b.1 in
    let all_is : o.0 ≡ p.front ++ p.back = same ∙ sym p.split in
    let whole : query ≡ text_of p.front ++ text_of p.back = sym o.1.text ∙ (ap text_of all_is ∙ text_of-append p.front p.back) in
    let nameless = names-no_place p.front p.no_place in
    let left_text : rest ≡ text_of p.back = rest_is ∙ (ap (drop start) whole ∙ drop_at (text_of p.front) (text_of p.back) start p.start_is) in
    let done : text ≡ text_of p.front = text_is ∙ (ap (take start) whole ∙ take_at (text_of p.front) (text_of p.back) start p.start_is) in
    let left_names : names p.back ≡ names o.0 = ap (λ x. x ++ names p.back) (sym nameless) ∙ (sym (names-append p.front p.back) ∙ ap names (sym all_is)) in
    let marked : with_marks o.0 ≡ p.front ++ with_marks p.back = ap with_marks all_is ∙ (with_marks-append p.front p.back ∙ ap (λ x. x ++ with_marks p.back) (with_marks-nameless p.front (ap length nameless))) in
    record {
      all = o.0;
      tokens = o.1;
      left = p.back;
      rest_tokens = record {
        text = sym left_text;
        each = AreTokensBefore-after mode p.front p.back [] (subst (AreTokensBefore mode []) all_is o.1.each);
      };
      no_marks = omega (arith, o.2.1, ap marks all_is, marks-append p.front p.back);
      some = o.2.0;
      text_is = ap (λ x. x ++ text_of (with_marks p.back)) done ∙ (sym (text_of-append p.front (with_marks p.back)) ∙ ap text_of (sym marked));
      names_are = ap (λ x. map cow_slice_items x ++ names p.back) no_params ∙ left_names;
      borrowed = subst (All IsBorrowedSlice) (sym no_params) (All-nil IsBorrowedSlice);
    }

-- a mark in place of the first name
text-with_marks_at : (front : List Token) (place : Token) (back : List Token) →
    place_count front ≡ 0 → place_kind place ≡ Some kind.Name →
    text_of (with_marks (front ++ place ∷ back)) ≡ text_of front ++ question_mark ∷ text_of (with_marks back)
text-with_marks_at front place back no_place is =
    ap text_of (with_marks-append front (place ∷ back) ∙ ap (λ x. x ++ with_marks (place ∷ back)) (with_marks-nameless front (ap length (names-no_place front no_place))))
    ∙ (text_of-append front (with_marks (place ∷ back)) ∙ ap (λ x. text_of front ++ x) (one place is))
  where
    one : (t : Token) → place_kind t ≡ Some kind.Name →
        text_of (with_marks (t ∷ back)) ≡ question_mark ∷ text_of (with_marks back)
    one (Name name) e = refl
    one Mark e = cc
    one t e = cc

kind_cases : (k : PlaceKind) → (k ≡ kind.Name) ⊎ (k ≡ kind.Mark)
kind_cases kind.Name = inl refl
kind_cases kind.Mark = inr refl

-- tokens without marks have a name at their first place
pub name_found : (reading : Reading) (text : List ℕ) (ts : List Token) (found : FoundPlace) →
    marks ts ≡ 0 → (p : IsPartedIn reading text ts found) → place_kind p.place ≡ Some kind.Name
name_found reading text ts found none p = elim (kind_cases found.kind) [
  | inl e ↦ p.kind_is ∙ ap Some e
  | inr e ↦ absurd (omega (arith, none, ap marks p.tokens_are, marks_at_mark p.front p.place p.back p.no_place (p.kind_is ∙ ap Some e)))
]

module _ {Z : Type 0} (mode : Bool) (query rest text : List ℕ) (params : List (CowSlice ℕ Z)) (r : RenamedSoFar mode query rest text params) where
  -- a name: the text before it, a mark, and the bytes after the colon
  pub renamed_more : (text' run place after : List ℕ) (params' : List (CowSlice ℕ Z)) (name : CowSlice ℕ Z) (found : FoundPlace) →
      OnTokens mode rest (λ us. IsFirstPlace us found) → run ≡ take found.before rest →
      place ≡ take found.len (drop found.before rest) →
      after ≡ drop (found.before + found.len) rest → text' ≡ (text ++ run) ++ question_mark ∷ [] →
      params' ≡ params ++ name ∷ [] → cow_slice_items name ≡ slice_from 1 place →
      IsBorrowedSlice name → RenamedSoFar mode query after text' params'
  renamed_more text' run place after params' name found o run_is place_is after_is text_more params_more name_is name_borrowed =
      let p = parted mode rest r.left found r.rest_tokens o in
      let is = name_found _ rest r.left found r.no_marks p in
      let names_left : names r.left ≡ drop 1 (bytes_of p.place) ∷ names p.back = ap names p.tokens_are ∙ names_at_name p.front p.place p.back p.no_place is in
      let bytes_are : place ≡ bytes_of p.place = place_is ∙ sym p.place_bytes in
      let item : cow_slice_items name ≡ drop 1 (bytes_of p.place) = name_is ∙ (take_rest place 1 ∙ ap (drop 1) bytes_are) in
      let text_left : text_of (with_marks r.left) ≡ run ++ question_mark ∷ text_of (with_marks p.back) = ap (λ x. text_of (with_marks x)) p.tokens_are ∙ (text-with_marks_at p.front p.place p.back p.no_place is ∙ ap (λ x. x ++ question_mark ∷ text_of (with_marks p.back)) (p.front_text ∙ sym run_is)) in
      record {
        all = r.all;
        tokens = r.tokens;
        left = p.back;
        rest_tokens = subst (λ x. IsTokens mode x p.back) (sym after_is) p.rest_tokens;
        no_marks = sym (marks_at_name p.front p.place p.back p.no_place is) ∙ (ap marks (sym p.tokens_are) ∙ r.no_marks);
        some = r.some;
        text_is = ap (λ x. x ++ text_of (with_marks p.back)) text_more ∙ (append_assoc (text ++ run) (question_mark ∷ []) _ ∙ (append_assoc text run _ ∙ (ap (λ x. text ++ x) (sym text_left) ∙ r.text_is)));
        names_are = ap (λ x. map cow_slice_items x ++ names p.back) params_more ∙ (ap (λ x. x ++ names p.back) (map-append cow_slice_items params (name ∷ [])) ∙ (append_assoc (map cow_slice_items params) (cow_slice_items name ∷ []) (names p.back) ∙ (ap (λ x. map cow_slice_items params ++ x ∷ names p.back) item ∙ (ap (λ x. map cow_slice_items params ++ x) (sym names_left) ∙ r.names_are))));
        borrowed = subst (All IsBorrowedSlice) (sym params_more) (All-push IsBorrowedSlice params name r.borrowed name_borrowed);
      }

  -- if no place is left, the rest follows as it is
  module _ (o : OnTokens mode rest (λ us. place_count us ≡ 0)) where
    none_left : length (names r.left) ≡ 0
    none_left =
        let same : o.0 ≡ r.left = one_token_list mode rest o.0 r.left o.1 r.rest_tokens in
        omega (arith, ap place_count same, o.2, place_count-sum r.left)

    names_are : map cow_slice_items params ≡ names r.all
    names_are = sym (append-nil (map cow_slice_items params)) ∙ (ap (λ x. map cow_slice_items params ++ x) (sym (nil_from_length (names r.left) none_left)) ∙ r.names_are)

    pub renamed_all : (text' : List ℕ) → text' ≡ text ++ rest →
        OnTokens mode query (λ ts. ◌≡◌ {A = Parsed} (record { query = text'; params = map cow_slice_items params }) (parsed ts))
    renamed_all text' text_more =
        let rest_is : rest ≡ text_of (with_marks r.left) = sym r.rest_tokens.text ∙ ap text_of (sym (with_marks-nameless r.left none_left)) in
        let text_is : text' ≡ text_of (with_marks r.all) = text_more ∙ (ap (λ x. text ++ x) rest_is ∙ r.text_is) in
        let names_are' : map cow_slice_items params ≡ names r.all = names_are in
        let same : ◌≡◌ {A = Parsed} (record { query = text'; params = map cow_slice_items params }) (parsed r.all) = cc in
        (r.all, r.tokens, same)

    pub some_params : params ≢ []
    some_params nil = omega (arith, r.some, ap length names_are, ap (λ x. length (map cow_slice_items x)) nil)

-- a query without names is itself
pub parsed_same : (mode : Bool) (query : List ℕ) (ts : List Token) (params : List (List ℕ)) →
    IsTokens mode query ts → length (names ts) ≤ 0 → params ≡ [] →
    ◌≡◌ {A = Parsed} (record { query = query; params = params }) (parsed ts)
parsed_same mode query ts params is few none =
    let no_names : length (names ts) ≡ 0 = omega arith in
    let text : query ≡ text_of (with_marks ts) = sym is.text ∙ ap text_of (sym (with_marks-nameless ts no_names)) in
    let nil : names ts ≡ [] = nil_from_length (names ts) no_names in
    let same : params ≡ names ts = none ∙ sym nil in
    cc

-- putting the names back undoes the renaming
pub with_names-with_marks : (ts : List Token) → marks ts ≡ 0 → with_names (with_marks ts) (names ts) ≡ ts
with_names-with_marks [] e = refl
with_names-with_marks (Name name ∷ ts) e = ap (λ x. Name name ∷ x) (with_names-with_marks ts e)
with_names-with_marks (Mark ∷ ts) e = absurd (omega arith)
with_names-with_marks (t ∷ ts) e = ap (λ x. t ∷ x) (with_names-with_marks ts e)
