-- The names that are listed before a rest.
use Rattle.std.proofs.Common.{◌≡◌, inl, inr, ℕ, ◌+◌, ◌<◌, ◌≤◌, List, [], ◌∷◌, ◌++◌, length, take, drop, None, sym, ap, ◌∙◌, subst, arith, append_assoc, append-nil, length-append}
use Rattle.std.proofs.lemmas.List.{length-map, nil_from_length, take_rest}
use Rattle.std.specs.Borrow.{Bor}
use Rattle.mysql_named_params.specs.Tokens.{Token, bytes_of}
use Rattle.mysql_named_params.specs.Places.{names, marks, place_count}
use Rattle.mysql_named_params.specs.FirstPlace.{IsFirstPlace}
use Rattle.mysql_named_params.specs.declared.places.FoundPlace.{FoundPlace}
use Rattle.mysql_named_params.proofs.TokenEndLemmas.{slice_from}
use Rattle.mysql_named_params.proofs.TokenRowLemmas.{place_count-sum}
use Rattle.mysql_named_params.proofs.FoundPlaceLemmas.{parted_in, names_at_name, marks_at_name}
use Rattle.mysql_named_params.proofs.RenameLemmas.{name_found}
use Rattle.mysql_named_params.specs.Reading.{IsTokensIn, OnTokensIn}
use Rattle.mysql_named_params.specs.declared.places.Reading.{Reading}
use Rattle.mysql_named_params.proofs.ReadingLemmas.{one_reading}
use Rattle.mysql_params_core.specs.Referents.{referents}
use Rattle.mysql_binding.specs.FirstCause.{mixed_cause}
use Rattle.mysql_binding.proofs.CauseLemmas.{unmixed}

pub referents_length : (list : List (Bor (List ℕ))) → length (referents list) ≡ length list
referents_length list = length-map list (λ x. x.now)

-- with the names that are left, those that are listed are the names of the query
pub record ListedSoFar (reading : Reading) (query rest : List ℕ) (count : ℕ) (list : List (List ℕ)) : Type 0 where
  pub all : List Token
  pub tokens : IsTokensIn reading query all
  pub left : List Token
  pub rest_tokens : IsTokensIn reading rest left
  pub no_marks : 0 < count → marks left ≡ 0
  pub count_is : length list + length (names left) ≡ count
  pub names_are : list ++ names left ≡ names all

pub listed_none : (reading : Reading) (query : List ℕ) (count : ℕ) (list : List (List ℕ)) →
    OnTokensIn reading query (λ ts. (count ≡ length (names ts)) × (mixed_cause ts ≡ None)) → list ≡ [] →
    ListedSoFar reading query query count list
listed_none reading query count list o nil = record {
  all = o.0;
  tokens = o.1;
  left = o.0;
  rest_tokens = o.1;
  no_marks = λ some. elim (unmixed o.0 o.2.1) [ inl e ↦ absurd (omega (arith, some, e, o.2.0)) | inr e ↦ e ];
  count_is = omega (arith, o.2.0, ap length nil);
  names_are = ap (λ x. x ++ names o.0) nil;
}

module _ (reading : Reading) (query rest : List ℕ) (count : ℕ) (list : List (List ℕ)) (s : ListedSoFar reading query rest count list) where
  -- as long as names are missing, one is found
  pub name_left : length list < count → OnTokensIn reading rest (λ us. place_count us ≡ 0) → ⊥
  name_left missing o =
      let same : o.0 ≡ s.left = one_reading reading rest o.0 s.left o.1 s.rest_tokens in
      omega (arith, missing, s.count_is, ap place_count same, o.2, place_count-sum s.left)

  -- one name more
  pub listed_more : (place after name : List ℕ) (found : FoundPlace) →
      length list < count → OnTokensIn reading rest (λ us. IsFirstPlace us found) →
      place ≡ take found.len (drop found.before rest) →
      after ≡ drop (found.before + found.len) rest → name ≡ slice_from 1 place →
      ListedSoFar reading query after count (list ++ name ∷ [])
  listed_more place after name found missing o place_is after_is name_is =
      let p = parted_in reading rest s.left found s.rest_tokens o in
      let is = name_found _ rest s.left found (s.no_marks (omega (arith, missing))) p in
      let names_left : names s.left ≡ drop 1 (bytes_of p.place) ∷ names p.back = ap names p.tokens_are ∙ names_at_name p.front p.place p.back p.no_place is in
      let bytes_are : place ≡ bytes_of p.place = place_is ∙ sym p.place_bytes in
      let item : name ≡ drop 1 (bytes_of p.place) = name_is ∙ (take_rest place 1 ∙ ap (drop 1) bytes_are) in
      record {
        all = s.all;
        tokens = s.tokens;
        left = p.back;
        rest_tokens = subst (λ x. IsTokensIn reading x p.back) (sym after_is) p.rest_tokens;
        no_marks = λ some. sym (marks_at_name p.front p.place p.back p.no_place is) ∙ (ap marks (sym p.tokens_are) ∙ s.no_marks some);
        count_is = omega (arith, s.count_is, ap length names_left, length-append list (name ∷ []));
        names_are = append_assoc list (name ∷ []) (names p.back) ∙ (ap (λ x. list ++ x ∷ names p.back) item ∙ (ap (λ x. list ++ x) (sym names_left) ∙ s.names_are));
      }

  -- once all are listed
  pub listed_all : count ≤ length list → OnTokensIn reading query (λ ts. list ≡ names ts)
  listed_all all_listed =
      let none : names s.left ≡ [] = nil_from_length (names s.left) (omega (arith, s.count_is, all_listed)) in
      (s.all, s.tokens, sym (append-nil list) ∙ (ap (λ x. list ++ x) (sym none) ∙ s.names_are))
