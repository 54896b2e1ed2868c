-- The place that is found is the first that doesn't stand alone.
use Rattle.std.proofs.Common.{◌≡◌, inl, inr, true, false, ℕ, ◌+◌, List, [], ◌∷◌, ◌++◌, length, refl, sym, ap, ◌∙◌, arith, subst, Option, Some, None, append_assoc, append-nil}
use Rattle.mysql_named_params.specs.Tokens.{Token, bytes_of, text_of, text_then, Name, Mark}
use Rattle.mysql_named_params.specs.Places.{IsPlace, place_count}
use Rattle.mysql_binding.specs.StandsAlone.{AllAlone, IsFirstNotAlone, first_not_alone, first_not_alone_from, stands_alone}
use Rattle.mysql_binding.proofs.ContentsLemmas.{alone_parts}
use Rattle.mysql_binding.proofs.StandsAloneLemmas.{choice}
use Rattle.mysql_named_params.proofs.TokenRowLemmas.{text_then-append}

-- each place stands alone, if the text `before` comes before the tokens and the text `rest` after
-- them
abbrev AllAloneFrom : List ℕ → List Token → List ℕ → Type 0
AllAloneFrom before ts rest = (front : List Token) (t : Token) (back : List Token) →
    front ++ t ∷ back ≡ ts → IsPlace t →
    stands_alone (before ++ text_of front) (text_then rest back) ≡ true

none_alone : (before rest : List ℕ) → AllAloneFrom before [] rest
none_alone before rest [] t back e i = cc
none_alone before rest (x ∷ front) t back e i = cc

one_more_alone : (before : List ℕ) (t : Token) (ts : List Token) (rest : List ℕ) →
    (IsPlace t → stands_alone before (text_then rest ts) ≡ true) →
    AllAloneFrom (before ++ bytes_of t) ts rest → AllAloneFrom before (t ∷ ts) rest
one_more_alone before t ts rest h more [] u back e i =
    let u_is : u ≡ t = cc in
    let back_is : back ≡ ts = cc in
    rw (append-nil before, back_is) (h (subst IsPlace u_is i))
one_more_alone before t ts rest h more (x ∷ front) u back e i =
    let x_is : x ≡ t = cc in
    let back_is : front ++ u ∷ back ≡ ts = cc in
    rw (← append_assoc before (bytes_of x) (text_of front), x_is) (more front u back back_is i)

all_alone : (ts : List Token) (place : ℕ) (before : List ℕ) →
    first_not_alone_from place before ts ≡ None → AllAloneFrom before ts []
all_alone [] place before e = none_alone before []
all_alone (Name name ∷ ts) place before e =
    let p = alone_parts (stands_alone before (text_of ts)) _ _ e in
    one_more_alone before (Name name) ts [] (λ i. p.0) (all_alone ts (place + 1) (before ++ bytes_of (Name name)) p.1)
all_alone (Mark ∷ ts) place before e =
    let p = alone_parts (stands_alone before (text_of ts)) _ _ e in
    one_more_alone before Mark ts [] (λ i. p.0) (all_alone ts (place + 1) (before ++ bytes_of Mark) p.1)
all_alone (t ∷ ts) place before e =
    one_more_alone before t ts [] (λ i. absurd i) (all_alone ts place (before ++ bytes_of t) e)

-- the first that doesn't, if `place` places and the text `before` come before the tokens
record IsFirstFrom (place : ℕ) (before : List ℕ) (ts : List Token) (number at : ℕ) : Type 0 where
  front : List Token
  found : Token
  back : List Token
  split : front ++ found ∷ back ≡ ts
  is_place : IsPlace found
  number_is : place + place_count front ≡ number
  position_is : length (before ++ text_of front) ≡ at
  not_alone : stands_alone (before ++ text_of front) (text_of back) ≡ false
  others_alone : AllAloneFrom before front (text_of (found ∷ back))

here : (t : Token) (ts : List Token) (place number at : ℕ) (before : List ℕ) → IsPlace t →
    stands_alone before (text_of ts) ≡ false →
    ◌≡◌ {A = Option (ℕ × ℕ)} (Some (place, length before)) (Some (number, at)) →
    IsFirstFrom place before (t ∷ ts) number at
here t ts place number at before i h e =
    let pair : ◌≡◌ {A = ℕ × ℕ} (place, length before) (number, at) = cc in
    let place_is : place ≡ number = ap (λ (p : ℕ × ℕ). p.0) pair in
    let at_is : length before ≡ at = ap (λ (p : ℕ × ℕ). p.1) pair in
    record {
      front = [];
      found = t;
      back = ts;
      split = refl;
      is_place = i;
      number_is = omega (arith, place_is);
      position_is = ap length (append-nil before) ∙ at_is;
      not_alone = rw (append-nil before) h;
      others_alone = none_alone before (text_of (t ∷ ts));
    }

IsFirstNotAlone-next : (t : Token) (ts : List Token) (place next number at : ℕ) (before : List ℕ) →
    (IsPlace t → stands_alone before (text_of ts) ≡ true) →
    ((front : List Token) → place + place_count (t ∷ front) ≡ next + place_count front) →
    IsFirstFrom next (before ++ bytes_of t) ts number at →
    IsFirstFrom place before (t ∷ ts) number at
IsFirstNotAlone-next t ts place next number at before h counts f =
    let joined : before ++ text_of (t ∷ f.front) ≡ (before ++ bytes_of t) ++ text_of f.front = sym (append_assoc before (bytes_of t) (text_of f.front)) in
    let text : text_of ts ≡ text_then (text_of (f.found ∷ f.back)) f.front = ap text_of (sym f.split) ∙ text_then-append f.front (f.found ∷ f.back) [] in
    record {
      front = t ∷ f.front;
      found = f.found;
      back = f.back;
      split = ap (λ us. t ∷ us) f.split;
      is_place = f.is_place;
      number_is = counts f.front ∙ f.number_is;
      position_is = ap length joined ∙ f.position_is;
      not_alone = rw joined f.not_alone;
      others_alone = one_more_alone before t f.front (text_of (f.found ∷ f.back)) (λ i. ap (stands_alone before) (sym text) ∙ h i) f.others_alone;
    }

first_from : (ts : List Token) (place number at : ℕ) (before : List ℕ) →
    ◌≡◌ {A = Option (ℕ × ℕ)} (first_not_alone_from place before ts) (Some (number, at)) →
    IsFirstFrom place before ts number at
first_from [] place number at before e = cc
first_from (Name name ∷ ts) place number at before e =
    elim (choice (stands_alone before (text_of ts)) _ _ _ e) [
      | inl h ↦ IsFirstNotAlone-next (Name name) ts place (place + 1) number at before (λ i. h.0) (λ front. omega arith) (first_from ts (place + 1) number at (before ++ bytes_of (Name name)) h.1)
      | inr h ↦ here (Name name) ts place number at before tt h.0 h.1
    ]
first_from (Mark ∷ ts) place number at before e =
    elim (choice (stands_alone before (text_of ts)) _ _ _ e) [
      | inl h ↦ IsFirstNotAlone-next Mark ts place (place + 1) number at before (λ i. h.0) (λ front. omega arith) (first_from ts (place + 1) number at (before ++ bytes_of Mark) h.1)
      | inr h ↦ here Mark ts place number at before tt h.0 h.1
    ]
first_from (t ∷ ts) place number at before e =
    IsFirstNotAlone-next t ts place place number at before (λ i. absurd i) (λ front. refl) (first_from ts place number at (before ++ bytes_of t) e)

pub first_is_first : (ts : List Token) (place at : ℕ) →
    ◌≡◌ {A = Option (ℕ × ℕ)} (first_not_alone ts) (Some (place, at)) → IsFirstNotAlone ts place at
first_is_first ts place at e =
    let f = first_from ts 0 place at [] e in
    record {
      front = f.front;
      found = f.found;
      back = f.back;
      split = f.split;
      is_place = f.is_place;
      number = omega (arith, f.number_is);
      position_is = f.position_is;
      not_alone = f.not_alone;
      others_alone = f.others_alone;
    }

pub none_is_none : (ts : List Token) → first_not_alone ts ≡ None → AllAlone ts []
none_is_none ts e = all_alone ts 0 [] e
