-- The facts about a query before it is renamed: whether it has names and marks, and where they
-- begin.
use Rattle.std.specs.Prelude.{Bool, ◌↔◌, None}
use Rattle.std.proofs.Common.{◌≡◌, ℕ, ◌<◌, ◌≤◌, ◌==◌, ltb, true, false, not, List, [], ◌∷◌, length, drop, get_or, refl, sym, ap, ◌∙◌, subst, arith, inl, inr, append-nil, true≢false}
use Rattle.std.specs.List.{list_all}
use Rattle.std.proofs.lemmas.Bool.{and_parts, lt-ltb, ltb-true, cases_lt}
use Rattle.std.proofs.lemmas.List.Sums.{list_all-from_AllPass}
use Rattle.std.proofs.lemmas.List.Elements.{All-from_get_or}
use Rattle.std.proofs.lemmas.List.Folds.{list_all-append}
use Rattle.memchr.specs.Find.{IsFirstByte, is_byte}
use Rattle.mysql_named_params.specs.Bytes.{colon, question_mark}
use Rattle.mysql_named_params.specs.Tokens.{Token, IsTokens, OnTokens, bytes_of, text_of, Name, Mark}
use Rattle.mysql_named_params.specs.Places.{names, marks, place_count, HasName, HasMark}
use Rattle.mysql_named_params.specs.FirstPlace.{IsFirstPlace, BeginPlacesFrom}
use Rattle.mysql_named_params.specs.declared.places.FoundPlace.{FoundPlace}
use Rattle.mysql_named_params.proofs.TokenListLemmas.{one_token_list}
use Rattle.mysql_named_params.proofs.TokenRowLemmas.{place_count-sum}
use Rattle.mysql_named_params.proofs.ClosingQuoteLemmas.{fails}
use Rattle.mysql_named_params.proofs.FoundPlaceLemmas.{parted, names_after, marks_after, names_at_name}
use Rattle.mysql_named_params.proofs.RenameLemmas.{name_found}

-- the flags say whether there is a name, and whether there is a mark
abbrev pub AreTold : Bool → List ℕ → Bool → Bool → Type 0
AreTold mode query has_name has_mark =
    OnTokens mode query (λ ts. ((has_name ≡ true) ↔ HasName ts) × ((has_mark ≡ true) ↔ HasMark ts))

pub not_some : (b : Bool) (n : ℕ) → (b ≡ true) ↔ (0 < n) → b ≡ false → n ≤ 0
not_some b n told e = elim (cases_lt 0 n) [ inl some ↦ absurd (true≢false (sym (told.1 some) ∙ e)) | inr few ↦ few ]

pub told_no_mark : (mode : Bool) (query : List ℕ) (has_name has_mark : Bool) (ts : List Token) →
    AreTold mode query has_name has_mark → has_mark ≡ false → IsTokens mode query ts → marks ts ≡ 0
told_no_mark mode query has_name has_mark ts o e is =
    let same : o.0 ≡ ts = one_token_list mode query o.0 ts o.1 is in
    let few : marks o.0 ≤ 0 = not_some has_mark (marks o.0) o.2.1 e in
    omega (arith, ap marks same)

pub no_place_told : (mode : Bool) (query : List ℕ) → OnTokens mode query (λ ts. place_count ts ≡ 0) →
    AreTold mode query false false
no_place_told mode query o = (
  o.0,
  o.1,
  (
    (λ e. absurd (true≢false (sym e)), λ some. absurd (omega (arith, o.2, some, place_count-sum o.0))),
    (λ e. absurd (true≢false (sym e)), λ some. absurd (omega (arith, o.2, some, place_count-sum o.0))),
  ),
)

pub places_from_end : (mode : Bool) (query : List ℕ) → OnTokens mode query (λ ts. place_count ts ≡ 0) →
    OnTokens mode query (λ ts. BeginPlacesFrom ts (length query))
places_from_end mode query o =
    (o.0, o.1, record { front = o.0; back = []; split = append-nil o.0; no_place = o.2; start_is = ap length o.1.text })

pub places_from_first : (mode : Bool) (query : List ℕ) (found : FoundPlace) →
    OnTokens mode query (λ ts. IsFirstPlace ts found) →
    OnTokens mode query (λ ts. BeginPlacesFrom ts found.before)
places_from_first mode query found o =
    let p = o.2 in
    (o.0, o.1, record { front = p.front; back = p.place ∷ p.back; split = p.split; no_place = p.is_first; start_is = p.before_is })

counted_from_first : (mode : Bool) (query rest : List ℕ) (found : FoundPlace) (i j : ℕ) →
    OnTokens mode query (λ ts. IsFirstPlace ts found) → rest ≡ drop found.before query →
    OnTokens mode rest (λ us. (i ≡ length (names us)) × (j ≡ marks us)) →
    OnTokens mode query (λ ts. (i ≡ length (names ts)) × (j ≡ marks ts))
counted_from_first mode query rest found i j o rest_is counts =
    let p = parted mode query o.0 found o.1 o in
    let tokens = subst (λ x. IsTokens mode x counts.0) rest_is counts.1 in
    let same : counts.0 ≡ p.place ∷ p.back = one_token_list mode (drop found.before query) counts.0 (p.place ∷ p.back) tokens p.place_tokens in
    let all_names : names o.0 ≡ names counts.0 = ap names p.tokens_are ∙ (names_after p.front p.place p.back p.no_place ∙ ap names (sym same)) in
    let all_marks : marks o.0 ≡ marks counts.0 = ap marks p.tokens_are ∙ (marks_after p.front p.place p.back p.no_place ∙ ap marks (sym same)) in
    (o.0, o.1, (counts.2.0 ∙ ap length (sym all_names), counts.2.1 ∙ sym all_marks))

pub counts_told : (mode : Bool) (query rest : List ℕ) (found : FoundPlace) (i j : ℕ) →
    OnTokens mode query (λ ts. IsFirstPlace ts found) → rest ≡ drop found.before query →
    OnTokens mode rest (λ us. (i ≡ length (names us)) × (j ≡ marks us)) →
    AreTold mode query (ltb 0 i) (ltb 0 j)
counts_told mode query rest found i j o rest_is counts =
    let all = counted_from_first mode query rest found i j o rest_is counts in (
      all.0,
      all.1,
      (
        (λ e. omega (arith, all.2.0, ltb-true 0 i e), λ some. lt-ltb 0 i (omega (arith, all.2.0, some))),
        (λ e. omega (arith, all.2.1, ltb-true 0 j e), λ some. lt-ltb 0 j (omega (arith, all.2.1, some))),
      ),
    )

-- no more names are counted than there are
pub no_more_counted : (mode : Bool) (query rest : List ℕ) (found : FoundPlace) (i j : ℕ) →
    OnTokens mode query (λ ts. IsFirstPlace ts found) → rest ≡ drop found.before query →
    OnTokens mode rest (λ us. (i ≡ length (names us)) × (j ≡ marks us)) →
    OnTokens mode query (λ ts. i ≤ length (names ts))
no_more_counted mode query rest found i j o rest_is counts =
    let all = counted_from_first mode query rest found i j o rest_is counts in
    (all.0, all.1, omega (arith, all.2.0))

-- ---- without a byte `?` there is no mark

abbrev pub is_other : ℕ → Bool
is_other b = not (b == question_mark)

marks-other : (ts : List Token) → list_all is_other (text_of ts) ≡ true → marks ts ≡ 0
marks-other [] h = refl
marks-other (Mark ∷ ts) h = cc
marks-other (Name name ∷ ts) h = marks-other ts (and_parts _ _ (sym (list_all-append is_other (colon ∷ name) (text_of ts)) ∙ h)).1
marks-other (t ∷ ts) h = marks-other ts (and_parts _ _ (sym (list_all-append is_other (bytes_of t) (text_of ts)) ∙ h)).1

all_other : (text : List ℕ) → IsFirstByte (is_byte question_mark) text None →
    list_all is_other text ≡ true
all_other text nowhere =
    list_all-from_AllPass is_other text (All-from_get_or (λ b. is_other b ≡ true) text 0 (λ k lt. ap not (fails (get_or text k 0 == question_mark) (nowhere k (omega arith) lt))))

-- the first place is a name, and no mark follows
module _ (mode : Bool) (query rest : List ℕ) (found : FoundPlace) (o : OnTokens mode query (λ ts. IsFirstPlace ts found)) (rest_is : rest ≡ drop found.before query) (nowhere : IsFirstByte (is_byte question_mark) rest None) where
  markless : marks o.0 ≡ 0
  markless =
      let p = parted mode query o.0 found o.1 o in
      let others : list_all is_other (text_of (p.place ∷ p.back)) ≡ true = ap (list_all is_other) (p.place_tokens.text ∙ sym rest_is) ∙ all_other rest nowhere in
      ap marks p.tokens_are ∙ (marks_after p.front p.place p.back p.no_place ∙ marks-other (p.place ∷ p.back) others)

  pub name_told : AreTold mode query true false
  name_told =
      let p = parted mode query o.0 found o.1 o in
      let is = name_found _ query o.0 found markless p in
      let some : names o.0 ≡ drop 1 (bytes_of p.place) ∷ names p.back = ap names p.tokens_are ∙ names_at_name p.front p.place p.back p.no_place is in
      (o.0, o.1, ((λ e. omega (arith, ap length some), λ h. refl), (λ e. absurd (true≢false (sym e)), λ any. absurd (omega (arith, markless, any)))))
