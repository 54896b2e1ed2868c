-- A query with its wide names in lower case: its tokens, and the text that is written so far.
use Rattle.std.specs.Prelude.{Bool}
use Rattle.std.specs.Char.{to_ascii_lowercase}
use Rattle.std.specs.List.{list_all, list_any}
use Rattle.std.proofs.Common.{◌≡◌, ◌+◌, ◌++◌, ◌≤◌, ◌||◌, ◌∙◌, ℕ, true, false, List, [], ◌∷◌, Some, append_assoc, arith, drop, drop-drop, inl, ◌-◌, length, length-append, length-drop, map, refl, subst, sym, ap, take, true≢false}
use Rattle.std.proofs.Math.Seq.{take-add}
use Rattle.std.proofs.lemmas.Bool.{and_from, and_parts}
use Rattle.std.proofs.lemmas.Bool.Decides.{nat_tests}
use Rattle.std.proofs.lemmas.List.{length-map, take-append-drop}
use Rattle.mysql_named_params.specs.Bytes.{begins, colon, is_name_byte, is_start_byte, is_string_quote}
use Rattle.mysql_named_params.specs.FirstPlace.{IsFirstPlace, place_kind}
use Rattle.mysql_named_params.specs.LoweredNames.{have_capitals, lower_names}
use Rattle.mysql_named_params.specs.Places.{names, place_count, with_marks}
use Rattle.mysql_named_params.specs.Reading.{IsTokensIn, OnTokensIn}
use Rattle.mysql_named_params.specs.Tokens.{Token, IsName, IsTokens, AreTokensBefore, text_of, bytes_of, QuotedString, Name, Mark, Plain}
use Rattle.mysql_named_params.specs.WideNames.{IsWideName, is_capital, is_wide_byte, is_wide_start, run, widened, widened_from}
use Rattle.mysql_named_params.specs.declared.places.FoundPlace.{FoundPlace}
use Rattle.mysql_named_params.specs.declared.places.PlaceKind.{PlaceKind}
use Rattle.mysql_named_params.specs.declared.places.Reading.{Reading}
use Rattle.mysql_named_params.proofs.FoundPlaceLemmas.{IsPartedIn, parted_in}
use Rattle.mysql_named_params.proofs.ReadingLemmas.{one_reading, reading_exists, reading_text}
use Rattle.mysql_named_params.proofs.RestLemmas.{OpensNothing, SameUpToPlace, at_end, same, at_place, same-append, IsToken-move}
use Rattle.mysql_named_params.proofs.WideLemmas.{goes_on, opens, stays, plain_case, run_all, run_name, wide_of_name}

-- ---- names in lower case

pub lower_start : (b : ℕ) → is_wide_start b ≡ true → is_start_byte (to_ascii_lowercase b) ≡ true
lower_start b h = grind (arith, nat_tests)

lower_byte : (b : ℕ) → is_wide_byte b ≡ true → is_name_byte (to_ascii_lowercase b) ≡ true
lower_byte b h = grind (arith, nat_tests)

lower_bytes : (bs : List ℕ) → list_all is_wide_byte bs ≡ true → list_all is_name_byte (map to_ascii_lowercase bs) ≡ true
lower_bytes [] h = refl
lower_bytes (b ∷ bs) h =
    let p = and_parts (is_wide_byte b) (list_all is_wide_byte bs) h in
    and_from _ _ (lower_byte b p.0) (lower_bytes bs p.1)

lower_name : (name : List ℕ) → IsWideName name → IsName (map to_ascii_lowercase name)
lower_name [] is = absurd is
lower_name (b ∷ bs) is = (lower_start b is.0, lower_bytes bs is.1)

-- ---- the tokens

colon_opens_nothing : (rest : List ℕ) → OpensNothing (colon ∷ rest)
colon_opens_nothing [] = record { no_line = refl; no_gap = refl; no_block = refl; no_start = refl }
colon_opens_nothing (w ∷ rest) = record { no_line = refl; no_gap = refl; no_block = refl; no_start = refl }

lower_up_to_place : (inside : Bool) (ts : List Token) → inside ≡ false → SameUpToPlace (text_of ts) (text_of (lower_names (widened_from inside ts)))
lower_up_to_place inside [] f = at_end
lower_up_to_place inside (Plain b ∷ ts) f = elim (plain_case inside b ts) [
  | goes_on i w e ↦ absurd (true≢false (sym i ∙ f))
  | opens c w e ↦ subst (λ x. SameUpToPlace (b ∷ text_of ts) (text_of (lower_names x))) (sym e) (at_place (inl c) (colon_opens_nothing _))
  | stays i c e ↦ subst (λ x. SameUpToPlace (b ∷ text_of ts) (text_of (lower_names x))) (sym e) (same (lower_up_to_place false ts refl))
]
lower_up_to_place inside (Name name ∷ ts) f = at_place (inl refl) (colon_opens_nothing _)
lower_up_to_place inside (Mark ∷ ts) f = same (lower_up_to_place false ts refl)
lower_up_to_place inside (t ∷ ts) f = same-append (bytes_of t) (lower_up_to_place false ts refl)

no_name_byte : (q : ℕ) → is_string_quote q ≡ true → is_name_byte q ≡ false
no_name_byte q h = grind (arith, nat_tests)

not_wide_no_name : (b : ℕ) → is_wide_byte b ≡ false → is_name_byte b ≡ false
not_wide_no_name b h = grind (arith, nat_tests)

-- the text after a wide name doesn't continue it
name_ends : (mode : Bool) (ts : List Token) → AreTokensBefore mode [] ts →
    begins is_name_byte (text_of (lower_names (widened_from true ts))) ≡ false
name_ends mode [] h = refl
name_ends mode (Plain b ∷ ts) h = elim (plain_case true b ts) [
  | goes_on i w e ↦ ap (λ x. begins is_name_byte (text_of (lower_names x))) e ∙ name_ends mode ts h.1
  | opens c w e ↦ ap (λ x. begins is_name_byte (text_of (lower_names x))) e
  | stays i c e ↦ ap (λ x. begins is_name_byte (text_of (lower_names x))) e ∙ not_wide_no_name b i
]
name_ends mode (QuotedString q tail ∷ ts) h = no_name_byte q h.0.0
name_ends mode (t ∷ ts) h = refl

lower_each : (mode inside : Bool) (ts : List Token) → AreTokensBefore mode [] ts →
    AreTokensBefore mode [] (lower_names (widened_from inside ts))
lower_each mode inside [] h = tt
lower_each mode inside (Plain b ∷ ts) h = elim (plain_case inside b ts) [
  | goes_on i w e ↦ subst (λ x. AreTokensBefore mode [] (lower_names x)) (sym e) (lower_each mode true ts h.1)
  | opens c w e ↦ subst (λ x. AreTokensBefore mode [] (lower_names x)) (sym e) ((lower_name (run ts) (run_name ts w), name_ends mode ts h.1), lower_each mode true ts h.1)
  | stays i c e ↦ subst (λ x. AreTokensBefore mode [] (lower_names x)) (sym e) (IsToken-move mode (Plain b) _ _ (λ p. elim p [ ]) (lower_up_to_place false ts refl) h.0, lower_each mode false ts h.1)
]
lower_each mode inside (Name name ∷ ts) h =
    ((lower_name (name ++ run ts) (wide_of_name name (run ts) h.0.0 (run_all ts)), name_ends mode ts h.1), lower_each mode true ts h.1)
lower_each mode inside (Mark ∷ ts) h = (tt, lower_each mode false ts h.1)
lower_each mode inside (t ∷ ts) h = (IsToken-move mode t _ _ (λ p. elim p [ ]) (lower_up_to_place false ts refl) h.0, lower_each mode false ts h.1)

pub lowered_tokens : (mode : Bool) (query : List ℕ) (ts : List Token) → IsTokens mode query ts →
    IsTokens mode (text_of (lower_names (widened ts))) (lower_names (widened ts))
lowered_tokens mode query ts is = record { text = refl; each = lower_each mode false ts is.each }

pub lowered_marks : (ts : List Token) → with_marks (lower_names ts) ≡ with_marks ts
lowered_marks [] = refl
lowered_marks (Name name ∷ ts) = ap (λ us. Mark ∷ us) (lowered_marks ts)
lowered_marks (t ∷ ts) = ap (λ us. t ∷ us) (lowered_marks ts)

pub lowered_len : (ts : List Token) → length (text_of (lower_names ts)) ≡ length (text_of ts)
lowered_len [] = refl
lowered_len (Name name ∷ ts) =
    omega (arith, lowered_len ts, length-append (bytes_of (Name name)) (text_of ts), length-append (bytes_of (Name (map to_ascii_lowercase name))) (text_of (lower_names ts)), length-map name to_ascii_lowercase)
lowered_len (t ∷ ts) =
    omega (arith, lowered_len ts, length-append (bytes_of t) (text_of ts), length-append (bytes_of t) (text_of (lower_names ts)))

-- ---- the text that is written so far

-- before the index is the query in lower case, and from it on the query as it is
pub record LoweredSoFar (reading : Reading) (query : List ℕ) (at : ℕ) (text : List ℕ) : Type 0 where
  pub all : List Token
  pub tokens : IsTokensIn reading query all
  pub left : List Token
  pub rest_tokens : IsTokensIn reading (drop at query) left
  pub front_is : take at text ++ text_of (lower_names left) ≡ text_of (lower_names all)
  pub rest_is : drop at text ≡ drop at query
  pub length_is : length text ≡ length query
  pub in_range : at ≤ length query

pub lowered_none : (reading : Reading) (query text : List ℕ) → text ≡ query → LoweredSoFar reading query 0 text
lowered_none reading query text e =
    let t = reading_exists reading query in
    record { all = t.0; tokens = t.1; left = t.0; rest_tokens = t.1; front_is = refl; rest_is = e; length_is = ap length e; in_range = omega arith }

no_names_lowered : (front : List Token) (ts : List Token) → place_count front ≡ 0 →
    text_of (lower_names (front ++ ts)) ≡ text_of front ++ text_of (lower_names ts)
no_names_lowered [] ts none = refl
no_names_lowered (Name name ∷ front) ts none = absurd (omega arith)
no_names_lowered (Mark ∷ front) ts none = absurd (omega arith)
no_names_lowered (t ∷ front) ts none = ap (λ x. bytes_of t ++ x) (no_names_lowered front ts none) ∙ sym (append_assoc (bytes_of t) (text_of front) (text_of (lower_names ts)))

place_lowered : (place : Token) (k : PlaceKind) (back : List Token) → place_kind place ≡ Some k →
    text_of (lower_names (place ∷ back)) ≡ map to_ascii_lowercase (bytes_of place) ++ text_of (lower_names back)
place_lowered (Name name) k back e = refl
place_lowered Mark k back e = refl
place_lowered t k back e = cc

module _ (reading : Reading) (query rest : List ℕ) (at : ℕ) (text : List ℕ) (found : FoundPlace) (s : LoweredSoFar reading query at text) (rest_is : rest ≡ drop at query) (o : OnTokensIn reading rest (λ us. IsFirstPlace us found)) where
  p : IsPartedIn reading (drop at query) s.left found
  p = parted_in reading (drop at query) s.left found s.rest_tokens (subst (λ x. OnTokensIn reading x (λ us. IsFirstPlace us found)) rest_is o)

  -- the place ends within the text
  pub lowered_fits : at + found.before + found.len ≤ length text
  lowered_fits = omega (arith, p.in_range, s.length_is, s.in_range, length-drop at query)

  -- one place more
  pub lowered_more : (start end : ℕ) (text' : List ℕ) → start ≡ at + found.before → end ≡ start + found.len →
      take end text' ≡ take start text ++ map to_ascii_lowercase (take (end - start) (drop start text)) →
      drop end text' ≡ drop end text → length text' ≡ length text → LoweredSoFar reading query end text'
  lowered_more start end text' start_is end_is front rest len =
      let front_bytes : take start text ≡ take at text ++ text_of p.front =
      ap (λ n. take n text) start_is ∙ (take-add at found.before text ∙ ap (λ x. take at text ++ x) (ap (take found.before) s.rest_is ∙ sym p.front_text)) in
      let from_start : drop start text ≡ drop found.before (drop at query) =
      ap (λ n. drop n text) start_is ∙ (sym (drop-drop found.before at text) ∙ ap (drop found.before) s.rest_is) in
      let long : end - start ≡ found.len = omega (arith, end_is) in
      let place_bytes : take (end - start) (drop start text) ≡ bytes_of p.place =
      ap (λ n. take n (drop start text)) long ∙ (ap (take found.len) from_start ∙ sym p.place_bytes) in
      let low = map to_ascii_lowercase (bytes_of p.place) in
      let here : take end text' ≡ (take at text ++ text_of p.front) ++ low = front ∙ (ap (λ x. x ++ map to_ascii_lowercase (take (end - start) (drop start text))) front_bytes ∙ ap (λ x. (take at text ++ text_of p.front) ++ map to_ascii_lowercase x) place_bytes) in
      let left : text_of (lower_names s.left) ≡ text_of p.front ++ (low ++ text_of (lower_names p.back)) =
      ap (λ x. text_of (lower_names x)) p.tokens_are ∙ (no_names_lowered p.front (p.place ∷ p.back) p.no_place ∙ ap (λ x. text_of p.front ++ x) (place_lowered p.place found.kind p.back p.kind_is)) in
      let after : drop end query ≡ drop (found.before + found.len) (drop at query) =
      ap (λ n. drop n query) (omega (arith, end_is, start_is)) ∙ sym (drop-drop (found.before + found.len) at query) in
      record {
        all = s.all;
        tokens = s.tokens;
        left = p.back;
        rest_tokens = subst (λ x. IsTokensIn reading x p.back) (sym after) p.rest_tokens;
        front_is = ap (λ x. x ++ text_of (lower_names p.back)) here
            ∙ (append_assoc (take at text ++ text_of p.front) low (text_of (lower_names p.back))
            ∙ (append_assoc (take at text) (text_of p.front) (low ++ text_of (lower_names p.back))
            ∙ (ap (λ x. take at text ++ x) (sym left) ∙ s.front_is)));
        rest_is = rest ∙ (ap (λ n. drop n text) (omega (arith, end_is, start_is)) ∙ (sym (drop-drop (found.before + found.len) at text) ∙ (ap (drop (found.before + found.len)) s.rest_is ∙ sym after)));
        length_is = len ∙ s.length_is;
        in_range = omega (arith, lowered_fits, s.length_is, end_is, start_is);
      }

none_lowered : (ts : List Token) → place_count ts ≡ 0 → lower_names ts ≡ ts
none_lowered [] e = refl
none_lowered (Name name ∷ ts) e = absurd (omega arith)
none_lowered (Mark ∷ ts) e = absurd (omega arith)
none_lowered (t ∷ ts) e = ap (λ us. t ∷ us) (none_lowered ts e)

-- once no place is left
pub lowered_all : (reading : Reading) (query rest : List ℕ) (at : ℕ) (text : List ℕ) → LoweredSoFar reading query at text →
    rest ≡ drop at query → OnTokensIn reading rest (λ us. place_count us ≡ 0) →
    OnTokensIn reading query (λ ts. text ≡ text_of (lower_names ts))
lowered_all reading query rest at text s rest_is o =
    let same : o.0 ≡ s.left = one_reading reading (drop at query) o.0 s.left (subst (λ x. IsTokensIn reading x o.0) rest_is o.1) s.rest_tokens in
    let none : place_count s.left ≡ 0 = ap place_count (sym same) ∙ o.2 in
    let left : text_of (lower_names s.left) ≡ drop at text = ap text_of (none_lowered s.left none) ∙ (reading_text reading (drop at query) s.left s.rest_tokens ∙ sym s.rest_is) in
    (s.all, s.tokens, sym (take-append-drop at text) ∙ (ap (λ x. take at text ++ x) (sym left) ∙ s.front_is))

-- ---- capitals

or_false : (a b : Bool) → (a || b) ≡ false → (a ≡ false) × (b ≡ false)
or_false true b h = absurd (true≢false h)
or_false false b h = (refl, h)

lower_same : (b : ℕ) → is_capital b ≡ false → to_ascii_lowercase b ≡ b
lower_same b h = grind (arith, nat_tests)

bytes_same : (bs : List ℕ) → list_any is_capital bs ≡ false → map to_ascii_lowercase bs ≡ bs
bytes_same [] h = refl
bytes_same (b ∷ bs) h =
    let p = or_false (is_capital b) (list_any is_capital bs) h in
    ap (λ x. x ∷ map to_ascii_lowercase bs) (lower_same b p.0) ∙ ap (λ x. b ∷ x) (bytes_same bs p.1)

-- names without capitals are in lower case
pub lowered_same : (ts : List Token) → have_capitals (names ts) ≡ false → lower_names ts ≡ ts
lowered_same [] h = refl
lowered_same (Name name ∷ ts) h =
    let p = or_false (list_any is_capital name) (have_capitals (names ts)) h in
    ap (λ x. Name x ∷ lower_names ts) (bytes_same name p.0) ∙ ap (λ x. Name name ∷ x) (lowered_same ts p.1)
lowered_same (t ∷ ts) h = ap (λ x. t ∷ x) (lowered_same ts h)
