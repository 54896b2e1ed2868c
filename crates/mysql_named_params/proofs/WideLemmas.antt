-- Tokens with wide names: their bytes, their names, and marks in the place of these.
use Rattle.std.specs.Prelude.{Bool}
use Rattle.std.proofs.Common.{◌≡◌, inl, inr, ℕ, ◌+◌, ◌==◌, ◌&&◌, ◌||◌, true, false, cond, List, [], ◌∷◌, ◌++◌, All, refl, sym, ap, ◌∙◌, subst, append_assoc, append-nil, true≢false, if◌then◌else◌}
use Rattle.std.specs.List.{list_all}
use Rattle.std.specs.Char.{is_ascii_digit}
use Rattle.std.proofs.lemmas.Bool.{cases_Bool, and_parts, and_from, and_right, eqb-true}
use Rattle.std.proofs.lemmas.List.Elements.{All-nil, All-cons}
use Rattle.mysql_named_params.specs.Bytes.{colon, is_name_byte, is_start_byte}
use Rattle.mysql_named_params.specs.Tokens.{Token, IsName, IsTokens, AreTokensBefore, text_of, bytes_of, Name, Mark, Plain}
use Rattle.mysql_named_params.specs.Places.{names, marks, with_marks}
use Rattle.mysql_named_params.proofs.RestLemmas.{SameUpToPlace, at_end, same, at_place, same-append, IsToken-move, mark_opens_nothing}
use Rattle.mysql_named_params.specs.WideNames.{is_wide_start, is_wide_byte, IsWideName, run, begins_wide, continues_wide, widened_from, widened, HasNoCapitals, is_capital}

-- the tokens after the run in front
abbrev pub after_run : List Token → List Token
after_run [] = []
after_run (Plain b ∷ ts) = if is_wide_byte b then after_run ts else Plain b ∷ ts
after_run (t ∷ ts) = t ∷ ts

-- ---- a plain token

-- the cases of a plain token before these tokens
pub data PlainCase (inside : Bool) (b : ℕ) (ts : List Token) : Type 0 where
  -- a wide name before it has it too
  goes_on : inside ≡ true → is_wide_byte b ≡ true →
      widened_from inside (Plain b ∷ ts) ≡ widened_from true ts → PlainCase inside b ts
  -- it is the colon of a wide name
  opens : b ≡ colon → begins_wide ts ≡ true →
      widened_from inside (Plain b ∷ ts) ≡ Name (run ts) ∷ widened_from true ts → PlainCase inside b ts
  -- it stays
  stays : (inside && is_wide_byte b) ≡ false → (b == colon && begins_wide ts) ≡ false →
      widened_from inside (Plain b ∷ ts) ≡ Plain b ∷ widened_from false ts → PlainCase inside b ts

pub plain_case : (inside : Bool) (b : ℕ) (ts : List Token) → PlainCase inside b ts
plain_case inside b ts =
    elim (cases_Bool (inside && is_wide_byte b)) [
      | inl h ↦ let p = and_parts inside (is_wide_byte b) h in goes_on p.0 p.1 (rw h refl)
      | inr h ↦ elim (cases_Bool (b == colon && begins_wide ts)) [
        | inl g ↦ let p = and_parts (b == colon) (begins_wide ts) g in opens (eqb-true b colon p.0) p.1 (rw (h, g) refl)
        | inr g ↦ stays h g (rw (h, g) refl)
      ]
    ]

pub run_wide : (b : ℕ) (ts : List Token) → is_wide_byte b ≡ true → run (Plain b ∷ ts) ≡ b ∷ run ts
run_wide b ts h = rw h refl

pub run_other : (b : ℕ) (ts : List Token) → is_wide_byte b ≡ false → run (Plain b ∷ ts) ≡ []
run_other b ts h = rw h refl

run_colon : (b : ℕ) (ts : List Token) → b ≡ colon → run (Plain b ∷ ts) ≡ []
run_colon b ts e = run_other b ts (ap is_wide_byte e)

-- ---- the bytes

-- the bytes that the wide name before the tokens has of them
abbrev pub taken : Bool → List Token → List ℕ
taken inside ts = cond inside (run ts) []

pub taken_none : (inside : Bool) (b : ℕ) (ts : List Token) → (inside && is_wide_byte b) ≡ false →
    taken inside (Plain b ∷ ts) ≡ []
taken_none true b ts h = run_other b ts h
taken_none false b ts h = refl

pub taken_colon : (inside : Bool) (b : ℕ) (ts : List Token) → b ≡ colon → taken inside (Plain b ∷ ts) ≡ []
taken_colon true b ts e = run_colon b ts e
taken_colon false b ts e = refl

pub taken_wide : (inside : Bool) (b : ℕ) (ts : List Token) → inside ≡ true → is_wide_byte b ≡ true →
    taken inside (Plain b ∷ ts) ≡ b ∷ run ts
taken_wide inside b ts i h = ap (λ x. taken x (Plain b ∷ ts)) i ∙ run_wide b ts h

join : (a b : List ℕ) (x y : List ℕ) → a ≡ b → x ≡ y → a ++ x ≡ b ++ y
join a b x y e f = ap (λ u. u ++ x) e ∙ ap (λ u. b ++ u) f

not_taken : (inside : Bool) (t : Token) (ts : List Token) → taken inside (t ∷ ts) ≡ [] →
    text_of (widened_from inside (t ∷ ts)) ≡ bytes_of t ++ text_of ts →
    taken inside (t ∷ ts) ++ text_of (widened_from inside (t ∷ ts)) ≡ text_of (t ∷ ts)
not_taken inside t ts a b = join _ [] _ _ a b

pub none_taken : (inside : Bool) → ◌≡◌ {A = List ℕ} (cond inside [] []) []
none_taken true = refl
none_taken false = refl

pub text_from : (inside : Bool) (ts : List Token) →
    taken inside ts ++ text_of (widened_from inside ts) ≡ text_of ts
text_from true [] = refl
text_from false [] = refl
text_from inside (Plain b ∷ ts) = elim (plain_case inside b ts) [
  | goes_on i h e ↦ join _ (b ∷ run ts) _ _ (taken_wide inside b ts i h) (ap text_of e) ∙ ap (λ x. b ∷ x) (text_from true ts)
  | opens c h e ↦ not_taken inside (Plain b) ts (taken_colon inside b ts c) (ap text_of e ∙ (ap (λ x. colon ∷ x) (text_from true ts) ∙ ap (λ x. x ∷ text_of ts) (sym c)))
  | stays i c e ↦ not_taken inside (Plain b) ts (taken_none inside b ts i) (ap text_of e ∙ ap (λ x. b ∷ x) (text_from false ts))
]
text_from inside (Name name ∷ ts) = not_taken inside (Name name) ts (none_taken inside) (ap (λ x. colon ∷ x) (append_assoc name (run ts) _ ∙ ap (λ x. name ++ x) (text_from true ts)))
text_from inside (t ∷ ts) = not_taken inside t ts (none_taken inside) (ap (λ x. bytes_of t ++ x) (text_from false ts))

pub text_of-widened : (ts : List Token) → text_of (widened ts) ≡ text_of ts
text_of-widened ts = text_from false ts

pub marks_from : (inside : Bool) (ts : List Token) → marks (widened_from inside ts) ≡ marks ts
marks_from inside [] = refl
marks_from inside (Plain b ∷ ts) = elim (plain_case inside b ts) [
  | goes_on i h e ↦ ap marks e ∙ marks_from true ts
  | opens c h e ↦ ap marks e ∙ marks_from true ts
  | stays i c e ↦ ap marks e ∙ marks_from false ts
]
marks_from inside (Name name ∷ ts) = marks_from true ts
marks_from inside (Mark ∷ ts) = ap (λ n. n + 1) (marks_from false ts)
marks_from inside (t ∷ ts) = marks_from false ts

-- ---- the names

pub run_all : (ts : List Token) → list_all is_wide_byte (run ts) ≡ true
run_all [] = refl
run_all (Plain b ∷ ts) = elim (cases_Bool (is_wide_byte b)) [
  | inl h ↦ ap (list_all is_wide_byte) (run_wide b ts h) ∙ and_from _ _ h (run_all ts)
  | inr h ↦ ap (list_all is_wide_byte) (run_other b ts h)
]
run_all (t ∷ ts) = refl

pub name_byte_wide : (b : ℕ) → is_name_byte b ≡ true → is_wide_byte b ≡ true
name_byte_wide b h = rw h refl

pub start_byte_wide : (b : ℕ) → is_start_byte b ≡ true → is_wide_start b ≡ true
start_byte_wide b h = rw h refl

all_wide : (bs : List ℕ) (more : List ℕ) → list_all is_name_byte bs ≡ true →
    list_all is_wide_byte more ≡ true → list_all is_wide_byte (bs ++ more) ≡ true
all_wide [] more h e = e
all_wide (b ∷ bs) more h e =
    let p = and_parts (is_name_byte b) (list_all is_name_byte bs) h in
    and_from _ _ (name_byte_wide b p.0) (all_wide bs more p.1 e)

pub wide_of_name : (name more : List ℕ) → IsName name → list_all is_wide_byte more ≡ true →
    IsWideName (name ++ more)
wide_of_name [] more h e = absurd h
wide_of_name (b ∷ bs) more h e = (start_byte_wide b h.0, all_wide bs more h.1 e)

-- a byte that begins a wide name also continues one
pub start_wide : (b : ℕ) → is_wide_start b ≡ true → is_wide_byte b ≡ true
start_wide b h = by (is_start_byte b) (is_ascii_digit b) (is_capital b) h
  where
    by : (s d c : Bool) → (s || c) ≡ true → (s || d || c) ≡ true
    by true d c e = refl
    by false true c e = refl
    by false false c e = e

pub run_name : (ts : List Token) → begins_wide ts ≡ true → IsWideName (run ts)
run_name [] h = absurd (true≢false (sym h))
run_name (Plain b ∷ ts) h = subst IsWideName (sym (run_wide b ts (start_wide b h))) (h, run_all ts)
run_name (Name name ∷ ts) h = absurd (true≢false (sym h))
run_name (t ∷ ts) h = absurd (true≢false (sym h))

pub names_from : (mode : Bool) (inside : Bool) (ts : List Token) → AreTokensBefore mode [] ts →
    All IsWideName (names (widened_from inside ts))
names_from mode inside [] h = All-nil IsWideName
names_from mode inside (Plain b ∷ ts) h = elim (plain_case inside b ts) [
  | goes_on i w e ↦ subst (λ x. All IsWideName (names x)) (sym e) (names_from mode true ts h.1)
  | opens c w e ↦ subst (λ x. All IsWideName (names x)) (sym e) (All-cons IsWideName (run ts) _ (run_name ts w) (names_from mode true ts h.1))
  | stays i c e ↦ subst (λ x. All IsWideName (names x)) (sym e) (names_from mode false ts h.1)
]
names_from mode inside (Name name ∷ ts) h =
    All-cons IsWideName (name ++ run ts) _ (wide_of_name name (run ts) h.0.0 (run_all ts)) (names_from mode true ts h.1)
names_from mode inside (t ∷ ts) h = names_from mode false ts h.1

-- ---- tokens that stay

-- if no run is at the front, the text before makes no difference
pub no_run : (ts : List Token) → continues_wide ts ≡ false →
    (run ts ≡ []) × (widened_from true ts ≡ widened_from false ts)
no_run [] h = (refl, refl)
no_run (Plain b ∷ ts) h = (run_other b ts h, rw h refl)
no_run (t ∷ ts) h = (refl, refl)

pub no_capitals : (ts : List Token) → HasNoCapitals ts → widened_from false ts ≡ ts
no_capitals [] h = refl
no_capitals (Plain b ∷ ts) h = elim (plain_case false b ts) [
  | goes_on i w e ↦ absurd (true≢false (sym i))
  | opens c w e ↦ absurd (true≢false (sym (and_from (b == colon) (begins_wide ts) (ap (λ x. x == colon) c) w) ∙ h.0))
  | stays i c e ↦ e ∙ ap (λ x. Plain b ∷ x) (no_capitals ts h.1)
]
no_capitals (Name name ∷ ts) h =
    let n = no_run ts h.0 in
    ap (λ x. Name (name ++ x) ∷ widened_from true ts) n.0 ∙ (ap (λ x. Name x ∷ widened_from true ts) (append-nil name) ∙ ap (λ x. Name name ∷ x) (n.1 ∙ no_capitals ts h.1))
no_capitals (t ∷ ts) h = ap (λ x. t ∷ x) (no_capitals ts h)

pub nameless_same : (ts : List Token) → names (widened_from false ts) ≡ [] → widened_from false ts ≡ ts
nameless_same [] h = refl
nameless_same (Plain b ∷ ts) h = elim (plain_case false b ts) [
  | goes_on i w e ↦ absurd (true≢false (sym i))
  | opens c w e ↦ let none : run ts ∷ names (widened_from true ts) ≡ [] = sym (ap names e) ∙ h in cc
  | stays i c e ↦ e ∙ ap (λ x. Plain b ∷ x) (nameless_same ts (sym (ap names e) ∙ h))
]
nameless_same (Name name ∷ ts) h = cc
nameless_same (t ∷ ts) h = ap (λ x. t ∷ x) (nameless_same ts h)

-- ---- marks in place of the names

wide_marks_up_to_place : (ts : List Token) → SameUpToPlace (text_of ts) (text_of (with_marks (widened_from false ts)))
wide_marks_up_to_place [] = at_end
wide_marks_up_to_place (Plain b ∷ ts) = elim (plain_case false b ts) [
  | goes_on i w e ↦ absurd (true≢false (sym i))
  | opens c w e ↦ subst (λ x. SameUpToPlace (b ∷ text_of ts) (text_of (with_marks x))) (sym e) (at_place (inl c) (mark_opens_nothing _))
  | stays i c e ↦ subst (λ x. SameUpToPlace (b ∷ text_of ts) (text_of (with_marks x))) (sym e) (same (wide_marks_up_to_place ts))
]
wide_marks_up_to_place (Name name ∷ ts) = at_place (inl refl) (mark_opens_nothing _)
wide_marks_up_to_place (Mark ∷ ts) = same (wide_marks_up_to_place ts)
wide_marks_up_to_place (t ∷ ts) = same-append (bytes_of t) (wide_marks_up_to_place ts)

pub wide_marks_each : (mode inside : Bool) (ts : List Token) → AreTokensBefore mode [] ts →
    AreTokensBefore mode [] (with_marks (widened_from inside ts))
wide_marks_each mode inside [] h = tt
wide_marks_each mode inside (Plain b ∷ ts) h = elim (plain_case inside b ts) [
  | goes_on i w e ↦ subst (λ x. AreTokensBefore mode [] (with_marks x)) (sym e) (wide_marks_each mode true ts h.1)
  | opens c w e ↦ subst (λ x. AreTokensBefore mode [] (with_marks x)) (sym e) (tt, wide_marks_each mode true ts h.1)
  | stays i c e ↦ subst (λ x. AreTokensBefore mode [] (with_marks x)) (sym e) (IsToken-move mode (Plain b) _ _ (λ p. elim p [ ]) (wide_marks_up_to_place ts) h.0, wide_marks_each mode false ts h.1)
]
wide_marks_each mode inside (Name name ∷ ts) h = (tt, wide_marks_each mode true ts h.1)
wide_marks_each mode inside (Mark ∷ ts) h = (tt, wide_marks_each mode false ts h.1)
wide_marks_each mode inside (t ∷ ts) h = (IsToken-move mode t _ _ (λ p. elim p [ ]) (wide_marks_up_to_place ts) h.0, wide_marks_each mode false ts h.1)

pub IsTokens-wide_marks : (mode : Bool) (query : List ℕ) (ts : List Token) → IsTokens mode query ts →
    IsTokens mode (text_of (with_marks (widened ts))) (with_marks (widened ts))
IsTokens-wide_marks mode query ts is = record { text = refl; each = wide_marks_each mode false ts is.each }

-- ---- no wide name is left

left_none : (ts : List Token) → continues_wide (widened_from true ts) ≡ false
left_none [] = refl
left_none (Plain b ∷ ts) = elim (plain_case true b ts) [
  | goes_on i w e ↦ ap continues_wide e ∙ left_none ts
  | opens c w e ↦ ap continues_wide e
  | stays i c e ↦ ap continues_wide e ∙ i
]
left_none (t ∷ ts) = refl

-- a wide name begins after a token only if it began there before
begins_before : (b : ℕ) (ts : List Token) → (b == colon && begins_wide ts) ≡ false →
    (b == colon && begins_wide (widened_from false ts)) ≡ false
begins_before b [] h = h
begins_before b (Plain d ∷ ts) h = elim (plain_case false d ts) [
  | goes_on i w e ↦ absurd (true≢false (sym i))
  | opens c w e ↦ ap (λ x. b == colon && begins_wide x) e ∙ and_right (b == colon) false refl
  | stays i c e ↦ ap (λ x. b == colon && begins_wide x) e ∙ h
]
begins_before b (t ∷ ts) h = and_right (b == colon) false refl

pub none_left : (inside : Bool) (ts : List Token) → HasNoCapitals (widened_from inside ts)
none_left inside [] = tt
none_left inside (Plain b ∷ ts) = elim (plain_case inside b ts) [
  | goes_on i w e ↦ subst HasNoCapitals (sym e) (none_left true ts)
  | opens c w e ↦ subst HasNoCapitals (sym e) (left_none ts, none_left true ts)
  | stays i c e ↦ subst HasNoCapitals (sym e) (begins_before b ts c, none_left false ts)
]
none_left inside (Name name ∷ ts) = (left_none ts, none_left true ts)
none_left inside (t ∷ ts) = none_left false ts

pub wide_again : (ts : List Token) → widened (widened ts) ≡ widened ts
wide_again ts = no_capitals (widened ts) (none_left false ts)
