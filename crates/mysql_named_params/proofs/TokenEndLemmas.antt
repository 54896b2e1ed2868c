-- `TokensOf` computes the tokens of the grammar.
use Rattle.std.proofs.Common.{◌≡◌, ◌≢◌, ℕ, zero, suc, ◌+◌, ◌-◌, ◌<◌, ◌≤◌, get_or, eq-eqb, Bool, true, false, ◌==◌, List, [], ◌∷◌, ◌++◌, length, take, drop, refl, sym, ap, ◌∙◌, subst, inl, inr, arith, append_assoc, length-append, ne_eqb, true≢false, take_at, take-append-drop}
use Rattle.std.proofs.lemmas.List.{drop_more, drop_all}
use Rattle.std.proofs.lemmas.Bool.{cases_Bool, cases_lt, and_from, eqb-true, eqb-false}
use Rattle.mysql_named_params.specs.Bytes.{is_name_byte, Lacks, HoldsOnlyAtEnd, IsUpTo, up_to_word, up_to_end}
use Rattle.mysql_sql_text.specs.StringUnits.{is_escape}
use Rattle.mysql_named_params.specs.Tokens.{IsStringTail, closed_string, open_string, open_in_escape}
use Rattle.mysql_sql_text.specs.StringUnits.{no_units, byte_unit, escape_unit}
use Rattle.mysql_named_params.specs.FirstToken.{IsNameFront}
use Rattle.mysql_named_params.specs.Lanes.{EachPasses}
use Rattle.mysql_named_params.specs.TokensOf.{begins_with, len_up_to, string_len, name_len}
use Rattle.mysql_named_params.proofs.TokenEnds.{begins_with_front, word_begins}

-- ---- words

-- a byte more in front, if the word doesn't begin with it
cons_up_to : (word : List ℕ) (b : ℕ) (bytes rest : List ℕ) →
    begins_with word (b ∷ (bytes ++ rest)) ≡ false → IsUpTo word bytes rest →
    IsUpTo word (b ∷ bytes) rest
cons_up_to word b bytes rest h (up_to_word body e ends) =
    up_to_word (b ∷ body) (ap (λ x. b ∷ x) e) (λ front back. first_of front back)
  where
    not_here : (back : List ℕ) → word ++ back ≢ b ∷ bytes
    not_here back f = true≢false (sym (begins_with_front word (back ++ rest)) ∙ (ap (begins_with word) (sym (append_assoc word back rest) ∙ ap (λ x. x ++ rest) f) ∙ h))

    first_of : (front back : List ℕ) → front ++ (word ++ back) ≡ b ∷ bytes → back ≡ []
    first_of [] back f = absurd (not_here back f)
    first_of (c ∷ front) back f = let g : front ++ (word ++ back) ≡ bytes = cc in ends front back g
cons_up_to word b bytes rest h (up_to_end lacks e) = up_to_end lacks' e
  where
    not_here : (back : List ℕ) → word ++ back ≢ b ∷ bytes
    not_here back f = true≢false (sym (begins_with_front word (back ++ rest)) ∙ (ap (begins_with word) (sym (append_assoc word back rest) ∙ ap (λ x. x ++ rest) f) ∙ h))

    lacks' : Lacks word (b ∷ bytes)
    lacks' [] back f = not_here back f
    lacks' (c ∷ front) back f = let g : front ++ (word ++ back) ≡ bytes = cc in lacks front back g

word_ends : (word : List ℕ) → HoldsOnlyAtEnd word word
word_ends word front [] e = refl
word_ends word front (b ∷ back) e = absurd (omega (arith, ap length e, length-append front (word ++ (b ∷ back)), length-append word (b ∷ back)))

pub up_to_gives : (word text : List ℕ) → 0 ≢ length word →
    IsUpTo word (take (len_up_to word text) text) (drop (len_up_to word text) text)
up_to_gives word [] some = up_to_end (λ front back e. some (omega (arith, ap length e, length-append front (word ++ back), length-append word back))) refl
up_to_gives word (b ∷ bs) some =
    elim (cases_Bool (begins_with word (b ∷ bs))) [
      | inl h ↦
          let r = word_begins word (b ∷ bs) h in
          rw h (up_to_word [] (sym (ap (take (length word)) (sym r.1) ∙ take_at word r.0 (length word) refl)) (subst (HoldsOnlyAtEnd word) (sym (ap (take (length word)) (sym r.1) ∙ take_at word r.0 (length word) refl)) (word_ends word)))
      | inr h ↦ rw h (cons_up_to word b (take (len_up_to word bs) bs) (drop (len_up_to word bs) bs) (rw take-append-drop h) (up_to_gives word bs some))
    ]

-- ---- strings

cons_byte : (mode : Bool) (q b : ℕ) (tail rest : List ℕ) → b ≢ q → is_escape mode b ≡ false →
    IsStringTail mode q tail rest → IsStringTail mode q (b ∷ tail) rest
cons_byte mode q b tail rest ne plain (closed_string body u e) = closed_string (b ∷ body) (byte_unit ne plain u) (ap (λ x. b ∷ x) e)
cons_byte mode q b tail rest ne plain (open_string u e) = open_string (byte_unit ne plain u) e
cons_byte mode q b tail rest ne plain (open_in_escape body c u escapes e nil) = open_in_escape (b ∷ body) c (byte_unit ne plain u) escapes (ap (λ x. b ∷ x) e) nil

cons_escape : (mode : Bool) (q b c : ℕ) (tail rest : List ℕ) → is_escape mode b ≡ true →
    IsStringTail mode q tail rest → IsStringTail mode q (b ∷ c ∷ tail) rest
cons_escape mode q b c tail rest escapes (closed_string body u e) = closed_string (b ∷ c ∷ body) (escape_unit escapes u) (ap (λ x. b ∷ c ∷ x) e)
cons_escape mode q b c tail rest escapes (open_string u e) = open_string (escape_unit escapes u) e
cons_escape mode q b c tail rest escapes (open_in_escape body d u escapes' e nil) = open_in_escape (b ∷ c ∷ body) d (escape_unit escapes u) escapes' (ap (λ x. b ∷ c ∷ x) e) nil

pub string_gives : (mode : Bool) (q : ℕ) (text : List ℕ) →
    IsStringTail mode q (take (string_len mode q false text) text) (drop (string_len mode q false text) text)
string_gives mode q [] = open_string no_units refl
string_gives mode q (b ∷ []) =
    elim (cases_Bool (b == q)) [
      | inl h ↦ rw h (closed_string [] no_units (ap (λ x. x ∷ []) (sym (eqb-true b q h))))
      | inr h ↦ elim (cases_Bool (is_escape mode b)) [
        | inl s ↦ rw h (open_in_escape [] b no_units s refl refl)
        | inr s ↦ rw h (open_string (byte_unit (eqb-false b q h) s no_units) refl)
      ]
    ]
string_gives mode q (b ∷ c ∷ bs) =
    elim (cases_Bool (b == q)) [
      | inl h ↦ rw h (closed_string [] no_units (ap (λ x. x ∷ []) (sym (eqb-true b q h))))
      | inr h ↦ elim (cases_Bool (is_escape mode b)) [
        | inl s ↦ rw (h, s) (cons_escape mode q b c _ _ s (string_gives mode q bs))
        | inr s ↦ rw (h, s) (cons_byte mode q b _ _ (eqb-false b q h) s (string_gives mode q (c ∷ bs)))
      ]
    ]

-- ---- names

pub name_gives : (text : List ℕ) →
    IsNameFront (take (name_len text) text) (drop (name_len text) text)
name_gives [] = record { each = refl; ends = refl }
name_gives (b ∷ bs) =
    elim (cases_Bool (is_name_byte b)) [
      | inl h ↦ let r = name_gives bs in rw h (record { each = and_from _ _ h r.each; ends = r.ends })
      | inr h ↦ rw h (record { each = refl; ends = h })
    ]

-- ---- at a number of bytes that was counted

pub up_to_at : (word text : List ℕ) (n : ℕ) → 0 < length word → n ≡ len_up_to word text →
    IsUpTo word (take n text) (drop n text)
up_to_at word text n some e = subst (λ k. IsUpTo word (take k text) (drop k text)) (sym e) (up_to_gives word text (omega arith))

pub string_at : (mode : Bool) (q : ℕ) (text : List ℕ) (n : ℕ) → n ≡ string_len mode q false text →
    IsStringTail mode q (take n text) (drop n text)
string_at mode q text n e = subst (λ k. IsStringTail mode q (take k text) (drop k text)) (sym e) (string_gives mode q text)

name_at : (text : List ℕ) (n : ℕ) → n ≡ name_len text → IsNameFront (take n text) (drop n text)
name_at text n e = subst (λ k. IsNameFront (take k text) (drop k text)) (sym e) (name_gives text)

-- ---- one step of a count

-- a count that is 0 from here on is the index
counted : (i n k : ℕ) → i + n ≡ k → n ≡ 0 → i ≡ k
counted i n k e z = omega arith

name_stops : (text : List ℕ) (i : ℕ) → i < length text →
    is_name_byte (get_or text i 0) ≡ false → i + name_len (drop i text) ≡ name_len text →
    i ≡ name_len text
name_stops text i lt other inv = counted i _ _ inv (rw (drop_more text i 0 lt, other) refl)

name_ends : (text : List ℕ) (i : ℕ) → length text ≤ i →
    i + name_len (drop i text) ≡ name_len text → i ≡ name_len text
name_ends text i le inv = counted i _ _ inv (rw (drop_all i text le) refl)

name_goes_on : (text : List ℕ) (i : ℕ) → i < length text →
    is_name_byte (get_or text i 0) ≡ true → i + name_len (drop i text) ≡ name_len text →
    i + 1 + name_len (drop (i + 1) text) ≡ name_len text
name_goes_on text i lt name inv =
    let e : name_len (drop i text) ≡ suc (name_len (drop (i + 1) text)) = rw (drop_more text i 0 lt, name) refl in
    omega arith

name_run : (text : List ℕ) (i n : ℕ) → i + n ≤ length text → EachPasses is_name_byte text i (i + n) →
    i + name_len (drop i text) ≡ name_len text → i + n + name_len (drop (i + n) text) ≡ name_len text
name_run text i zero le each inv =
    let same : i ≡ i + 0 = omega arith in
    subst (λ k. k + name_len (drop k text) ≡ name_len text) same inv
name_run text i (suc n) le each inv =
    let step = name_goes_on text i (omega arith) (each i (omega arith) (omega arith)) inv in
    let same : i + 1 + n ≡ i + suc n = omega arith in
    subst (λ k. k + name_len (drop k text) ≡ name_len text) same (name_run text (i + 1) n (omega arith) (λ k low high. each k (omega arith) (omega arith)) step)

-- the end of the name bytes before this index, which is the end of the text or the index of another
pub name_to_end : (text : List ℕ) (i : ℕ) → i ≤ length text → EachPasses is_name_byte text 0 i →
    (i < length text → is_name_byte (get_or text i 0) ≡ false) → IsNameFront (take i text) (drop i text)
name_to_end text i le each stops =
    let same : 0 + i ≡ i = omega arith in
    let none : 0 + name_len (drop 0 text) ≡ name_len text = omega arith in
    let here : i + name_len (drop i text) ≡ name_len text =
    subst (λ k. k + name_len (drop k text) ≡ name_len text) same (name_run text 0 i (omega arith) (λ k low high. each k low (omega arith)) none) in
    elim (cases_lt i (length text)) [
      | inl less ↦ name_at text i (name_stops text i less (stops less) here)
      | inr past ↦ name_at text i (name_ends text i past here)
    ]

pub string_stops : (mode : Bool) (q : ℕ) (text : List ℕ) (i n : ℕ) → i < length text →
    get_or text i 0 ≡ q → i + string_len mode q false (drop i text) ≡ n → i + 1 ≡ n
string_stops mode q text i n lt same inv =
    let e : string_len mode q false (drop i text) ≡ 1 = rw (drop_more text i 0 lt, eq-eqb (get_or text i 0) q same) refl in
    omega arith

pub string_goes_on : (mode : Bool) (q : ℕ) (text : List ℕ) (i n : ℕ) → i < length text →
    get_or text i 0 ≢ q → i + string_len mode q false (drop i text) ≡ n →
    i + 1 + string_len mode q (is_escape mode (get_or text i 0)) (drop (i + 1) text) ≡ n
string_goes_on mode q text i n lt ne inv =
    let e : string_len mode q false (drop i text) ≡ suc (string_len mode q (is_escape mode (get_or text i 0)) (drop (i + 1) text)) = rw (drop_more text i 0 lt, ne_eqb (get_or text i 0) q ne) refl in
    omega arith

pub string_skips : (mode : Bool) (q : ℕ) (text : List ℕ) (i n : ℕ) → i < length text →
    i + string_len mode q true (drop i text) ≡ n →
    i + 1 + string_len mode q false (drop (i + 1) text) ≡ n
string_skips mode q text i n lt inv =
    let e : string_len mode q true (drop i text) ≡ suc (string_len mode q false (drop (i + 1) text)) = rw (drop_more text i 0 lt) refl in
    omega arith

pub string_ends : (mode : Bool) (q : ℕ) (escaped : Bool) (text : List ℕ) (i n : ℕ) →
    length text ≤ i → i ≤ length text → i + string_len mode q escaped (drop i text) ≡ n →
    length text ≡ n
string_ends mode q escaped text i n le ge inv =
    let e : string_len mode q escaped (drop i text) ≡ 0 = rw (drop_all i text le) refl in
    omega arith

-- &text[i..]
abbrev pub slice_from : ℕ → List ℕ → List ℕ
slice_from i text = take (length text - i) (drop i text)
