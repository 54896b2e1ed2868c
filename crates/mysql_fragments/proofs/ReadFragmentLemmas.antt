-- An identifier and an exact number read back as themselves, before any text that may follow a
-- place.
use Rattle.std.specs.Prelude.{Bool, codes, option_map, pos, neg_ℤ}
use Rattle.std.specs.Char.{is_ascii_digit}
use Rattle.std.specs.List.{list_all}
use Rattle.std.specs.Str.{byte}
use Rattle.std.specs.Str.Parse.{digits_value}
use Rattle.std.proofs.Common.{◌≡◌, ◌+◌, ◌-◌, ◌*◌, ◌++◌, ◌==◌, ℕ, true, false, List, [], ◌∷◌, length, map, Some, inl, inr, refl, sym, ap, ◌∙◌, subst, append_assoc, append-nil, true≢false, arith}
use Rattle.std.proofs.lemmas.Bool.{and_parts, and_from, cases_Bool, cond-true, eqb-true}
use Rattle.std.proofs.lemmas.Bool.Decides.{nat_tests}
use Rattle.mysql_sql_text.specs.LiteralEnd.{BeginsWithout}
use Rattle.mysql_sql_text.specs.LiteralShape.{AreDigits}
use Rattle.mysql_sql_text.specs.ReadLiteral.{read_natural}
use Rattle.mysql_named_params.specs.Bytes.{backquote, dash, point}
use Rattle.mysql_binding.specs.StandsAlone.{may_stand_after, none_or_first}
use Rattle.mysql_fragments.specs.FragmentFaults.{is_decimal}
use Rattle.mysql_fragments.specs.FragmentText.{doubled, identifier_text, joined}
use Rattle.mysql_fragments.proofs.ShapeLemmas.{IsNumber, whole_number, with_point, number_parts}
use Rattle.mysql_fragments.specs.ReadFragment.{is_backquote, is_point, with_byte, read_name, read_identifier, AreReadAsNames, read_last, read_more, ReadsAsOne, read_fraction, read_after_whole, read_unsigned, read_exact}
use Rattle.mysql_sql_text.proofs.DigitLemmas.{digits_all}
use Rattle.mysql_sql_text.proofs.ReadNaturalLemmas.{numeral_model, value_after, read_digits-append}

-- ---- texts that may follow a place

may_follow : (test : ℕ → Bool) → ((b : ℕ) → may_stand_after b ≡ true → test b ≡ false) → (rest : List ℕ) →
    none_or_first may_stand_after rest ≡ true → BeginsWithout test rest
may_follow test f [] h = tt
may_follow test f (b ∷ rest) h = f b h

apart_from : (x : ℕ) → may_stand_after x ≡ false → (b : ℕ) → may_stand_after b ≡ true → (b == x) ≡ false
apart_from x refused b h =
    elim (cases_Bool (b == x)) [
      | inl e ↦ absurd (true≢false (sym h ∙ (ap may_stand_after (eqb-true b x e) ∙ refused)))
      | inr e ↦ e
    ]

pub no_backquote : (rest : List ℕ) → none_or_first may_stand_after rest ≡ true → BeginsWithout is_backquote rest
no_backquote = may_follow is_backquote (apart_from backquote refl)

no_point : (rest : List ℕ) → none_or_first may_stand_after rest ≡ true → BeginsWithout is_point rest
no_point = may_follow is_point (apart_from point refl)

digit_may_not : (b : ℕ) → may_stand_after b ≡ true → is_ascii_digit b ≡ false
digit_may_not b h = grind (arith, nat_tests)

pub no_digit : (rest : List ℕ) → none_or_first may_stand_after rest ≡ true → BeginsWithout is_ascii_digit rest
no_digit = may_follow is_ascii_digit digit_may_not

-- ---- identifiers

read_doubled : (a : ℕ) (text : List ℕ) → is_backquote a ≡ true → read_name (a ∷ a ∷ text) ≡ with_byte a (read_name text)
read_doubled a text e = rw e refl

read_other : (a : ℕ) (text : List ℕ) → is_backquote a ≡ false → read_name (a ∷ text) ≡ with_byte a (read_name text)
read_other a [] e = rw e refl
read_other a (b ∷ text) e = rw e refl

name_read : (name rest : List ℕ) → BeginsWithout is_backquote rest → read_name (doubled name ++ backquote ∷ rest) ≡ Some (name, rest)
name_read [] [] h = refl
name_read [] (c ∷ rest) h = rw h refl
name_read (b ∷ name) rest h =
    elim (cases_Bool (b == backquote)) [
      | inl e ↦ rw e (read_doubled b (doubled name ++ backquote ∷ rest) e ∙ ap (with_byte b) (name_read name rest h))
      | inr e ↦ rw e (read_other b (doubled name ++ backquote ∷ rest) e ∙ ap (with_byte b) (name_read name rest h))
    ]

pub identifier_read : (name rest : List ℕ) → BeginsWithout is_backquote rest → read_identifier (identifier_text name ++ rest) ≡ Some (name, rest)
identifier_read name rest h = ap read_name (append_assoc (doubled name) (backquote ∷ []) rest) ∙ name_read name rest h

pub names_read : (name : List ℕ) (names : List (List ℕ)) (rest : List ℕ) → none_or_first may_stand_after rest ≡ true →
    AreReadAsNames (joined (codes ".") (map identifier_text (name ∷ names)) ++ rest) (name ∷ names) rest
names_read name [] rest h =
    subst (λ z. AreReadAsNames (z ++ rest) (name ∷ []) rest) (sym (append-nil (identifier_text name)))
    (read_last (identifier_text name ++ rest) name rest (identifier_read name rest (no_backquote rest h)) (no_point rest h))
names_read name (next ∷ names) rest h =
    let more : List ℕ = joined (codes ".") (map identifier_text (next ∷ names)) in
    subst (λ z. AreReadAsNames z (name ∷ next ∷ names) rest) (sym (append_assoc (identifier_text name) (codes "." ++ more) rest))
    (read_more (identifier_text name ++ (codes "." ++ (more ++ rest))) name (more ++ rest) (next ∷ names) rest
    (identifier_read name (codes "." ++ (more ++ rest)) refl) (names_read next names rest h))

-- ---- exact numbers

value_is : (ds : List ℕ) → list_all is_ascii_digit ds ≡ true → value_after 0 ds ≡ digits_value 10 ds
value_is ds h = numeral_model.same ds (numeral_model.to ds h)

value_after-append : (n : ℕ) (ds es : List ℕ) → value_after n (ds ++ es) ≡ value_after (value_after n ds) es
unfolding value_after
value_after-append n [] es = refl
value_after-append n (d ∷ ds) es = value_after-append (10 * n + (d - byte "0")) ds es

fraction_read : (n count : ℕ) (ds rest : List ℕ) → list_all is_ascii_digit ds ≡ true → BeginsWithout is_ascii_digit rest →
    read_fraction n count (ds ++ rest) ≡ ((value_after n ds, count + length ds), rest)
unfolding value_after
fraction_read n count [] [] d h = ap (λ k. ((n, k), [])) (omega arith)
fraction_read n count [] (b ∷ rest) d h = rw h (ap (λ k. ((n, k), b ∷ rest)) (omega arith))
fraction_read n count (c ∷ ds) rest d h =
    let p = and_parts (is_ascii_digit c) (list_all is_ascii_digit ds) d in
    rw p.0 (fraction_read (10 * n + (c - byte "0")) (count + 1) ds rest p.1 h ∙ ap (λ k. ((value_after (10 * n + (c - byte "0")) ds, k), rest)) (omega arith))

natural_read : (ds rest : List ℕ) → AreDigits ds → BeginsWithout is_ascii_digit rest → read_natural (ds ++ rest) ≡ Some (value_after 0 ds, rest)
natural_read [] rest d h = absurd d
natural_read (c ∷ ds) rest d h = cond-true (is_ascii_digit c) _ _ d.0 ∙ ap Some (read_digits-append 0 (c ∷ ds) rest (digits_all (c ∷ ds) d) h)

after_whole : (n : ℕ) (rest : List ℕ) → BeginsWithout is_point rest → read_after_whole n rest ≡ ((n, 0), rest)
after_whole n [] h = refl
after_whole n (b ∷ rest) h = rw h refl

-- digits, and a point with digits after it, before a text that may follow a place
whole_read : (ds rest : List ℕ) → AreDigits ds → none_or_first may_stand_after rest ≡ true →
    read_unsigned (ds ++ rest) ≡ Some ((digits_value 10 ds, 0), rest)
whole_read ds rest d h =
    ap (option_map (λ r. read_after_whole r.0 r.1)) (natural_read ds rest d (no_digit rest h))
    ∙ (ap Some (after_whole (value_after 0 ds) rest (no_point rest h)) ∙ ap (λ n. Some ((n, 0), rest)) (value_is ds (digits_all ds d)))

all_both : (xs ys : List ℕ) → list_all is_ascii_digit xs ≡ true → list_all is_ascii_digit ys ≡ true → list_all is_ascii_digit (xs ++ ys) ≡ true
all_both [] ys p q = q
all_both (x ∷ xs) ys p q = let r = and_parts (is_ascii_digit x) (list_all is_ascii_digit xs) p in and_from _ _ r.0 (all_both xs ys r.1 q)

parts_read : (whole fraction rest : List ℕ) → AreDigits whole → AreDigits fraction → none_or_first may_stand_after rest ≡ true →
    read_unsigned (whole ++ (point ∷ (fraction ++ rest))) ≡ Some ((digits_value 10 (whole ++ fraction), length fraction), rest)
parts_read whole fraction rest w f h =
    let both : list_all is_ascii_digit (whole ++ fraction) ≡ true = all_both whole fraction (digits_all whole w) (digits_all fraction f) in
    ap (option_map (λ r. read_after_whole r.0 r.1)) (natural_read whole (point ∷ (fraction ++ rest)) w refl)
    ∙ (ap Some (fraction_read (value_after 0 whole) 0 fraction rest (digits_all fraction f) (no_digit rest h))
    ∙ (ap (λ k. Some ((value_after (value_after 0 whole) fraction, k), rest)) (omega arith)
    ∙ ap (λ n. Some ((n, length fraction), rest)) (sym (value_after-append 0 whole fraction) ∙ value_is (whole ++ fraction) both)))

-- a sign, or none
no_dash : (b : ℕ) → is_ascii_digit b ≡ true → (b == byte "-") ≡ false
no_dash b d = grind (arith, nat_tests)

digit_first : (b : ℕ) (text : List ℕ) → is_ascii_digit b ≡ true → (v : (ℕ × ℕ) × List ℕ) → read_unsigned (b ∷ text) ≡ Some v →
    read_exact (b ∷ text) ≡ Some ((pos v.0.0, v.0.1), v.1)
digit_first b text d v e = rw (no_dash b d) (ap (option_map (λ r. ((pos r.0.0, r.0.1), r.1))) e)

pub natural_back : (ds rest : List ℕ) → AreDigits ds → none_or_first may_stand_after rest ≡ true →
    read_exact (ds ++ rest) ≡ Some ((pos (digits_value 10 ds), 0), rest)
natural_back [] rest d h = absurd d
natural_back (b ∷ ds) rest d h = digit_first b (ds ++ rest) d.0 _ (whole_read (b ∷ ds) rest d h)

pub negative_back : (ds rest : List ℕ) → AreDigits ds → none_or_first may_stand_after rest ≡ true →
    read_exact ((codes "-" ++ ds) ++ rest) ≡ Some ((neg_ℤ (pos (digits_value 10 ds)), 0), rest)
negative_back ds rest d h = ap (option_map (λ r. ((neg_ℤ (pos r.0.0), r.0.1), r.1))) (whole_read ds rest d h)

pub fraction_back : (whole fraction rest : List ℕ) → AreDigits whole → AreDigits fraction → none_or_first may_stand_after rest ≡ true →
    read_exact ((whole ++ (codes "." ++ fraction)) ++ rest) ≡ Some ((pos (digits_value 10 (whole ++ fraction)), length fraction), rest)
fraction_back [] fraction rest w f h = absurd w
fraction_back (b ∷ whole) fraction rest w f h =
    ap read_exact (append_assoc (b ∷ whole) (codes "." ++ fraction) rest)
    ∙ digit_first b (whole ++ (point ∷ (fraction ++ rest))) w.0 _ (parts_read (b ∷ whole) fraction rest w f h)

pub negative_fraction_back : (whole fraction rest : List ℕ) → AreDigits whole → AreDigits fraction → none_or_first may_stand_after rest ≡ true →
    read_exact ((codes "-" ++ (whole ++ (codes "." ++ fraction))) ++ rest) ≡ Some ((neg_ℤ (pos (digits_value 10 (whole ++ fraction))), length fraction), rest)
negative_fraction_back whole fraction rest w f h =
    ap (λ z. read_exact (dash ∷ z)) (append_assoc whole (codes "." ++ fraction) rest)
    ∙ ap (option_map (λ r. ((neg_ℤ (pos r.0.0), r.0.1), r.1))) (parts_read whole fraction rest w f h)

-- every exact number
number_back : (bytes : List ℕ) → IsNumber bytes → ReadsAsOne bytes
number_back _ (whole_number ds d) = ((pos (digits_value 10 ds), 0), λ rest h. natural_back ds rest d h)
number_back _ (with_point whole fraction w f) = ((pos (digits_value 10 (whole ++ fraction)), length fraction), λ rest h. fraction_back whole fraction rest w f h)

negative_number_back : (bytes : List ℕ) → IsNumber bytes → ReadsAsOne (dash ∷ bytes)
negative_number_back _ (whole_number ds d) = ((neg_ℤ (pos (digits_value 10 ds)), 0), λ rest h. negative_back ds rest d h)
negative_number_back _ (with_point whole fraction w f) = ((neg_ℤ (pos (digits_value 10 (whole ++ fraction))), length fraction), λ rest h. negative_fraction_back whole fraction rest w f h)

pub decimal_back : (text : List ℕ) → is_decimal text ≡ true → ReadsAsOne text
decimal_back [] h = absurd (true≢false (sym h))
decimal_back (b ∷ bytes) h =
    elim (cases_Bool (b == dash)) [
      | inl e ↦
          subst (λ x. ReadsAsOne (x ∷ bytes)) (sym (eqb-true b dash e))
          (negative_number_back bytes (number_parts [] bytes false refl (λ t. absurd (true≢false (sym t))) (rw e at h)))
      | inr e ↦ number_back (b ∷ bytes) (number_parts [] (b ∷ bytes) false refl (λ t. absurd (true≢false (sym t))) (rw e at h))
    ]
