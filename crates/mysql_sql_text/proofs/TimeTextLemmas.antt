-- Exactly the time texts are read, each with the values of its parts.
use Rattle.std.proofs.Common.{◌≡◌, ℕ, ◌*◌, ◌-◌, ◌<◌, ◌≤◌, ◌^◌, Bool, true, false, List, [], ◌∷◌, ◌++◌, length, Some, None, arith, refl, ◌∙◌, sym, ap, subst, inl, inr, nat_le, eqb}
use Rattle.std.specs.Prelude.{IfNone, IfSome, Option, ◌↔◌}
use Rattle.std.specs.Option.{option_map, option_or}
use Rattle.std.specs.List.{list_all}
use Rattle.std.specs.Char.{is_ascii_digit}
use Rattle.std.proofs.lemmas.Bool.{cases_Bool, and_parts, eqb-true, leb-true, le-leb}
use Rattle.std.proofs.lemmas.Bool.Decides.{nat_tests}
use Rattle.std.proofs.lemmas.Option.{same_Some}
use Rattle.mysql_sql_text.specs.Digits.{value_of_digits}
use Rattle.mysql_sql_text.specs.TimeText.{total_microseconds, IsField, AreHours, IsFraction, no_fraction, some_fraction, sign, IsTimeText}
use Rattle.mysql_sql_text.specs.ReadTimeText.{at_most, fraction_microseconds, fraction_of, sum_of_fields, time_after_hours, time_of_two_digits, time_of_three_digits, unsigned_time, time_of_text}
use Rattle.mysql_sql_text.proofs.ValueOfDigitsLemmas.{value_of_digits-found, value_of_digits-below}
use Rattle.mysql_sql_text.proofs.ByteNames.{colon, minus, point}

-- a text that has the parts of a time text is read

field_reads : (width greatest : ℕ) (digits : List ℕ) (n : ℕ) → IsField width greatest digits n
    → at_most greatest (value_of_digits digits) ≡ Some n
field_reads width greatest digits n is = rw (is.value, le-leb n greatest is.bound) refl

fraction_reads : (text : List ℕ) (part : ℕ) → IsFraction text part → fraction_of text ≡ Some part
fraction_reads text part (no_fraction empty zero) = rw (empty, zero) refl
fraction_reads text part (some_fraction digits n is few value scale) =
    ap fraction_of (sym is) ∙ rw (le-leb (length digits) 6 few, value) (ap Some (sym scale))

after_hours_reads : (hours : ℕ) (minutes seconds fraction : List ℕ) (m s part : ℕ)
    → length minutes ≡ 2 → length seconds ≡ 2
    → at_most 59 (value_of_digits minutes) ≡ Some m → at_most 59 (value_of_digits seconds) ≡ Some s
    → fraction_of fraction ≡ Some part
    → time_after_hours (Some hours) (minutes ++ colon ∷ (seconds ++ fraction)) ≡ Some (total_microseconds 0 hours m s part)
after_hours_reads h (a ∷ b ∷ []) (c ∷ d ∷ []) fraction m s part two two' me se fe = rw (me, se, fe) refl
after_hours_reads h (a ∷ b ∷ []) [] fraction m s part two two' me se fe = absurd (omega arith)
after_hours_reads h (a ∷ b ∷ []) (c ∷ []) fraction m s part two two' me se fe = absurd (omega arith)
after_hours_reads h (a ∷ b ∷ []) (c ∷ d ∷ e ∷ ds) fraction m s part two two' me se fe = absurd (omega arith)
after_hours_reads h [] seconds fraction m s part two two' me se fe = absurd (omega arith)
after_hours_reads h (a ∷ []) seconds fraction m s part two two' me se fe = absurd (omega arith)
after_hours_reads h (a ∷ b ∷ c ∷ ds) seconds fraction m s part two two' me se fe = absurd (omega arith)

pub no_colon : (c : ℕ) → is_ascii_digit c ≡ true → eqb c colon ≡ false
no_colon c h = grind (arith, nat_tests)

pub no_minus : (c : ℕ) → is_ascii_digit c ≡ true → eqb c minus ≡ false
no_minus c h = grind (arith, nat_tests)

first_digit : (a : ℕ) (ds : List ℕ) → list_all is_ascii_digit (a ∷ ds) ≡ true → is_ascii_digit a ≡ true
first_digit a ds h = (and_parts (is_ascii_digit a) (list_all is_ascii_digit ds) h).0

later_digits : (a : ℕ) (ds : List ℕ) → list_all is_ascii_digit (a ∷ ds) ≡ true → list_all is_ascii_digit ds ≡ true
later_digits a ds h = (and_parts (is_ascii_digit a) (list_all is_ascii_digit ds) h).1

two_digits_read : (digits rest : List ℕ) (hours us : ℕ) → IsField 2 99 digits hours
    → time_after_hours (Some hours) rest ≡ Some us → unsigned_time (digits ++ colon ∷ rest) ≡ Some us
two_digits_read [] rest hours us is e = absurd (omega (arith, is.count))
two_digits_read (a ∷ []) rest hours us is e = absurd (omega (arith, is.count))
two_digits_read (a ∷ b ∷ []) rest hours us is e = rw (is.value, e) refl
two_digits_read (a ∷ b ∷ c ∷ ds) rest hours us is e = absurd (omega (arith, is.count))

three_digits_read : (digits rest : List ℕ) (hours us : ℕ) → IsField 3 899 digits hours
    → time_after_hours (Some hours) rest ≡ Some us → unsigned_time (digits ++ colon ∷ rest) ≡ Some us
three_digits_read [] rest hours us is e = absurd (omega (arith, is.count))
three_digits_read (a ∷ []) rest hours us is e = absurd (omega (arith, is.count))
three_digits_read (a ∷ b ∷ []) rest hours us is e = absurd (omega (arith, is.count))
three_digits_read (a ∷ b ∷ c ∷ []) rest hours us is e =
    let each = (value_of_digits-found (a ∷ b ∷ c ∷ []) hours is.value).1 in
    let digit : is_ascii_digit c ≡ true = first_digit c [] (later_digits b (c ∷ []) (later_digits a (b ∷ c ∷ []) each)) in
    rw (no_colon c digit, field_reads 3 899 (a ∷ b ∷ c ∷ []) hours is, e) refl
three_digits_read (a ∷ b ∷ c ∷ d ∷ ds) rest hours us is e = absurd (omega (arith, is.count))

hours_read : (digits rest : List ℕ) (hours us : ℕ) → AreHours digits hours
    → time_after_hours (Some hours) rest ≡ Some us → unsigned_time (digits ++ colon ∷ rest) ≡ Some us
hours_read digits rest hours us (inl is) e = two_digits_read digits rest hours us is e
hours_read digits rest hours us (inr is) e = three_digits_read digits rest hours us is e

hours_are_digits : (digits : List ℕ) (hours : ℕ) → AreHours digits hours
    → (0 < length digits) × (list_all is_ascii_digit digits ≡ true)
hours_are_digits digits hours (inl is) = (omega (arith, is.count), (value_of_digits-found digits hours is.value).1)
hours_are_digits digits hours (inr is) = (omega (arith, is.count), (value_of_digits-found digits hours is.value).1)

sign_reads : (negative : Bool) (digits rest : List ℕ) (us : ℕ) → 0 < length digits
    → list_all is_ascii_digit digits ≡ true → unsigned_time (digits ++ rest) ≡ Some us
    → time_of_text (sign negative ++ (digits ++ rest)) ≡ Some (negative, us)
sign_reads true digits rest us nonempty each e = rw e refl
sign_reads false [] rest us nonempty each e = absurd (omega arith)
sign_reads false (a ∷ digits) rest us nonempty each e =
    rw (no_minus a (first_digit a digits each)) (ap (option_map (λ us. (false, us))) e)

time_text_reads : (text : List ℕ) (negative : Bool) (us : ℕ) → IsTimeText text negative us
    → time_of_text text ≡ Some (negative, us)
time_text_reads text negative us is =
    let after : time_after_hours (Some is.hours) (is.minute_digits ++ colon ∷ (is.second_digits ++ is.fraction)) ≡ Some us =
    after_hours_reads is.hours is.minute_digits is.second_digits is.fraction is.minutes is.seconds is.fraction_microseconds
    is.are_minutes.count is.are_seconds.count (field_reads 2 59 is.minute_digits is.minutes is.are_minutes)
    (field_reads 2 59 is.second_digits is.seconds is.are_seconds) (fraction_reads is.fraction is.fraction_microseconds is.is_fraction)
    ∙ ap Some (sym is.sum) in
    let digits = hours_are_digits is.hour_digits is.hours is.are_hours in
    ap time_of_text is.parts
    ∙ sign_reads negative is.hour_digits (colon ∷ (is.minute_digits ++ colon ∷ (is.second_digits ++ is.fraction))) us digits.0 digits.1
    (hours_read is.hour_digits (is.minute_digits ++ colon ∷ (is.second_digits ++ is.fraction)) is.hours us is.are_hours after)

-- a text that is read has the parts

at_most_found : (greatest : ℕ) (number : Option ℕ) (n : ℕ) → at_most greatest number ≡ Some n
    → (number ≡ Some n) × (n ≤ greatest)
at_most_found greatest None n e = absurd cc
at_most_found greatest (Some k) n e =
    elim (cases_Bool (nat_le k greatest)) [
      | inl h ↦ let v : Some k ≡ Some n = rw h at e in (v, omega (arith, same_Some _ _ v, leb-true k greatest h))
      | inr h ↦ let v : None ≡ Some n = rw h at e in absurd cc
    ]

field_found : (width greatest : ℕ) (digits : List ℕ) (n : ℕ) → length digits ≡ width
    → at_most greatest (value_of_digits digits) ≡ Some n → IsField width greatest digits n
field_found width greatest digits n count e =
    let found = at_most_found greatest (value_of_digits digits) n e in
    record { count = count; value = found.0; bound = found.1 }

map_found : {X Y : Type 0} (f : X → Y) (o : Option X) (y : Y) → option_map f o ≡ Some y
    → (x : X) × (o ≡ Some x) × (f x ≡ y)
map_found f None y e = absurd cc
map_found f (Some x) y e = (x, refl, same_Some _ _ e)

fraction_microseconds_found : (b : ℕ) (digits : List ℕ) (us : ℕ) → b ≡ point → fraction_microseconds digits ≡ Some us
    → IsFraction (b ∷ digits) us
fraction_microseconds_found b digits us is e =
    elim (cases_Bool (nat_le (length digits) 6)) [
      | inl h ↦
          let v : option_map (λ n. n * 10 ^ (6 - length digits)) (value_of_digits digits) ≡ Some us = rw h at e in
          let found = map_found (λ n. n * 10 ^ (6 - length digits)) (value_of_digits digits) us v in
          some_fraction digits found.0 (ap (λ x. x ∷ digits) (sym is)) (leb-true (length digits) 6 h) found.1 (sym found.2)
      | inr h ↦ let v : None ≡ Some us = rw h at e in absurd cc
    ]

fraction_found : (text : List ℕ) (us : ℕ) → fraction_of text ≡ Some us → IsFraction text us
fraction_found [] us e = no_fraction refl (sym (same_Some _ _ e))
fraction_found (c ∷ ds) us e =
    elim (cases_Bool (eqb c point)) [
      | inl h ↦ fraction_microseconds_found c ds us (eqb-true c point h) (rw h at e)
      | inr h ↦ let v : None ≡ Some us = rw h at e in absurd cc
    ]

-- the fields of a time that is there
record HasFields (hours minutes seconds part : Option ℕ) (us : ℕ) : Type 0 where
  h : ℕ
  m : ℕ
  s : ℕ
  f : ℕ
  hours_are : hours ≡ Some h
  minutes_are : minutes ≡ Some m
  seconds_are : seconds ≡ Some s
  part_is : part ≡ Some f
  sum : us ≡ total_microseconds 0 h m s f

fields_found : (hours minutes seconds part : Option ℕ) (us : ℕ) → sum_of_fields hours minutes seconds part ≡ Some us
    → HasFields hours minutes seconds part us
fields_found None minutes seconds part us e = absurd cc
fields_found (Some h) None seconds part us e = absurd cc
fields_found (Some h) (Some m) None part us e = absurd cc
fields_found (Some h) (Some m) (Some s) None us e = absurd cc
fields_found (Some h) (Some m) (Some s) (Some f) us e = record {
  h = h;
  m = m;
  s = s;
  f = f;
  hours_are = refl;
  minutes_are = refl;
  seconds_are = refl;
  part_is = refl;
  sum = sym (same_Some _ _ e);
}

-- the parts of the text after the colon of hours that are there
record HasRest (hours : Option ℕ) (text : List ℕ) (us : ℕ) : Type 0 where
  minute_digits : List ℕ
  second_digits : List ℕ
  fraction : List ℕ
  h : ℕ
  m : ℕ
  s : ℕ
  f : ℕ
  hours_are : hours ≡ Some h
  parts : text ≡ minute_digits ++ colon ∷ (second_digits ++ fraction)
  are_minutes : IsField 2 59 minute_digits m
  are_seconds : IsField 2 59 second_digits s
  is_fraction : IsFraction fraction f
  sum : us ≡ total_microseconds 0 h m s f

rest_found : (hours : Option ℕ) (text : List ℕ) (us : ℕ) → time_after_hours hours text ≡ Some us → HasRest hours text us
rest_found hours [] us q = absurd cc
rest_found hours (a ∷ []) us q = absurd cc
rest_found hours (a ∷ b ∷ []) us q = absurd cc
rest_found hours (a ∷ b ∷ c ∷ []) us q = absurd cc
rest_found hours (a ∷ b ∷ c ∷ d ∷ []) us q = absurd cc
rest_found hours (a ∷ b ∷ c ∷ d ∷ e ∷ text) us q =
    elim (cases_Bool (eqb c colon)) [
      | inl h ↦
          let r = fields_found hours (at_most 59 (value_of_digits (a ∷ b ∷ []))) (at_most 59 (value_of_digits (d ∷ e ∷ []))) (fraction_of text) us (rw h at q) in
          record {
            minute_digits = a ∷ b ∷ [];
            second_digits = d ∷ e ∷ [];
            fraction = text;
            h = r.h;
            m = r.m;
            s = r.s;
            f = r.f;
            hours_are = r.hours_are;
            parts = ap (λ x. a ∷ b ∷ x ∷ d ∷ e ∷ text) (eqb-true c colon h);
            are_minutes = field_found 2 59 (a ∷ b ∷ []) r.m refl r.minutes_are;
            are_seconds = field_found 2 59 (d ∷ e ∷ []) r.s refl r.seconds_are;
            is_fraction = fraction_found text r.f r.part_is;
            sum = r.sum;
          }
      | inr h ↦ let v : None ≡ Some us = rw h at q in absurd cc
    ]

-- the hours and the text after their colon
IsTimeText-hours : (hours : Option ℕ) (digits rest : List ℕ) (us : ℕ) → (r : HasRest hours rest us)
    → AreHours digits r.h → IsTimeText (digits ++ colon ∷ rest) false us
IsTimeText-hours hours digits rest us r is = record {
  hour_digits = digits;
  minute_digits = r.minute_digits;
  second_digits = r.second_digits;
  fraction = r.fraction;
  hours = r.h;
  minutes = r.m;
  seconds = r.s;
  fraction_microseconds = r.f;
  parts = ap (λ t. digits ++ colon ∷ t) r.parts;
  are_hours = is;
  are_minutes = r.are_minutes;
  are_seconds = r.are_seconds;
  is_fraction = r.is_fraction;
  sum = r.sum;
}

two_digit_field : (a b n : ℕ) → value_of_digits (a ∷ b ∷ []) ≡ Some n → IsField 2 99 (a ∷ b ∷ []) n
two_digit_field a b n e =
    let small : n < 10 ^ 2 = value_of_digits-below (a ∷ b ∷ []) n 2 e (omega arith) in
    record { count = refl; value = e; bound = omega (arith, small) }

two_digits_found : (text : List ℕ) (us : ℕ) → time_of_two_digits text ≡ Some us → IsTimeText text false us
two_digits_found [] us e = absurd cc
two_digits_found (a ∷ []) us e = absurd cc
two_digits_found (a ∷ b ∷ []) us e = absurd cc
two_digits_found (a ∷ b ∷ c ∷ text) us e =
    elim (cases_Bool (eqb c colon)) [
      | inl h ↦
          let r = rest_found (value_of_digits (a ∷ b ∷ [])) text us (rw h at e) in
          subst (λ x. IsTimeText (a ∷ b ∷ x ∷ text) false us) (sym (eqb-true c colon h))
          (IsTimeText-hours (value_of_digits (a ∷ b ∷ [])) (a ∷ b ∷ []) text us r (inl (two_digit_field a b r.h r.hours_are)))
      | inr h ↦ let v : None ≡ Some us = rw h at e in absurd cc
    ]

three_digits_found : (text : List ℕ) (us : ℕ) → time_of_three_digits text ≡ Some us → IsTimeText text false us
three_digits_found [] us e = absurd cc
three_digits_found (a ∷ []) us e = absurd cc
three_digits_found (a ∷ b ∷ []) us e = absurd cc
three_digits_found (a ∷ b ∷ c ∷ []) us e = absurd cc
three_digits_found (a ∷ b ∷ c ∷ d ∷ text) us e =
    elim (cases_Bool (eqb d colon)) [
      | inl h ↦
          let hours = at_most 899 (value_of_digits (a ∷ b ∷ c ∷ [])) in
          let r = rest_found (at_most 899 (value_of_digits (a ∷ b ∷ c ∷ []))) text us (rw h at e) in
          subst (λ x. IsTimeText (a ∷ b ∷ c ∷ x ∷ text) false us) (sym (eqb-true d colon h))
          (IsTimeText-hours (at_most 899 (value_of_digits (a ∷ b ∷ c ∷ []))) (a ∷ b ∷ c ∷ []) text us r
          (inr (field_found 3 899 (a ∷ b ∷ c ∷ []) r.h refl r.hours_are)))
      | inr h ↦ let v : None ≡ Some us = rw h at e in absurd cc
    ]

either_found : (text : List ℕ) (us : ℕ) (one other : Option ℕ) → (one ≡ Some us → IsTimeText text false us)
    → (other ≡ Some us → IsTimeText text false us) → option_or one other ≡ Some us → IsTimeText text false us
either_found text us None other f g e = g e
either_found text us (Some n) other f g e = f e

unsigned_found : (text : List ℕ) (us : ℕ) → unsigned_time text ≡ Some us → IsTimeText text false us
unsigned_found text us e =
    either_found text us (time_of_two_digits text) (time_of_three_digits text) (two_digits_found text us) (three_digits_found text us) e

IsTimeText-minus : (text : List ℕ) (us : ℕ) → IsTimeText text false us → IsTimeText (minus ∷ text) true us
IsTimeText-minus text us r = record {
  hour_digits = r.hour_digits;
  minute_digits = r.minute_digits;
  second_digits = r.second_digits;
  fraction = r.fraction;
  hours = r.hours;
  minutes = r.minutes;
  seconds = r.seconds;
  fraction_microseconds = r.fraction_microseconds;
  parts = ap (λ t. minus ∷ t) r.parts;
  are_hours = r.are_hours;
  are_minutes = r.are_minutes;
  are_seconds = r.are_seconds;
  is_fraction = r.is_fraction;
  sum = r.sum;
}

time_text_found : (text : List ℕ) (negative : Bool) (us : ℕ) → time_of_text text ≡ Some (negative, us)
    → IsTimeText text negative us
time_text_found [] negative us e = absurd cc
time_text_found (c ∷ text) negative us e =
    elim (cases_Bool (eqb c minus)) [
      | inl h ↦
          let r = map_found (λ n. (true, n)) (unsigned_time text) (negative, us) (rw h at e) in
          subst (λ x. IsTimeText (x ∷ text) negative us) (sym (eqb-true c minus h))
          (subst (λ p. IsTimeText (minus ∷ text) p.0 p.1) r.2 (IsTimeText-minus text r.0 (unsigned_found text r.0 r.1)))
      | inr h ↦
          let r = map_found (λ n. (false, n)) (unsigned_time (c ∷ text)) (negative, us) (rw h at e) in
          subst (λ p. IsTimeText (c ∷ text) p.0 p.1) r.2 (unsigned_found (c ∷ text) r.0 r.1)
    ]

pub time_texts_are_read : (text : List ℕ) (negative : Bool) (us : ℕ)
    → (time_of_text text ≡ Some (negative, us)) ↔ IsTimeText text negative us
time_texts_are_read text negative us = (time_text_found text negative us, time_text_reads text negative us)

-- the result of a reader that returns the value of the function

pub read-IsTimeText : (text : List ℕ) (result : Option (Bool × ℕ)) → result ≡ time_of_text text
    → IfSome result (λ time. IsTimeText text time.0 time.1)
read-IsTimeText text None e = tt
read-IsTimeText text (Some (negative, us)) e = time_text_found text negative us (sym e)

pub unread-IsTimeText : (text : List ℕ) (result : Option (Bool × ℕ)) → result ≡ time_of_text text
    → IfNone result ((negative : Bool) (us : ℕ) → IsTimeText text negative us → ⊥)
unread-IsTimeText text None e =
    λ negative us is. (let v : ◌≡◌ {A = Option (Bool × ℕ)} None (Some (negative, us)) = e ∙ time_text_reads text negative us is in cc)
unread-IsTimeText text (Some time) e = tt
