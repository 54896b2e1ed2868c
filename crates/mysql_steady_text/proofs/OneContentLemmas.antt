-- A text and the rest that is left of it determine what is read between them.
use Rattle.std.specs.Prelude.{nat_le, ◌<◌, ◌≤◌, codes, Option, option_map, option_and_then}
use Rattle.std.proofs.Common.{◌≡◌, ◌&&◌, eqb, ℕ, Bool, zero, suc, List, [], ◌∷◌, length, sym, ap, ◌∙◌, subst, arith, Some, None}
use Rattle.std.proofs.lemmas.Bool.{cond_both, eqb-true}
use Rattle.mysql_sql_text.specs.ReadLiteral.{Content, byte_string, begins_pair, prefix_read, unescaped}
use Rattle.mysql_sql_text.proofs.ByteNames.{single_quote}
use Rattle.mysql_named_params.specs.Bytes.{space}
use Rattle.mysql_portable.specs.CharacterSet.{CharacterSet}
use Rattle.mysql_steady_text.specs.ReadGuarded.{read_units_in, read_string_in, read_in, AreStringsIn, one_string, more_strings, IsReadIn, read_as_one, read_as_strings}

-- ---- what is read is shorter than the text

none_some : {A : Type 0} {x : A} → None ≡ Some x → ⊥
none_some e = cc

some_same : {A : Type 0} {x y : A} → Some x ≡ Some y → x ≡ y
some_same e = cc

second : {p q : List ℕ × List ℕ} → Some p ≡ Some q → p.1 ≡ q.1
second e = ap (λ p. p.1) (some_same e)

first : {p q : List ℕ × List ℕ} → Some p ≡ Some q → p.0 ≡ q.0
first e = ap (λ p. p.0) (some_same e)

after_prefix : (front : List ℕ) (read : Option (List ℕ × List ℕ)) (bytes rest : List ℕ) (n m : ℕ) → n ≤ m →
    ((inner : List ℕ) → read ≡ Some (inner, rest) → length rest < n) → prefix_read front read ≡ Some (bytes, rest) → length rest < m
after_prefix front None bytes rest n m h more e = absurd (none_some e)
after_prefix front (Some (inner, left)) bytes rest n m h more e =
    let k : length rest < n = more inner (ap (λ t. Some (inner, t)) (second e)) in
    omega arith

units_consumed : (set : CharacterSet) (mode : Bool) (left : ℕ) (text bytes rest : List ℕ) →
    read_units_in set mode left text ≡ Some (bytes, rest) → length rest < length text
units_consumed set mode left [] bytes rest e = absurd (none_some e)
units_consumed set mode (suc left) (a ∷ text) bytes rest e =
    after_prefix (a ∷ []) (read_units_in set mode left text) bytes rest (length text) (length (a ∷ text)) (omega arith)
    (λ inner h. units_consumed set mode left text inner rest h) e
units_consumed set mode zero (a ∷ []) bytes rest e =
    cond_both (eqb a single_quote) (Some ([], [])) None (λ t. t ≡ Some (bytes, rest) → length rest < 1)
    (λ quote h. subst (λ t. length t < 1) (second h) (omega arith)) (λ other h. absurd (none_some h)) e
units_consumed set mode zero (a ∷ b ∷ text) bytes rest e =
    let P : Option (List ℕ × List ℕ) → Type 0 = λ t. t ≡ Some (bytes, rest) → length rest < length (a ∷ b ∷ text) in
    cond_both (nat_le 128 a) _ _ P
    (λ h. after_prefix (a ∷ []) (read_units_in set mode (set a (b ∷ text)) (b ∷ text)) bytes rest (length (b ∷ text)) (length (a ∷ b ∷ text)) (omega arith)
    (λ inner. units_consumed set mode (set a (b ∷ text)) (b ∷ text) inner rest))
    (λ h. cond_both (eqb a single_quote && eqb b single_quote) _ _ P
    (λ k. after_prefix (codes "'") (read_units_in set mode zero text) bytes rest (length text) (length (a ∷ b ∷ text)) (omega arith)
    (λ inner. units_consumed set mode zero text inner rest))
    (λ k. cond_both (eqb a single_quote) _ _ P
    (λ q h. subst (λ t. length t < length (a ∷ b ∷ text)) (second h) (omega arith))
    (λ q. cond_both (begins_pair mode a) _ _ P
    (λ p. after_prefix (unescaped b) (read_units_in set mode zero text) bytes rest (length text) (length (a ∷ b ∷ text)) (omega arith)
    (λ inner. units_consumed set mode zero text inner rest))
    (λ p. after_prefix (a ∷ []) (read_units_in set mode zero (b ∷ text)) bytes rest (length (b ∷ text)) (length (a ∷ b ∷ text)) (omega arith)
    (λ inner. units_consumed set mode zero (b ∷ text) inner rest))))) e

-- ---- one string

-- a string begins with a quote
record IsQuotedText (set : CharacterSet) (mode : Bool) (text bytes rest : List ℕ) : Type 0 where
  pub units : List ℕ
  pub quoted : single_quote ∷ units ≡ text
  pub read : read_units_in set mode zero units ≡ Some (bytes, rest)

string_begins : (set : CharacterSet) (mode : Bool) (text bytes rest : List ℕ) → read_string_in set mode text ≡ Some (bytes, rest) →
    IsQuotedText set mode text bytes rest
string_begins set mode [] bytes rest e = absurd (none_some e)
string_begins set mode (b ∷ text) bytes rest e =
    cond_both (eqb single_quote b) (Some text) None (λ t. option_and_then (read_units_in set mode zero) t ≡ Some (bytes, rest) → IsQuotedText set mode (b ∷ text) bytes rest)
    (λ quote h. record { units = text; quoted = ap (λ c. c ∷ text) (eqb-true single_quote b quote); read = h })
    (λ other h. absurd (none_some h)) e

string_consumed : (set : CharacterSet) (mode : Bool) (text bytes rest : List ℕ) → read_string_in set mode text ≡ Some (bytes, rest) →
    length rest < length text
string_consumed set mode text bytes rest e =
    let q = string_begins set mode text bytes rest e in
    let k : length rest < length q.units = units_consumed set mode zero q.units bytes rest q.read in
    let l : suc (length q.units) ≡ length text = ap length q.quoted in
    omega arith

read_in-string : (set : CharacterSet) (mode : Bool) (text bytes rest : List ℕ) → read_string_in set mode text ≡ Some (bytes, rest) →
    read_in set mode text ≡ Some (byte_string bytes, rest)
read_in-string set mode text bytes rest e =
    let q = string_begins set mode text bytes rest e in
    subst (λ t. read_in set mode t ≡ Some (byte_string bytes, rest)) q.quoted (ap (option_map (λ r. (byte_string r.0, r.1))) q.read)

-- ---- strings side by side

strings_consumed : (set : CharacterSet) (mode : Bool) (text bytes rest : List ℕ) → AreStringsIn set mode text bytes rest → length rest < length text
strings_consumed set mode text bytes rest (one_string text' bytes' rest' e) = string_consumed set mode text bytes rest e
strings_consumed set mode text bytes rest (more_strings text' front more others rest' e es) =
    let h : length (space ∷ more) < length text = string_consumed set mode text front (space ∷ more) e in
    let k : length rest < length more = strings_consumed set mode more others rest es in
    omega arith

-- a string that leaves the rest is no string before others that leave it
one_or_more : (set : CharacterSet) (mode : Bool) (text bytes front more others rest : List ℕ) → read_string_in set mode text ≡ Some (bytes, rest) →
    read_string_in set mode text ≡ Some (front, space ∷ more) → AreStringsIn set mode more others rest → ⊥
one_or_more set mode text bytes front more others rest e f es =
    let same : rest ≡ space ∷ more = second (sym e ∙ f) in
    let l : length rest ≡ suc (length more) = ap length same in
    let k : length rest < length more = strings_consumed set mode more others rest es in
    omega arith

tail_same : {a b : ℕ} {xs ys : List ℕ} → a ∷ xs ≡ b ∷ ys → xs ≡ ys
tail_same e = cc

strings_are_one : (set : CharacterSet) (mode : Bool) (text x y rest : List ℕ) → AreStringsIn set mode text x rest → AreStringsIn set mode text y rest → x ≡ y
strings_are_one set mode text x y rest (one_string _ _ _ e) (one_string _ _ _ f) = first (sym e ∙ f)
strings_are_one set mode text x y rest (one_string _ _ _ e) (more_strings _ front more others _ f fs) =
    absurd (one_or_more set mode text x front more others rest e f fs)
strings_are_one set mode text x y rest (more_strings _ front more others _ e es) (one_string _ _ _ f) =
    absurd (one_or_more set mode text y front more others rest f e es)
strings_are_one set mode text x y rest (more_strings _ front more others _ e es) (more_strings _ front' more' others' _ f fs) =
    let fronts : front ≡ front' = first (sym e ∙ f) in
    let mores : more' ≡ more = tail_same (second (sym f ∙ e)) in
    let later : others ≡ others' =
    strings_are_one set mode more others others' rest es (subst (λ t. AreStringsIn set mode t others' rest) mores fs) in cc

-- ---- one content

first_string : (set : CharacterSet) (mode : Bool) (text bytes rest : List ℕ) (content : Content) → read_in set mode text ≡ Some (content, rest) →
    AreStringsIn set mode text bytes rest → content ≡ byte_string bytes
first_string set mode text bytes rest content h (one_string _ _ _ e) =
    ap (λ p. p.0) (some_same (sym h ∙ read_in-string set mode text bytes rest e))
first_string set mode text bytes rest content h (more_strings _ front more others _ e es) =
    let same = some_same (sym h ∙ read_in-string set mode text front (space ∷ more) e) in
    let left : rest ≡ space ∷ more = ap (λ p. p.1) same in
    absurd (one_or_more set mode text front front more others rest (e ∙ ap (λ t. Some (front, t)) (sym left)) e es)

pub one_content : (set : CharacterSet) (mode : Bool) (text rest : List ℕ) (x y : Content) → IsReadIn set mode text x rest →
    IsReadIn set mode text y rest → x ≡ y
one_content set mode text rest x y (read_as_one _ _ _ h) (read_as_one _ _ _ k) = ap (λ p. p.0) (some_same (sym h ∙ k))
one_content set mode text rest x y (read_as_one _ _ _ h) (read_as_strings _ bytes _ s) = first_string set mode text bytes rest x h s
one_content set mode text rest x y (read_as_strings _ bytes _ s) (read_as_one _ _ _ k) = sym (first_string set mode text bytes rest y k s)
one_content set mode text rest x y (read_as_strings _ bytes _ s) (read_as_strings _ others _ u) =
    ap byte_string (strings_are_one set mode text bytes others rest s u)
