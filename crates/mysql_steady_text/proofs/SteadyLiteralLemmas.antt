-- The steady literal of a value: its shape, that it is steady, and how it reads.
use Rattle.std.specs.Prelude.{Bool, ℤ, pos, negsuc, codes, nat_lt, IfSome, is_none, option_map, Some}
use Rattle.std.specs.Option.{option_or}
use Rattle.std.proofs.Common.{◌≡◌, ◌++◌, ◌==◌, ◌<◌, ◌^◌, ℕ, suc, true, false, List, [], ◌∷◌, length, get_or, None, refl, sym, ap, ◌∙◌, arith, true≢false, append_assoc}
use Rattle.std.specs.Char.{is_ascii_digit}
use Rattle.std.specs.Fmt.{decimal, signed_decimal}
use Rattle.std.proofs.lemmas.Int.{ints}
use lib.Signed.{mag}
use Rattle.std.specs.List.{list_all}
use Rattle.std.specs.Str.{byte, is_utf8}
use Rattle.std.proofs.lemmas.Bool.{and_parts, and_from, eqb-true, cond_both, not-true}
use Rattle.std.proofs.lemmas.Bool.Decides.{nat_tests}
use Rattle.std.proofs.lemmas.List.Folds.{list_all-append}
use Rattle.mysql_sql_text.specs.LiteralText.{escaped_byte, escaped, quoted, hexadecimal, date_text, time_text}
use Rattle.mysql_sql_text.specs.ReadLiteral.{Content, byte_string, begins_pair, prefix_read, is_hexadecimal_digit, read_literal, read_units}
use Rattle.mysql_sql_text.specs.LiteralEnd.{BeginsWithout, ReadsBefore, continues_literal, is_single_quote}
use Rattle.mysql_sql_text.specs.LiteralShape.{AreHexadecimalPairs, AreClosedStrings, IsLiteral, closed_string, one_string, more_strings, null_literal, natural_literal, negative_literal, hexadecimal_literal, quoted_literal}
use Rattle.mysql_sql_text.proofs.ByteNames.{single_quote}
use Rattle.mysql_sql_text.proofs.ClockLemmas.{is_clock_byte, IsClockText, IsClockText-date_text, IsClockText-time_text}
use Rattle.mysql_sql_text.proofs.HexadecimalLemmas.{hexadecimal_reads, AreHexadecimalPairs-hexadecimal}
use Rattle.mysql_sql_text.proofs.QuotedLemmas.{IsQuoted-escaped}
use Rattle.mysql_sql_text.proofs.ReadBytesLemmas.{begins_without_quote}
use Rattle.mysql_sql_text.proofs.ReadNaturalLemmas.{all_digits-decimal}
use Rattle.mysql_sql_text.proofs.ReadStringLemmas.{read_units-ordinary, read_units-quote}
use Rattle.mysql_sql_text.specs.InLine.{is_in_line}
use Rattle.mysql_sql_text.proofs.InLineLemmas.{StandsInLine, both_in_line, date_in_line, decimal_in_line, doubled_in_line, hexadecimal_in_line, pairs_in_line, quoted_in_line, signed_in_line, time_in_line}
use Rattle.mysql_value_core.proofs.InLineLemmas.{null_in_line}
use Rattle.mysql_values.specs.declared.value.Value.{Value}
use Rattle.mysql_values.specs.declared.value.Value.TheVariants.{NULL, Bytes, Int, UInt, Float, Double, Date, Time}
use Rattle.mysql_values.specs.Value.{FieldsInRange}
use Rattle.mysql_values.specs.Literal.{is_float}
use Rattle.mysql_value_core.proofs.LiteralLemmas.{literal_shape, literal_reads}
use Rattle.mysql_portable.specs.Steady.{is_no_backslash, is_steady}
use Rattle.mysql_steady_text.specs.SteadyLiteral.{is_spelled_out, steady_bytes_literal, steady_literal_of}
use Rattle.mysql_steady_text.specs.SteadyShape.{IsSteadyLiteral, bare_literal, introduced_string, introduced_pairs}
use Rattle.mysql_steady_text.specs.ReadSteadyLiteral.{read_introduced, ReadsSteadyBefore, ReadsSteadyAs}

-- bytes that a steady string doesn't hold are not empty
some_byte : (bytes : List ℕ) → list_all is_spelled_out bytes ≡ false → 0 < length bytes
some_byte [] h = absurd (true≢false h)
some_byte (b ∷ bytes) h = omega arith

-- a fact about the three forms of the literal of bytes holds for the literal
by_form : (P : List ℕ → Type 0) (bytes : List ℕ) →
    (list_all is_spelled_out bytes ≡ true → P (codes "_utf8mb4" ++ quoted (escaped true bytes))) →
    (0 < length bytes → P (codes "_utf8mb4 0x" ++ hexadecimal bytes)) →
    (0 < length bytes → P (codes "0x" ++ hexadecimal bytes)) → P (steady_bytes_literal bytes)
by_form P bytes string introduced bare =
    cond_both (list_all is_spelled_out bytes) _ _ P string
    (λ other. cond_both (is_utf8 bytes) _ _ P (λ e. introduced (some_byte bytes other)) (λ e. bare (some_byte bytes other)))

-- ---- the shape

pub steady_shape : (v : Value) → FieldsInRange v → IfSome (steady_literal_of v) IsSteadyLiteral
steady_shape NULL r = bare_literal _ (literal_shape true NULL r)
steady_shape (Bytes bytes) r =
    by_form IsSteadyLiteral bytes
    (λ e. introduced_string _ (IsQuoted-escaped true bytes))
    (λ some. introduced_pairs (hexadecimal bytes) (AreHexadecimalPairs-hexadecimal bytes r.1 some))
    (λ some. bare_literal _ (hexadecimal_literal (hexadecimal bytes) (AreHexadecimalPairs-hexadecimal bytes r.1 some)))
steady_shape (Int n) r = bare_literal _ (literal_shape true (Int n) r)
steady_shape (UInt n) r = bare_literal _ (literal_shape true (UInt n) r)
steady_shape (Float bits) r = tt
steady_shape (Double bits) r = tt
steady_shape (Date y m d h i s u) r = bare_literal _ (literal_shape true (Date y m d h i s u) r)
steady_shape (Time n d h m s u) r = bare_literal _ (literal_shape true (Time n d h m s u) r)

-- ---- its bytes

pub all_wider : (test wide : ℕ → Bool) → ((b : ℕ) → test b ≡ true → wide b ≡ true) → (bytes : List ℕ) →
    list_all test bytes ≡ true → list_all wide bytes ≡ true
all_wider test wide f [] h = refl
all_wider test wide f (b ∷ bytes) h =
    let p = and_parts (test b) (list_all test bytes) h in
    and_from _ _ (f b p.0) (all_wider test wide f bytes p.1)

all_both : (test : ℕ → Bool) (xs ys : List ℕ) → list_all test xs ≡ true → list_all test ys ≡ true →
    list_all test (xs ++ ys) ≡ true
all_both test xs ys h k = list_all-append test xs ys ∙ and_from _ _ h k

digit_steady : (b : ℕ) → is_ascii_digit b ≡ true → is_steady b ≡ true
digit_steady b h = grind (arith, nat_tests)

clock_steady : (b : ℕ) → is_clock_byte b ≡ true → is_steady b ≡ true
clock_steady b h = grind (arith, nat_tests)

hexadecimal_steady : (b : ℕ) → is_hexadecimal_digit b ≡ true → is_steady b ≡ true
hexadecimal_steady b h = grind (arith, nat_tests)

spelled_out_steady : (b : ℕ) → is_spelled_out b ≡ true → is_steady b ≡ true
spelled_out_steady b h = grind (arith, nat_tests)

decimal_steady : (n : ℕ) → n < 2 ^ 64 → list_all is_steady (decimal n) ≡ true
decimal_steady n h = all_wider is_ascii_digit is_steady digit_steady (decimal n) (all_digits-decimal n h)

pairs_steady : (bytes : List ℕ) → AreHexadecimalPairs bytes → list_all is_steady bytes ≡ true
pairs_steady [] h = absurd h
pairs_steady (a ∷ []) h = absurd h
pairs_steady (a ∷ b ∷ []) h = and_from _ _ (hexadecimal_steady a h.0) (and_from _ _ (hexadecimal_steady b h.1) refl)
pairs_steady (a ∷ b ∷ c ∷ bytes) h = and_from _ _ (hexadecimal_steady a h.0) (and_from _ _ (hexadecimal_steady b h.1) (pairs_steady (c ∷ bytes) h.2))

signed_steady : (z : ℤ) → mag z < 2 ^ 63 → list_all is_steady (signed_decimal z) ≡ true
signed_steady (pos n) h = decimal_steady n (omega (arith, h))
signed_steady (negsuc n) h = and_from _ _ refl (decimal_steady (suc n) (omega (arith, h)))

quoted_steady : (text : List ℕ) → list_all is_steady text ≡ true → list_all is_steady (quoted text) ≡ true
quoted_steady text h = all_both is_steady text (codes "'") h refl

escaped_byte_steady : (b : ℕ) → is_steady b ≡ true → list_all is_steady (escaped_byte true b) ≡ true
escaped_byte_steady b h = cond_both (b == byte "'") _ _ (λ t. list_all is_steady t ≡ true) (λ e. refl) (λ e. and_from _ _ h refl)

escaped_steady : (bytes : List ℕ) → list_all is_steady bytes ≡ true → list_all is_steady (escaped true bytes) ≡ true
escaped_steady [] h = refl
escaped_steady (b ∷ bytes) h =
    let p = and_parts (is_steady b) (list_all is_steady bytes) h in
    all_both is_steady (escaped_byte true b) (escaped true bytes) (escaped_byte_steady b p.0) (escaped_steady bytes p.1)

spelled_out_bytes_steady : (bytes : List ℕ) → list_all is_spelled_out bytes ≡ true → list_all is_steady bytes ≡ true
spelled_out_bytes_steady = all_wider is_spelled_out is_steady spelled_out_steady

clock_text_steady : (text : List ℕ) → IsClockText text → list_all is_steady (quoted text) ≡ true
clock_text_steady text c = quoted_steady text (all_wider is_clock_byte is_steady clock_steady text c.all)

pub steady_bytes : (v : Value) → FieldsInRange v → IfSome (steady_literal_of v) (λ t. list_all is_steady t ≡ true)
steady_bytes NULL r = refl
steady_bytes (Bytes bytes) r =
    by_form (λ t. list_all is_steady t ≡ true) bytes
    (λ e. all_both is_steady (codes "_utf8mb4") (quoted (escaped true bytes)) refl
    (quoted_steady (escaped true bytes) (escaped_steady bytes (spelled_out_bytes_steady bytes e))))
    (λ some. all_both is_steady (codes "_utf8mb4 0x") (hexadecimal bytes) refl (pairs_steady (hexadecimal bytes) (AreHexadecimalPairs-hexadecimal bytes r.1 some)))
    (λ some. all_both is_steady (codes "0x") (hexadecimal bytes) refl (pairs_steady (hexadecimal bytes) (AreHexadecimalPairs-hexadecimal bytes r.1 some)))
steady_bytes (Int n) r = signed_steady n (omega (arith, ints))
steady_bytes (UInt n) r = decimal_steady n r
steady_bytes (Float bits) r = tt
steady_bytes (Double bits) r = tt
steady_bytes (Date y m d h i s u) r =
    clock_text_steady (date_text y m d h i s u) (IsClockText-date_text y m d h i s u (omega arith) (omega arith) (omega arith) (omega arith) (omega arith) (omega arith) (omega arith))
steady_bytes (Time n d h m s u) r =
    clock_text_steady (time_text n d h m s u) (IsClockText-time_text n d h m s u (omega arith) (omega arith) (omega arith) (omega arith))

-- ---- it is in one line

spelled_out_in_line : (b : ℕ) → is_spelled_out b ≡ true → is_in_line b ≡ true
spelled_out_in_line b h = grind (arith, nat_tests)

introducer_in_line : StandsInLine (codes "_utf8mb4")
introducer_in_line = record { all = refl }

introduced_in_line : StandsInLine (codes "_utf8mb4 0x")
introduced_in_line = record { all = refl }

pub steady_in_line : (v : Value) → IfSome (steady_literal_of v) StandsInLine
steady_in_line NULL = null_in_line
steady_in_line (Bytes bytes) =
    by_form StandsInLine bytes
    (λ e. both_in_line introducer_in_line (quoted_in_line (doubled_in_line bytes (all_wider is_spelled_out is_in_line spelled_out_in_line bytes e))))
    (λ some. both_in_line introduced_in_line (hexadecimal_in_line bytes))
    (λ some. pairs_in_line bytes)
steady_in_line (Int n) = signed_in_line n
steady_in_line (UInt n) = decimal_in_line n
steady_in_line (Float bits) = tt
steady_in_line (Double bits) = tt
steady_in_line (Date y m d h i s u) = quoted_in_line (date_in_line y m d h i s u)
steady_in_line (Time n d h m s u) = quoted_in_line (time_in_line n d h m s u)

-- ---- how it reads

-- a string without a backslash, its quotes doubled, reads as its bytes in either mode
no_pair : (mode : Bool) (b : ℕ) → is_no_backslash b ≡ true → begins_pair mode b ≡ false
no_pair false b h = not-true _ h
no_pair true b h = refl

read_units-doubled : (mode : Bool) (b : ℕ) (text : List ℕ) → is_no_backslash b ≡ true →
    read_units mode (escaped_byte true b ++ text) ≡ prefix_read (b ∷ []) (read_units mode text)
read_units-doubled mode b text h =
    cond_both (b == single_quote) _ _ (λ t. read_units mode (t ++ text) ≡ prefix_read (b ∷ []) (read_units mode text))
    (λ e. ap (λ c. prefix_read (c ∷ []) (read_units mode text)) (sym (eqb-true b single_quote e)))
    (λ e. read_units-ordinary mode b text e (no_pair mode b h))

read_units-all_doubled : (mode : Bool) (bytes rest : List ℕ) → list_all is_no_backslash bytes ≡ true → BeginsWithout is_single_quote rest →
    read_units mode (escaped true bytes ++ single_quote ∷ rest) ≡ Some (bytes, rest)
read_units-all_doubled mode [] rest h n = read_units-quote mode rest n
read_units-all_doubled mode (b ∷ bytes) rest h n =
    let p = and_parts (is_no_backslash b) (list_all is_no_backslash bytes) h in
    ap (read_units mode) (append_assoc (escaped_byte true b) (escaped true bytes) (single_quote ∷ rest))
    ∙ read_units-doubled mode b (escaped true bytes ++ single_quote ∷ rest) p.0
    ∙ ap (prefix_read (b ∷ [])) (read_units-all_doubled mode bytes rest p.1 n)

pub spelled_out_no_backslash : (b : ℕ) → is_spelled_out b ≡ true → is_no_backslash b ≡ true
spelled_out_no_backslash b h =
    (and_parts (nat_lt b 128) (is_no_backslash b) (spelled_out_steady b h)).1

string_reads : (bytes : List ℕ) → list_all is_spelled_out bytes ≡ true →
    ReadsSteadyBefore (codes "_utf8mb4" ++ quoted (escaped true bytes)) (byte_string bytes)
string_reads bytes e mode rest n =
    let text : List ℕ = (codes "_utf8mb4" ++ quoted (escaped true bytes)) ++ rest in
    ap (λ x. option_or (option_or (option_map (λ r. (byte_string r.0, r.1)) x) None) (read_literal mode text)) (
    ap (read_units mode) (append_assoc (escaped true bytes) (single_quote ∷ []) rest)
    ∙ read_units-all_doubled mode bytes rest (all_wider is_spelled_out is_no_backslash spelled_out_no_backslash bytes e) (begins_without_quote rest n)
    )

introduced_pairs_read : (bytes : List ℕ) → ((i : ℕ) → get_or bytes i 0 < 256) → 0 < length bytes →
    ReadsSteadyBefore (codes "_utf8mb4 0x" ++ hexadecimal bytes) (byte_string bytes)
introduced_pairs_read bytes small some mode rest n =
    ap (λ x. option_or x (read_literal mode ((codes "_utf8mb4 0x" ++ hexadecimal bytes) ++ rest))) (hexadecimal_reads mode bytes small some rest n)

-- a literal begins with no introducer
no_introducer : (mode : Bool) (b : ℕ) (text : List ℕ) → (byte "_" == b) ≡ false → read_introduced mode (b ∷ text) ≡ None
no_introducer mode b text e = rw e refl

digit_no_introducer : (b : ℕ) → is_ascii_digit b ≡ true → (byte "_" == b) ≡ false
digit_no_introducer b h = grind (arith, nat_tests)

strings_no_introducer : (mode : Bool) (literal rest : List ℕ) → AreClosedStrings true literal → read_introduced mode (literal ++ rest) ≡ None
strings_no_introducer mode literal rest (one_string string (closed_string body u)) = refl
strings_no_introducer mode literal rest (more_strings string more (closed_string body u) s) = refl

literal_no_introducer : (mode : Bool) (literal rest : List ℕ) → IsLiteral true literal → read_introduced mode (literal ++ rest) ≡ None
literal_no_introducer mode literal rest null_literal = refl
literal_no_introducer mode literal rest (natural_literal [] h) = absurd h
literal_no_introducer mode literal rest (natural_literal (d ∷ digits) h) = no_introducer mode d (digits ++ rest) (digit_no_introducer d h.0)
literal_no_introducer mode literal rest (negative_literal digits h) = refl
literal_no_introducer mode literal rest (hexadecimal_literal pairs h) = refl
literal_no_introducer mode literal rest (quoted_literal text h) = strings_no_introducer mode text rest h

bare_reads : (literal : List ℕ) (c : Content) → IsLiteral true literal →
    ((mode : Bool) → ReadsBefore continues_literal mode literal c) → ReadsSteadyBefore literal c
bare_reads literal c shape reads mode rest n =
    ap (λ x. option_or x (read_literal mode (literal ++ rest))) (literal_no_introducer mode literal rest shape) ∙ reads mode rest n

pub steady_reads : (v : Value) → FieldsInRange v → IfSome (steady_literal_of v) (ReadsSteadyAs v)
steady_reads NULL r = bare_reads _ _ (literal_shape true NULL r) (λ mode. (literal_reads mode NULL r).content)
steady_reads (Bytes bytes) r =
    by_form (λ t. ReadsSteadyBefore t (byte_string bytes)) bytes (string_reads bytes) (introduced_pairs_read bytes r.1)
    (λ some. bare_reads _ _ (hexadecimal_literal (hexadecimal bytes) (AreHexadecimalPairs-hexadecimal bytes r.1 some)) (λ mode. hexadecimal_reads mode bytes r.1 some))
steady_reads (Int n) r = bare_reads _ _ (literal_shape true (Int n) r) (λ mode. (literal_reads mode (Int n) r).content)
steady_reads (UInt n) r = bare_reads _ _ (literal_shape true (UInt n) r) (λ mode. (literal_reads mode (UInt n) r).content)
steady_reads (Float bits) r = tt
steady_reads (Double bits) r = tt
steady_reads (Date y m d h i s u) r = bare_reads _ _ (literal_shape true (Date y m d h i s u) r) (λ mode. (literal_reads mode (Date y m d h i s u) r).content)
steady_reads (Time n d h m s u) r = bare_reads _ _ (literal_shape true (Time n d h m s u) r) (λ mode. (literal_reads mode (Time n d h m s u) r).content)

-- ---- floats

pub steady_float : (v : Value) → is_none (steady_literal_of v) ≡ is_float v
steady_float NULL = refl
steady_float (Bytes bytes) = refl
steady_float (Int n) = refl
steady_float (UInt n) = refl
steady_float (Float bits) = refl
steady_float (Double bits) = refl
steady_float (Date y m d h i s u) = refl
steady_float (Time n d h m s u) = refl
