-- Writers in use choose as a writer may, and can write the bytes that they are said to.
use Rattle.std.proofs.Common.{◌≡◌, ◌≢◌, ◌⊎◌, ℕ, Bool, true, false, ◌||◌, eqb, List, [], ◌∷◌, Some, None, inl, inr, refl, sym, ap, ◌∙◌, subst, append_assoc, arith, true≢false}
use Rattle.std.specs.Prelude.{All, codes}
use Rattle.std.specs.List.{list_any}
use Rattle.std.proofs.lemmas.Bool.{cond_both, eqb-true}
use Rattle.std.proofs.lemmas.List.Elements.{All-cons, All-head, All-tail}
use Rattle.mysql_records.specs.Formats.{backslash, escape_value, has_escapes, has_quotes, is_special, newline, quote}
use Rattle.mysql_records.specs.Records.{IsField, IsRecord, one_field, more_fields, IsLineEnd, line_feed, IsTable}
use Rattle.mysql_records.specs.WrittenRecords.{Cell, escaped, written_field, written_record, written_table, fields_of, IsWriter, IsWritableByte, IsWritable, IsWritableTable}
use Rattle.mysql_records.specs.Writers.{escape_among, usual_escape, usual_writer, unwritable_bytes, client_escape, client_writer, names_writer, name_fields, name_cells, client_table, ArePlainNames}
use Rattle.mysql_records.specs.declared.format.RecordFormat.{RecordFormat}
use Rattle.mysql_records.specs.declared.format.RecordFormat.TheVariants.{Csv, Tsv, MysqlCsv, MysqlTsv}
use Rattle.mysql_records.proofs.WrittenLemmas.{field_is, table_more, written_table_is}

either_false : (a b : Bool) → (a || b) ≡ false → (a ≡ false) × (b ≡ false)
either_false true b h = cc
either_false false b h = (refl, h)

either_true : (a b : Bool) → (a || b) ≡ true → (a ≡ true) ⊎ (b ≡ true)
either_true true b h = inl refl
either_true false b h = inr h

some_same : (b c : ℕ) → Some b ≡ Some c → b ≡ c
some_same b c e = cc

none : (P : ℕ → Type 0) → All P []
none P k d h = absurd (omega arith)

-- ---- the byte after a backslash

one_of : (bytes : List ℕ) (P : ℕ → Type 0) (b : ℕ) → All P bytes → list_any (λ special. eqb b special) bytes ≡ true → P b
one_of [] P b h e = absurd (true≢false (sym e))
one_of (a ∷ bytes) P b h e =
    elim (either_true (eqb b a) _ e) [
      | inl f ↦ subst P (sym (eqb-true b a f)) (All-head P a bytes h)
      | inr f ↦ one_of bytes P b (All-tail P a bytes h) f
    ]

-- a byte that is escaped for itself
StandsForItself : ℕ → Type 0
StandsForItself b = escape_value b ≡ Some b

among_is : (bytes : List ℕ) (b c : ℕ) → All StandsForItself bytes → escape_among bytes b ≡ Some c → escape_value c ≡ Some b
unfolding StandsForItself
among_is bytes b c h =
    cond_both (eqb b 0) (Some 48) _ (λ o. o ≡ Some c → escape_value c ≡ Some b)
    (λ e f. ap escape_value (sym (some_same 48 c f)) ∙ ap Some (sym (eqb-true b 0 e)))
    (λ e. cond_both (list_any (λ special. eqb b special) bytes) (Some b) None (λ o. o ≡ Some c → escape_value c ≡ Some b)
    (λ g f. ap escape_value (sym (some_same b c f)) ∙ one_of bytes StandsForItself b h g)
    (λ g f. cc))

three : (P : ℕ → Type 0) (a b c : ℕ) → P a → P b → P c → All P (a ∷ b ∷ c ∷ [])
three P a b c p q r = All-cons P a (b ∷ c ∷ []) p (All-cons P b (c ∷ []) q (All-cons P c [] r (none P)))

-- an escaped byte isn't written as it is
among_written : (bytes : List ℕ) (b : ℕ) → list_any (λ special. eqb b special) bytes ≡ true → escaped (escape_among bytes b) b ≢ b ∷ []
among_written bytes b h =
    cond_both (eqb b 0) (Some 48) _ (λ o. escaped o b ≢ b ∷ [])
    (λ e f. cc)
    (λ e. cond_both (list_any (λ special. eqb b special) bytes) (Some b) None (λ o. escaped o b ≢ b ∷ [])
    (λ g f. cc)
    (λ g f. true≢false (sym h ∙ g)))

-- ---- servers, and writers of CSV and TSV

usual_is : (format : RecordFormat) (quoted : Bool) (b c : ℕ) → usual_escape format quoted b ≡ Some c →
    (has_escapes format ≡ true) × (escape_value c ≡ Some b)
unfolding StandsForItself
usual_is Csv quoted b c e = cc
usual_is Tsv quoted b c e = cc
usual_is MysqlCsv true b c e = (refl, among_is (codes "\\\n\"") b c (three StandsForItself backslash newline quote refl refl refl) e)
usual_is MysqlCsv false b c e = (refl, among_is (codes "\\\n,") b c (three StandsForItself backslash newline 44 refl refl refl) e)
usual_is MysqlTsv quoted b c e = (refl, among_is (codes "\\\n\t") b c (three StandsForItself backslash newline 9 refl refl refl) e)

pub usual_writer_is : (format : RecordFormat) (line_end : List ℕ) (ends_last : Bool) → IsLineEnd format line_end → IsWriter (usual_writer format line_end ends_last)
usual_writer_is format line_end ends_last h = record { line_end = h; escape = usual_is format }

-- the special bytes are escaped, except those that can't be written
in_quotes : (q s n : Bool) → (q || (s || false)) ≡ true → (s || (n || (q || false))) ≡ true
in_quotes true true n h = refl
in_quotes true false true h = refl
in_quotes true false false h = refl
in_quotes false true n h = refl
in_quotes false false n h = cc

in_commas : (q s c n : Bool) → (q || false) ≡ false → (q || (s || (c || (n || false)))) ≡ true → (s || (n || (c || false))) ≡ true
in_commas true s c n g h = cc
in_commas false true c n g h = refl
in_commas false false c true g h = refl
in_commas false false true false g h = refl
in_commas false false false false g h = cc

in_tabs : (s t n : Bool) → (s || (t || (n || false))) ≡ true → (s || (n || (t || false))) ≡ true
in_tabs true t n h = refl
in_tabs false t true h = refl
in_tabs false true false h = refl
in_tabs false false false h = cc

usual_byte : (format : RecordFormat) (line_end : List ℕ) (ends_last quoted : Bool) (b : ℕ) → (quoted ≡ true → has_quotes format ≡ true) →
    list_any (λ other. eqb b other) (unwritable_bytes format quoted) ≡ false → IsWritableByte (usual_writer format line_end ends_last) quoted b
usual_byte Csv line_end ends_last true b h none =
    λ special. cond_both (eqb b quote) (quote ∷ quote ∷ []) (b ∷ []) (λ t. t ≢ b ∷ []) (λ e f. cc)
    (λ e f. elim (either_true (eqb b quote) false special) [
      | inl g ↦ true≢false (sym g ∙ e)
      | inr g ↦ true≢false (sym g)
    ])
usual_byte Csv line_end ends_last false b h none = λ special. absurd (true≢false (sym special ∙ none))
usual_byte Tsv line_end ends_last quoted b h none = λ special. absurd (true≢false (sym special ∙ none))
usual_byte MysqlCsv line_end ends_last true b h none =
    λ special. among_written (codes "\\\n\"") b (in_quotes (eqb b quote) (eqb b backslash) (eqb b newline) special)
usual_byte MysqlCsv line_end ends_last false b h none =
    λ special. among_written (codes "\\\n,") b (in_commas (eqb b quote) (eqb b backslash) (eqb b 44) (eqb b newline) none special)
usual_byte MysqlTsv line_end ends_last quoted b h none =
    λ special. among_written (codes "\\\n\t") b (in_tabs (eqb b backslash) (eqb b 9) (eqb b newline) special)

-- a fact of each byte that fails a test
all_of : (test : ℕ → Bool) (P : ℕ → Type 0) (bytes : List ℕ) → ((b : ℕ) → test b ≡ false → P b) → list_any test bytes ≡ false → All P bytes
all_of test P [] h e = none P
all_of test P (b ∷ bytes) h e =
    let both = either_false (test b) _ e in All-cons P b bytes (h b both.0) (all_of test P bytes h both.1)

pub usual_field : (format : RecordFormat) (line_end : List ℕ) (ends_last quoted : Bool) (bytes : List ℕ) → (quoted ≡ true → has_quotes format ≡ true) →
    list_any (λ b. list_any (λ other. eqb b other) (unwritable_bytes format quoted)) bytes ≡ false →
    IsWritable (usual_writer format line_end ends_last) quoted (Some bytes)
usual_field format line_end ends_last true bytes h e = (h refl, all_of _ _ bytes (λ b. usual_byte format line_end ends_last true b h) e)
usual_field format line_end ends_last false bytes h e = all_of _ _ bytes (λ b. usual_byte format line_end ends_last false b h) e

-- ---- clients

client_is : (quoted : Bool) (b c : ℕ) → client_escape quoted b ≡ Some c → (has_escapes MysqlTsv ≡ true) × (escape_value c ≡ Some b)
unfolding StandsForItself
client_is quoted b c =
    cond_both (eqb b newline) (Some 110) _ (λ o. o ≡ Some c → (has_escapes MysqlTsv ≡ true) × (escape_value c ≡ Some b))
    (λ e f. (refl, ap escape_value (sym (some_same 110 c f)) ∙ ap Some (sym (eqb-true b newline e))))
    (λ e. cond_both (eqb b 9) (Some 116) _ (λ o. o ≡ Some c → (has_escapes MysqlTsv ≡ true) × (escape_value c ≡ Some b))
    (λ g f. (refl, ap escape_value (sym (some_same 116 c f)) ∙ ap Some (sym (eqb-true b 9 g))))
    (λ g f. (refl, among_is (codes "\\") b c (All-cons StandsForItself backslash [] refl (none StandsForItself)) f)))

pub client_writer_is : IsWriter client_writer
client_writer_is = record { line_end = line_feed; escape = client_is }

client_byte : (b : ℕ) → IsWritableByte client_writer false b
client_byte b special =
    cond_both (eqb b newline) (Some 110) _ (λ o. escaped o b ≢ b ∷ []) (λ e f. cc)
    (λ e. cond_both (eqb b 9) (Some 116) _ (λ o. escaped o b ≢ b ∷ []) (λ g f. cc)
    (λ g. among_written (codes "\\") b
    (elim (either_true (eqb b backslash) _ special) [
      | inl k ↦ rw k refl
      | inr k ↦ elim (either_true (eqb b 9) _ k) [
        | inl l ↦ absurd (true≢false (sym l ∙ g))
        | inr l ↦ elim (either_true (eqb b newline) false l) [
          | inl m ↦ absurd (true≢false (sym m ∙ e))
          | inr m ↦ absurd (true≢false (sym m))
        ]
      ]
    ])))

pub client_field : (bytes : List ℕ) → IsWritable client_writer false (Some bytes)
client_field [] = none (IsWritableByte client_writer false)
client_field (b ∷ bytes) = All-cons (IsWritableByte client_writer false) b bytes (client_byte b) (client_field bytes)

-- ---- the line of names

names_writer_is : IsWriter names_writer
names_writer_is = record { line_end = line_feed; escape = λ quoted b c e. cc }

name_field : (name : List ℕ) → list_any (is_special MysqlTsv false) name ≡ false → IsField MysqlTsv (Some name) (written_field names_writer false (Some name))
name_field name h =
    field_is names_writer false (Some name) names_writer_is
    (all_of (is_special MysqlTsv false) (IsWritableByte names_writer false) name (λ b none special. absurd (true≢false (sym special ∙ none))) h)

IsPlain : List ℕ → Type 0
IsPlain name = list_any (is_special MysqlTsv false) name ≡ false

names_record : (names : List (List ℕ)) → names ≢ [] → All IsPlain names → IsRecord MysqlTsv (name_fields names) (written_record names_writer (name_cells names))
unfolding IsPlain
names_record [] some h = absurd (some refl)
names_record (name ∷ []) some h = one_field (Some name) (written_field names_writer false (Some name)) (name_field name (All-head IsPlain name [] h))
names_record (name ∷ next ∷ names) some h =
    more_fields (Some name) (name_fields (next ∷ names)) (written_field names_writer false (Some name)) (written_record names_writer (name_cells (next ∷ names)))
    (name_field name (All-head IsPlain name (next ∷ names) h))
    (names_record (next ∷ names) (λ e. cc) (All-tail IsPlain name (next ∷ names) h))

pub client_table_is : (names : List (List ℕ)) (rows : List (List Cell)) → ArePlainNames names → IsWritableTable client_writer rows →
    IsTable MysqlTsv (name_fields names ∷ fields_of rows) (client_table names rows)
unfolding IsPlain
client_table_is names rows plain w =
    let front : List ℕ = written_record names_writer (name_cells names) in
    let rest : List ℕ = written_table client_writer rows in
    subst (IsTable MysqlTsv (name_fields names ∷ fields_of rows)) (sym (append_assoc front (newline ∷ []) rest))
    (table_more MysqlTsv (name_fields names) (fields_of rows) front (newline ∷ []) rest (names_record names plain.0 plain.1) line_feed
    (written_table_is client_writer rows client_writer_is w))
