-- A text begins with one record at most, and is one table at most.
use Rattle.std.proofs.Common.{◌≡◌, ◌≢◌, ℕ, List, [], ◌∷◌, ◌++◌, Option, refl, sym, ap, ◌∙◌, subst, append_assoc, arith}
use Rattle.mysql_records.specs.Formats.{carriage_return, newline, separator}
use Rattle.mysql_records.specs.Records.{IsRecord, one_field, more_fields, line_feed, return_line_feed, EndsRecord, at_line_end, at_text_end, IsRecordThen, BeginsWithRecord, IsTable, no_records, more_records, at_separator, at_record_end, BeginsWithField}
use Rattle.mysql_records.specs.declared.format.RecordFormat.{RecordFormat}
use Rattle.mysql_records.proofs.FieldLemmas.{field_same, separator_not_newline, separator_not_return}

-- ---- the end of a record

pub end_not_separator : (format : RecordFormat) (text rest more : List ℕ) → EndsRecord format text rest → text ≢ separator format ∷ more
end_not_separator format text rest more (at_line_end line r line_feed) e = let f : separator format ≡ newline = cc in separator_not_newline format f
end_not_separator format text rest more (at_line_end line r (return_line_feed h)) e = let f : separator format ≡ carriage_return = cc in separator_not_return format f
end_not_separator format text rest more at_text_end e = cc

pub end_same : (format : RecordFormat) (text more r s : List ℕ) → EndsRecord format text r → EndsRecord format more s → text ≡ more → r ≡ s
end_same format text more r s (at_line_end line x line_feed) (at_line_end line2 y line_feed) e = cc
end_same format text more r s (at_line_end line x line_feed) (at_line_end line2 y (return_line_feed h)) e =
    let f : newline ≡ carriage_return = cc in absurd (omega (arith, f))
end_same format text more r s (at_line_end line x line_feed) at_text_end e = cc
end_same format text more r s (at_line_end line x (return_line_feed h)) (at_line_end line2 y line_feed) e =
    let f : carriage_return ≡ newline = cc in absurd (omega (arith, f))
end_same format text more r s (at_line_end line x (return_line_feed h)) (at_line_end line2 y (return_line_feed k)) e = cc
end_same format text more r s (at_line_end line x (return_line_feed h)) at_text_end e = cc
end_same format text more r s at_text_end (at_line_end line2 y line_feed) e = cc
end_same format text more r s at_text_end (at_line_end line2 y (return_line_feed k)) e = cc
end_same format text more r s at_text_end at_text_end e = refl

-- ---- the first field of a record

-- the text after the first field of a record: its end, or a separator and the other fields
pub data Others (format : RecordFormat) (rest : List ℕ) : List (Option (List ℕ)) → List ℕ → Type 0 where
  no_others : (back : List ℕ) → EndsRecord format back rest → Others format rest [] back
  other_fields : (fields : List (Option (List ℕ))) (more : List ℕ) → IsRecordThen format more fields rest → Others format rest fields (separator format ∷ more)

-- a record by its first field
pub record FirstOf (format : RecordFormat) (text : List ℕ) (fields : List (Option (List ℕ))) (rest : List ℕ) : Type 0 where
  pub field : Option (List ℕ)
  pub more : List (Option (List ℕ))
  pub back : List ℕ
  pub fields_are : fields ≡ field ∷ more
  pub first : BeginsWithField format text field back
  pub then : Others format rest more back

first_is : (format : RecordFormat) (text : List ℕ) (fields : List (Option (List ℕ))) (front back rest : List ℕ) → IsRecord format fields front →
    text ≡ front ++ back → EndsRecord format back rest → FirstOf format text fields rest
first_is format text fields front back rest (one_field field t h) e ends = record {
  field = field;
  more = [];
  back = back;
  fields_are = refl;
  first = record { front = t; whole = e; is_field = h; ends = at_record_end back rest ends };
  then = no_others back ends;
}
first_is format text fields front back rest (more_fields field fields2 t more h k) e ends = record {
  field = field;
  more = fields2;
  back = separator format ∷ (more ++ back);
  fields_are = refl;
  first = record { front = t; whole = e ∙ append_assoc t (separator format ∷ more) back; is_field = h; ends = at_separator (more ++ back) };
  then = other_fields fields2 (more ++ back) (record { front = more; back = back; whole = refl; is_record = k; ends = ends });
}

pub first_of : (format : RecordFormat) (text : List ℕ) (fields : List (Option (List ℕ))) (rest : List ℕ) → IsRecordThen format text fields rest → FirstOf format text fields rest
first_of format text fields rest h = first_is format text fields h.front h.back rest h.is_record h.whole h.ends

-- a field, a separator and a record are a record
pub field_then : (format : RecordFormat) (text : List ℕ) (x : Option (List ℕ)) (more : List ℕ) (fields : List (Option (List ℕ))) (rest : List ℕ) →
    BeginsWithField format text x (separator format ∷ more) → IsRecordThen format more fields rest → IsRecordThen format text (x ∷ fields) rest
field_then format text x more fields rest f h = record {
  front = f.front ++ separator format ∷ h.front;
  back = h.back;
  whole = f.whole ∙ ap (λ y. f.front ++ separator format ∷ y) h.whole ∙ sym (append_assoc f.front (separator format ∷ h.front) h.back);
  is_record = more_fields x fields f.front h.front f.is_field h.is_record;
  ends = h.ends;
}

-- a field and the end of a record are a record
pub field_last : (format : RecordFormat) (text : List ℕ) (x : Option (List ℕ)) (back rest : List ℕ) →
    BeginsWithField format text x back → EndsRecord format back rest → IsRecordThen format text (x ∷ []) rest
field_last format text x back rest f h = record { front = f.front; back = back; whole = f.whole; is_record = one_field x f.front f.is_field; ends = h }

-- the other fields of a record, behind its first field and a separator
pub others_then : (format : RecordFormat) (rest : List ℕ) (fields : List (Option (List ℕ))) (back more : List ℕ) → Others format rest fields back →
    back ≡ separator format ∷ more → IsRecordThen format more fields rest
others_then format rest fields back more (no_others b h) e = absurd (end_not_separator format back rest more h e)
others_then format rest fields back more (other_fields fields2 more2 h) e = let f : more2 ≡ more = cc in subst (λ x. IsRecordThen format x fields2 rest) f h

-- no other fields, behind its first field and the end of a record
pub others_none : (format : RecordFormat) (rest : List ℕ) (fields : List (Option (List ℕ))) (back other end : List ℕ) → Others format rest fields back →
    EndsRecord format other end → back ≡ other → (fields ≡ []) × (rest ≡ end)
others_none format rest fields back other end (no_others b h) k e = (refl, end_same format back other rest end h k e)
others_none format rest fields back other end (other_fields fields2 more2 h) k e = absurd (end_not_separator format other end more2 k (sym e))

-- ---- one record

-- the fields of a record that begins with a field and a separator
pub record MoreThan (format : RecordFormat) (x : Option (List ℕ)) (more : List ℕ) (fields : List (Option (List ℕ))) (rest : List ℕ) : Type 0 where
  pub others : List (Option (List ℕ))
  pub fields_are : fields ≡ x ∷ others
  pub then : IsRecordThen format more others rest

pub then_others : (format : RecordFormat) (text : List ℕ) (x : Option (List ℕ)) (more : List ℕ) (fields : List (Option (List ℕ))) (rest : List ℕ) →
    BeginsWithField format text x (separator format ∷ more) → IsRecordThen format text fields rest → MoreThan format x more fields rest
then_others format text x more fields rest f h =
    let first = first_of format text fields rest h in
    let same = field_same format text x first.field (separator format ∷ more) first.back f first.first in record {
      others = first.more;
      fields_are = first.fields_are ∙ ap (λ y. y ∷ first.more) (sym same.0);
      then = others_then format rest first.more first.back more first.then (sym same.1);
    }

pub then_none : (format : RecordFormat) (text : List ℕ) (x : Option (List ℕ)) (back end : List ℕ) (fields : List (Option (List ℕ))) (rest : List ℕ) →
    BeginsWithField format text x back → EndsRecord format back end → IsRecordThen format text fields rest → (fields ≡ x ∷ []) × (rest ≡ end)
then_none format text x back end fields rest f k h =
    let first = first_of format text fields rest h in
    let same = field_same format text x first.field back first.back f first.first in
    let none = others_none format rest first.more first.back back end first.then k (sym same.1) in
    (first.fields_are ∙ ap (λ y. y ∷ first.more) (sym same.0) ∙ ap (λ y. x ∷ y) none.0, none.1)

then_same_is : (format : RecordFormat) (text : List ℕ) (fields : List (Option (List ℕ))) (front back rest : List ℕ) (others : List (Option (List ℕ))) (more : List ℕ) →
    IsRecord format fields front → text ≡ front ++ back → EndsRecord format back rest → IsRecordThen format text others more → (fields ≡ others) × (rest ≡ more)
then_same_is format text fields front back rest others more (one_field field t h) e ends k =
    let none = then_none format text field back rest others more (record { front = t; whole = e; is_field = h; ends = at_record_end back rest ends }) ends k in
    (sym none.0, sym none.1)
then_same_is format text fields front back rest others more (more_fields field fields2 t t2 h m) e ends k =
    let f : BeginsWithField format text field (separator format ∷ (t2 ++ back)) =
    record { front = t; whole = e ∙ append_assoc t (separator format ∷ t2) back; is_field = h; ends = at_separator (t2 ++ back) } in
    let next = then_others format text field (t2 ++ back) others more f k in
    let same = then_same_is format (t2 ++ back) fields2 t2 back rest next.others more m refl ends next.then in
    (ap (λ y. field ∷ y) same.0 ∙ sym next.fields_are, same.1)

pub then_same : (format : RecordFormat) (text : List ℕ) (fields : List (Option (List ℕ))) (rest : List ℕ) (others : List (Option (List ℕ))) (more : List ℕ) →
    IsRecordThen format text fields rest → IsRecordThen format text others more → (fields ≡ others) × (rest ≡ more)
then_same format text fields rest others more h k = then_same_is format text fields h.front h.back rest others more h.is_record h.whole h.ends k

pub record_same : (format : RecordFormat) (text : List ℕ) (fields others : List (Option (List ℕ))) (rest more : List ℕ) →
    BeginsWithRecord format text fields rest → BeginsWithRecord format text others more → (fields ≡ others) × (rest ≡ more)
record_same format text fields others rest more h k = then_same format text fields rest others more h.then k.then

-- ---- one table

pub table_same : (format : RecordFormat) (rows others : List (List (Option (List ℕ)))) (text other : List ℕ) → IsTable format rows text → IsTable format others other →
    text ≡ other → rows ≡ others
table_same format rows others text other no_records no_records e = refl
table_same format rows others text other no_records (more_records fields rows2 text2 rest h k) e = absurd (h.some (sym e))
table_same format rows others text other (more_records fields rows2 text2 rest h k) no_records e = absurd (h.some e)
table_same format rows others text other (more_records fields rows2 text2 rest h k) (more_records fields3 rows3 text3 rest3 m n) e =
    let same = record_same format text2 fields fields3 rest rest3 h (subst (λ x. BeginsWithRecord format x fields3 rest3) (sym e) m) in
    let tables = table_same format rows2 rows3 rest rest3 k n same.1 in
    cc (same.0, tables)
