-- The facts about a record while its fields are read one by one.
use Rattle.std.proofs.Common.{◌≡◌, ◌≢◌, ℕ, ◌+◌, ◌-◌, ◌<◌, List, [], ◌∷◌, ◌++◌, Option, length, take, drop, refl, sym, ap, ◌∙◌, subst, append_assoc, arith, length-append}
use Rattle.std.proofs.lemmas.List.{drop_at, take_at}
use Rattle.mysql_records.specs.Faults.{IsFaultAt, IsRecordBefore, in_field, behind_field, IsFaulty}
use Rattle.mysql_records.specs.Fields.{IsFaultyField}
use Rattle.mysql_records.specs.Formats.{separator}
use Rattle.mysql_records.specs.Records.{line_feed, return_line_feed, EndsRecord, at_line_end, at_text_end, IsRecordThen, BeginsWithRecord, BeginsWithField}
use Rattle.mysql_records.specs.declared.fault.Fault.{Fault}
use Rattle.mysql_records.specs.declared.fault.FaultKind.{FaultKind}
use Rattle.mysql_records.specs.declared.format.RecordFormat.{RecordFormat}
use Rattle.mysql_records.proofs.RecordLemmas.{first_of, field_then, field_last, then_others}

-- the records of the text are the fields so far and the records of the rest, and a fault of the rest is one of the text
pub record ReadFields (format : RecordFormat) (text : List ℕ) (done : List (Option (List ℕ))) (rest : List ℕ) : Type 0 where
  pub front : List ℕ
  pub whole : text ≡ front ++ rest
  pub sound : (fields : List (Option (List ℕ))) (end : List ℕ) → IsRecordThen format rest fields end → IsRecordThen format text (done ++ fields) end
  pub complete : (fields : List (Option (List ℕ))) (end : List ℕ) → IsRecordThen format text fields end →
      (more : List (Option (List ℕ))) × (fields ≡ done ++ more) × IsRecordThen format rest more end
  pub before : (back : List ℕ) (kind : FaultKind) (more : List ℕ) → IsRecordBefore format back kind more → IsRecordBefore format back kind (front ++ more)

pub fields_none : (format : RecordFormat) (text : List ℕ) → ReadFields format text [] text
fields_none format text = record { front = []; whole = refl; sound = λ fields end h. h; complete = λ fields end h. (fields, refl, h); before = λ back kind more b. b }

pub fields_more : (format : RecordFormat) (text : List ℕ) (done : List (Option (List ℕ))) (rest : List ℕ) (x : Option (List ℕ)) (more : List ℕ) →
    ReadFields format text done rest → BeginsWithField format rest x (separator format ∷ more) → ReadFields format text (done ++ x ∷ []) more
fields_more format text done rest x more h f = record {
  front = h.front ++ (f.front ++ separator format ∷ []);
  whole = h.whole ∙ ap (λ y. h.front ++ y) (f.whole ∙ sym (append_assoc f.front (separator format ∷ []) more)) ∙ sym (append_assoc h.front (f.front ++ separator format ∷ []) more);
  sound = λ fields end k.
      subst (λ y. IsRecordThen format text y end) (sym (append_assoc done (x ∷ []) fields))
      (h.sound (x ∷ fields) end (field_then format rest x more fields end f k));
  complete = λ fields end k.
      let first = h.complete fields end k in
      let next = then_others format rest x more first.0 end f first.2 in
      (next.others, first.1 ∙ ap (λ y. done ++ y) next.fields_are ∙ sym (append_assoc done (x ∷ []) next.others), next.then);
  before = λ back kind after b.
      subst (IsRecordBefore format back kind)
      (ap (λ y. h.front ++ y) (sym (append_assoc f.front (separator format ∷ []) after)) ∙ sym (append_assoc h.front (f.front ++ separator format ∷ []) after))
      (h.before back kind (f.front ++ separator format ∷ after) (behind_field x f.front after f.is_field b));
}

pub fields_last : (format : RecordFormat) (text : List ℕ) (done : List (Option (List ℕ))) (rest : List ℕ) (x : Option (List ℕ)) (back end : List ℕ) →
    text ≢ [] → ReadFields format text done rest → BeginsWithField format rest x back → EndsRecord format back end →
    BeginsWithRecord format text (done ++ x ∷ []) end
fields_last format text done rest x back end some h f ends = record { some = some; then = h.sound (x ∷ []) end (field_last format rest x back end f ends) }

not_empty_at : (format : RecordFormat) (kind : FaultKind) (back : List ℕ) → IsFaultAt format kind back → 0 < length back
not_empty_at format kind [] h = absurd h
not_empty_at format kind (a ∷ back) h = omega arith

pub fields_fault : (format : RecordFormat) (text : List ℕ) (done : List (Option (List ℕ))) (rest back : List ℕ) (kind : FaultKind) (fault : Fault) →
    ReadFields format text done rest → IsFaultyField format rest kind back → fault.at ≡ length text - length back → fault.kind ≡ kind →
    IsFaulty format text fault
fields_fault format text done rest back kind fault h f at is = record {
  none = λ fields end k.
      let first = h.complete fields end k.then in
      let field = first_of format rest first.0 end first.2 in
      f.none field.field field.back field.first;
  within = within;
  before =
      subst (λ x. IsRecordBefore format x fault.kind (take fault.at text)) (sym left)
      (subst (IsRecordBefore format back fault.kind) (sym right)
      (subst (λ x. IsRecordBefore format back x (h.front ++ f.front)) (sym is) (h.before back kind f.front (in_field f.front f.before))));
  stands = subst (IsFaultAt format fault.kind) (sym left) (subst (λ x. IsFaultAt format x back) (sym is) f.stands);
}
  where
    whole : text ≡ (h.front ++ f.front) ++ back
    whole = h.whole ∙ ap (λ x. h.front ++ x) f.whole ∙ sym (append_assoc h.front f.front back)

    lengths : length text ≡ length (h.front ++ f.front) + length back
    lengths = ap length whole ∙ length-append (h.front ++ f.front) back

    within : fault.at < length text
    within = omega (arith, lengths, at, not_empty_at format kind back f.stands)

    place : length (h.front ++ f.front) ≡ fault.at
    place = omega (arith, lengths, at)

    left : drop fault.at text ≡ back
    left = ap (drop fault.at) whole ∙ drop_at (h.front ++ f.front) back fault.at place

    right : take fault.at text ≡ h.front ++ f.front
    right = ap (take fault.at) whole ∙ take_at (h.front ++ f.front) back fault.at place

-- a field and a separator are at least a byte
pub shorter : (format : RecordFormat) (rest : List ℕ) (x : Option (List ℕ)) (more : List ℕ) → BeginsWithField format rest x (separator format ∷ more) →
    length more < length rest
shorter format rest x more f = omega (arith, ap length f.whole, length-append f.front (separator format ∷ more))

some_length : (text : List ℕ) → text ≢ [] → 0 < length text
some_length [] some = absurd (some refl)
some_length (a ∷ text) some = omega arith

shorter_is : (format : RecordFormat) (text front back rest : List ℕ) → text ≢ [] → text ≡ front ++ back → EndsRecord format back rest →
    length rest < length text
shorter_is format text front back rest some e (at_line_end line rest2 line_feed) =
    omega (arith, ap length e, length-append front back)
shorter_is format text front back rest some e (at_line_end line rest2 (return_line_feed h)) =
    omega (arith, ap length e, length-append front back)
shorter_is format text front back rest some e at_text_end = some_length text some

-- a record and its end are at least a byte
pub record_shorter : (format : RecordFormat) (text : List ℕ) (fields : List (Option (List ℕ))) (rest : List ℕ) → BeginsWithRecord format text fields rest →
    length rest < length text
record_shorter format text fields rest h = shorter_is format text h.then.front h.then.back rest h.some h.then.whole h.then.ends
