-- The facts about a table while its records are read one by one.
use Rattle.std.proofs.Common.{◌≡◌, ◌≢◌, ℕ, ◌+◌, ◌-◌, ◌<◌, ◌≤◌, List, [], ◌∷◌, ◌++◌, Option, Some, None, length, take, drop, refl, sym, ap, ◌∙◌, subst, append_assoc, append-nil, arith, length-append, take-append-drop}
use Rattle.std.specs.Prelude.{◌↔◌, IsNone}
use Rattle.std.proofs.lemmas.List.{drop_at, drop-drop}
use Rattle.std.proofs.Math.Seq.{take-append-add}
use Rattle.mysql_records.specs.Faults.{IsFaultAt, IsTableBefore, in_record, behind_record, IsFaulty, IsFaultyTable}
use Rattle.mysql_records.specs.Records.{IsRecord, EndsRecord, at_line_end, at_text_end, BeginsWithRecord, IsTable, no_records, more_records}
use Rattle.mysql_records.specs.declared.fault.Fault.{Fault}
use Rattle.mysql_records.specs.declared.fault.FaultKind.{FaultKind}
use Rattle.mysql_records.specs.declared.format.RecordFormat.{RecordFormat}
use Rattle.mysql_records.proofs.RecordLemmas.{record_same}

-- the tables of the text are the rows so far and the tables of the rest, and a fault of the rest is one of the text
pub record ReadRows (format : RecordFormat) (text : List ℕ) (done : List (List (Option (List ℕ)))) (rest : List ℕ) : Type 0 where
  pub front : List ℕ
  pub whole : text ≡ front ++ rest
  pub sound : (rows : List (List (Option (List ℕ)))) → IsTable format rows rest → IsTable format (done ++ rows) text
  pub complete : (rows : List (List (Option (List ℕ)))) → IsTable format rows text →
      (more : List (List (Option (List ℕ)))) × (rows ≡ done ++ more) × IsTable format more rest
  pub before : (back : List ℕ) (kind : FaultKind) (more : List ℕ) → rest ≡ more ++ back → back ≢ [] → IsTableBefore format back kind more →
      IsTableBefore format back kind (front ++ more)

pub rows_none : (format : RecordFormat) (text : List ℕ) → ReadRows format text [] text
rows_none format text = record { front = []; whole = refl; sound = λ rows h. h; complete = λ rows h. (rows, refl, h); before = λ back kind more e some b. b }

-- the text before the rest of a record's text
front_of : (format : RecordFormat) (back rest : List ℕ) → EndsRecord format back rest → (front : List ℕ) × (back ≡ front ++ rest)
front_of format back rest (at_line_end line r h) = (line, refl)
front_of format back rest at_text_end = ([], refl)

pub not_none : (more back : List ℕ) → back ≢ [] → [] ≢ more ++ back
not_none [] back some e = some (sym e)
not_none (a ∷ more) back some e = cc

-- a record before a fault
before_more : (format : RecordFormat) (fields_text back rest : List ℕ) (fields : List (Option (List ℕ))) (from : List ℕ) (kind : FaultKind) (more : List ℕ) →
    IsRecord format fields fields_text → (end : EndsRecord format back rest) → rest ≡ more ++ from → from ≢ [] → IsTableBefore format from kind more →
    IsTableBefore format from kind (fields_text ++ ((front_of format back rest end).0 ++ more))
unfolding front_of
before_more format fields_text back rest fields from kind more h (at_line_end line r l) e some b =
    subst (IsTableBefore format from kind) (append_assoc fields_text line more) (behind_record fields fields_text line more h l b)
before_more format fields_text back rest fields from kind more h at_text_end e some b = absurd (not_none more from some e)

-- the first record of a table, and the table of the rest
record FirstRow (format : RecordFormat) (rows : List (List (Option (List ℕ)))) (text : List ℕ) : Type 0 where
  pub fields : List (Option (List ℕ))
  pub more : List (List (Option (List ℕ)))
  pub rest : List ℕ
  pub rows_are : rows ≡ fields ∷ more
  pub first : BeginsWithRecord format text fields rest
  pub others : IsTable format more rest

first_row : (format : RecordFormat) (rows : List (List (Option (List ℕ)))) (text : List ℕ) → text ≢ [] → IsTable format rows text → FirstRow format rows text
first_row format rows text some no_records = absurd (some refl)
first_row format rows text some (more_records fields rows2 text2 rest h k) =
    record { fields = fields; more = rows2; rest = rest; rows_are = refl; first = h; others = k }

pub rows_more : (format : RecordFormat) (text : List ℕ) (done : List (List (Option (List ℕ)))) (rest : List ℕ) (fields : List (Option (List ℕ))) (more : List ℕ) →
    ReadRows format text done rest → BeginsWithRecord format rest fields more → ReadRows format text (done ++ fields ∷ []) more
rows_more format text done rest fields more h f = record {
  front = h.front ++ (f.then.front ++ end.0);
  whole = h.whole ∙ ap (λ y. h.front ++ y) (f.then.whole ∙ ap (λ y. f.then.front ++ y) end.1 ∙ sym (append_assoc f.then.front end.0 more))
      ∙ sym (append_assoc h.front (f.then.front ++ end.0) more);
  sound = λ rows k.
      subst (λ y. IsTable format y text) (sym (append_assoc done (fields ∷ []) rows))
      (h.sound (fields ∷ rows) (more_records fields rows rest more f k));
  complete = λ rows k.
      let all = h.complete rows k in
      let first = first_row format all.0 rest f.some all.2 in
      let same = record_same format rest fields first.fields more first.rest f first.first in
      let is : all.0 ≡ fields ∷ first.more = first.rows_are ∙ ap (λ y. y ∷ first.more) (sym same.0) in
      (first.more, all.1 ∙ ap (λ y. done ++ y) is ∙ sym (append_assoc done (fields ∷ []) first.more), subst (IsTable format first.more) (sym same.1) first.others);
  before = λ back kind after e some_back b.
      subst (IsTableBefore format back kind)
      (ap (λ y. h.front ++ y) (sym (append_assoc f.then.front end.0 after)) ∙ sym (append_assoc h.front (f.then.front ++ end.0) after))
      (h.before back kind (f.then.front ++ (end.0 ++ after))
      (f.then.whole ∙ ap (λ y. f.then.front ++ y) (end.1 ∙ ap (λ y. end.0 ++ y) e ∙ sym (append_assoc end.0 after back)) ∙ sym (append_assoc f.then.front (end.0 ++ after) back))
      some_back (before_more format f.then.front f.then.back more fields back kind after f.then.is_record f.then.ends e some_back b));
}
  where
    end : (front : List ℕ) × (f.then.back ≡ front ++ more)
    end = front_of format f.then.back more f.then.ends

pub rows_all : (format : RecordFormat) (text : List ℕ) (done : List (List (Option (List ℕ)))) (rest : List ℕ) → ReadRows format text done rest → rest ≡ [] →
    IsTable format done text
rows_all format text done rest h e =
    subst (λ y. IsTable format y text) (append-nil done) (h.sound [] (subst (IsTable format []) (sym e) no_records))

pub not_empty_at : (format : RecordFormat) (kind : FaultKind) (back : List ℕ) → IsFaultAt format kind back → back ≢ []
not_empty_at format kind [] h = absurd h
not_empty_at format kind (a ∷ back) h = λ e. cc

some_rest : (text : List ℕ) (n : ℕ) → n < length text → text ≢ []
some_rest [] n lt e = absurd (omega arith)
some_rest (a ∷ text) n lt e = cc

pub rows_fault : (format : RecordFormat) (text : List ℕ) (done : List (List (Option (List ℕ)))) (rest : List ℕ) (found fault : Fault) →
    ReadRows format text done rest → IsFaulty format rest found → fault.at ≡ length text - length rest + found.at → fault.kind ≡ found.kind →
    IsFaultyTable format text fault
rows_fault format text done rest found fault h f at is = record {
  none = λ rows k.
      let all = h.complete rows k in
      let first = first_row format all.0 rest (some_rest rest found.at f.within) all.2 in
      f.none first.fields first.rest first.first;
  within = omega (arith, lengths, at, f.within);
  before =
      subst (λ x. IsTableBefore format x fault.kind (take fault.at text)) (sym left)
      (subst (IsTableBefore format (drop found.at rest) fault.kind) (sym right)
      (subst (λ x. IsTableBefore format (drop found.at rest) x (h.front ++ take found.at rest)) (sym is)
      (h.before (drop found.at rest) found.kind (take found.at rest) (sym (take-append-drop found.at rest)) (not_empty_at format found.kind (drop found.at rest) f.stands)
      (in_record (take found.at rest) f.before))));
  stands = subst (IsFaultAt format fault.kind) (sym left) (subst (λ x. IsFaultAt format x (drop found.at rest)) (sym is) f.stands);
}
  where
    lengths : length text ≡ length h.front + length rest
    lengths = ap length h.whole ∙ length-append h.front rest

    place : fault.at ≡ length h.front + found.at
    place = omega (arith, lengths, at)

    left : drop fault.at text ≡ drop found.at rest
    left = ap (λ x. drop x text) place ∙ sym (drop-drop found.at (length h.front) text)
        ∙ ap (drop found.at) (ap (drop (length h.front)) h.whole ∙ drop_at h.front rest (length h.front) refl)

    right : take fault.at text ≡ h.front ++ take found.at rest
    right = ap (λ x. take x text) place ∙ ap (take (length h.front + found.at)) h.whole ∙ take-append-add h.front rest found.at

pub rest_within : (format : RecordFormat) (text : List ℕ) (done : List (List (Option (List ℕ)))) (rest : List ℕ) → ReadRows format text done rest →
    length rest ≤ length text
rest_within format text done rest h = omega (arith, ap length h.whole, length-append h.front rest)

pub empty_if_none : {A : Type 0} (o : Option A) (P : Type 0) → o ≡ None → (IsNone o ↔ P) → P
empty_if_none None P e h = h.0 refl
empty_if_none (Some x) P e h = cc
