-- Rows that are bound so far.
use Rattle.std.specs.Prelude.{nat_le, nat_lt, Result, Ok, Err, ⊤, ◌==◌}
use Rattle.std.proofs.Common.{◌≡◌, ℕ, zero, suc, ◌+◌, ◌-◌, ◌<◌, ◌≤◌, Bool, true, false, List, [], ◌∷◌, ◌++◌, length, take, drop, if◌then◌else◌, refl, sym, ap, ◌∙◌, subst, arith, append-nil, length-append}
use Rattle.std.proofs.Math.Seq.{take-append-add, drop-append-add}
use Rattle.std.proofs.lemmas.List.{length-drop, length-take-le, take-append-drop, drop-drop, drop_all}
use Rattle.mysql_named_params.specs.declared.places.Reading.{Reading}
use Rattle.mysql_wire_part.specs.Reading.{ReadRefusal, read_bytes, read_number, and_then_read}
use Rattle.mysql_wire_part.specs.Reading as wire
use Rattle.mysql_wire_part.specs.Lenenc.{lenenc_spelling, read_length, read_lenenc, least_lead, lead_of_two, lead_of_three, lead_of_eight}
use Rattle.mysql_flat_params.specs.BoundRows.{IsBoundRowIn, AreBoundRowsIn, no_row, row_after, IsRowRefusalIn, IsRowsOutcomeIn}
use Rattle.mysql_flat_params.specs.RowInRoom.{IsFormInRoom, IsRowInRoom}
use Rattle.mysql_flat_params.specs.IntoRoom.{IsBindOutcomeIn}
use Rattle.mysql_flat_params.specs.declared.outcome.Outcome.{Outcome}
use Rattle.mysql_flat_params.specs.declared.outcome.Outcome.TheVariants.{Done, OutOfMemory, Room}
use Rattle.mysql_flat_params.specs.Outcomes.{HasNoAnswer, IfDone, IfTooLong}
use Rattle.mysql_flat_params.proofs.LeavesLemmas.{lenenc_within}

-- the bytes that a reading leaves are an end of the bytes
abbrev IsRest : {X E : Type 0} → List ℕ → Result (X × List ℕ) E → Type 0
IsRest bytes (Ok read) = (n : ℕ) × (read.1 ≡ drop n bytes)
IsRest bytes (Err refusal) = ⊤

module _ {X E : Type 0} (bytes : List ℕ) where
  rest_if : (b : Bool) (x y : Result (X × List ℕ) E) → IsRest bytes x → IsRest bytes y → IsRest bytes (if b then x else y)
  rest_if true x y hx hy = hx
  rest_if false x y hx hy = hy

rest_number : (k b : ℕ) (bytes : List ℕ) → IsRest (b ∷ bytes) (read_number k bytes)
rest_number k b bytes = rest_if (b ∷ bytes) (nat_le k (length bytes)) _ _ (suc k, refl) tt

rest_length : (b : ℕ) (bytes : List ℕ) → IsRest (b ∷ bytes) (read_length (b ∷ bytes))
rest_length b bytes =
    rest_if (b ∷ bytes) (nat_lt b least_lead) _ _ (1, refl)
    (rest_if (b ∷ bytes) (b == lead_of_two) _ _ (rest_number 2 b bytes)
    (rest_if (b ∷ bytes) (b == lead_of_three) _ _ (rest_number 3 b bytes)
    (rest_if (b ∷ bytes) (b == lead_of_eight) _ _ (rest_number 8 b bytes) tt)))

rest_then : (bytes : List ℕ) (read : wire.Reading ℕ) → IsRest bytes read → IsRest bytes (and_then_read read read_bytes)
rest_then bytes (Ok read) (n, is) =
    rest_if bytes (nat_le read.0 (length read.1)) _ _ (n + read.0, ap (drop read.0) is ∙ drop-drop read.0 n bytes) tt
rest_then bytes (Err refusal) h = tt

drop_end : (n : ℕ) (bytes : List ℕ) → drop (length bytes - length (drop n bytes)) bytes ≡ drop n bytes
drop_end zero bytes =
    let none : length bytes - length bytes ≡ 0 = omega arith in
    ap (λ k. drop k bytes) none
drop_end (suc n) [] = refl
drop_end (suc n) (b ∷ bytes) =
    let one_more : suc (length bytes) - length (drop n bytes) ≡ suc (length bytes - length (drop n bytes)) = omega (arith, length-drop n bytes) in
    ap (λ k. drop k (b ∷ bytes)) one_more ∙ drop_end n bytes

lenenc_rest : (bytes text next : List ℕ) → read_lenenc bytes ≡ Ok (text, next) → next ≡ drop (length bytes - length next) bytes
lenenc_rest [] text next is = cc
lenenc_rest (b ∷ bytes) text next is =
    let (n, rest) : IsRest {X = List ℕ} {E = ReadRefusal} (b ∷ bytes) (Ok (text, next)) = subst (IsRest {X = List ℕ} {E = ReadRefusal} (b ∷ bytes)) is (rest_then (b ∷ bytes) (read_length (b ∷ bytes)) (rest_length b bytes)) in
    rest ∙ (sym (drop_end n (b ∷ bytes)) ∙ ap (λ r. drop (length (b ∷ bytes) - length r) (b ∷ bytes)) (sym rest))

module _ (reading : Reading) (query bytes form next old new : List ℕ) (is : read_lenenc bytes ≡ Ok (form, next)) where
  read_so : read_lenenc bytes ≡ Ok (form, drop (length bytes - length next) bytes)
  read_so = is ∙ ap (λ r. Ok (form, r)) (lenenc_rest bytes form next is)

  -- a row whose form is read
  pub row_in_room : (outcome : Outcome) → IsFormInRoom reading query form old new outcome →
      IsRowInRoom reading query bytes old new (length bytes - length next) outcome
  row_in_room (Done len) (text, bound, room) =
      let within : length form + length next < length bytes = lenenc_within bytes form next is in
      (omega arith, omega arith, (text, (form, read_so, bound), room))
  row_in_room (Room len) (text, bound, room) = ((text, next, (form, is, bound), room.0), room.1, room.2)
  row_in_room OutOfMemory h = h.1
  row_in_room outcome h = (subst (λ r. IsRowRefusalIn reading query r outcome) (sym is) h.0, h.1)

-- a refusal leaves the room
pub refused_in_room : (reading : Reading) (query form old : List ℕ) (outcome : Outcome) → HasNoAnswer outcome → IsBindOutcomeIn reading query form outcome →
    IsFormInRoom reading query form old old outcome
refused_in_room reading query form old (Done len) none h = absurd none
refused_in_room reading query form old (Room len) none h = absurd none
refused_in_room reading query form old outcome none h = (h, refl)

-- how far rows are bound: the room was `old`, and is `room`
pub record RowsSoFar (reading : Reading) (query forms old room : List ℕ) (count read written : ℕ) : Type 0 where
  pub rows : AreBoundRowsIn reading query forms count (take written room) (drop read forms)
  pub read_in_range : read ≤ length forms
  pub few : count ≤ read
  pub written_in_range : written ≤ length room
  pub same_length : length room ≡ length old
  pub rest : drop written room ≡ drop written old

pub no_rows : (reading : Reading) (query forms old : List ℕ) → RowsSoFar reading query forms old old 0 0 0
no_rows reading query forms old = record {
  rows = no_row reading query forms;
  read_in_range = omega arith;
  few = omega arith;
  written_in_range = omega arith;
  same_length = refl;
  rest = refl;
}

module _ (reading : Reading) (query forms old room : List ℕ) (count read written : ℕ) (s : RowsSoFar reading query forms old room count read written) where
  front_length : length (take written room) ≡ written
  front_length = length-take-le written room s.written_in_range

  -- the row after them, whose text is written behind theirs
  module _ (taken len : ℕ) (new text : List ℕ) (positive : 0 < taken) (within : taken ≤ length (drop read forms))
      (bound : IsBoundRowIn reading query (drop read forms) text (drop taken (drop read forms))) (fits : len ≤ length (drop written room))
      (front : take len new ≡ lenenc_spelling text) (back : drop len new ≡ drop len (drop written room)) where
    texts_are : take (written + len) (take written room ++ new) ≡ take written room ++ lenenc_spelling text
    texts_are =
        ap (λ n. take (n + len) (take written room ++ new)) (sym front_length)
        ∙ (take-append-add (take written room) new len ∙ ap (λ x. take written room ++ x) front)

    back_is : drop (written + len) (take written room ++ new) ≡ drop (written + len) old
    back_is =
        ap (λ n. drop (n + len) (take written room ++ new)) (sym front_length)
        ∙ (drop-append-add (take written room) new len
        ∙ (back
        ∙ (ap (drop len) s.rest ∙ drop-drop len written old)))

    one_more : (room' : List ℕ) → room' ≡ take written room ++ new → length room' ≡ length room →
        RowsSoFar reading query forms old room' (count + 1) (read + taken) (written + len)
    one_more room' is same = record {
      rows =
          subst (λ texts. AreBoundRowsIn reading query forms (count + 1) texts (drop (read + taken) forms))
          (sym (ap (take (written + len)) is ∙ texts_are))
          (subst (λ next. AreBoundRowsIn reading query forms (count + 1) (take written room ++ lenenc_spelling text) next)
          (drop-drop taken read forms)
          (row_after reading query forms count (take written room) (drop read forms) text (drop taken (drop read forms)) s.rows bound));
      read_in_range = omega (arith, within, length-drop read forms, s.read_in_range);
      few = omega (arith, positive, s.few);
      written_in_range = omega (arith, fits, length-drop written room, s.written_in_range, same);
      same_length = same ∙ s.same_length;
      rest = ap (drop (written + len)) is ∙ back_is;
    }

  -- the contents of the room once its part behind the texts is `new`
  abbrev room_with : List ℕ → List ℕ
  room_with new = take written room ++ (new ++ drop (length room - written) (drop written room))

  room_is : (new : List ℕ) → room_with new ≡ take written room ++ new
  room_is new =
      let nothing : drop (length room - written) (drop written room) ≡ [] = drop_all (length room - written) (drop written room) (omega (arith, length-drop written room)) in
      ap (λ x. take written room ++ x) (ap (λ x. new ++ x) nothing ∙ append-nil new)

  pub room_kept : (new : List ℕ) → new ≡ drop written room → room_with new ≡ room
  room_kept new same = room_is new ∙ (ap (λ x. take written room ++ x) same ∙ take-append-drop written room)

  module _ (bytes part new : List ℕ) (bytes_are : bytes ≡ drop read forms) (part_is : part ≡ drop written room) (taken : ℕ) where
    row_after_them : (outcome : Outcome) → IsRowInRoom reading query bytes part new taken outcome →
        IsRowInRoom reading query (drop read forms) (drop written room) new taken outcome
    row_after_them outcome row =
        subst (λ p. IsRowInRoom reading query (drop read forms) p new taken outcome) part_is
        (subst (λ b. IsRowInRoom reading query b part new taken outcome) bytes_are row)

    more : (len : ℕ) → IsRowInRoom reading query (drop read forms) (drop written room) new taken (Done len) →
        length (room_with new) ≡ length room → RowsSoFar reading query forms old (room_with new) (count + 1) (read + taken) (written + len)
    more len (positive, within, (text, bound, (long, fits, front, back))) same =
        one_more taken len new text positive within bound fits front back (room_with new) (room_is new) same

    pub row_more : (len : ℕ) (outcome : Outcome) → outcome ≡ Done len → IsRowInRoom reading query bytes part new taken outcome →
        length new ≡ length part → RowsSoFar reading query forms old (room_with new) (count + 1) (read + taken) (written + len)
    row_more len outcome is row same =
        more len (subst (λ o. IsRowInRoom reading query (drop read forms) (drop written room) new taken o) is (row_after_them outcome row))
        (ap length (room_is new)
        ∙ (length-append (take written room) new
        ∙ omega (arith, same, ap length part_is, front_length, length-drop written room, s.written_in_range)))

    -- the outcome for the row after them, if it isn't bound
    abbrev Told : Outcome → Type 0
    Told outcome = IsRowsOutcomeIn reading query (drop read forms) outcome × IfDone outcome (λ len. len ≡ written)
        × IfTooLong outcome (λ len. length old < written + len) × (new ≡ drop written room)

    told : read < length forms → (outcome : Outcome) → ((len : ℕ) → outcome ≡ Done len → ⊥) →
        IsRowInRoom reading query (drop read forms) (drop written room) new taken outcome → Told outcome
    told some (Done len) not row = absurd (not len refl)
    told some (Room len) not (row, long, same) =
        (row, tt, omega (arith, long, length-drop written room, s.written_in_range, s.same_length), same)
    told some OutOfMemory not row = (λ none. omega (arith, ap length none, length-drop read forms, some), tt, tt, row)
    told some outcome not row = (row.0, tt, tt, row.1)

    pub row_told : read < length forms → (outcome : Outcome) → ((len : ℕ) → outcome ≡ Done len → ⊥) →
        IsRowInRoom reading query bytes part new taken outcome → Told outcome
    row_told some outcome not row = told some outcome not (row_after_them outcome row)
