-- A text begins with one group at most: where the first records of a text are unfit, more of them are
-- unfit too.
use Rattle.std.proofs.Common.{◌≡◌, ◌∙◌, ℕ, ◌<◌, ◌≤◌, false, List, [], ◌∷◌, ◌++◌, length, map, inl, inr, None, Some, refl, ap, sym, subst, append-nil, arith, length-append, true≢false}
use Rattle.std.specs.Global.{Vec}
use Rattle.std.proofs.lemmas.Bool.{cases_lt}
use Rattle.std.proofs.lemmas.List.{nil_from_length}
use Rattle.mysql_named_params.specs.LoweredNames.{lower_names}
use Rattle.mysql_named_params.specs.Reading.{wide_reading}
use Rattle.mysql_named_params.proofs.ReadingLemmas.{one_reading}
use Rattle.mysql_portable.specs.FirstUnportableInClient.{IsPortableInClient}
use Rattle.mysql_portable.proofs.ClientWalkLemmas.{none_in_client}
use Rattle.mysql_named_params.proofs.TokenListLemmas.{one_token_list}
use Rattle.mysql_fragments.specs.GivenFragments.{FragmentMap, named}
use Rattle.mysql_fragments.specs.declared.fragment.Fragment.{Fragment}
use Rattle.mysql_fragments.specs.declared.fragment.Fragment.TheVariants.{Rows}
use Rattle.mysql_fragments.specs.declared.fragment.Item.{Item}
use Rattle.mysql_records.proofs.RecordLemmas.{record_same}
use Rattle.mysql_bind_core.specs.Contents.{contents_of}
use Rattle.mysql_bind_core.specs.Entries.{IsAskedText, entries_of, pair_said, with_fragment}
use Rattle.mysql_bind_core.specs.Groups.{AreGroups, AreUnfit, IsFull, IsGroup, more_groups, no_groups, of_next, of_rest, of_rows, refused, too_long}
use Rattle.mysql_bind_core.specs.Refusals.{IsContentsRefusal, IsEntriesRefusal, IsFragmentsRefusal}
use Rattle.mysql_bind_core.specs.Requests.{mode_of}
use Rattle.mysql_bind_core.specs.RowItems.{BeginsWithRows, FollowsNone, RowsSaid, more_rows, no_rows, row_of, rows_said}
use Rattle.mysql_bind_core.specs.RowsBound.{AreEntriesOf, IsRowsBoundRefusal, IsRowsText, IsRowsWritten, is_of_memory, of_contents, of_entries, of_name, of_text, row_name}
use Rattle.mysql_bind_core.specs.Scripts.{statement}
use Rattle.mysql_bind_core.specs.Tables.{Fields}
use Rattle.mysql_bind_core.specs.TakenQuery.{RequestedQuery}
use Rattle.mysql_bind_core.specs.declared.failure.Failure.{Failure}
use Rattle.mysql_bind_core.specs.declared.failure.Failure.TheVariants as failure
use Rattle.mysql_bind_core.specs.declared.group_form.GroupForm.{GroupForm}
use Rattle.mysql_bind_core.specs.declared.table_form.TableForm.{TableForm}
use Rattle.mysql_bind_core.proofs.EachModeLemmas.{own_mode}
use Rattle.mysql_bind_core.proofs.FewerEntryLemmas.{AreLessByName, entries_less, none_twice, none_twice_assigned}
use Rattle.mysql_bind_core.proofs.FewerPortableLemmas.{fewer_portable}
use Rattle.mysql_bind_core.proofs.FewerTextLemmas.{fewer_length, is_filled_for, none_refused, same_filled}
use Rattle.mysql_bind_core.proofs.RowItemLemmas.{as_many_rows, no_rows_read}

-- ---- records at the front of a text

-- these records, their rows and more are the others
record IsFront (form : TableForm) (fs : List Fields) (rs : RowsSaid) (rest : List ℕ) (gs : List Fields) (qs : RowsSaid) (end : List ℕ) : Type 0 where
  more : List Fields
  more_said : RowsSaid
  records_are : gs ≡ fs ++ more
  rows_are : qs ≡ rs ++ more_said
  behind : BeginsWithRows form rest more more_said end

front_rows : (form : TableForm) (text : List ℕ) (fs : List Fields) (rs : RowsSaid) (rest : List ℕ) (gs : List Fields) (qs : RowsSaid) (end : List ℕ) →
    BeginsWithRows form text fs rs rest → BeginsWithRows form text gs qs end → length fs ≤ length gs → IsFront form fs rs rest gs qs end
front_rows form text fs rs rest gs qs end (no_rows t) h few = record { more = gs; more_said = qs; records_are = refl; rows_are = refl; behind = h }
front_rows form text fs rs rest gs qs end (more_rows f i fs2 rs2 t b r first others) (no_rows u) few = absurd (omega (arith, few))
front_rows form text fs rs rest gs qs end (more_rows f i fs2 rs2 t b r first others) (more_rows g j gs2 qs2 u d s second after) few =
    let same = record_same form.format text f g b d first.begins second.begins in
    let both : Some i ≡ Some j = sym first.items_are ∙ (ap (row_of form) same.0 ∙ second.items_are) in
    let one : i ≡ j = cc in
    let x = front_rows form b fs2 rs2 r gs2 qs2 s others (subst (λ z. BeginsWithRows form z gs2 qs2 s) (sym same.1) after) (omega (arith, few)) in
    record {
      more = x.more;
      more_said = x.more_said;
      records_are = λ k. sym same.0 k ∷ x.records_are k;
      rows_are = λ k. sym one k ∷ x.rows_are k;
      behind = x.behind;
    }

-- ---- unfit rows

module _ (query : RequestedQuery) (form : GroupForm) (rs more : RowsSaid) (some : 0 < length rs) (other : List ℕ)
    (w : IsRowsWritten query form.fixed.now (rs ++ more) other) where
  less : (m : FragmentMap) → AreEntriesOf form.fixed.now rs m → AreLessByName m w.text_is.entries
  less m x = entries_less form.fixed.now rs more some w.text_is.entries w.text_is.are m x

  -- the text with fewer rows is no longer
  shorter : (text : List ℕ) → IsRowsText query form.fixed.now rs text → length text ≤ length other
  shorter text x =
      let y = w.text_is in
      let asked = query.request.literals in
      let same : x.bound.0 ≡ y.bound.0 = one_reading (wide_reading (mode_of asked)) query.query x.bound.0 y.bound.0 x.bound.1 y.bound.1 in
      fewer_length asked y.bound.0 x.entries y.entries text other (less x.entries x.are)
      (is_filled_for asked y.bound.0 (named x.entries) text (subst (λ us. IsAskedText asked us (named x.entries) text) same x.bound.2))
      (is_filled_for asked y.bound.0 (named y.entries) other y.bound.2)

  not_by_contents : (why : Failure) → is_of_memory why ≡ false → IsContentsRefusal form.fixed.now why → ⊥
  not_by_contents failure.NoValue h r = let bad : Some (map pair_said w.text_is.are.pairs) ≡ None = sym w.text_is.are.contents_are ∙ r in cc
  not_by_contents (failure.Memory error) h r = true≢false h
  not_by_contents (failure.Redefined name) h r = none_twice_assigned form.fixed.now rs more some w.text_is.entries w.text_is.are r.0 name.items r.1 r.2
  not_by_contents why h r = absurd r.2

  not_by_name : (ps : List (List ℕ × Fragment)) (xs : Vec (Vec Item)) (why : Failure) → is_of_memory why ≡ false → contents_of form.fixed.now ≡ Some (map pair_said ps) →
      rows_said xs.items ≡ rs → IsEntriesRefusal (with_fragment (entries_of ps) (row_name, Rows xs)) why → ⊥
  not_by_name ps xs (failure.Memory error) h a c r = true≢false h
  not_by_name ps xs (failure.Redefined name) h a c r = none_twice form.fixed.now rs more some w.text_is.entries w.text_is.are ps xs name.items a c r
  not_by_name ps xs why h a c r = absurd r

  not_refused : (why : Failure) → is_of_memory why ≡ false → IsRowsBoundRefusal query form.fixed.now rs why → ⊥
  not_refused why h (of_contents r) = not_by_contents why h r
  not_refused why h (of_name ps xs a c r) = not_by_name ps xs why h a c r
  not_refused why h (of_entries m are o) =
      let y = w.text_is in
      let asked = query.request.literals in
      let same : o.0 ≡ y.bound.0 = one_reading (wide_reading (mode_of asked)) query.query o.0 y.bound.0 o.1 y.bound.1 in
      none_refused asked y.bound.0 m y.entries other why (less m are) y.bound.2 h
      (subst (λ us. IsFragmentsRefusal asked us (named m) why) same o.2)
  not_refused why h (of_text text x found e f) =
      let y = w.text_is in
      let asked = query.request.literals in
      let mode = mode_of asked in
      let same : x.bound.0 ≡ y.bound.0 = one_reading (wide_reading mode) query.query x.bound.0 y.bound.0 x.bound.1 y.bound.1 in
      let q = (w.taken.portable f.0).0 in
      let low = subst (λ us. IsPortableInClient (lower_names us)) (one_reading (wide_reading mode) query.query q.0 y.bound.0 q.1 y.bound.1) q.2 in
      let first = subst (λ us. IsAskedText asked us (named x.entries) text) same x.bound.2 in
      let p = fewer_portable asked query.query y.bound.0 x.entries y.entries text other y.bound.1 low (less x.entries x.are)
      first y.bound.2 (w.portable_text f.0 mode (own_mode asked)) in
      let o = none_in_client mode text (Some found) f.1 in
      let bad : Some found ≡ None = o.2.1 (subst IsPortableInClient (one_token_list mode text p.0 o.0 p.1 o.1) p.2) in
      cc

  pub not_unfit : length (statement other) ≤ form.bytes → AreUnfit query form rs → ⊥
  not_unfit fits (too_long text x long) =
      omega (arith, shorter text x.text_is, fits, long, length-append text (10 ∷ 59 ∷ 10 ∷ []), length-append other (10 ∷ 59 ∷ 10 ∷ []))
  not_unfit fits (refused why h r) = not_refused why h r

-- the same rows have one text
one_text : (query : RequestedQuery) (form : GroupForm) (rs : RowsSaid) (a b : List ℕ) → 0 < length rs → IsRowsText query form.fixed.now rs a →
    IsRowsText query form.fixed.now rs b → a ≡ b
one_text query form rs a b some x y =
    let asked = query.request.literals in
    let same : x.bound.0 ≡ y.bound.0 = one_reading (wide_reading (mode_of asked)) query.query x.bound.0 y.bound.0 x.bound.1 y.bound.1 in
    same_filled asked y.bound.0 x.entries y.entries a b (less_same x.entries y.entries x.are y.are) (less_same y.entries x.entries y.are x.are)
    (is_filled_for asked y.bound.0 (named x.entries) a (subst (λ us. IsAskedText asked us (named x.entries) a) same x.bound.2))
    (is_filled_for asked y.bound.0 (named y.entries) b y.bound.2)
  where
    less_same : (m n : FragmentMap) → AreEntriesOf form.fixed.now rs m → AreEntriesOf form.fixed.now rs n → AreLessByName m n
    less_same m n u v =
        entries_less form.fixed.now rs [] some n (subst (λ r. AreEntriesOf form.fixed.now r n) (sym (append-nil rs)) v) m u

-- ---- groups

module _ (query : RequestedQuery) (form : GroupForm) where
  -- a group isn't smaller than another
  not_smaller : (text : List ℕ) (fs gs : List Fields) (rest end written other : List ℕ) → IsGroup query form text fs rest written →
      IsGroup query form text gs end other → length fs < length gs → ⊥
  not_smaller text fs gs rest end written other x y few = go x.full
    where
      row_behind : (back stop : List ℕ) (more : List Fields) (more_said : RowsSaid) → gs ≡ fs ++ more → BeginsWithRows form.table back more more_said stop →
          FollowsNone form.table back → ⊥
      row_behind back stop more more_said e (no_rows t) none = omega (arith, few, ap length e, length-append fs [])
      row_behind back stop more more_said e (more_rows f i fs2 rs2 t b r first others) none = none f i b first

      go : IsFull query form text (length fs) rest → ⊥
      go (of_rows e) = omega (arith, e, few, y.most)
      go (of_rest none) =
          let h = front_rows form.table text fs x.rows rest gs y.rows end x.begins y.begins (omega (arith, few)) in
          row_behind rest end h.more h.more_said h.records_are h.behind none
      go (of_next u) =
          let h = front_rows form.table text u.records u.rows u.rest gs y.rows end u.begins y.begins (omega (arith, few, u.number)) in
          not_unfit query form u.rows h.more_said (omega (arith, u.number, as_many_rows form.table text u.records u.rows u.rest u.begins)) other
          (subst (λ rs. IsRowsWritten query form.fixed.now rs other) h.rows_are y.is_written) y.fits u.unfit

  pub same_group : (text : List ℕ) (fs gs : List Fields) (rest end written other : List ℕ) → IsGroup query form text fs rest written →
      IsGroup query form text gs end other → (fs ≡ gs) × (rest ≡ end) × (written ≡ other)
  same_group text fs gs rest end written other x y =
      elim (cases_lt (length fs) (length gs)) [
        | inl few ↦ absurd (not_smaller text fs gs rest end written other x y few)
        | inr many ↦ elim (cases_lt (length gs) (length fs)) [
          | inl few ↦ absurd (not_smaller text gs fs end rest other written y x few)
          | inr as_many ↦
              let h = front_rows form.table text fs x.rows rest gs y.rows end x.begins y.begins as_many in
              let none : length h.more ≡ 0 = omega (arith, many, ap length h.records_are, length-append fs h.more) in
              let none_said : length h.more_said ≡ 0 = as_many_rows form.table rest h.more h.more_said end h.behind ∙ none in
              let rows_same : y.rows ≡ x.rows = h.rows_are ∙ (ap (λ z. x.rows ++ z) (nil_from_length h.more_said none_said) ∙ append-nil x.rows) in (
                sym (append-nil fs) ∙ (ap (λ z. fs ++ z) (sym (nil_from_length h.more none)) ∙ sym h.records_are),
                no_rows_read form.table rest h.more h.more_said end h.behind none_said,
                one_text query form x.rows written other (omega (arith, x.some, as_many_rows form.table text fs x.rows rest x.begins))
                    x.is_written.text_is (subst (λ rs. IsRowsText query form.fixed.now rs other) rows_same y.is_written.text_is),
              )
        ]
      ]

  -- as many groups are the same ones
  pub same_groups : (text : List ℕ) (gs : List (List Fields)) (xs : List (List ℕ)) (rest : List ℕ) (hs : List (List Fields)) (ys : List (List ℕ)) (end : List ℕ) →
      AreGroups query form text gs xs rest → AreGroups query form text hs ys end → length gs ≡ length hs → (gs ≡ hs) × (xs ≡ ys) × (rest ≡ end)
  same_groups text gs xs rest hs ys end (no_groups t) (no_groups u) n = (refl, refl, refl)
  same_groups text gs xs rest hs ys end (no_groups t) (more_groups r w hs2 ys2 u b e first others) n = absurd (omega (arith, n))
  same_groups text gs xs rest hs ys end (more_groups r w gs2 xs2 t b e first others) (no_groups u) n = absurd (omega (arith, n))
  same_groups text gs xs rest hs ys end (more_groups r w gs2 xs2 t b e first others) (more_groups q v hs2 ys2 u c d second after) n =
      let one = same_group text r q b c w v first second in
      let more = same_groups b gs2 xs2 e hs2 ys2 d others (subst (λ z. AreGroups query form z hs2 ys2 d) (sym one.1) after) (omega (arith, n)) in
      ((λ i. one.0 i ∷ more.0 i), (λ i. one.2 i ∷ more.1 i), more.2)

  no_group_at_end : (text : List ℕ) (fs : List Fields) (rest written : List ℕ) → IsGroup query form text fs rest written → text ≡ [] → ⊥
  no_group_at_end text fs rest written x empty = go text fs x.rows rest x.begins x.some empty
    where
      go : (back : List ℕ) (gs : List Fields) (rs : RowsSaid) (stop : List ℕ) → BeginsWithRows form.table back gs rs stop → 0 < length gs → back ≡ [] → ⊥
      go back gs rs stop (no_rows t) some empty = omega (arith, some)
      go back gs rs stop (more_rows f i fs2 rs2 t b r first others) some empty = first.begins.some empty

  -- the groups of a whole text are the same ones
  pub same_whole : (text : List ℕ) (gs : List (List Fields)) (xs : List (List ℕ)) (rest : List ℕ) (hs : List (List Fields)) (ys : List (List ℕ)) (end : List ℕ) →
      AreGroups query form text gs xs rest → AreGroups query form text hs ys end → rest ≡ [] → end ≡ [] → (gs ≡ hs) × (xs ≡ ys)
  same_whole text gs xs rest hs ys end (no_groups t) (no_groups u) a b = (refl, refl)
  same_whole text gs xs rest hs ys end (no_groups t) (more_groups r w hs2 ys2 u c e first others) a b = absurd (no_group_at_end text r c w first a)
  same_whole text gs xs rest hs ys end (more_groups r w gs2 xs2 t c e first others) (no_groups u) a b = absurd (no_group_at_end text r c w first b)
  same_whole text gs xs rest hs ys end (more_groups r w gs2 xs2 t k e first others) (more_groups q v hs2 ys2 u c d second after) a b =
      let one = same_group text r q k c w v first second in
      let more = same_whole k gs2 xs2 e hs2 ys2 d others (subst (λ z. AreGroups query form z hs2 ys2 d) (sym one.1) after) a b in
      ((λ i. one.0 i ∷ more.0 i), (λ i. one.2 i ∷ more.1 i))
