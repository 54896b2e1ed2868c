-- Values, names and numbers in the places of a query read as themselves in the text that is bound to
-- it, also within lists and rows.
use Rattle.std.specs.Prelude.{Bool, Ok, option_map, unwrap_or, codes, ⊤}
use Rattle.std.specs.Global.{Vec}
use Rattle.std.specs.List.{list_any}
use Rattle.std.proofs.Common.{◌≡◌, ◌+◌, ◌++◌, ◌&&◌, nat_eq, nat_le, ℕ, true, false, List, [], ◌∷◌, length, map, Some, None, arith, refl, sym, ap, ◌∙◌, subst, append_assoc, append-nil, true≢false}
use Rattle.std.proofs.lemmas.Bool.{and_parts}
use Rattle.std.proofs.lemmas.List.{length-map}
use Rattle.mysql_values.specs.declared.value.Value.{Value}
use Rattle.mysql_sql_text.specs.StringUnits.{with_backslashes}
use Rattle.mysql_values.specs.Literal.{is_float, literal_of}
use Rattle.mysql_value_core.proofs.LiteralLemmas.{is_none-literal_of}
use Rattle.mysql_named_params.specs.Tokens.{Token, text_of, bytes_of, QuotedString, QuotedIdentifier, HashComment, DashComment, BlockComment, Name, Mark, Plain}
use Rattle.mysql_named_params.specs.Places.{names, place_count}
use Rattle.mysql_params_core.specs.Given.{positional}
use Rattle.mysql_params_core.specs.Lookup.{lookup}
use Rattle.mysql_float_literal.specs.DoubleText.{double_text}
use Rattle.mysql_float_literal.specs.declared.double.Double.{Double}
use Rattle.mysql_float_literal.proofs.DoubleValueLemmas.{double_reads}
use Rattle.mysql_binding.specs.LiteralForm.{LackFloats, Literals, written_literal}
use Rattle.mysql_binding.specs.Pieces.{pieces, pieces_from, joined_text}
use Rattle.mysql_binding.specs.Replaced.{with_literal_tokens}
use Rattle.mysql_binding.specs.StandsAlone.{may_stand_before, may_stand_after, none_or_first, none_or_last, first_not_alone_from}
use Rattle.mysql_binding.proofs.BoundText.{bound}
use Rattle.mysql_binding.proofs.CauseLemmas.{or_none, map_none}
use Rattle.mysql_binding.proofs.ContentsLemmas.{alone_parts}
use Rattle.mysql_binding.proofs.PieceLemmas.{joined_text_is, joined_text-pieces_from}
use Rattle.mysql_binding.proofs.ValueLiteralLemmas.{has_literal}
use Rattle.mysql_steady_text.specs.GuardedLiteral.{guarded_literal_of}
use Rattle.mysql_steady_text.specs.SteadyLiteral.{steady_literal_of}
use Rattle.mysql_steady_text.proofs.GuardedLiteralLemmas.{guarded_float}
use Rattle.mysql_steady_text.proofs.SteadyLiteralLemmas.{steady_float}
use Rattle.mysql_fragments.specs.Expanded.{IsBoundFragments, IsExpanded}
use Rattle.mysql_fragments.specs.FragmentErrors.{first_fault_from, first_float_from, has_float, is_float_item}
use Rattle.mysql_fragments.specs.FragmentFaults.{assignment_fault, assignments_fault, assignments_fault_from, columns_fault, columns_fault_from, digit_count, fault_of, is_decimal, item_fault, items_fault, list_fault, names_fault, number_after, number_fault, row_fault, rows_fault, rows_fault_from}
use Rattle.mysql_fragments.specs.FragmentsInPlace.{ReadsAsNumber, ReadsAsDouble, ItemReadsAsItself, AreReadAsItems, read_last_item, read_more_items, AreReadAsRows, read_last_row, read_more_rows, AreReadAsColumns, read_last_column, read_more_columns, IsReadAsAssignment, AreReadAsAssignments, read_last_assignment, read_more_assignments, ReadsAsItself, ReadAsThemselves}
use Rattle.mysql_fragments.specs.FragmentText.{all_values, columns_text, filled_assignment, filled_assignments, filled_item, filled_items, filled_row, filled_text, identifier_text, joined, qualified_text}
use Rattle.mysql_fragments.specs.GivenFragments.{GivenFragments}
use Rattle.mysql_fragments.specs.GuardedFragments.{IsGuardedFragments}
use Rattle.mysql_fragments.specs.SteadyFragments.{IsSteadyFragments}
use Rattle.mysql_fragments.specs.ReadFragment.{AreReadAsNames, read_exact}
use Rattle.mysql_fragments.specs.declared.fragment.ColumnAssignment.{ColumnAssignment}
use Rattle.mysql_fragments.specs.declared.fragment.Item.{Item}
use Rattle.mysql_fragments.specs.declared.fragment.Item.TheVariants as item
use Rattle.mysql_fragments.specs.declared.fragment.Fragment.{Fragment}
use Rattle.mysql_fragments.specs.declared.fragment.Fragment.TheVariants as one
use Rattle.mysql_fragments.proofs.CauseLemmas.{if_none, or_false}
use Rattle.mysql_fragments.proofs.ExpandedLemmas.{expanded_alone, expanded_nameless, expanded_parts}
use Rattle.mysql_fragments.proofs.FilledLemmas.{filled_bound}
use Rattle.mysql_fragments.proofs.ReadFragmentLemmas.{decimal_back, identifier_read, names_read, no_backquote, no_digit}
use Rattle.mysql_fragments.proofs.ShapeLemmas.{if_fault, if_row}

module _ (literal : Literals) (lack : LackFloats literal) where
  -- the literal of a value
  abbrev write : Value → List ℕ
  write = written_literal literal

  value_written : (value : Value) → is_float value ≡ false → literal value ≡ Some (write value)
  value_written value e = has_literal literal lack value e

  -- ---- items

  number_reads : (row index : ℕ) (number rest : List ℕ) → number_fault row index number ≡ None → none_or_first may_stand_after rest ≡ true →
      ReadsAsNumber number number rest
  number_reads row index number rest f h =
      let is = (and_parts (is_decimal number) (nat_le (digit_count number) 65) (if_fault (is_decimal number && nat_le (digit_count number) 65) _ f)).0 in
      let r = decimal_back number is in
      (r.0, ap read_exact (sym (append-nil number)) ∙ r.1 [] refl, r.1 rest h)

  double_reads_before : (double : Double) (rest : List ℕ) → none_or_first may_stand_after rest ≡ true → ReadsAsDouble double (double_text double) rest
  double_reads_before double rest h = double_reads double rest (no_digit rest h)

  item_reads : (row index : ℕ) (x : Item) (rest : List ℕ) → item_fault row index x ≡ None → is_float_item x ≡ false → none_or_first may_stand_after rest ≡ true →
      ItemReadsAsItself literal x (filled_item write x) rest
  item_reads row index (item.Value value) rest f n h = value_written value n
  item_reads row index (item.Decimal number) rest f n h = number_reads row index number.items rest f h
  item_reads row index (item.Double double) rest f n h = double_reads_before double rest h

  items_read : (row index : ℕ) (x : Item) (items : List Item) (rest : List ℕ) → items_fault row index (x ∷ items) ≡ None →
      list_any is_float_item (x ∷ items) ≡ false → none_or_first may_stand_after rest ≡ true →
      AreReadAsItems literal (filled_items write (x ∷ items) ++ rest) (x ∷ items) rest
  items_read row index x [] rest f n h =
      let p = or_none (item_fault row index x) (items_fault row (index + 1) []) f in
      let q = or_false (is_float_item x) (list_any is_float_item []) n in
      subst (λ z. AreReadAsItems literal (z ++ rest) (x ∷ []) rest) (sym (append-nil (filled_item write x)))
      (read_last_item (filled_item write x) x rest (item_reads row index x rest p.0 q.0 h))
  items_read row index x (y ∷ items) rest f n h =
      let p = or_none (item_fault row index x) (items_fault row (index + 1) (y ∷ items)) f in
      let q = or_false (is_float_item x) (list_any is_float_item (y ∷ items)) n in
      let after : List ℕ = filled_items write (y ∷ items) in
      subst (λ z. AreReadAsItems literal z (x ∷ y ∷ items) rest) (sym (append_assoc (filled_item write x) (codes ", " ++ after) rest))
      (read_more_items (filled_item write x) x (after ++ rest) (y ∷ items) rest (item_reads row index x (codes ", " ++ (after ++ rest)) p.0 q.0 refl)
      (items_read row (index + 1) y items rest p.1 q.1 h))

  -- ---- rows

  row_reads : (width row : ℕ) (items : List Item) (rest : List ℕ) → row_fault width row items ≡ None → list_any is_float_item items ≡ false →
      none_or_first may_stand_after rest ≡ true → AreReadAsItems literal (filled_items write items ++ rest) items rest
  row_reads width row [] rest f n h = cc
  row_reads width row (x ∷ items) rest f n h = items_read row 0 x items rest (if_row (nat_eq (length (x ∷ items)) width) _ _ f) n h

  abbrev has_float_row : Vec Item → Bool
  has_float_row row = list_any is_float_item row.items

  rows_read : (width row : ℕ) (x : Vec Item) (rows : List (Vec Item)) (rest : List ℕ) → rows_fault_from width row (x ∷ rows) ≡ None →
      list_any has_float_row (x ∷ rows) ≡ false →
      AreReadAsRows literal (joined (codes ", ") (map (filled_row write) (x ∷ rows)) ++ rest) (x ∷ rows) rest
  rows_read width row x [] rest f n =
      let p = or_none (row_fault width row x.items) (rows_fault_from width (row + 1) []) f in
      let q = or_false (has_float_row x) (list_any has_float_row []) n in
      let inner : List ℕ = filled_items write x.items in
      let cut : (filled_row write x ++ []) ++ rest ≡ codes "(" ++ (inner ++ (codes ")" ++ rest)) =
      ap (λ z. z ++ rest) (append-nil (filled_row write x)) ∙ ap (λ z. codes "(" ++ z) (append_assoc inner (codes ")") rest) in
      subst (λ z. AreReadAsRows literal z (x ∷ []) rest) (sym cut)
      (read_last_row (inner ++ (codes ")" ++ rest)) x rest (row_reads width row x.items (codes ")" ++ rest) p.0 q.0 refl))
  rows_read width row x (y ∷ rows) rest f n =
      let p = or_none (row_fault width row x.items) (rows_fault_from width (row + 1) (y ∷ rows)) f in
      let q = or_false (has_float_row x) (list_any has_float_row (y ∷ rows)) n in
      let inner : List ℕ = filled_items write x.items in
      let after : List ℕ = joined (codes ", ") (map (filled_row write) (y ∷ rows)) in
      let cut : (filled_row write x ++ (codes ", " ++ after)) ++ rest ≡ codes "(" ++ (inner ++ (codes "), " ++ (after ++ rest))) =
      append_assoc (filled_row write x) (codes ", " ++ after) rest ∙ ap (λ z. codes "(" ++ z) (append_assoc inner (codes ")") (codes ", " ++ (after ++ rest))) in
      subst (λ z. AreReadAsRows literal z (x ∷ y ∷ rows) rest) (sym cut)
      (read_more_rows (inner ++ (codes "), " ++ (after ++ rest))) x (after ++ rest) (y ∷ rows) rest (row_reads width row x.items (codes "), " ++ (after ++ rest)) p.0 q.0 refl)
      (rows_read width (row + 1) y rows rest p.1 q.1))

  -- ---- columns

  same_names : (names : List (Vec ℕ)) → map (λ name. identifier_text name.items) names ≡ map identifier_text (map (λ name. name.items) names)
  same_names [] = refl
  same_names (name ∷ names) = ap (λ z. identifier_text name.items ∷ z) (same_names names)

  column_reads : (part : ℕ) (names : List (Vec ℕ)) (rest : List ℕ) → names_fault part names ≡ None → none_or_first may_stand_after rest ≡ true →
      AreReadAsNames (qualified_text names ++ rest) (map (λ name. name.items) names) rest
  column_reads part [] rest f h = cc
  column_reads part (name ∷ names) rest f h =
      subst (λ z. AreReadAsNames (z ++ rest) (name.items ∷ map (λ name. name.items) names) rest)
      (sym (ap (joined (codes ".")) (same_names (name ∷ names))))
      (names_read name.items (map (λ name. name.items) names) rest h)

  columns_read : (part : ℕ) (x : Vec (Vec ℕ)) (columns : List (Vec (Vec ℕ))) (rest : List ℕ) → columns_fault_from part (x ∷ columns) ≡ None →
      none_or_first may_stand_after rest ≡ true → AreReadAsColumns (columns_text (x ∷ columns) ++ rest) (x ∷ columns) rest
  columns_read part x [] rest f h =
      let p = or_none (names_fault part x.items) (columns_fault_from (number_after part (length x.items)) []) f in
      subst (λ z. AreReadAsColumns (z ++ rest) (x ∷ []) rest) (sym (append-nil (qualified_text x.items)))
      (read_last_column (qualified_text x.items ++ rest) x rest (column_reads part x.items rest p.0 h))
  columns_read part x (y ∷ columns) rest f h =
      let p = or_none (names_fault part x.items) (columns_fault_from (number_after part (length x.items)) (y ∷ columns)) f in
      let after : List ℕ = columns_text (y ∷ columns) in
      subst (λ z. AreReadAsColumns z (x ∷ y ∷ columns) rest) (sym (append_assoc (qualified_text x.items) (codes ", " ++ after) rest))
      (read_more_columns (qualified_text x.items ++ (codes ", " ++ (after ++ rest))) x (after ++ rest) (y ∷ columns) rest
      (column_reads part x.items (codes ", " ++ (after ++ rest)) p.0 refl) (columns_read (number_after part (length x.items)) y columns rest p.1 h))

  -- ---- assignments

  assignment_reads : (part index : ℕ) (x : ColumnAssignment) (rest : List ℕ) → assignment_fault part index x ≡ None → is_float_item x.item ≡ false →
      none_or_first may_stand_after rest ≡ true → IsReadAsAssignment literal (filled_assignment write x ++ rest) x rest
  assignment_reads part index x rest f n h =
      let p = or_none (names_fault part x.column.items) (item_fault 0 index x.item) f in
      let column : List ℕ = qualified_text x.column.items in
      let said : List ℕ = filled_item write x.item in
      record {
        item = said;
        column_read =
            subst (λ z. AreReadAsNames z (map (λ name. name.items) x.column.items) (codes " = " ++ (said ++ rest))) (sym (append_assoc column (codes " = " ++ said) rest))
            (column_reads part x.column.items (codes " = " ++ (said ++ rest)) p.0 refl);
        item_read = item_reads 0 index x.item rest p.1 n h;
      }

  abbrev has_float_assignment : ColumnAssignment → Bool
  has_float_assignment x = is_float_item x.item

  assignments_read : (part index : ℕ) (x : ColumnAssignment) (xs : List ColumnAssignment) (rest : List ℕ) → assignments_fault_from part index (x ∷ xs) ≡ None →
      list_any has_float_assignment (x ∷ xs) ≡ false → none_or_first may_stand_after rest ≡ true →
      AreReadAsAssignments literal (filled_assignments write (x ∷ xs) ++ rest) (x ∷ xs) rest
  assignments_read part index x [] rest f n h =
      let p = or_none (assignment_fault part index x) (assignments_fault_from (number_after part (length x.column.items)) (index + 1) []) f in
      let q = or_false (has_float_assignment x) (list_any has_float_assignment []) n in
      subst (λ z. AreReadAsAssignments literal (z ++ rest) (x ∷ []) rest) (sym (append-nil (filled_assignment write x)))
      (read_last_assignment (filled_assignment write x ++ rest) x rest (assignment_reads part index x rest p.0 q.0 h))
  assignments_read part index x (y ∷ xs) rest f n h =
      let p = or_none (assignment_fault part index x) (assignments_fault_from (number_after part (length x.column.items)) (index + 1) (y ∷ xs)) f in
      let q = or_false (has_float_assignment x) (list_any has_float_assignment (y ∷ xs)) n in
      let after : List ℕ = filled_assignments write (y ∷ xs) in
      subst (λ z. AreReadAsAssignments literal z (x ∷ y ∷ xs) rest) (sym (append_assoc (filled_assignment write x) (codes ", " ++ after) rest))
      (read_more_assignments (filled_assignment write x ++ (codes ", " ++ (after ++ rest))) x (after ++ rest) (y ∷ xs) rest
      (assignment_reads part index x (codes ", " ++ (after ++ rest)) p.0 q.0 refl)
      (assignments_read (number_after part (length x.column.items)) (index + 1) y xs rest p.1 q.1 h))

  -- ---- each fragment

  -- before any text that may follow a place
  Reads : Fragment → Type 0
  Reads fragment = (rest : List ℕ) → none_or_first may_stand_after rest ≡ true → ReadsAsItself literal fragment (filled_text write fragment) rest

  one_reads : (fragment : Fragment) → fault_of fragment ≡ None → has_float fragment ≡ false → Reads fragment
  unfolding Reads
  one_reads (one.Value value) f n rest h = value_written value n
  one_reads (one.Decimal number) f n rest h = number_reads 0 0 number.items rest f h
  one_reads (one.Double double) f n rest h = double_reads_before double rest h
  one_reads (one.List items) f n rest h = go items.items f n
    where
      go : (items : List Item) → list_fault items ≡ None → list_any is_float_item items ≡ false → AreReadAsItems literal (filled_items write items ++ rest) items rest
      go [] f n = cc
      go (x ∷ items) f n = items_read 0 0 x items rest f n h
  one_reads (one.Rows rows) f n rest h = go rows.items f n
    where
      go : (rows : List (Vec Item)) → rows_fault rows ≡ None → list_any has_float_row rows ≡ false →
          AreReadAsRows literal (joined (codes ", ") (map (filled_row write) rows) ++ rest) rows rest
      go [] f n = cc
      go (row ∷ rows) f n = rows_read (length row.items) 0 row rows rest f n
  one_reads (one.Identifier name) f n rest h = identifier_read name.items rest (no_backquote rest h)
  one_reads (one.Qualified names) f n rest h = column_reads 0 names.items rest f h
  one_reads (one.Keyword keyword) f n rest h = refl
  one_reads (one.Identifiers columns) f n rest h = go columns.items f
    where
      go : (columns : List (Vec (Vec ℕ))) → columns_fault columns ≡ None → AreReadAsColumns (columns_text columns ++ rest) columns rest
      go [] f = cc
      go (x ∷ columns) f = columns_read 0 x columns rest f h
  one_reads (one.Assignments assignments) f n rest h = go assignments.items f n
    where
      go : (xs : List ColumnAssignment) → assignments_fault xs ≡ None → list_any has_float_assignment xs ≡ false →
          AreReadAsAssignments literal (filled_assignments write xs ++ rest) xs rest
      go [] f n = cc
      go (x ∷ xs) f n = assignments_read 0 0 x xs rest f n h

  AllRead : List Fragment → Type 0
  AllRead [] = ⊤
  AllRead (fragment ∷ fragments) = Reads fragment × AllRead fragments

  all_read : (place : ℕ) (fragments : List Fragment) → first_fault_from place fragments ≡ None → first_float_from place fragments ≡ None → AllRead fragments
  unfolding AllRead
  all_read place [] f n = tt
  all_read place (fragment ∷ fragments) f n =
      let o = or_none (option_map (λ fault. (place, fault)) (fault_of fragment)) (first_fault_from (place + 1) fragments) f in
      let p = if_none (has_float fragment) place _ n in
      (one_reads fragment (map_none _ (fault_of fragment) o.0) p.0, all_read (place + 1) fragments o.1 p.1)

  -- ---- in the places

  follows : (ts : List Token) (texts : List (List ℕ)) → none_or_first may_stand_after (text_of ts) ≡ true →
      none_or_first may_stand_after (bound ts texts) ≡ true
  follows [] texts h = refl
  follows (QuotedString quote tail ∷ ts) texts h = h
  follows (QuotedIdentifier tail ∷ ts) texts h = h
  follows (HashComment tail ∷ ts) texts h = h
  follows (DashComment gap tail ∷ ts) texts h = h
  follows (BlockComment tail ∷ ts) texts h = h
  follows (Name name ∷ ts) texts h = absurd (true≢false (sym h))
  follows (Mark ∷ ts) texts h = absurd (true≢false (sym h))
  follows (Plain b ∷ ts) texts h = h

  -- the texts of fragments
  abbrev texts_of : List Fragment → List (List ℕ)
  texts_of = map (filled_text write)

  count : (ts : List Token) (fragments : List Fragment) → length fragments ≡ place_count ts → length (texts_of fragments) ≡ place_count ts
  count ts fragments l = length-map fragments (filled_text write) ∙ l

  placed_more : (ts : List Token) (piece : List ℕ) (fragment : Fragment) (fragments : List Fragment) →
      Reads fragment → none_or_first may_stand_after (text_of ts) ≡ true → length fragments ≡ place_count ts →
      ReadAsThemselves literal (pieces_from [] ts) fragments (texts_of fragments) →
      ReadAsThemselves literal (piece ∷ pieces_from [] ts) (fragment ∷ fragments) (texts_of (fragment ∷ fragments))
  unfolding Reads
  placed_more ts piece fragment fragments r h l more =
      let texts = texts_of fragments in
      ((bound ts texts, joined_text-pieces_from [] ts texts (count ts fragments l), r (bound ts texts) (follows ts texts h)), more)

  placed : (ts : List Token) (place : ℕ) (before piece : List ℕ) (fragments : List Fragment) →
      first_not_alone_from place before ts ≡ None → AllRead fragments → length fragments ≡ place_count ts →
      ReadAsThemselves literal (pieces_from piece ts) fragments (texts_of fragments)
  unfolding AllRead
  placed [] place before piece [] a r l = tt
  placed [] place before piece (fragment ∷ fragments) a r l = absurd (omega (arith, l))
  placed (Name name ∷ ts) place before piece [] a r l = absurd (omega (arith, l))
  placed (Name name ∷ ts) place before piece (fragment ∷ fragments) a r l =
      let same : length fragments ≡ place_count ts = omega (arith, l) in
      let p = alone_parts _ _ _ a in
      placed_more ts piece fragment fragments r.0 (and_parts (none_or_last may_stand_before before) _ p.0).1 same
      (placed ts (place + 1) (before ++ bytes_of (Name name)) [] fragments p.1 r.1 same)
  placed (Mark ∷ ts) place before piece [] a r l = absurd (omega (arith, l))
  placed (Mark ∷ ts) place before piece (fragment ∷ fragments) a r l =
      let same : length fragments ≡ place_count ts = omega (arith, l) in
      let p = alone_parts _ _ _ a in
      placed_more ts piece fragment fragments r.0 (and_parts (none_or_last may_stand_before before) _ p.0).1 same
      (placed ts (place + 1) (before ++ bytes_of Mark) [] fragments p.1 r.1 same)
  placed (t ∷ ts) place before piece fragments a r l = placed ts place (before ++ bytes_of t) (piece ++ bytes_of t) fragments a r l

  -- the literals of values are the texts that are written for them
  literals_written : (values : List Value) (literals : List (List ℕ)) → map literal values ≡ map Some literals → literals ≡ map write values
  literals_written [] [] e = refl
  literals_written [] (text ∷ literals) e = cc
  literals_written (value ∷ values) [] e = cc
  literals_written (value ∷ values) (text ∷ literals) e =
      let first : literal value ≡ Some text = cc in
      let later : map literal values ≡ map Some literals = cc in
      let same : text ≡ write value = sym (ap (λ o. unwrap_or o []) first) in
      let more = literals_written values literals later in cc

  -- in the text of the expanded query and literals of its values
  module _ (mode : Bool) (ts : List Token) (given : GivenFragments) (query text : List ℕ) (x : IsExpanded true mode ts given query)
      (values : List Value) (literals : List (List ℕ)) (looked_up : lookup (positional (all_values x.fragments)) (names (with_literal_tokens ts x.lists)) ≡ Ok values)
      (written : map literal values ≡ map Some literals) (is : joined_text (pieces (with_literal_tokens ts x.lists)) literals ≡ Some text) where
    -- the values are those of the fragments
    pub values_filled : values ≡ all_values x.fragments
    values_filled =
        let none : names (with_literal_tokens ts x.lists) ≡ [] = expanded_nameless true mode ts given query x in
        let found : Ok (all_values x.fragments) ≡ Ok values = sym (ap (lookup (positional (all_values x.fragments))) none) ∙ looked_up in
        cc

    -- between the pieces of the query
    pub text_filled : joined_text (pieces ts) (map (filled_text write) x.fragments) ≡ Some text
    text_filled =
        let us : List Token = with_literal_tokens ts x.lists in
        let parts = expanded_parts true mode ts given query x in
        let literals_are : literals ≡ map write (all_values x.fragments) = literals_written values literals written ∙ ap (map write) values_filled in
        let text_is : text ≡ bound ts (texts_of x.fragments) =
        joined_text_is us literals text is
        ∙ (ap (bound us) literals_are ∙ filled_bound mode write 0 ts x.fragments x.lists parts.2 x.tokens_of_fragments parts.0) in
        joined_text-pieces_from [] ts (texts_of x.fragments) (count ts x.fragments parts.0) ∙ ap Some (sym text_is)

    pub in_places : (texts : List (List ℕ)) × (joined_text (pieces ts) texts ≡ Some text) × ReadAsThemselves literal (pieces ts) x.fragments texts
    in_places =
        let parts = expanded_parts true mode ts given query x in (
          texts_of x.fragments,
          text_filled,
          placed ts 0 [] [] x.fragments (expanded_alone true mode ts given query x) (all_read 0 x.fragments parts.2 parts.1) parts.0,
        )

-- ---- in each form of literals

pub read_as_themselves : (mode : Bool) (ts : List Token) (given : GivenFragments) (text : List ℕ) → (b : IsBoundFragments mode ts given text) →
    (texts : List (List ℕ)) × (joined_text (pieces ts) texts ≡ Some text) × ReadAsThemselves (literal_of mode) (pieces ts) b.expanded.fragments texts
read_as_themselves mode ts given text b =
    in_places (literal_of mode) (is_none-literal_of mode) mode ts given b.query text b.expanded b.bound.values b.bound.literals b.bound.looked_up b.bound.written b.bound.text_is

pub steady_as_themselves : (ts : List Token) (given : GivenFragments) (text : List ℕ) → (b : IsSteadyFragments ts given text) →
    (texts : List (List ℕ)) × (joined_text (pieces ts) texts ≡ Some text) × ReadAsThemselves steady_literal_of (pieces ts) b.expanded.fragments texts
steady_as_themselves ts given text b =
    in_places steady_literal_of steady_float with_backslashes ts given b.query text b.expanded b.bound.values b.bound.literals b.bound.looked_up b.bound.written b.bound.text_is

pub guarded_as_themselves : (mode : Bool) (ts : List Token) (given : GivenFragments) (text : List ℕ) → (b : IsGuardedFragments mode ts given text) →
    (texts : List (List ℕ)) × (joined_text (pieces ts) texts ≡ Some text) × ReadAsThemselves (guarded_literal_of mode) (pieces ts) b.expanded.fragments texts
guarded_as_themselves mode ts given text b =
    in_places (guarded_literal_of mode) (guarded_float mode) with_backslashes ts given b.query text b.expanded b.bound.values b.bound.literals b.bound.looked_up b.bound.written b.bound.text_is
