-- The text that is written at once, with literals in place of the values of fragments, is the one that
-- binding gives for the expanded query and these values.
use Rattle.std.specs.Prelude.{Bool, codes, Ok, Option, option_map, IfSome, ⊤}
use Rattle.std.specs.List.{flat_map}
use Rattle.std.specs.Global.{Vec}
use Rattle.std.specs.Str.{byte}
use Rattle.std.proofs.Common.{◌≡◌, ◌+◌, ◌++◌, ◌<◌, ◌≤◌, ℕ, All, true, List, [], ◌∷◌, length, map, take, take_all, get_or, Some, None, arith, refl, sym, ap, ◌∙◌, subst, append_assoc, append-nil, length-append}
use Rattle.std.proofs.lemmas.List.{length-map, map-append, take_more}
use Rattle.std.proofs.lemmas.List.Elements.{All-nil, All-cons}
use Rattle.mysql_values.specs.declared.value.Value.{Value}
use Rattle.mysql_values.specs.Value.{FieldsInRange}
use Rattle.mysql_values.specs.Literal.{literal_of}
use Rattle.mysql_named_params.specs.Tokens.{Token, IsTokens, bytes_of, Name, Mark, Plain}
use Rattle.mysql_named_params.specs.Places.{names, marks, place_count}
use Rattle.mysql_named_params.specs.Reading.{OnTokensIn, grammar_reading}
use Rattle.mysql_named_params.specs.WideNames.{IsWideName}
use Rattle.mysql_named_params.specs.declared.places.Reading.{Reading}
use Rattle.mysql_named_params.proofs.ReadingLemmas.{one_reading}
use Rattle.mysql_named_params.proofs.ReparsedLemmas.{names_in_reading}
use Rattle.mysql_named_params.proofs.TokenListLemmas.{one_token_list}
use Rattle.mysql_named_params.proofs.TokenRowLemmas.{place_count-sum}
use Rattle.mysql_params_core.specs.Given.{positional}
use Rattle.mysql_params_core.specs.Lookup.{lookup}
use Rattle.mysql_binding.specs.FirstCause as bound_cause
use Rattle.mysql_binding.specs.LiteralForm.{Literals, LiteralFacts, LackFloats, AreWrittenAs, IsPlainLiteral, written_literal}
use Rattle.mysql_binding.specs.MeasuredText.{IsOfFields}
use Rattle.mysql_binding.specs.Pieces.{pieces, joined_text}
use Rattle.mysql_binding.specs.PushedLiteral.{AreKnownUnlessFloats}
use Rattle.mysql_binding.specs.Replaced.{AreTokensOf, with_literal_tokens}
use Rattle.mysql_binding.specs.WrittenText.{IsGivenText}
use Rattle.mysql_binding.proofs.BoundText.{bound}
use Rattle.mysql_binding.proofs.BoundTextLemmas.{is_bound_text}
use Rattle.mysql_binding.proofs.CauseLemmas.{or_none, map_none}
use Rattle.mysql_binding.proofs.PieceLemmas.{bound_none, joined_text-pieces_from, joined_text_is}
use Rattle.mysql_binding.proofs.ValueLiteralLemmas.{none_step, has_literal}
use Rattle.mysql_fragments.specs.Expanded.{IsBoundFragments, IsExpanded}
use Rattle.mysql_fragments.specs.FilledText.{ArePlaced, IsFilledQuery}
use Rattle.mysql_fragments.specs.FragmentErrors.{first_fault_from}
use Rattle.mysql_fragments.specs.FragmentFaults.{assignment_fault, assignments_fault, assignments_fault_from, fault_of, item_fault, items_fault, list_fault, names_fault, number_after, row_fault, rows_fault, rows_fault_from}
use Rattle.mysql_fragments.specs.FragmentShape.{IsFragment, IsIdentifier, identifier_fragment}
use Rattle.mysql_fragments.specs.FragmentText.{all_values, assignment_text, assignment_values, filled_assignment, filled_assignments, filled_item, filled_items, filled_row, filled_text, fragment_text, fragment_values, item_text, item_values, items_text, joined, mark, row_text}
use Rattle.mysql_fragments.specs.GivenFragments.{GivenFragments}
use Rattle.mysql_fragments.specs.declared.fragment.ColumnAssignment.{ColumnAssignment}
use Rattle.mysql_fragments.specs.declared.fragment.Item.{Item}
use Rattle.mysql_fragments.specs.declared.fragment.Item.TheVariants as item
use Rattle.mysql_fragments.specs.declared.fragment.Fragment.{Fragment}
use Rattle.mysql_fragments.specs.declared.fragment.Fragment.TheVariants as one
use Rattle.mysql_fragments.proofs.ExpandedLemmas.{expanded_parts, expanded_nameless, expanded_marks, is_expanded, no_cause_expanded}
use Rattle.mysql_fragments.proofs.FragmentLemmas.{assignment_list, comma_then, equals_then, fragment_list_of, in_brackets, list_list, row_list}
use Rattle.mysql_fragments.proofs.FragmentListLemmas.{IsFragmentList, mark_list}
use Rattle.mysql_fragments.proofs.ShapeLemmas.{fragment_shape, if_row, item_shape, names_shape, number_shape}
use Rattle.mysql_float_literal.specs.DoubleText.{double_text}
use Rattle.mysql_fragments.proofs.CauseLemmas.{no_first_float}
use Rattle.mysql_fragments.proofs.TextLemmas.{flat_map_more}

-- ---- the tokens of one fragment

-- texts in the places of tokens and of those after them
bound-append : (us vs : List Token) (ls ms : List (List ℕ)) → place_count us ≡ length ls →
    bound (us ++ vs) (ls ++ ms) ≡ bound us ls ++ bound vs ms
bound-append [] vs [] ms e = refl
bound-append [] vs (l ∷ ls) ms e = absurd (omega (arith, e))
bound-append (Name name ∷ us) vs [] ms e = absurd (omega (arith, e))
bound-append (Name name ∷ us) vs (l ∷ ls) ms e =
    ap (λ u. l ++ u) (bound-append us vs ls ms (omega (arith, e))) ∙ sym (append_assoc l (bound us ls) (bound vs ms))
bound-append (Mark ∷ us) vs [] ms e = absurd (omega (arith, e))
bound-append (Mark ∷ us) vs (l ∷ ls) ms e =
    ap (λ u. l ++ u) (bound-append us vs ls ms (omega (arith, e))) ∙ sym (append_assoc l (bound us ls) (bound vs ms))
bound-append (t ∷ us) vs ls ms e =
    ap (λ u. bytes_of t ++ u) (bound-append us vs ls ms e) ∙ sym (append_assoc (bytes_of t) (bound us ls) (bound vs ms))

list_places : (mode : Bool) (n : ℕ) (text : List ℕ) (list : List Token) → IsFragmentList mode n text list → place_count list ≡ n
list_places mode n text list f = omega (arith, place_count-sum list, ap length f.list_names, f.list_marks)

-- the first text has the shape of a fragment, and is the second with these texts of values in place of its marks
pub data Fills (mode : Bool) (write : Value → List ℕ) : List ℕ → List Value → List ℕ → Type 0 where
  fills_mark : (v : Value) → Fills mode write (codes "?") (v ∷ []) (write v)
  fills_plain : (text : List ℕ) → IsFragment mode 0 text → Fills mode write text [] text
  fills_list : (a : List ℕ) (vs : List Value) (x b : List ℕ) (us : List Value) (y : List ℕ) → Fills mode write a vs x →
      Fills mode write b us y → Fills mode write (a ++ (codes ", " ++ b)) (vs ++ us) (x ++ (codes ", " ++ y))
  fills_row : (a : List ℕ) (vs : List Value) (x : List ℕ) → Fills mode write a vs x →
      Fills mode write (codes "(" ++ (a ++ codes ")")) vs (codes "(" ++ (x ++ codes ")"))
  fills_assignment : (column a : List ℕ) (vs : List Value) (x : List ℕ) → IsIdentifier column → Fills mode write a vs x →
      Fills mode write (column ++ (codes " = " ++ a)) vs (column ++ (codes " = " ++ x))

module _ (mode : Bool) (write : Value → List ℕ) where
  -- its tokens, and the texts in place of their marks
  filled_list : {text : List ℕ} {vs : List Value} {x : List ℕ} → Fills mode write text vs x →
      (list : List Token) × IsFragmentList mode (length vs) text list × (bound list (map write vs) ≡ x)
  filled_list (fills_mark v) = (Mark ∷ [], mark_list mode, append-nil (write v))
  filled_list (fills_plain text h) =
      let f = fragment_list_of mode h in
      (f.0, f.1, bound_none f.0 (list_places mode 0 text f.0 f.1) ∙ f.1.list_text)
  filled_list (fills_list a vs x b us y p q) =
      let f = filled_list p in
      let g = filled_list q in
      let many : place_count f.0 ≡ length (map write vs) = list_places mode (length vs) a f.0 f.1 ∙ sym (length-map vs write) in (
        f.0 ++ comma_then g.0,
        subst (λ n. IsFragmentList mode n (a ++ (codes ", " ++ b)) (f.0 ++ comma_then g.0)) (sym (length-append vs us))
            (list_list mode (length vs) (length us) a b f.0 g.0 f.1 g.1),
        ap (bound (f.0 ++ comma_then g.0)) (map-append write vs us)
            ∙ (bound-append f.0 (comma_then g.0) (map write vs) (map write us) many
            ∙ (ap (λ z. z ++ bound (comma_then g.0) (map write us)) f.2 ∙ ap (λ z. x ++ (codes ", " ++ z)) g.2)),
      )
  filled_list (fills_row a vs x p) =
      let f = filled_list p in
      let many : place_count f.0 ≡ length (map write vs) = list_places mode (length vs) a f.0 f.1 ∙ sym (length-map vs write) in
      let close : List Token = Plain (byte ")") ∷ [] in (
        in_brackets f.0,
        row_list mode (length vs) a f.0 f.1,
        ap (λ z. codes "(" ++ z) (
            ap (bound (f.0 ++ close)) (sym (append-nil (map write vs)))
            ∙ (bound-append f.0 close (map write vs) [] many ∙ ap (λ z. z ++ codes ")") f.2)
            ),
      )
  filled_list (fills_assignment column a vs x c p) =
      let front = fragment_list_of mode (identifier_fragment column c) in
      let f = filled_list p in
      let none : place_count front.0 ≡ 0 = list_places mode 0 column front.0 front.1 in (
        front.0 ++ equals_then f.0,
        assignment_list mode (length vs) column a front.0 f.0 front.1 f.1,
        bound-append front.0 (equals_then f.0) [] (map write vs) none
            ∙ (ap (λ z. z ++ bound (equals_then f.0) (map write vs)) (bound_none front.0 none ∙ front.1.list_text) ∙ ap (λ z. column ++ (codes " = " ++ z)) f.2),
      )

  -- ---- fragments without a fault

  AllFill : {X : Type 0} → (X → List ℕ) → (X → List Value) → (X → List ℕ) → List X → Type 0
  AllFill text values filled [] = ⊤
  AllFill text values filled (x ∷ xs) = Fills mode write (text x) (values x) (filled x) × AllFill text values filled xs

  joined_fills : {X : Type 0} (text : X → List ℕ) (values : X → List Value) (filled : X → List ℕ) (x : X) (xs : List X) →
      AllFill text values filled (x ∷ xs) →
      Fills mode write (joined (codes ", ") (map text (x ∷ xs))) (flat_map values (x ∷ xs)) (joined (codes ", ") (map filled (x ∷ xs)))
  unfolding AllFill
  joined_fills text values filled x [] h =
      subst (λ t. Fills mode write t (values x ++ []) (filled x ++ [])) (sym (append-nil (text x)))
      (subst (λ vs. Fills mode write (text x) vs (filled x ++ [])) (sym (append-nil (values x)))
      (subst (Fills mode write (text x) (values x)) (sym (append-nil (filled x))) h.0))
  joined_fills text values filled x (y ∷ ys) h =
      fills_list (text x) (values x) (filled x) (joined (codes ", ") (map text (y ∷ ys))) (flat_map values (y ∷ ys)) (joined (codes ", ") (map filled (y ∷ ys)))
      h.0 (joined_fills text values filled y ys h.1)

  item_fills : (row index : ℕ) (x : Item) → item_fault row index x ≡ None → Fills mode write (item_text x) (item_values x) (filled_item write x)
  item_fills row index (item.Value value) h = fills_mark value
  item_fills row index (item.Decimal text) h = fills_plain text.items (number_shape mode row index text.items h)
  item_fills row index (item.Double double) h = fills_plain (double_text double) (item_shape mode row index (item.Double double) h)

  all_items_fill : (row index : ℕ) (items : List Item) → items_fault row index items ≡ None →
      AllFill item_text item_values (filled_item write) items
  unfolding AllFill
  all_items_fill row index [] h = tt
  all_items_fill row index (x ∷ items) h =
      let p = or_none (item_fault row index x) (items_fault row (index + 1) items) h in
      (item_fills row index x p.0, all_items_fill row (index + 1) items p.1)

  items_fill : (row : ℕ) (x : Item) (items : List Item) → items_fault row 0 (x ∷ items) ≡ None →
      Fills mode write (items_text (x ∷ items)) (flat_map item_values (x ∷ items)) (filled_items write (x ∷ items))
  items_fill row x items h = joined_fills item_text item_values (filled_item write) x items (all_items_fill row 0 (x ∷ items) h)

  -- the values of a row
  abbrev row_values : Vec Item → List Value
  row_values row = flat_map item_values row.items

  row_fills : (width row : ℕ) (items : List Item) → row_fault width row items ≡ None →
      Fills mode write (codes "(" ++ (items_text items ++ codes ")")) (flat_map item_values items) (codes "(" ++ (filled_items write items ++ codes ")"))
  row_fills width row [] h = cc
  row_fills width row (x ∷ items) h = fills_row _ _ _ (items_fill row x items (if_row _ _ _ h))

  all_rows_fill : (width row : ℕ) (rows : List (Vec Item)) → rows_fault_from width row rows ≡ None →
      AllFill row_text row_values (filled_row write) rows
  unfolding AllFill
  all_rows_fill width row [] h = tt
  all_rows_fill width row (items ∷ rows) h =
      let p = or_none (row_fault width row items.items) (rows_fault_from width (row + 1) rows) h in
      (row_fills width row items.items p.0, all_rows_fill width (row + 1) rows p.1)

  assignment_fills : (part index : ℕ) (x : ColumnAssignment) → assignment_fault part index x ≡ None →
      Fills mode write (assignment_text x) (assignment_values x) (filled_assignment write x)
  assignment_fills part index x h =
      let p = or_none (names_fault part x.column.items) (item_fault 0 index x.item) h in
      fills_assignment _ _ _ _ (names_shape part x.column.items p.0) (item_fills 0 index x.item p.1)

  all_assignments_fill : (part index : ℕ) (xs : List ColumnAssignment) → assignments_fault_from part index xs ≡ None →
      AllFill assignment_text assignment_values (filled_assignment write) xs
  unfolding AllFill
  all_assignments_fill part index [] h = tt
  all_assignments_fill part index (x ∷ xs) h =
      let p = or_none (assignment_fault part index x) (assignments_fault_from (number_after part (length x.column.items)) (index + 1) xs) h in
      (assignment_fills part index x p.0, all_assignments_fill (number_after part (length x.column.items)) (index + 1) xs p.1)

  pub fragment_fills : (fragment : Fragment) → fault_of fragment ≡ None →
      Fills mode write (fragment_text fragment) (fragment_values fragment) (filled_text write fragment)
  fragment_fills (one.Value value) h = fills_mark value
  fragment_fills (one.List items) h = go items.items h
    where
      go : (items : List Item) → list_fault items ≡ None → Fills mode write (items_text items) (flat_map item_values items) (filled_items write items)
      go [] h = cc
      go (x ∷ items) h = items_fill 0 x items h
  fragment_fills (one.Rows rows) h = go rows.items h
    where
      go : (rows : List (Vec Item)) → rows_fault rows ≡ None →
          Fills mode write (joined (codes ", ") (map row_text rows)) (flat_map row_values rows) (joined (codes ", ") (map (filled_row write) rows))
      go [] h = cc
      go (row ∷ rows) h = joined_fills row_text row_values (filled_row write) row rows (all_rows_fill (length row.items) 0 (row ∷ rows) h)
  fragment_fills (one.Decimal number) h = fills_plain _ (fragment_shape mode (one.Decimal number) h)
  fragment_fills (one.Double double) h = fills_plain _ (fragment_shape mode (one.Double double) h)
  fragment_fills (one.Identifier name) h = fills_plain _ (fragment_shape mode (one.Identifier name) h)
  fragment_fills (one.Qualified names) h = fills_plain _ (fragment_shape mode (one.Qualified names) h)
  fragment_fills (one.Keyword keyword) h = fills_plain _ (fragment_shape mode (one.Keyword keyword) h)
  fragment_fills (one.Identifiers columns) h = fills_plain _ (fragment_shape mode (one.Identifiers columns) h)
  fragment_fills (one.Assignments assignments) h = go assignments.items h
    where
      go : (xs : List ColumnAssignment) → assignments_fault xs ≡ None →
          Fills mode write (filled_assignments mark xs) (flat_map assignment_values xs) (filled_assignments write xs)
      go [] h = cc
      go (x ∷ xs) h = joined_fills assignment_text assignment_values (filled_assignment write) x xs (all_assignments_fill 0 0 (x ∷ xs) h)

  -- ---- fragments in the places of a query

  -- the tokens of a fragment, with the texts of its values
  list_filled : (fragment : Fragment) (list : List Token) → fault_of fragment ≡ None → IsTokens mode (fragment_text fragment) list →
      (place_count list ≡ length (map write (fragment_values fragment))) × (bound list (map write (fragment_values fragment)) ≡ filled_text write fragment)
  list_filled fragment list h is =
      let f = filled_list (fragment_fills fragment h) in
      let own : IsTokens mode (fragment_text fragment) f.0 = record { text = f.1.list_text; each = f.1.list_tokens [] } in
      let same : f.0 ≡ list = one_token_list mode (fragment_text fragment) f.0 list own is in (
        ap place_count (sym same) ∙ (list_places mode (length (fragment_values fragment)) (fragment_text fragment) f.0 f.1 ∙ sym (length-map (fragment_values fragment) write)),
        ap (λ us. bound us (map write (fragment_values fragment))) (sym same) ∙ f.2,
      )

  place_filled : (fragment : Fragment) (fragments : List Fragment) (list us : List Token) (rest : List ℕ) → fault_of fragment ≡ None →
      IsTokens mode (fragment_text fragment) list → bound us (map write (all_values fragments)) ≡ rest →
      bound (list ++ us) (map write (all_values (fragment ∷ fragments))) ≡ filled_text write fragment ++ rest
  place_filled fragment fragments list us rest h is e =
      let f = list_filled fragment list h is in
      ap (bound (list ++ us)) (map-append write (fragment_values fragment) (all_values fragments))
      ∙ (bound-append list us (map write (fragment_values fragment)) (map write (all_values fragments)) f.0
      ∙ (ap (λ z. z ++ bound us (map write (all_values fragments))) f.1 ∙ ap (λ z. filled_text write fragment ++ z) e))

  pub filled_bound : (place : ℕ) (ts : List Token) (fragments : List Fragment) (lists : List (List Token)) → first_fault_from place fragments ≡ None →
      AreTokensOf mode (map fragment_text fragments) lists → length fragments ≡ place_count ts →
      bound (with_literal_tokens ts lists) (map write (all_values fragments)) ≡ bound ts (map (filled_text write) fragments)
  filled_bound place [] [] lists h a n = refl
  filled_bound place [] (fragment ∷ fragments) lists h a n = absurd (omega (arith, n))
  filled_bound place (Name name ∷ ts) [] lists h a n = absurd (omega (arith, n))
  filled_bound place (Name name ∷ ts) (fragment ∷ fragments) [] h a n = absurd a
  filled_bound place (Name name ∷ ts) (fragment ∷ fragments) (list ∷ lists) h a n =
      let p = or_none (option_map (λ fault. (place, fault)) (fault_of fragment)) (first_fault_from (place + 1) fragments) h in
      place_filled fragment fragments list (with_literal_tokens ts lists) _ (map_none _ (fault_of fragment) p.0) a.0 (filled_bound (place + 1) ts fragments lists p.1 a.1 (omega (arith, n)))
  filled_bound place (Mark ∷ ts) [] lists h a n = absurd (omega (arith, n))
  filled_bound place (Mark ∷ ts) (fragment ∷ fragments) [] h a n = absurd a
  filled_bound place (Mark ∷ ts) (fragment ∷ fragments) (list ∷ lists) h a n =
      let p = or_none (option_map (λ fault. (place, fault)) (fault_of fragment)) (first_fault_from (place + 1) fragments) h in
      place_filled fragment fragments list (with_literal_tokens ts lists) _ (map_none _ (fault_of fragment) p.0) a.0 (filled_bound (place + 1) ts fragments lists p.1 a.1 (omega (arith, n)))
  filled_bound place (t ∷ ts) fragments lists h a n = ap (λ u. bytes_of t ++ u) (filled_bound place ts fragments lists h a n)

-- ---- the facts about the literals

known_written : (literal : Literals) (IsKnown : LiteralFacts) (values : List Value) (place : ℕ) → bound_cause.first_float_from place values ≡ None →
    AreKnownUnlessFloats literal IsKnown values → AreWrittenAs literal IsKnown values (map (written_literal literal) values)
known_written literal IsKnown [] place none k = tt
known_written literal IsKnown (v ∷ values) place none k =
    let step = none_step _ place (bound_cause.first_float_from (place + 1) values) none in
    let one = k.0 step.0 in
    (one.0, one.1, known_written literal IsKnown values (place + 1) step.1 k.1)

-- before the literal of a value is written
pub known_of_fields : (literal : Literals) → LackFloats literal → (v : Value) → FieldsInRange v → AreKnownUnlessFloats literal IsOfFields (v ∷ [])
known_of_fields literal floats v range = ((λ no_float. (has_literal literal floats v no_float, range)), tt)

-- a fact that always holds also holds if there is a length
pub if_some : {P : Type 0} (r : Option ℕ) → P → IfSome r (λ len. P)
if_some None p = tt
if_some (Some len) p = p

known_more : (literal : Literals) (IsKnown : LiteralFacts) (values more : List Value) → AreKnownUnlessFloats literal IsKnown values →
    AreKnownUnlessFloats literal IsKnown more → AreKnownUnlessFloats literal IsKnown (values ++ more)
known_more literal IsKnown [] more k m = m
known_more literal IsKnown (v ∷ values) more k m = (k.0, known_more literal IsKnown values more k.1 m)

-- those of one element more
pub known_step : {X : Type 0} (literal : Literals) (IsKnown : LiteralFacts) (f : X → List Value) (xs : List X) (i : ℕ) (x : X) →
    i < length xs → x ≡ get_or xs i x → AreKnownUnlessFloats literal IsKnown (flat_map f (take i xs)) →
    AreKnownUnlessFloats literal IsKnown (f x) → AreKnownUnlessFloats literal IsKnown (flat_map f (take (i + 1) xs))
known_step literal IsKnown f xs i x below x_is k m =
    let taken : take (i + 1) xs ≡ take i xs ++ x ∷ [] = take_more xs i x below ∙ ap (λ u. take i xs ++ u ∷ []) (sym x_is) in
    subst (AreKnownUnlessFloats literal IsKnown) (sym (ap (flat_map f) taken ∙ flat_map_more f (take i xs) x))
    (known_more literal IsKnown (flat_map f (take i xs)) (f x) k m)

-- those of all elements
pub known_all : {X : Type 0} (literal : Literals) (IsKnown : LiteralFacts) (f : X → List Value) (xs : List X) (i : ℕ) →
    length xs ≤ i → AreKnownUnlessFloats literal IsKnown (flat_map f (take i xs)) → AreKnownUnlessFloats literal IsKnown (flat_map f xs)
known_all literal IsKnown f xs i done = subst (λ ys. AreKnownUnlessFloats literal IsKnown (flat_map f ys)) (take_all i xs done)

-- ---- the text

pub is_filled : (literal : Literals) (IsKnown : LiteralFacts) (mode : Bool) (ts : List Token) (given : GivenFragments) (expanded text : List ℕ) →
    All IsWideName (names ts) → (x : IsExpanded true mode ts given expanded) →
    joined_text (pieces ts) (map (filled_text (written_literal literal)) x.fragments) ≡ Some text →
    AreKnownUnlessFloats literal IsKnown (all_values x.fragments) →
    IsGivenText literal IsKnown (with_literal_tokens ts x.lists) (positional (all_values x.fragments)) text
is_filled literal IsKnown mode ts given expanded text wide x joined known =
    let write : Value → List ℕ = written_literal literal in
    let values : List Value = all_values x.fragments in
    let us : List Token = with_literal_tokens ts x.lists in
    let parts = expanded_parts true mode ts given expanded x in
    let none : names us ≡ [] = expanded_nameless true mode ts given expanded x in
    let same : marks us ≡ length values = expanded_marks true mode ts given expanded x in
    let many : length (map write values) ≡ place_count us = omega (arith, length-map values write, place_count-sum us, ap length none, same) in
    let text_is : text ≡ bound us (map write values) =
    joined_text_is ts (map (filled_text write) x.fragments) text joined ∙ sym (filled_bound mode write 0 ts x.fragments x.lists parts.2 x.tokens_of_fragments parts.0) in
    record {
      no_cause = no_cause_expanded mode ts given expanded wide x;
      values = values;
      looked_up = ap (lookup (positional values)) none;
      written_text = record {
        literals = map write values;
        written = known_written literal IsKnown values 0 (no_first_float x.fragments parts.1) known;
        text_is = joined_text-pieces_from [] us (map write values) many ∙ ap Some (sym text_is);
      };
    }

-- as the code writes it
pub filled_on : (literal : Literals) (IsKnown : LiteralFacts) (reading : Reading) (query : List ℕ) (given : GivenFragments) (fragments : List Fragment) (text : List ℕ) →
    OnTokensIn reading query (λ ts. ArePlaced true ts given fragments) →
    OnTokensIn reading query (λ ts. joined_text (pieces ts) (map (filled_text (written_literal literal)) fragments) ≡ Some text) →
    AreKnownUnlessFloats literal IsKnown (all_values fragments) →
    OnTokensIn reading query (λ ts. IsFilledQuery literal IsKnown reading.no_backslash_escape ts given text)
filled_on literal IsKnown reading query given fragments text p j known =
    let ts : List Token = p.0 in
    let x = is_expanded true reading query ts given fragments p.1 p.2 in
    let joined : joined_text (pieces ts) (map (filled_text (written_literal literal)) fragments) ≡ Some text =
    subst (λ us. joined_text (pieces us) (map (filled_text (written_literal literal)) fragments) ≡ Some text) (one_reading reading query j.0 ts j.1 p.1) j.2 in (
      ts,
      p.1,
      record {
        query = x.0;
        expanded = x.1;
        filled =
            is_filled literal IsKnown reading.no_backslash_escape ts given x.0 text (names_in_reading reading query ts p.1) x.1
            (subst (λ fs. joined_text (pieces ts) (map (filled_text (written_literal literal)) fs) ≡ Some text) (sym x.2) joined)
            (subst (λ fs. AreKnownUnlessFloats literal IsKnown (all_values fs)) (sym x.2) known);
      },
    )

-- ---- the fields of its values

pub written_in_range : (literal : Literals) (IsKnown : LiteralFacts) → ((v : Value) (text : List ℕ) → IsKnown v text → FieldsInRange v) →
    (values : List Value) (texts : List (List ℕ)) → AreWrittenAs literal IsKnown values texts → All FieldsInRange values
written_in_range literal IsKnown range [] texts h = All-nil FieldsInRange
written_in_range literal IsKnown range (v ∷ values) [] h = absurd h
written_in_range literal IsKnown range (v ∷ values) (text ∷ texts) h =
    All-cons FieldsInRange v values (range v text h.1) (written_in_range literal IsKnown range values texts h.2)

-- each is in the range of its type
pub filled_in_range : (literal : Literals) (IsKnown : LiteralFacts) → ((v : Value) (text : List ℕ) → IsKnown v text → FieldsInRange v) →
    (mode : Bool) (ts : List Token) (given : GivenFragments) (text : List ℕ) → (f : IsFilledQuery literal IsKnown mode ts given text) →
    All FieldsInRange (all_values f.expanded.fragments)
filled_in_range literal IsKnown range mode ts given text f =
    let x = f.expanded in
    let none = expanded_nameless true mode ts given f.query x in
    let found : Ok (all_values x.fragments) ≡ Ok f.filled.values = sym (ap (lookup (positional (all_values x.fragments))) none) ∙ f.filled.looked_up in
    let same : f.filled.values ≡ all_values x.fragments = cc in
    subst (All FieldsInRange) same (written_in_range literal IsKnown range f.filled.values f.filled.written_text.literals f.filled.written_text.written)

-- with plain literals it is the text that is bound
pub bound_of_filled : (mode : Bool) (ts : List Token) (given : GivenFragments) (text : List ℕ) →
    IsFilledQuery (literal_of mode) (IsPlainLiteral mode) mode ts given text → IsBoundFragments mode ts given text
bound_of_filled mode ts given text f =
    let x = f.expanded in
    record {
      query = f.query;
      expanded = x;
      bound = is_bound_text (grammar_reading mode) f.query (with_literal_tokens ts x.lists) (positional (all_values x.fragments)) text x.isolated f.filled;
      in_range = filled_in_range (literal_of mode) (IsPlainLiteral mode) (λ v text k. k.2) mode ts given text f;
    }

pub bound_on : (reading : Reading) (query : List ℕ) (given : GivenFragments) (text : List ℕ) →
    OnTokensIn reading query (λ ts. IsFilledQuery (literal_of reading.no_backslash_escape) (IsPlainLiteral reading.no_backslash_escape) reading.no_backslash_escape ts given text) →
    OnTokensIn reading query (λ ts. IsBoundFragments reading.no_backslash_escape ts given text)
bound_on reading query given text o = (o.0, o.1, bound_of_filled reading.no_backslash_escape o.0 given text o.2)
