-- Texts of fragments, by the literal that each value is written as.
use Rattle.std.specs.Prelude.{Bool, codes, Ok, option_map, ⊤}
use Rattle.std.specs.List.{list_all}
use Rattle.std.proofs.Common.{◌≡◌, ◌+◌, ◌++◌, ℕ, All, true, false, List, [], ◌∷◌, length, map, Some, None, arith, refl, sym, ap, ◌∙◌, subst}
use Rattle.std.proofs.lemmas.List.Elements.{All-tail}
use Rattle.mysql_values.specs.declared.value.Value.{Value}
use Rattle.mysql_values.specs.Value.{FieldsInRange}
use Rattle.mysql_values.specs.Literal.{is_float, literal_of, literal_text}
use Rattle.mysql_value_core.proofs.LiteralLemmas.{is_none-literal_of}
use Rattle.mysql_named_params.specs.Places.{names}
use Rattle.mysql_named_params.specs.Reading.{IsTokensIn, reading_with}
use Rattle.mysql_named_params.specs.Tokens.{Token, IsTokens}
use Rattle.mysql_named_params.specs.declared.places.Reading.{Reading}
use Rattle.mysql_named_params.proofs.ReadingLemmas.{one_reading}
use Rattle.mysql_named_params.proofs.ReparsedLemmas.{names_in_reading}
use Rattle.mysql_portable.specs.Steady.{is_steady}
use Rattle.mysql_portable.specs.SteadyBytes.{IsSteady}
use Rattle.mysql_portable.proofs.OtherModeLemmas.{all_parts}
use Rattle.mysql_portable.proofs.SteadyLemmas.{steady_other}
use Rattle.mysql_binding.specs.FirstCause as bound_cause
use Rattle.mysql_binding.specs.LiteralForm.{LackFloats, LiteralFacts, Literals, IsPlainLiteral, written_literal}
use Rattle.mysql_binding.specs.Pieces.{pieces, joined_text}
use Rattle.mysql_binding.specs.PushedLiteral.{AreKnownUnlessFloats}
use Rattle.mysql_binding.specs.Replaced.{AreTokensOf, with_literal_tokens}
use Rattle.mysql_binding.specs.StandsAlone.{first_not_alone}
use Rattle.mysql_binding.proofs.BoundText.{bound}
use Rattle.mysql_binding.proofs.CauseLemmas.{or_none, map_none}
use Rattle.mysql_binding.proofs.PieceLemmas.{joined_text_count, joined_text_is}
use Rattle.mysql_binding.proofs.TextInRoomLemmas.{plain_known}
use Rattle.mysql_binding.proofs.ValueLiteralLemmas.{has_literal, none_step}
use Rattle.mysql_steady_text.specs.SteadyLiteral.{steady_literal_of, steady_literal_text}
use Rattle.mysql_steady_text.specs.SteadyLiterals.{IsSteadyFor}
use Rattle.mysql_steady_text.proofs.BothModesTextLemmas.{steady_known}
use Rattle.mysql_steady_text.proofs.SteadyLiteralLemmas.{steady_float}
use Rattle.mysql_steady_text.proofs.SteadySpliceLemmas.{all_both}
use Rattle.mysql_steady_text.proofs.SteadyTextLemmas.{steady_query}
use Rattle.mysql_steady_text.proofs.WideSteadyLemmas.{steady_reading}
use Rattle.mysql_fragments.specs.Expanded.{IsBoundFragments, IsExpanded}
use Rattle.mysql_fragments.specs.FilledText.{ArePlaced, IsFilledQuery}
use Rattle.mysql_fragments.specs.FragmentErrors.{cause_of_places, first_cause, first_fault_from, first_float_from, later_cause, mixed_cause}
use Rattle.mysql_fragments.specs.FragmentFaults.{fault_of}
use Rattle.mysql_fragments.specs.FragmentShape.{AreFragments, IsFragment, assignment_fragment, list_fragment, literal_fragment, row_fragment, steady_fragment}
use Rattle.mysql_fragments.specs.FragmentText.{all_values, filled_text, fragment_text, fragment_values}
use Rattle.mysql_fragments.specs.GivenFragments.{GivenFragments, fragments_for}
use Rattle.mysql_fragments.specs.SteadyFragments.{IsSteadyFragments, first_unsteady_from}
use Rattle.mysql_fragments.specs.TextOfFragments.{IsTextOfFragments}
use Rattle.mysql_fragments.specs.declared.fragment.Fragment.{Fragment}
use Rattle.mysql_fragments.proofs.CauseLemmas.{no_first_float, no_later_parts}
use Rattle.mysql_fragments.proofs.ExpandedLemmas.{is_expanded}
use Rattle.mysql_fragments.proofs.FilledLemmas.{Fills, bound_of_filled, fills_assignment, fills_list, fills_mark, fills_plain, fills_row, fragment_fills, is_filled}
use Rattle.mysql_fragments.proofs.InPlaceLemmas.{text_filled, values_filled}
use Rattle.mysql_fragments.proofs.SplicedFragmentLemmas.{fragment_lists, fragments_isolated_in}
use Rattle.mysql_fragments.proofs.SteadyFragmentLemmas.{AllSteady, bound_parts, none_unsteady, steady_fragments_on}

-- ---- the shape of the text in a place

module _ (mode : Bool) (write : Value → List ℕ) where
  -- each of these values is written as a fragment without marks
  AreShaped : List Value → Type 0
  AreShaped [] = ⊤
  AreShaped (v ∷ values) = IsFragment mode 0 (write v) × AreShaped values

  shaped_parts : (values more : List Value) → AreShaped (values ++ more) → AreShaped values × AreShaped more
  unfolding AreShaped
  shaped_parts [] more h = (tt, h)
  shaped_parts (v ∷ values) more h = let p = shaped_parts values more h.1 in ((h.0, p.0), p.1)

  filled_shape : {text : List ℕ} {values : List Value} {filled : List ℕ} → Fills mode write text values filled →
      AreShaped values → IsFragment mode 0 filled
  unfolding AreShaped
  filled_shape (fills_mark v) h = h.0
  filled_shape (fills_plain text f) h = f
  filled_shape (fills_list a vs x b us y p q) h =
      let s = shaped_parts vs us h in list_fragment 0 0 x y (filled_shape p s.0) (filled_shape q s.1)
  filled_shape (fills_row a vs x p) h = row_fragment 0 x (filled_shape p h)
  filled_shape (fills_assignment column a vs x c p) h = assignment_fragment 0 column x c (filled_shape p h)

  filled_shapes : (place : ℕ) (fragments : List Fragment) → first_fault_from place fragments ≡ None → AreShaped (all_values fragments) →
      AreFragments mode (map (λ fragment. 0) fragments) (map (filled_text write) fragments)
  filled_shapes place [] e h = tt
  filled_shapes place (fragment ∷ fragments) e h =
      let p = or_none (option_map (λ fault. (place, fault)) (fault_of fragment)) (first_fault_from (place + 1) fragments) e in
      let s = shaped_parts (fragment_values fragment) (all_values fragments) h in
      (filled_shape (fragment_fills mode write fragment (map_none _ (fault_of fragment) p.0)) s.0, filled_shapes (place + 1) fragments p.1 s.1)

  -- each value without a float is written so
  abbrev IsShaping : Type 0
  IsShaping = (v : Value) → FieldsInRange v → is_float v ≡ false → IsFragment mode 0 (write v)

  shaped_values : IsShaping → (place : ℕ) (values : List Value) → All FieldsInRange values →
      bound_cause.first_float_from place values ≡ None → AreShaped values
  unfolding AreShaped
  shaped_values shape place [] range none = tt
  shaped_values shape place (v ∷ values) range none =
      let p = none_step (is_float v) place (bound_cause.first_float_from (place + 1) values) none in
      (shape v (range 0 v (omega arith)) p.0, shaped_values shape (place + 1) values (All-tail FieldsInRange v values range) p.1)

plain_shaping : (mode : Bool) → IsShaping mode (literal_text mode)
plain_shaping mode v range none =
    literal_fragment (literal_text mode v) (plain_known mode v (literal_text mode v) range (has_literal (literal_of mode) (is_none-literal_of mode) v none)).0

steady_shaping : (mode : Bool) → IsShaping mode steady_literal_text
steady_shaping mode v range none =
    let k = steady_known v (steady_literal_text v) range (has_literal steady_literal_of steady_float v none) in
    steady_fragment (steady_literal_text v) k.0 k.1

-- ---- fragments that nothing refuses

module _ (ts : List Token) (given : GivenFragments) (fragments : List Fragment) (looked : fragments_for given (names ts) ≡ Ok fragments) (none : first_cause true ts given ≡ None) where
  causes : (mixed_cause ts ≡ None) × (later_cause true ts fragments ≡ None)
  causes =
      let p = or_none (mixed_cause ts) (cause_of_places true ts (fragments_for given (names ts))) none in
      (p.0, ap (cause_of_places true ts) (sym looked) ∙ p.1)

  are_placed : ArePlaced true ts given fragments
  are_placed = record { unmixed = causes.0; given_to_places = looked; no_later = causes.1 }

  pub places_alone : first_not_alone ts ≡ None
  places_alone = (no_later_parts true ts fragments causes.1).1

  shapes_of : (mode : Bool) (write : Value → List ℕ) → IsShaping mode write → All FieldsInRange (all_values fragments) →
      AreFragments mode (map (λ fragment. 0) fragments) (map (filled_text write) fragments)
  shapes_of mode write shape range =
      let parts = no_later_parts true ts fragments causes.1 in
      filled_shapes mode write 0 fragments parts.3 (shaped_values mode write shape 0 (all_values fragments) range (no_first_float fragments parts.2))

  pub plain_shapes : (mode : Bool) → All FieldsInRange (all_values fragments) →
      AreFragments mode (map (λ fragment. 0) fragments) (map (filled_text (literal_text mode)) fragments)
  plain_shapes mode = shapes_of mode (literal_text mode) (plain_shaping mode)

  pub steady_shapes : (mode : Bool) → All FieldsInRange (all_values fragments) →
      AreFragments mode (map (λ fragment. 0) fragments) (map (filled_text steady_literal_text) fragments)
  steady_shapes mode = shapes_of mode steady_literal_text (steady_shaping mode)

  -- the tokens of the texts, and of the whole text
  text_tokens : (reading : Reading) (query text : List ℕ) (texts : List (List ℕ)) → IsTokensIn reading query ts →
      AreFragments reading.no_backslash_escape (map (λ fragment. 0) fragments) texts → joined_text (pieces ts) texts ≡ Some text →
      (lists : List (List Token)) × AreTokensOf reading.no_backslash_escape texts lists × IsTokens reading.no_backslash_escape text (with_literal_tokens ts lists)
  text_tokens reading query text texts is shapes joined =
      let counts : List ℕ = map (λ fragment. 0) fragments in
      let lists = fragment_lists reading.no_backslash_escape counts texts shapes in
      (lists.0, lists.1, fragments_isolated_in reading query text ts counts texts lists.0 is places_alone shapes lists.1 joined)

-- ---- in a steady text

-- a fragment is steady if it is so with its values
marks_steady : {mode : Bool} {write : Value → List ℕ} {text : List ℕ} {values : List Value} {filled : List ℕ} → Fills mode write text values filled →
    list_all is_steady filled ≡ true → list_all is_steady text ≡ true
marks_steady (fills_mark v) h = refl
marks_steady (fills_plain text f) h = h
marks_steady (fills_list a vs x b us y p q) h =
    let s = all_parts is_steady x (codes ", " ++ y) h in
    all_both a (codes ", " ++ b) (marks_steady p s.0) (marks_steady q (all_parts is_steady (codes ", ") y s.1).1)
marks_steady (fills_row a vs x p) h =
    all_both a (codes ")") (marks_steady p (all_parts is_steady x (codes ")") h).0) refl
marks_steady (fills_assignment column a vs x c p) h =
    let s = all_parts is_steady column (codes " = " ++ x) h in
    all_both column (codes " = " ++ a) s.0 (marks_steady p (all_parts is_steady (codes " = ") x s.1).1)

each_steady : (write : Value → List ℕ) (place : ℕ) (fragments : List Fragment) → first_fault_from place fragments ≡ None →
    AllSteady (map (filled_text write) fragments) → AllSteady (map fragment_text fragments)
unfolding AllSteady
each_steady write place [] e s = tt
each_steady write place (fragment ∷ fragments) e s =
    let p = or_none (option_map (λ fault. (place, fault)) (fault_of fragment)) (first_fault_from (place + 1) fragments) e in
    (marks_steady (fragment_fills true write fragment (map_none _ (fault_of fragment) p.0)) s.0, each_steady write (place + 1) fragments p.1 s.1)

texts_steady : (ts : List Token) (texts : List (List ℕ)) (text : List ℕ) → joined_text (pieces ts) texts ≡ Some text → IsSteady text →
    AllSteady texts
texts_steady ts texts text joined steady =
    bound_parts ts texts (joined_text_count [] ts texts text joined) (subst (λ z. list_all is_steady z ≡ true) (joined_text_is ts texts text joined) steady)

pub fragments_steady : (ts : List Token) (given : GivenFragments) (text : List ℕ) →
    (x : IsTextOfFragments steady_literal_text (λ own. ⊤) ts given text) → IsSteady text → first_unsteady_from 0 x.fragments ≡ None
fragments_steady ts given text x steady =
    let parts = no_later_parts true ts x.fragments (causes ts given x.fragments x.given_to_places x.no_cause).1 in
    none_unsteady 0 x.fragments (each_steady steady_literal_text 0 x.fragments parts.3
    (texts_steady ts (map (filled_text steady_literal_text) x.fragments) text x.text_is steady))

tokens_in_other : (mode other : Bool) (texts : List (List ℕ)) (lists : List (List Token)) → AllSteady texts →
    AreTokensOf mode texts lists → AreTokensOf other texts lists
unfolding AllSteady
tokens_in_other mode other [] [] s a = tt
tokens_in_other mode other [] (list ∷ lists) s a = absurd a
tokens_in_other mode other (text ∷ texts) [] s a = absurd a
tokens_in_other mode other (text ∷ texts) (list ∷ lists) s a =
    (steady_other mode other text list s.0 a.0, tokens_in_other mode other texts lists s.1 a.1)

-- ---- it is the text that is bound

known_values : (literal : Literals) (IsKnown : LiteralFacts) → LackFloats literal →
    ((v : Value) (text : List ℕ) → FieldsInRange v → literal v ≡ Some text → IsKnown v text) →
    (values : List Value) → All FieldsInRange values → AreKnownUnlessFloats literal IsKnown values
known_values literal IsKnown lack known [] range = tt
known_values literal IsKnown lack known (v ∷ values) range = (
  λ no_float. let e = has_literal literal lack v no_float in (e, known v (written_literal literal v) (range 0 v (omega arith)) e),
  known_values literal IsKnown lack known values (All-tail FieldsInRange v values range),
)

module _ (literal : Literals) (IsKnown : LiteralFacts) (lack : LackFloats literal) (known : (v : Value) (text : List ℕ) → FieldsInRange v → literal v ≡ Some text → IsKnown v text) where
  -- the expanded query of a text of fragments, and its text
  is_filled_query : (reading : Reading) (query text : List ℕ) (ts : List Token) (given : GivenFragments) (fragments : List Fragment) →
      IsTokensIn reading query ts → ArePlaced true ts given fragments → All FieldsInRange (all_values fragments) →
      joined_text (pieces ts) (map (filled_text (written_literal literal)) fragments) ≡ Some text →
      IsFilledQuery literal IsKnown reading.no_backslash_escape ts given text
  is_filled_query reading query text ts given fragments is p range joined =
      let x = is_expanded true reading query ts given fragments is p in
      record {
        query = x.0;
        expanded = x.1;
        filled =
            is_filled literal IsKnown reading.no_backslash_escape ts given x.0 text (names_in_reading reading query ts is) x.1
            (subst (λ fs. joined_text (pieces ts) (map (filled_text (written_literal literal)) fs) ≡ Some text) (sym x.2) joined)
            (known_values literal IsKnown lack known (all_values x.1.fragments) (subst (λ fs. All FieldsInRange (all_values fs)) (sym x.2) range));
      }

pub plain_bound : (reading : Reading) (query text : List ℕ) (ts : List Token) (given : GivenFragments) → IsTokensIn reading query ts →
    IsTextOfFragments (literal_text reading.no_backslash_escape) (λ mode. reading.no_backslash_escape ≡ mode) ts given text →
    IsBoundFragments reading.no_backslash_escape ts given text
plain_bound reading query text ts given is x =
    let mode = reading.no_backslash_escape in
    bound_of_filled mode ts given text
    (is_filled_query (literal_of mode) (IsPlainLiteral mode) (is_none-literal_of mode) (plain_known mode) reading query text ts given x.fragments is
    (are_placed ts given x.fragments x.given_to_places x.no_cause) x.in_range x.text_is)

-- such a text of these fragments
pub plain_text_of : (reading : Reading) (query text : List ℕ) (ts : List Token) (given : GivenFragments) (fragments : List Fragment) →
    IsTokensIn reading query ts → fragments_for given (names ts) ≡ Ok fragments → first_cause true ts given ≡ None → All FieldsInRange (all_values fragments) →
    joined_text (pieces ts) (map (filled_text (literal_text reading.no_backslash_escape)) fragments) ≡ Some text →
    IsTextOfFragments (literal_text reading.no_backslash_escape) (λ mode. reading.no_backslash_escape ≡ mode) ts given text
plain_text_of reading query text ts given fragments is looked none range joined =
    let mode = reading.no_backslash_escape in
    let texts : List (List ℕ) = map (filled_text (literal_text mode)) fragments in
    let l = text_tokens ts given fragments looked none reading query text texts is (plain_shapes ts given fragments looked none mode range) joined in
    record {
      fragments = fragments;
      given_to_places = looked;
      no_cause = none;
      in_range = range;
      text_is = joined;
      lists = l.0;
      tokens_of_fragments = λ own e. subst (λ m. AreTokensOf m texts l.0) e l.1;
      isolated = λ own e. subst (λ m. IsTokens m text (with_literal_tokens ts l.0)) e l.2;
    }

pub plain_filled : (reading : Reading) (query text : List ℕ) (ts : List Token) (given : GivenFragments) → IsTokensIn reading query ts →
    IsBoundFragments reading.no_backslash_escape ts given text →
    IsTextOfFragments (literal_text reading.no_backslash_escape) (λ mode. reading.no_backslash_escape ≡ mode) ts given text
plain_filled reading query text ts given is b =
    let mode = reading.no_backslash_escape in
    let x = b.expanded in
    plain_text_of reading query text ts given x.fragments is x.given_to_places x.no_cause b.in_range
    (text_filled (literal_of mode) (is_none-literal_of mode) mode ts given b.query text x b.bound.values b.bound.literals b.bound.looked_up b.bound.written b.bound.text_is)

pub steady_bound : (wide mode : Bool) (query text : List ℕ) (ts : List Token) (given : GivenFragments) → IsTokensIn (reading_with wide mode) query ts →
    IsTextOfFragments steady_literal_text (λ own. ⊤) ts given text → IsSteady text → IsSteadyFragments ts given text
steady_bound wide mode query text ts given is x steady =
    let query_steady = steady_query (reading_with wide mode) query ts (map (filled_text steady_literal_text) x.fragments) text is x.text_is steady in
    let own = steady_reading wide mode false query ts query_steady is in
    let p = are_placed ts given x.fragments x.given_to_places x.no_cause in
    let f = is_filled_query steady_literal_of IsSteadyFor steady_float steady_known (reading_with wide false) query text ts given x.fragments own p x.in_range x.text_is in
    let o = steady_fragments_on wide query given x.fragments query_steady (ts, own, p) text (sym (fragments_steady ts given text x steady)) (ts, own, f) mode in
    subst (λ us. IsSteadyFragments us given text) (one_reading (reading_with wide mode) query o.0 ts o.1 is) o.2

-- such a text of these fragments, if it is steady
pub steady_text_of : (reading : Reading) (query text : List ℕ) (ts : List Token) (given : GivenFragments) (fragments : List Fragment) →
    IsTokensIn reading query ts → fragments_for given (names ts) ≡ Ok fragments → first_cause true ts given ≡ None → All FieldsInRange (all_values fragments) →
    joined_text (pieces ts) (map (filled_text steady_literal_text) fragments) ≡ Some text → IsSteady text →
    IsTextOfFragments steady_literal_text (λ own. ⊤) ts given text
steady_text_of reading query text ts given fragments is looked none range joined steady =
    let mode = reading.no_backslash_escape in
    let texts : List (List ℕ) = map (filled_text steady_literal_text) fragments in
    let l = text_tokens ts given fragments looked none reading query text texts is (steady_shapes ts given fragments looked none mode range) joined in
    record {
      fragments = fragments;
      given_to_places = looked;
      no_cause = none;
      in_range = range;
      text_is = joined;
      lists = l.0;
      tokens_of_fragments = λ own t. tokens_in_other mode own texts l.0 (texts_steady ts texts text joined steady) l.1;
      isolated = λ own t. steady_other mode own text (with_literal_tokens ts l.0) steady l.2;
    }

pub steady_filled : (reading : Reading) (query text : List ℕ) (ts : List Token) (given : GivenFragments) → IsTokensIn reading query ts →
    IsSteadyFragments ts given text → IsTextOfFragments steady_literal_text (λ own. ⊤) ts given text
steady_filled reading query text ts given is b =
    let x = b.expanded in
    let same = values_filled steady_literal_of steady_float false ts given b.query text x b.bound.values b.bound.literals b.bound.looked_up b.bound.written b.bound.text_is in
    steady_text_of reading query text ts given x.fragments is x.given_to_places x.no_cause (subst (All FieldsInRange) same b.bound.in_range)
    (text_filled steady_literal_of steady_float false ts given b.query text x b.bound.values b.bound.literals b.bound.looked_up b.bound.written b.bound.text_is)
    b.bound.steady
