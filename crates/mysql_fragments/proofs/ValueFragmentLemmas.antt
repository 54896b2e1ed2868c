-- Fragments that are all values bind as `bind_text` binds these.
use Rattle.std.specs.Prelude.{Bool, Result, Ok, option_map, codes}
use Rattle.std.specs.Option.{option_or}
use Rattle.std.proofs.Common.{◌≡◌, ◌+◌, ℕ, true, false, List, [], ◌∷◌, length, map, Some, None, Option, arith, refl, sym, ap, ◌∙◌, subst, if◌then◌else◌}
use Rattle.std.proofs.lemmas.List.{length-map}
use Rattle.mysql_values.specs.declared.value.Value.{Value}
use Rattle.mysql_values.specs.Literal.{is_float}
use Rattle.mysql_sql_text.specs.ReadLiteral.{read_literal}
use Rattle.mysql_named_params.specs.Tokens.{Token, IsTokens, Name, Mark}
use Rattle.mysql_named_params.specs.Places.{names, marks, has_both, place_count, with_marks}
use Rattle.mysql_named_params.proofs.ReparsedLemmas.{names-with_marks}
use Rattle.mysql_named_params.proofs.TokenListLemmas.{one_token_list}
use Rattle.mysql_params_core.specs.Given.{Given, positional}
use Rattle.mysql_params_core.specs.Lookup.{lookup}
use Rattle.mysql_binding.specs.Contents.{AreReadInPlace, contents_between}
use Rattle.mysql_binding.specs.FirstCause.{mark_count_differs}
use Rattle.mysql_binding.specs.FirstCause as bound
use Rattle.mysql_binding.specs.Isolation.{IsBoundText}
use Rattle.mysql_binding.specs.Pieces.{pieces, joined_text}
use Rattle.mysql_binding.specs.Replaced.{AreTokensOf, with_literal_tokens}
use Rattle.mysql_binding.specs.StandsAlone.{first_not_alone}
use Rattle.mysql_binding.proofs.BoundAgainLemmas.{pieces-with_marks, with_literal_tokens-with_marks}
use Rattle.mysql_binding.proofs.PieceLemmas.{joined_text_count}
use Rattle.mysql_binding.proofs.SpliceLemmas.{as_many_lists}
use Rattle.mysql_fragments.specs.Expanded.{IsBoundFragments}
use Rattle.mysql_fragments.specs.FragmentErrors.{Cause, mark_count, not_alone, float_value, faulty, mixed_cause, count_cause, not_alone_cause, float_cause, fault_cause, first_float_from, first_fault_from, later_cause, cause_of_places, first_cause}
use Rattle.mysql_fragments.specs.FragmentText.{all_values, fragment_text}
use Rattle.mysql_fragments.specs.GivenFragments.{GivenFragments, fragments_for}
use Rattle.mysql_fragments.specs.ValueFragments.{same_cause}
use Rattle.mysql_fragments.specs.declared.fragment.Fragment.{Fragment}
use Rattle.mysql_fragments.specs.declared.fragment.Fragment.TheVariants as one

-- the fragments of values
abbrev pub of_values : List Value → List Fragment
of_values values = map (λ value. one.Value value) values

-- ---- the causes

map_or : (x y : Option bound.Cause) → option_map same_cause (option_or x y) ≡ option_or (option_map same_cause x) (option_map same_cause y)
map_or None y = refl
map_or (Some why) y = refl

or_nothing : (x : Option Cause) → option_or x None ≡ x
or_nothing None = refl
or_nothing (Some why) = refl

if_same : (b : Bool) (why : bound.Cause) → option_map same_cause (if b then Some why else None) ≡ (if b then Some (same_cause why) else None)
if_same true why = refl
if_same false why = refl

same_place : (o : Option (ℕ × ℕ)) →
    option_map same_cause (option_map (λ found. bound.not_alone found.0 found.1) o) ≡ option_map (λ found. not_alone found.0 found.1) o
same_place None = refl
same_place (Some found) = refl

same_float : (o : Option ℕ) → option_map same_cause (option_map bound.float_value o) ≡ option_map float_value o
same_float None = refl
same_float (Some place) = refl

floats : (place : ℕ) (values : List Value) → first_float_from place (of_values values) ≡ bound.first_float_from place values
floats place [] = refl
floats place (value ∷ values) = ap (λ z. if is_float value then Some place else z) (floats (place + 1) values)

no_faults : (place : ℕ) (values : List Value) → first_fault_from place (of_values values) ≡ None
no_faults place [] = refl
no_faults place (value ∷ values) = no_faults (place + 1) values

same_later : (ts : List Token) (values : List Value) → later_cause true ts (of_values values) ≡ option_map same_cause (bound.later_cause ts values)
same_later ts values =
    let count : count_cause ts (of_values values) ≡ option_map same_cause (bound.count_cause ts values) =
    ap (λ n. if mark_count_differs (length (names ts)) (marks ts) n then Some (mark_count (marks ts) n) else None) (length-map values (λ value. one.Value value))
    ∙ sym (if_same (mark_count_differs (length (names ts)) (marks ts) (length values)) (bound.mark_count (marks ts) (length values))) in
    let alone : not_alone_cause ts ≡ option_map same_cause (bound.not_alone_cause ts) = sym (same_place (first_not_alone ts)) in
    let float : option_or (float_cause true (of_values values)) (fault_cause (of_values values)) ≡ option_map same_cause (bound.float_cause values) =
    ap (option_or (float_cause true (of_values values))) (ap (option_map (λ found. faulty found.0 found.1)) (no_faults 0 values))
    ∙ (or_nothing (float_cause true (of_values values)) ∙ (ap (option_map float_value) (floats 0 values) ∙ sym (same_float (bound.first_float values)))) in
    ap (λ z. option_or z (option_or (not_alone_cause ts) (option_or (float_cause true (of_values values)) (fault_cause (of_values values))))) count
    ∙ (ap (λ z. option_or (option_map same_cause (bound.count_cause ts values)) (option_or z (option_or (float_cause true (of_values values)) (fault_cause (of_values values))))) alone
    ∙ (ap (λ z. option_or (option_map same_cause (bound.count_cause ts values)) (option_or (option_map same_cause (bound.not_alone_cause ts)) z)) float
    ∙ (ap (option_or (option_map same_cause (bound.count_cause ts values))) (sym (map_or (bound.not_alone_cause ts) (bound.float_cause values)))
    ∙ sym (map_or (bound.count_cause ts values) (option_or (bound.not_alone_cause ts) (bound.float_cause values))))))

pub same_first_cause : (ts : List Token) (given : GivenFragments) (params : Given) (values : List Value) →
    fragments_for given (names ts) ≡ Ok (of_values values) → lookup params (names ts) ≡ Ok values →
    first_cause true ts given ≡ option_map same_cause (bound.first_cause ts params)
same_first_cause ts given params values f l =
    ap (λ r. option_or (mixed_cause ts) (cause_of_places true ts r)) f
    ∙ (ap (option_or (mixed_cause ts)) (same_later ts values)
    ∙ (ap (λ z. option_or z (option_map same_cause (bound.later_cause ts values))) (sym (if_same (has_both ts) bound.mixed_query))
    ∙ (sym (map_or (bound.mixed_cause ts) (bound.later_cause ts values))
    ∙ ap (λ r. option_map same_cause (option_or (bound.mixed_cause ts) (bound.cause_after_lookup ts r))) (sym l))))

-- ---- the text

pub values_of : (values : List Value) → all_values (of_values values) ≡ values
values_of [] = refl
values_of (value ∷ values) = ap (λ vs. value ∷ vs) (values_of values)

-- the tokens of each are a mark
mark_lists : (mode : Bool) (values : List Value) (lists : List (List Token)) → AreTokensOf mode (map fragment_text (of_values values)) lists →
    lists ≡ map (λ value. Mark ∷ []) values
mark_lists mode [] [] a = refl
mark_lists mode [] (list ∷ lists) a = absurd a
mark_lists mode (value ∷ values) [] a = absurd a
mark_lists mode (value ∷ values) (list ∷ lists) a =
    let is : IsTokens mode (codes "?") (Mark ∷ []) = record { text = refl; each = (tt, tt) } in
    ap (λ z. z ∷ lists) (one_token_list mode (codes "?") list (Mark ∷ []) a.0 is) ∙ ap (λ z. (Mark ∷ []) ∷ z) (mark_lists mode values lists a.1)

-- with them the query is the one with marks
marked : (ts : List Token) (values : List Value) → length values ≡ place_count ts →
    with_literal_tokens ts (map (λ value. Mark ∷ []) values) ≡ with_marks ts
marked [] values e = refl
marked (Name name ∷ ts) [] e = absurd (omega arith)
marked (Name name ∷ ts) (value ∷ values) e = ap (λ us. Mark ∷ us) (marked ts values (omega arith))
marked (Mark ∷ ts) [] e = absurd (omega arith)
marked (Mark ∷ ts) (value ∷ values) e = ap (λ us. Mark ∷ us) (marked ts values (omega arith))
marked (t ∷ ts) values e = ap (λ us. t ∷ us) (marked ts values e)

ok_same : {A E : Type 0} {x y : A} (r : Result A E) → r ≡ Ok x → r ≡ Ok y → x ≡ y
ok_same r e f = cc

none_mapped : (x : Option bound.Cause) → option_map same_cause x ≡ None → x ≡ None
none_mapped None e = refl
none_mapped (Some why) e = cc

-- a text that is bound by position to the query with marks is bound to the query, if its names give
-- these values
from_marks : (mode : Bool) (ts : List Token) (params : Given) (values : List Value) (text : List ℕ) →
    lookup params (names ts) ≡ Ok values → bound.first_cause ts params ≡ None →
    IsBoundText mode (with_marks ts) (positional values) text → IsBoundText mode ts params text
from_marks mode ts params values text l none t =
    let same : pieces (with_marks ts) ≡ pieces ts = pieces-with_marks [] ts in
    let exact : joined_text (pieces ts) t.literals ≡ Some text = ap (λ ps. joined_text ps t.literals) (sym same) ∙ t.text_is in
    let lists : length t.literal_tokens ≡ place_count ts = as_many_lists mode t.literals t.literal_tokens t.tokens_of_literals ∙ joined_text_count [] ts t.literals text exact in
    record {
      values = t.values;
      literals = t.literals;
      literal_tokens = t.literal_tokens;
      contents = t.contents;
      isolated = subst (IsTokens mode text) (with_literal_tokens-with_marks ts t.literal_tokens lists) t.isolated;
      reads_in_place = subst (λ ps. AreReadInPlace (read_literal mode) ps t.literals t.contents) same t.reads_in_place;
      no_cause = none;
      looked_up = l ∙ (ap (lookup (positional values)) (sym (names-with_marks ts)) ∙ t.looked_up);
      written = t.written;
      shapes = t.shapes;
      text_is = exact;
      tokens_of_literals = t.tokens_of_literals;
      contents_are = t.contents_are;
      read_back = ap (λ ps. contents_between (read_literal mode) ps text) (sym same) ∙ t.read_back;
    }

pub same_text : (mode : Bool) (ts : List Token) (given : GivenFragments) (params : Given) (values : List Value) (text : List ℕ) →
    fragments_for given (names ts) ≡ Ok (of_values values) → lookup params (names ts) ≡ Ok values →
    IsBoundFragments mode ts given text → IsBoundText mode ts params text
same_text mode ts given params values text f l b =
    let x = b.expanded in
    let fragments : x.fragments ≡ of_values values = ok_same (fragments_for given (names ts)) x.given_to_places f in
    let lists : x.lists ≡ map (λ value. Mark ∷ []) values = mark_lists mode values x.lists (subst (λ fs. AreTokensOf mode (map fragment_text fs) x.lists) fragments x.tokens_of_fragments) in
    let count : length values ≡ place_count ts =
    sym (length-map values (λ value. one.Value value)) ∙ (ap length (sym fragments) ∙ (sym (length-map x.fragments fragment_text) ∙ joined_text_count [] ts (map fragment_text x.fragments) b.query x.text_is)) in
    let us : with_literal_tokens ts x.lists ≡ with_marks ts = ap (with_literal_tokens ts) lists ∙ marked ts values count in
    let all : all_values x.fragments ≡ values = ap all_values fragments ∙ values_of values in
    from_marks mode ts params values text l (none_mapped _ (sym (same_first_cause ts given params values f l) ∙ x.no_cause))
    (subst (λ z. IsBoundText mode z (positional values) text) us (subst (λ vs. IsBoundText mode (with_literal_tokens ts x.lists) (positional vs) text) all b.bound))
