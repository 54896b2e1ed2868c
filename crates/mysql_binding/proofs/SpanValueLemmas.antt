-- Values that are looked up at spans, one after another.
use Rattle.std.proofs.Common.{◌≡◌, ◌+◌, ◌<◌, ◌≤◌, ℕ, List, [], ◌∷◌, ◌++◌, length, map, take, drop, get_or, refl, sym, ap, ◌∙◌, subst, arith, append_assoc, append-nil}
use Rattle.std.specs.Prelude.{Ok}
use Rattle.std.proofs.lemmas.List.{drop_all, length-take-le, take_rest}
use Rattle.mysql_value_core.specs.declared.value.Value.{Value}
use Rattle.mysql_named_params.proofs.TokenEndLemmas.{slice_from}
use Rattle.mysql_params_core.specs.Given.{Given}
use Rattle.mysql_params_core.specs.Lookup.{lookup}
use Rattle.mysql_binding.specs.PlaceSpans.{FitIn, after_span, names_at}
use Rattle.mysql_binding.specs.declared.binding.spanned.SpannedQuery.{SpannedQuery}
use Rattle.mysql_binding.specs.declared.binding.spans.PlaceSpan.{PlaceSpan}
use Rattle.mysql_binding.proofs.FoundValueLemmas.{AreLookedUp, looked_up_all, looked_up_more, looked_up_none}
use Rattle.mysql_binding.proofs.SpanLemmas.{spans_from}

pub names_at_length : (spans : List PlaceSpan) (bytes : List ℕ) → length (names_at spans bytes) ≡ length spans
names_at_length [] bytes = refl
names_at_length (span ∷ spans) bytes = omega (arith, names_at_length spans (after_span span bytes))

-- ---- what is kept of each value

module _ {K : Type 0} (value : K → Value) (given : Given) where
  -- with the names that are left, those whose values are found are the names at the spans
  pub record FoundAt (query rest : List ℕ) (spans : List PlaceSpan) (i : ℕ) (kept : List K) : Type 0 where
    pub fit : FitIn (drop i spans) rest
    pub list : List (List ℕ)
    pub names_are : list ++ names_at (drop i spans) rest ≡ names_at spans query
    pub looked_up : AreLookedUp given list (map value kept)

  pub found_none : (query : List ℕ) (spans : List PlaceSpan) (kept : List K) → FitIn spans query → kept ≡ [] →
      FoundAt query query spans 0 kept
  found_none query spans kept fit nil = record {
    fit = fit;
    list = [];
    names_are = refl;
    looked_up = looked_up_none value given kept nil;
  }

  module _ (query rest : List ℕ) (spans : List PlaceSpan) (i : ℕ) (kept : List K) (s : FoundAt query rest spans i kept) (d : PlaceSpan) (below : i < length spans) where
    -- one value more
    pub found_more : (place after name : List ℕ) (k : K) (kept' : List K) →
        place ≡ take (get_or spans i d).len (drop (get_or spans i d).before rest) →
        after ≡ after_span (get_or spans i d) rest → name ≡ slice_from 1 place →
        lookup given (name ∷ []) ≡ Ok (value k ∷ []) → kept' ≡ kept ++ k ∷ [] →
        FoundAt query after spans (i + 1) kept'
    found_more place after name k kept' place_is after_is name_is e pushed =
        let span = get_or spans i d in
        let later = drop (i + 1) spans in
        let fit : FitIn (span ∷ later) rest = subst (λ x. FitIn x rest) (spans_from spans i d below) s.fit in
        let item : name ≡ drop 1 (take span.len (drop span.before rest)) = name_is ∙ (take_rest place 1 ∙ ap (drop 1) place_is) in
        let here : names_at (drop i spans) rest ≡ name ∷ names_at later after =
        ap (λ x. names_at x rest) (spans_from spans i d below)
        ∙ (ap (λ x. x ∷ names_at later (after_span span rest)) (sym item) ∙ ap (λ x. name ∷ names_at later x) (sym after_is)) in
        record {
          fit = subst (FitIn later) (sym after_is) fit.2;
          list = s.list ++ name ∷ [];
          names_are = append_assoc s.list (name ∷ []) (names_at later after) ∙ (ap (λ x. s.list ++ x) (sym here) ∙ s.names_are);
          looked_up = looked_up_more value given s.list name kept kept' k s.looked_up e pushed;
        }

  -- once all are found
  pub found_at_all : (query rest : List ℕ) (spans : List PlaceSpan) (i : ℕ) (kept : List K) →
      FoundAt query rest spans i kept → length spans ≤ i → 0 < length spans →
      lookup given (names_at spans query) ≡ Ok (map value kept)
  found_at_all query rest spans i kept s all some =
      let whole : s.list ≡ names_at spans query =
      sym (append-nil s.list) ∙ (ap (λ x. s.list ++ names_at x rest) (sym (drop_all i spans all)) ∙ s.names_are) in
      ap (lookup given) (sym whole) ∙ looked_up_all given s.list (map value kept) (omega (arith, ap length whole, names_at_length spans query, some)) s.looked_up

-- a query with names has spans of names
pub some_name_spans : (spanned : SpannedQuery) (spans : List PlaceSpan) → spans ≡ take spanned.survey.names spanned.spans.now →
    0 < spanned.survey.names → 0 < length spans
some_name_spans spanned spans are some =
    omega (arith, some, ap length are, length-take-le spanned.survey.names spanned.spans.now (omega (arith, spanned.count)))
