-- Nothing refuses a query that is bindable.
use Rattle.std.specs.Prelude.{Bool, nat_eq, nat_lt, Ok, Err}
use Rattle.std.proofs.Common.{◌≡◌, ◌<◌, ℕ, true, false, not, ◌&&◌, cond, List, length, Some, None, refl, ap, ◌∙◌, arith, ne_eqb, eq-eqb}
use Rattle.std.specs.Option.{option_map, option_or}
use Rattle.mysql_values.specs.declared.value.Value.{Value}
use Rattle.mysql_values.specs.ValueOf.{Meaning}
use Rattle.mysql_named_params.specs.Tokens.{Token}
use Rattle.mysql_named_params.specs.Places.{names, marks, has_both}
use Rattle.mysql_params_core.specs.Given.{Given, empty, named, positional}
use Rattle.mysql_params_core.specs.Lookup.{lookup}
use Rattle.mysql_params_core.specs.Made.{Made, pairs_made}
use Rattle.mysql_binding.specs.StandsAlone.{first_not_alone}
use Rattle.mysql_binding.specs.FirstCause.{first_cause, first_float, mixed_cause, mixed_query, count_cause, mark_count, mark_count_differs, not_alone_cause, not_alone, float_cause, float_value, later_cause, cause_after_lookup}
use Rattle.mysql_fixed_query.specs.Bindable.{Fits, FitsByPosition, given_by, valued, is_by_position, values_of}
use Rattle.mysql_fixed_query.specs.FixedText.{values_for}
use Rattle.mysql_fixed_query.proofs.GivenLemmas.{pair_names-valued, pairs_made-new, lookup-given_by, no_float_given}

-- none of the causes, one after another
no_cause : (ts : List Token) (g : Given) (values : List Value) → has_both ts ≡ false →
    lookup g (names ts) ≡ Ok values →
    mark_count_differs (length (names ts)) (marks ts) (length values) ≡ false →
    first_not_alone ts ≡ None → first_float values ≡ None → first_cause ts g ≡ None
no_cause ts g values unmixed looked_up counted alone plain =
    let mixed : mixed_cause ts ≡ None =
    ap (λ b. cond b (Some mixed_query) None) unmixed in
    let count : count_cause ts values ≡ None =
    ap (λ b. cond b (Some (mark_count (marks ts) (length values))) None) counted in
    let all_alone : not_alone_cause ts ≡ None =
    ap (option_map (λ found. not_alone found.0 found.1)) alone in
    let float : float_cause values ≡ None = ap (option_map float_value) plain in
    let later : later_cause ts values ≡ None =
    ap (λ o. option_or o (option_or (not_alone_cause ts) (float_cause values))) count
    ∙ (ap (λ o. option_or o (float_cause values)) all_alone ∙ float) in
    ap (λ o. option_or o (cause_after_lookup ts (lookup g (names ts)))) mixed
    ∙ (ap (cause_after_lookup ts) looked_up ∙ later)

and-false : (b : Bool) → (b && false) ≡ false
and-false true = refl
and-false false = refl

named_counts : (names marks values : ℕ) → 0 < names →
    mark_count_differs names marks values ≡ false
named_counts names marks values some =
    ap (λ b. b && not (nat_eq marks values)) (ne_eqb names 0 (λ e. absurd (omega (arith, e, some))))

equal_counts : (names marks values : ℕ) → marks ≡ values →
    mark_count_differs names marks values ≡ false
equal_counts names marks values same =
    ap (λ b. nat_eq names 0 && not b) (eq-eqb marks values same) ∙ and-false _

-- ---- by name

module _ {ts : List Token} {pairs : List (List ℕ × Meaning)} (h : Fits ts pairs) where
  pub pairs_made_is : pairs_made pairs ≡ Ok (given_by (valued pairs))
  pairs_made_is = pairs_made-new pairs h.literals h.differ

  pub names_looked_up : lookup (given_by (valued pairs)) (names ts) ≡ Ok (values_for ts (valued pairs))
  names_looked_up =
      lookup-given_by (valued pairs) (names ts) h.has_name
      (rw (pair_names-valued pairs h.literals) h.given)

  pub no_cause_by_name : first_cause ts (given_by (valued pairs)) ≡ None
  no_cause_by_name =
      let values : List Value = values_for ts (valued pairs) in
      let unmixed : has_both ts ≡ false =
      ap (λ k. nat_lt 0 (length (names ts)) && nat_lt 0 k) h.no_mark ∙ and-false _ in
      no_cause ts (given_by (valued pairs)) values unmixed names_looked_up
      (named_counts (length (names ts)) (marks ts) (length values) h.has_name) h.alone
      (no_float_given pairs h.literals (names ts))

-- ---- by position

module _ {ts : List Token} {made : Made} (h : FitsByPosition ts made) where
  -- the parameters that are made, which give their values to the query
  pub in_order : (g : Given) × (made ≡ Ok g) × (lookup g (names ts) ≡ Ok (values_of made))
  in_order = of_made made h.by_position
    where
      of_made : (m : Made) → is_by_position m ≡ true → (g : Given) × (m ≡ Ok g)
          × (lookup g (names ts) ≡ Ok (values_of m))
      of_made (Ok empty) e = (empty, refl, ap (lookup empty) h.no_name)
      of_made (Ok (positional values)) e =
          (positional values, refl, ap (lookup (positional values)) h.no_name)
      of_made (Ok (named entries)) e = cc
      of_made (Err refusal) e = cc

  pub no_cause_by_position : first_cause ts in_order.0 ≡ None
  no_cause_by_position =
      let unmixed : has_both ts ≡ false =
      ap (λ ns. nat_lt 0 (length ns) && nat_lt 0 (marks ts)) h.no_name in
      no_cause ts in_order.0 (values_of made) unmixed in_order.2
      (equal_counts (length (names ts)) (marks ts) (length (values_of made)) h.count)
      h.alone h.literals
