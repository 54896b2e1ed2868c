use Rattle.std.proofs.Common.{◌≡◌, ◌∙◌, ◌<◌, ℕ, List, [], ◌∷◌, length, arith, ap, refl, rules, sym}
use Rattle.std.proofs.lemmas.List.{nil_from_length}
use Rattle.mysql_named_params.specs.Places.{names}
use Rattle.mysql_binding.proofs.SurveyedQueryLemmas.{on_survey}
use Rattle.mysql_fragments.specs.GivenFragments.{FragmentMap, fragment_map, named, positional}
use Rattle.mysql_bind_core.specs.Entries.{given_to}
use Rattle.mysql_bind_core.specs.declared.assignment.Assignment.{Assignment}
use Rattle.mysql_bind_core.proofs.fragments_text.given_to.Goals as goal
use Rattle.mysql_bind_core.proofs.fragments_text.given_to.Goals.{else-is_empty-via-then-is_empty+else-query-eq0, else-is_empty-via-else-is_empty}

given_by_names : (assignments : List Assignment) (entries : FragmentMap) (ns : List (List ℕ)) → 0 < length ns → named entries ≡ given_to assignments entries ns
given_by_names [] entries [] some = absurd (omega (arith, some))
given_by_names [] entries (n ∷ ns) some = refl
given_by_names (a ∷ assignments) entries ns some = refl

given_by_assignments : (assignments : List Assignment) (entries : FragmentMap) (ns : List (List ℕ)) → 0 < length assignments → named entries ≡ given_to assignments entries ns
given_by_assignments [] entries ns some = absurd (omega (arith, some))
given_by_assignments (a ∷ assignments) entries ns some = refl

pub returns-then-query-eq0 : goal.returns-then-query-eq0
returns-then-query-eq0 c =
    let s = c.args.query.now in
    let o = on_survey _ _ s.survey s.surveyed in
    let entries = fragment_map c.args.entries.entries in
    let no_names : names o.0 ≡ [] = nil_from_length (names o.0) (omega (arith, o.2.0, c.if-query-eq0.true)) in
    let empty : length c.args.assignments.now ≡ 0 = search rules in
    let none : c.args.assignments.now ≡ [] = nil_from_length c.args.assignments.now empty in (
      o.0,
      o.1,
      ap (λ fs. positional fs) c.new.ensures.items
          ∙ (ap (λ (xs : List Assignment). given_to xs entries []) (sym none) ∙ ap (given_to c.args.assignments.now entries) (sym no_names)),
    )

pub returns-else-is_empty : goal.returns-else-is_empty
returns-else-is_empty c =
    let s = c.args.query.now in
    let o = on_survey _ _ s.survey s.surveyed in
    let entries = fragment_map c.args.entries.entries in
    elim c.else-is_empty.branch [
      | else-is_empty-via-then-is_empty+else-query-eq0 w ↦
          (o.0, o.1, given_by_names c.args.assignments.now entries (names o.0) (omega (arith, o.2.0, w.if-query-eq0.false)))
      | else-is_empty-via-else-is_empty w ↦
          let some : 0 < length c.args.assignments.now = search rules in
          (o.0, o.1, given_by_assignments c.args.assignments.now entries (names o.0) some)
    ]
