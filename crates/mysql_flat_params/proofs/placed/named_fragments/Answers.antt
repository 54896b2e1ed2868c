use Rattle.std.specs.Prelude.{Ok, Err, is_ok}
use Rattle.std.proofs.Common.{◌≡◌, ◌+◌, ◌++◌, [], ◌∷◌, ap, append_assoc, arith, inl, inr, length, length-append, refl, subst, sym, ◌∙◌}
use Rattle.std.proofs.lemmas.Bool.{cond-true}
use Rattle.mysql_named_params.specs.Places.{names}
use Rattle.mysql_named_params.proofs.TokenEndLemmas.{slice_from}
use Rattle.mysql_binding.proofs.FoundPlacesLemmas.{none_passed, one_passed}
use Rattle.mysql_binding.proofs.NameListLemmas.{listed_all, listed_more, listed_none, name_left}
use Rattle.mysql_binding.proofs.SurveyedQueryLemmas.{begin_with}
use Rattle.mysql_fragments.specs.GivenFragments.{fragments_at, missing}
use Rattle.mysql_flat_params.proofs.PlacedLemmas.{found_more, none_found, not_found, unmixed_too}
use Rattle.mysql_fragments.proofs.PlaceLemmas.{at_found}
use Rattle.mysql_flat_params.proofs.placed.named_fragments.Goals as goal

pub loop-rest-init : goal.loop-rest-init
loop-rest-init c = (
  (
    [],
    (let o = c.requires.unmixed in listed_none _ _ _ [] (o.0, o.1, ((c.args.surveyed.now.surveyed o.0 o.1).0, unmixed_too o.0 o.2)) refl),
    sym (ap length c.in_ok-list.ensures.items),
    none_found _ _ c.in_ok-list.ensures.items,
  ),
  none_passed _ _ _ _ c.in_ok-list.ensures.items (begin_with _ _ _ c.args.surveyed.now.first),
)

pub unreachable-requires : goal.unreachable-requires
unreachable-requires c =
    let (names, listed, long, found) = c.loop-rest.invariant.0 in
    let o = c.in_default.ensures.none in
    name_left _ _ _ _ names listed (omega (arith, long, c.loop-rest-test.true, c.loop-rest.list.ok.0)) (o.0, o.1, o.2 refl)

pub returns-in-None-clause-refused : goal.returns-in-None-clause-refused
returns-in-None-clause-refused c = λ fragments all.
    let (listed_names, listed, long, found) = c.loop-rest.invariant.0 in
    let name = slice_from 1 c.cut.result.1.now in
    let s =
    listed_more _ _ _ _ listed_names listed c.cut.result.1.now c.cut.result.2.now name c.in-Some.found
    (omega (arith, long, c.loop-rest-test.true, c.loop-rest.list.ok.0)) c.in-Some.ensures.place c.cut.ensures.place c.cut.ensures.after refl in
    let all_names : listed_names ++ name ∷ names s.left ≡ names s.all =
    sym (append_assoc listed_names (name ∷ []) (names s.left)) ∙ s.names_are in
    let refused : fragments_at fragments (names s.all) ≡ Err (missing name) =
    subst (λ ns. fragments_at fragments ns ≡ Err (missing name)) all_names
    (not_found c.args.entries.now.entries listed_names c.loop-rest.list.items name found fragments (names s.left) c.in-None.ensures.value all) in (
      s.all,
      s.tokens,
      elim c.missing_error.ensures [ inl memory ↦ inl memory | inr cause ↦ inr (missing name, refused, cause) ],
    )

pub loop-rest-preserved : goal.loop-rest-preserved
loop-rest-preserved c =
    let pushed : c.push.new.self.items ≡ c.loop-rest.list.items ++ c.lent.result ∷ [] =
    c.push.ensures.items ∙ cond-true (is_ok c.push.result) _ _ (sym c.in_ok-map_err-in-Some-get.ensures.variant) in
    let ((listed_names, listed, long, found), known) = c.loop-rest.invariant in
    let name = slice_from 1 c.cut.result.1.now in (
      (
        listed_names ++ name ∷ [],
        listed_more _ _ _ _ listed_names listed c.cut.result.1.now c.cut.result.2.now name c.in-Some.found
            (omega (arith, long, c.loop-rest-test.true, c.loop-rest.list.ok.0)) c.in-Some.ensures.place c.cut.ensures.place c.cut.ensures.after refl,
        omega (arith, long, ap length pushed, length-append listed_names (name ∷ []), length-append c.loop-rest.list.items (c.lent.result ∷ [])),
        found_more c.args.entries.now.entries listed_names c.loop-rest.list.items name found c.in-Some-get.fragment.now c.lent.result _
            c.in-Some-get.ensures.value c.lent.ensures pushed,
      ),
      one_passed c.args.surveyed.now.reading c.loop-rest.rest.now _ c.args.surveyed.now.known.now (c.in-Some.found.before + c.in-Some.found.len) c.len-in-loop-rest.result _ _ _
          pushed c.cut.ensures.after (omega arith) c.in-Some.ensures.next,
    )

pub returns-clause-placed : goal.returns-clause-placed
returns-clause-placed c = λ fragments all.
    let (listed_names, listed, long, found) = c.loop-rest.invariant.0 in
    let o = listed_all _ _ _ _ listed_names listed (omega (arith, long, c.loop-rest-test.false, c.loop-rest.list.ok.0)) in
    let (said, are_found, are_said) = found fragments all in
    (o.0, o.1, (said, subst (λ ns. fragments_at fragments ns ≡ Ok said) o.2 (at_found fragments listed_names said are_found), are_said))
