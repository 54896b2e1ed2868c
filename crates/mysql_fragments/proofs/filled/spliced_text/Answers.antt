use Rattle.std.proofs.Common.{refl, arith}
use Rattle.std.proofs.lemmas.List.{length-map}
use Rattle.mysql_params_core.specs.Referents.{referents}
use Rattle.mysql_binding.specs.LiteralForm.{written_literal}
use Rattle.mysql_fragments.specs.FragmentText.{filled_text, fragment_values}
use Rattle.mysql_fragments.proofs.TextLemmas.{referent_is}
use Rattle.mysql_fragments.proofs.ExpandedLemmas.{spliced_none, place_left, spliced_more, spliced_all}
use Rattle.mysql_fragments.proofs.FilledLemmas.{known_all, known_step}
use Rattle.mysql_fragments.proofs.filled.spliced_text.Goals as goal

pub loop-fragment-init : goal.loop-fragment-init
loop-fragment-init g c = (spliced_none _ (filled_text (written_literal (g.F.ValueForm.written c.args.form.now))) _ (referents c.args.fragments.now) _ c.requires c.new-text.ensures.items, tt)

pub unreachable-requires : goal.unreachable-requires
unreachable-requires g c =
    let o = c.in_default.ensures.none in
    place_left _ (filled_text (written_literal (g.F.ValueForm.written c.args.form.now))) _ _ (referents c.args.fragments.now) _ _ c.loop-fragment.invariant.0 (omega (arith, c.loop-fragment-test.true, length-map c.args.fragments.now (λ r. r.now))) (o.0, o.1, o.2 refl)

pub loop-fragment-preserved : goal.loop-fragment-preserved
loop-fragment-preserved g c =
    let below = length-map c.args.fragments.now (λ r. r.now) in
    let is = referent_is c.args.fragments.now c.loop-fragment.fragment-index c.fragment-item.result c.loop-fragment-test.true c.fragment-item.is in (
      spliced_more _ (filled_text (written_literal (g.F.ValueForm.written c.args.form.now))) _ _ (referents c.args.fragments.now) _ _ c.loop-fragment.invariant.0 _ _ _ _ _ _ (omega (arith, c.loop-fragment-test.true, below))
          is c.in-Some.ensures.place c.cut.ensures.before c.cut.ensures.after
          c.in_ok-extend_from_slice.ensures.items c.in_ok-push_fragment.ensures.text,
      known_step (g.F.ValueForm.written c.args.form.now) (g.F.ValueForm.IsKnown c.args.form.now) fragment_values (referents c.args.fragments.now) c.loop-fragment.fragment-index c.fragment-item.result.now
          (omega (arith, c.loop-fragment-test.true, below)) is c.loop-fragment.invariant.1 c.in_ok-push_fragment.ensures.known,
    )

pub returns-clause-text : goal.returns-clause-text
returns-clause-text g c =
    spliced_all _ (filled_text (written_literal (g.F.ValueForm.written c.args.form.now))) _ _ (referents c.args.fragments.now) _ _ c.loop-fragment.invariant.0 (omega (arith, c.loop-fragment-test.false, length-map c.args.fragments.now (λ r. r.now))) _ c.in_ok-extend_from_slice-2.ensures.items

pub returns-clause-known : goal.returns-clause-known
returns-clause-known g c =
    known_all (g.F.ValueForm.written c.args.form.now) (g.F.ValueForm.IsKnown c.args.form.now) fragment_values (referents c.args.fragments.now) c.loop-fragment.fragment-index
    (omega (arith, c.loop-fragment-test.false, length-map c.args.fragments.now (λ r. r.now))) c.loop-fragment.invariant.1
