use Rattle.std.specs.Prelude.{Some, map}
use Rattle.std.proofs.Common.{◌≡◌, ◌∙◌, true, subst, sym}
use Rattle.mysql_named_params.specs.Reading.{OnTokensIn}
use Rattle.mysql_params_core.specs.Referents.{referents}
use Rattle.mysql_binding.specs.LiteralForm.{written_literal}
use Rattle.mysql_binding.specs.Pieces.{pieces, joined_text}
use Rattle.mysql_fragments.specs.FragmentText.{filled_text}
use Rattle.mysql_fragments.proofs.ExpandedLemmas.{each_on}
use Rattle.mysql_fragments.proofs.FilledLemmas.{filled_on}
use Rattle.mysql_fragments.proofs.filled.filled_query.Goals as goal

pub spliced_text-requires : goal.spliced_text-requires
spliced_text-requires g c = each_on true _ _ c.requires.0 (referents c.args.fragments.now) c.requires.1

pub returns : goal.returns
returns g c = λ given placed.
    let literal = g.F.LiteralForm.literal c.args.form.now in
    let fragments = referents c.args.fragments.now in
    let reading = c.args.reading in
    let kept : c.in_ok-text-2.text.items ≡ c.in_ok-text.text.items = c.in_ok-text-2.ensures.items ∙ c.as_slice.ensures.value in
    filled_on literal (g.F.LiteralForm.IsKnown c.args.form.now) reading c.args.query.now given fragments c.in_ok-text-2.text.items placed
    (subst (λ items. OnTokensIn reading c.args.query.now (λ ts. joined_text (pieces ts) (map (filled_text (written_literal literal)) fragments) ≡ Some items)) (sym kept) c.in_ok-text.ensures.text)
    c.in_ok-text.ensures.known
