use Rattle.std.proofs.Common.{refl, sym, ◌∙◌}
use Rattle.std.proofs.lemmas.List.{nil_from_length}
use Rattle.mysql_fragments.proofs.BracketWalkLemmas.{on_any}
use Rattle.mysql_flat_params.proofs.FragmentsInPlaceLemmas.{none_of}
use Rattle.mysql_flat_params.proofs.UnbracketedLemmas.{named_on, nothing_kept}
use Rattle.mysql_flat_params.proofs.unbracketed.place_in_doubt.Goals as goal

pub returns-then-is_empty-2 : goal.returns-then-is_empty-2
returns-then-is_empty-2 c = λ known kept. on_any _ _ _ (λ ts.
    nothing_kept c.args.kinds.now known ts kept
    (nil_from_length _ (sym c.args.kinds.now.by_place.ok.0 ∙ none_of _ _ c.is_empty.ensures c.if-is_empty.true))
    (nil_from_length _ (c.if-is_empty-2.ensures.0 refl)))

pub returns : goal.returns
returns c = λ known kept.
    named_on _ _ c.args.kinds.now known kept c.in_ok-list.list.items c.as_slice.result.now c.first_unbracketed-2.result c.as_slice.ensures.value
    (λ ts is none. c.if-surveyed-eq0.false ((c.args.surveyed.now.surveyed ts is).0 ∙ none)) c.in_ok-list.ensures c.first_unbracketed-2.ensures
