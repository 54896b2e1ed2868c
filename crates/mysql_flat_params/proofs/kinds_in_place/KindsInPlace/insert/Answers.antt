use Rattle.std.specs.Prelude.{replicate}
use Rattle.std.proofs.Common.{◌≡◌, ◌++◌, ◌-◌, ap, false, length, refl, sym, take, true, true≢false, ◌∙◌}
use Rattle.std.proofs.lemmas.List.{nil_from_length}
use Rattle.mysql_fragments.specs.declared.brackets.Implicit.TheVariants.{No}
use Rattle.mysql_flat_params.proofs.FormKindsLemmas.{name_kept, place_kept}
use Rattle.mysql_flat_params.proofs.FragmentsInPlaceLemmas.{none_of, some_of}
use Rattle.mysql_flat_params.proofs.kinds_in_place.KindsInPlace.insert.Goals as goal

pub returns-in_ok-push-clause-kept : goal.returns-in_ok-push-clause-kept
returns-in_ok-push-clause-kept c = λ kinds kept.
    let old = c.args.self.now.by_place in
    place_kept c.args.self.now (record { by_place = c.push.new.self; by_name = c.args.self.now.by_name }) kinds c.args.place c.args.kind
    (λ e. let never : false ≡ true = rw e at c.if-eq.ensures in true≢false (sym never)) kept
    c.args.name.now c.resize.new.self.items (nil_from_length c.args.name.now (none_of _ _ c.is_empty.ensures c.if-is_empty.true)) c.requires
    (c.in_ok-resize.ensures.items ∙ ap (λ n. take c.args.place old.items ++ replicate (c.args.place - n) No) old.ok.0)
    c.in_ok-push.ensures.items refl

pub returns-in_ok-insert-clause-kept : goal.returns-in_ok-insert-clause-kept
returns-in_ok-insert-clause-kept c = λ kinds kept.
    name_kept c.args.self.now (record { by_place = c.args.self.now.by_place; by_name = c.insert.new.self }) kinds c.args.place c.args.kind
    (λ e. let never : false ≡ true = rw e at c.if-eq.ensures in true≢false (sym never)) kept
    c.args.name (λ none. some_of _ _ c.is_empty.ensures c.if-is_empty.false (ap length none))
    c.in_ok-insert.ensures.updates.3 c.in_ok-insert.ensures.updates.1 refl
