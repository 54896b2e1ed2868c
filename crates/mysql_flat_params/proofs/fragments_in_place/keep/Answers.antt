use Rattle.std.specs.FinMap.{empty, insert}
use Rattle.std.proofs.Common.{ap, length, sym, subst, ◌∙◌}
use Rattle.std.proofs.lemmas.List.{nil_from_length}
use Rattle.mysql_flat_params.specs.FlatFragments.{with_parameter}
use Rattle.mysql_flat_params.specs.FormInPlace.{IsGivenAs, IsMapKeptAs}
use Rattle.mysql_flat_params.proofs.FragmentsInPlaceLemmas.{first_by_name, inserted_more, none_kept, none_of, pushed, some_of}
use Rattle.mysql_flat_params.proofs.fragments_in_place.keep.Goals.{else-is_empty-via-then-is_empty+else-not-is_empty, else-is_empty-via-else-is_empty}
use Rattle.mysql_flat_params.proofs.fragments_in_place.keep.Goals as goal

pub returns-in_ok-insert-in-Named : goal.returns-in_ok-insert-in-Named
returns-in_ok-insert-in-Named c = λ given said g kept.
    let (fragments, is, all) = subst (λ k. IsGivenAs k given) c.in-Named.is g in (
      insert fragments c.args.name.now said,
      ap (λ x. with_parameter x c.args.name.now said) is,
      inserted_more c.in-Named.entries.entries c.insert.new.self.entries c.args.name c.args.fragment said fragments
          c.in_ok-insert-in-Named.ensures.updates.3 c.in_ok-insert-in-Named.ensures.updates.1 kept all,
    )

pub returns-then-not-is_empty : goal.returns-then-not-is_empty
returns-then-not-is_empty c = λ given said g kept. (
  insert empty c.args.name.now said,
  first_by_name c.in-Positional.list.items given c.args.name.now said (subst (λ k. IsGivenAs k given) c.in-Positional.is g)
      (sym c.in-Positional.list.ok.0 ∙ none_of _ _ c.is_empty.ensures c.if-is_empty.true)
      (some_of _ _ c.is_empty-then-is_empty.ensures c.if-not-is_empty.true),
  inserted_more c.new-entries.result.entries c.insert-then-not-is_empty.new.self.entries c.args.name c.args.fragment said empty
      c.in_ok-insert-in-Positional.ensures.updates.3 c.in_ok-insert-in-Positional.ensures.updates.1 kept (subst (λ es. IsMapKeptAs es empty) (sym c.new-entries.ensures.empty) none_kept),
)

pub returns-in_ok-push-in-Positional : goal.returns-in_ok-push-in-Positional
returns-in_ok-push-in-Positional c = λ given said g kept.
    pushed c.in-Positional.list.items c.push.new.self.items given c.args.name.now c.args.fragment said (subst (λ k. IsGivenAs k given) c.in-Positional.is g)
    (λ none. elim c.else-is_empty.branch [
      | else-is_empty-via-then-is_empty+else-not-is_empty w ↦ nil_from_length c.args.name.now (none_of _ _ w.is_empty-then-is_empty.ensures w.if-not-is_empty.false)
      | else-is_empty-via-else-is_empty w ↦ absurd (some_of _ _ c.is_empty.ensures w.if-is_empty.false (c.in-Positional.list.ok.0 ∙ ap length none))
    ])
    c.in_ok-push-in-Positional.ensures.items kept
