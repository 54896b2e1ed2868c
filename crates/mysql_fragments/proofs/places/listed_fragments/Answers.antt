use Rattle.std.proofs.Common.{sym, ◌∙◌, arith}
use Rattle.std.specs.Prelude.{is_ok}
use Rattle.std.proofs.lemmas.Bool.{cond-true}
use Rattle.mysql_fragments.specs.GivenFragments.{fragment_map}
use Rattle.mysql_fragments.proofs.PlaceLemmas.{found_more, missing_refused, found_all, get-fragment_map}
use Rattle.mysql_fragments.proofs.places.listed_fragments.Goals as goal

pub loop-name-preserved : goal.loop-name-preserved
loop-name-preserved c =
    found_more (fragment_map c.args.entries.now.entries) c.args.names.now c.loop-name.name-index _ c.loop-name-test.true c.loop-name.list.items c.loop-name.invariant
    c.in-Some.fragment c.push.new.self.items (get-fragment_map c.args.entries.now.entries _ ∙ sym c.in-Some.ensures.value)
    (c.push.ensures.items ∙ cond-true (is_ok c.push.result) _ _ (sym c.in_ok-map_err-in-Some.ensures.variant))

pub returns-clause-fragments : goal.returns-clause-fragments
returns-clause-fragments c = found_all (fragment_map c.args.entries.now.entries) c.args.names.now c.loop-name.list.items c.loop-name.name-index (omega arith) c.loop-name.invariant

pub returns-in-None-clause-refused : goal.returns-in-None-clause-refused
returns-in-None-clause-refused c =
    missing_refused (fragment_map c.args.entries.now.entries) c.args.names.now c.loop-name.name-index _ c.loop-name-test.true c.loop-name.list.items c.loop-name.invariant
    c.missing_error.result (get-fragment_map c.args.entries.now.entries _ ∙ sym c.in-None.ensures.value) c.missing_error.ensures
