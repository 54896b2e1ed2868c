use Rattle.std.proofs.Common.{◌≡◌, Ok, sym, rules, subst}
use Rattle.std.specs.Bool.{⊤}
use Rattle.mysql_wire_part.specs.Answer.{IsExpectedRefusal}
use Rattle.mysql_values.specs.BorrowedValue.{owned_values}
use Rattle.mysql_params_core.specs.Errors.{lookup_refusal}
use Rattle.mysql_params_core.specs.Given.{ValueMap, named}
use Rattle.mysql_params_core.specs.GivenBorrowed.{pair_map}
use Rattle.mysql_params_core.specs.Lookup.{lookup}
use Rattle.mysql_params_core.specs.Referents.{referents}
use Rattle.mysql_params_core.proofs.BorrowedLemmas.{found_more, first_absent, found_all}
use Rattle.mysql_params_core.proofs.MissingLemmas.{refused_as_missing}
use Rattle.mysql_params_core.proofs.params.sorted_pairs.sorted_place_values.Goals as goal

pub reported_name-requires : goal.reported_name-requires
reported_name-requires c =
    first_absent (pair_map c.in_ok-entries.entries.entries) c.args.names.now c.loop-i.i _ c.loop-i-test.true c.loop-i.values.items c.loop-i.invariant
    (sym c.in-None.ensures)

pub returns-in-None-clause-values : goal.returns-in-None-clause-values
returns-in-None-clause-values c =
    let m = pair_map c.in_ok-entries.entries.entries in
    subst (λ (n : ValueMap). IsExpectedRefusal (lookup (named n) (referents c.args.names.now)) ⊤ (lookup_refusal c.missing_params_error.result)) c.in_ok-entries.ensures
    (refused_as_missing m (referents c.args.names.now) c.loop-i.i
    (first_absent m c.args.names.now c.loop-i.i _ c.loop-i-test.true c.loop-i.values.items c.loop-i.invariant (sym c.in-None.ensures))
    _ c.reported_name.ensures _ c.missing_params_error.ensures)

pub loop-i-preserved : goal.loop-i-preserved
loop-i-preserved c =
    found_more (pair_map c.in_ok-entries.entries.entries) c.args.names.now c.loop-i.i _ c.loop-i-test.true c.loop-i.values.items c.loop-i.invariant
    c.in-Some.value c.push.new.self.items (sym c.in-Some.ensures) (search rules)

pub returns-clause-values : goal.returns-clause-values
returns-clause-values c =
    subst (λ (n : ValueMap). lookup (named n) (referents c.args.names.now) ≡ Ok (owned_values c.loop-i.values.items)) c.in_ok-entries.ensures
    (found_all (pair_map c.in_ok-entries.entries.entries) c.args.names.now c.loop-i.values.items c.loop-i.i (search rules) (search rules) c.loop-i.invariant)
