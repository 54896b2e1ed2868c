use Rattle.std.proofs.Common.{◌<◌, length, map, arith, refl}
use Rattle.std.proofs.lemmas.List.{length-map}
use Rattle.mysql_params_core.specs.Referents.{referents}
use Rattle.mysql_query_core.specs.WordErrors.{seen_pair}
use Rattle.mysql_bind_core.specs.Requests.{mode_of}
use Rattle.mysql_bind_core.proofs.AppendedRowLemmas.{done_so, pairs_appended, unmixed}
use Rattle.mysql_bind_core.proofs.FoundPairLemmas.{found_on}
use Rattle.mysql_bind_core.proofs.taken.TakenQuery.append_pairs.Goals as goal

pub append_found-requires : goal.append_found-requires
append_found-requires c =
    let asked = c.requires.asked in
    let some : 0 < length c.args.pairs.now = c.if-not-are_some_and_distinct.ensures.some refl in
    let found =
    found_on (mode_of c.args.self.now.request.literals) c.args.self.now.query (map seen_pair c.args.pairs.now) (referents c.args.query_names.now) (referents c.in-Some.values.items)
    (omega (arith, some, length-map c.args.pairs.now seen_pair)) (c.if-not-are_some_and_distinct.ensures.distinct refl)
    (omega (arith, asked, length-map c.args.query_names.now (λ r. r.now))) (rw c.in-Some.is at c.in_ok-values.ensures)
    (unmixed c.args.self.now.request c.args.self.now.query c.request.ensures.taken (mode_of c.args.self.now.request.literals) refl) c.requires.names in
    (found.0, found.2)

pub returns-in-Some-clause-bound : goal.returns-in-Some-clause-bound
returns-in-Some-clause-bound c =
    let asked = c.requires.asked in
    let some : 0 < length c.args.pairs.now = c.if-not-are_some_and_distinct.ensures.some refl in
    let found =
    found_on (mode_of c.args.self.now.request.literals) c.args.self.now.query (map seen_pair c.args.pairs.now) (referents c.args.query_names.now) (referents c.in-Some.values.items)
    (omega (arith, some, length-map c.args.pairs.now seen_pair)) (c.if-not-are_some_and_distinct.ensures.distinct refl)
    (omega (arith, asked, length-map c.args.query_names.now (λ r. r.now))) (rw c.in-Some.is at c.in_ok-values.ensures)
    (unmixed c.args.self.now.request c.args.self.now.query c.request.ensures.taken (mode_of c.args.self.now.request.literals) refl) c.requires.names in
    done_so c.append_found.result _ _
    (pairs_appended c.args.self.now.request c.args.self.now.query (referents c.in-Some.values.items) c.args.script.now.items c.append_found.new.script.items (map seen_pair c.args.pairs.now) (mode_of c.args.self.now.request.literals) found)
    c.append_found.ensures.bound
