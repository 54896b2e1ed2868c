use Rattle.std.proofs.Common.{◌≡◌, ◌+◌, [], ap, sym, ◌∙◌, arith}
use Rattle.mysql_named_params.specs.Places.{place_count}
use Rattle.mysql_fragments.specs.Brackets.{first_unbracketed, may_stand, onto}
use Rattle.mysql_fragments.proofs.BracketLawLemmas.{all_pass, found_from}
use Rattle.mysql_fragments.proofs.brackets.unbracketed_places.Goals as goal

pub returns-clause-found : goal.returns-clause-found
returns-clause-found c kinds ts place at e =
    let f = found_from kinds ts 0 0 place at [] e in
    record {
      front = f.front;
      found = f.found;
      back = f.back;
      split = f.split;
      is_place = f.is_place;
      number = omega (arith, f.number);
      position = omega (arith, f.position);
      may_not = f.may_not;
    }

pub returns-clause-none : goal.returns-clause-none
returns-clause-none c kinds ts e front t back split is =
    let same : 0 + place_count front ≡ place_count front = omega arith in
    ap (λ n. may_stand (kinds n) (onto front []) back) (sym same)
    ∙ all_pass kinds front t back 0 0 [] (ap (first_unbracketed kinds) split ∙ e) is
