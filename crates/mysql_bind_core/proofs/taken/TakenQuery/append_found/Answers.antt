use Rattle.mysql_params_core.specs.Referents.{referents}
use Rattle.mysql_binding.specs.PlaceValues.{placed_values}
use Rattle.mysql_bind_core.proofs.AppendedRowLemmas.{appended_as, done_bound, plain_appended, steady_appended}
use Rattle.mysql_bind_core.proofs.TakenQueryLemmas.{on_parsed, text_seen, to_survey}
use Rattle.mysql_bind_core.proofs.taken.TakenQuery.append_found.Goals as goal

pub append_surveyed-requires : goal.append_surveyed-requires
append_surveyed-requires c =
    let t = c.self.inside in
    let s = c.surveyed-surveyed in
    (c.requires.0, to_survey t.request t.parsed c.args.self.now c.self.invariant c.self.view_is s.result s.ensures.query s.ensures.reading c.requires.0 _ (on_parsed t.request t.parsed c.args.self.now c.self.invariant c.self.view_is _ c.requires.1))

pub returns-in-Plain-clause-bound : goal.returns-in-Plain-clause-bound
returns-in-Plain-clause-bound c =
    let t = c.self.inside in
    done_bound c.attempt_of.result c.append_surveyed.result _ _ c.attempt_of.ensures.done c.append_surveyed.ensures.appended
    (λ appended.
    let a = plain_appended t.request t.parsed.query (placed_values c.args.values) c.args.script.now.items c.append_surveyed.new.text.items t.parsed.mode c.in-Plain.no_backslash_escape c.in-Plain.is c.self.invariant.mode
    (appended_as _ _ _ _ _ _ _ _ _ c.surveyed-surveyed.ensures.reading c.surveyed-surveyed.ensures.query appended) in (
      a.0,
      a.1,
      λ given found. text_seen t.request t.parsed c.args.self.now c.self.invariant c.self.view_is given a.0
          (a.2 given (on_parsed t.request t.parsed c.args.self.now c.self.invariant c.self.view_is _ found)),
    ))

pub append_surveyed-requires-in-Steady : goal.append_surveyed-requires-in-Steady
append_surveyed-requires-in-Steady c =
    let t = c.self.inside in
    let s = c.surveyed-surveyed in
    (c.requires.0, to_survey t.request t.parsed c.args.self.now c.self.invariant c.self.view_is s.result s.ensures.query s.ensures.reading c.requires.0 _ (on_parsed t.request t.parsed c.args.self.now c.self.invariant c.self.view_is _ c.requires.1))

pub returns-in-Steady-clause-bound : goal.returns-in-Steady-clause-bound
returns-in-Steady-clause-bound c =
    let t = c.self.inside in
    done_bound c.attempt_of-in-Steady.result c.append_surveyed-in-Steady.result _ _ c.attempt_of-in-Steady.ensures.done c.append_surveyed-in-Steady.ensures.appended
    (λ appended.
    let a = steady_appended t.request t.parsed.query (placed_values c.args.values) c.args.script.now.items c.append_surveyed-in-Steady.new.text.items t.parsed.mode c.in-Steady.is c.self.invariant.mode
    (appended_as _ _ _ _ _ _ _ _ _ c.surveyed-surveyed.ensures.reading c.surveyed-surveyed.ensures.query appended) in (
      a.0,
      a.1,
      λ given found. text_seen t.request t.parsed c.args.self.now c.self.invariant c.self.view_is given a.0
          (a.2 given (on_parsed t.request t.parsed c.args.self.now c.self.invariant c.self.view_is _ found)),
    ))
