use Rattle.std.proofs.Common.{◌≡◌, None}
use Rattle.mysql_binding.specs.FirstCause.{first_cause}
use Rattle.mysql_steady_text.specs.declared.purpose.Scope.TheVariants.{OneMode, EitherMode, AnyConnection}
use Rattle.mysql_bind_call.proofs.ValueLemmas.{any_bound, either_bound, one_mode_bound}
use Rattle.mysql_fixed_query.proofs.AcceptedLemmas.{each_text, on_tokens, accepted_in_each_mode}
use Rattle.mysql_fixed_query.proofs.made.bind_made.Goals as goal

pub bind_made_as-requires-clause-no_cause : goal.bind_made_as-requires-clause-no_cause
bind_made_as-requires-clause-no_cause c =
    let known = c.requires.no_cause in (
      known.0,
      known.1,
      on_tokens c.args.purpose (OneMode c.in-OneMode.no_backslash_escape) c.args.query.now (λ ts. first_cause ts known.0 ≡ None) c.in-OneMode.is known.2,
    )

pub bind_made_as-requires-in-EitherMode-clause-no_cause : goal.bind_made_as-requires-in-EitherMode-clause-no_cause
bind_made_as-requires-in-EitherMode-clause-no_cause c =
    let known = c.requires.no_cause in (
      known.0,
      known.1,
      on_tokens c.args.purpose EitherMode c.args.query.now (λ ts. first_cause ts known.0 ≡ None) c.in-EitherMode.is known.2,
    )

pub bind_made_as-requires-in-AnyConnection-clause-no_cause : goal.bind_made_as-requires-in-AnyConnection-clause-no_cause
bind_made_as-requires-in-AnyConnection-clause-no_cause c =
    let known = c.requires.no_cause in (
      known.0,
      known.1,
      on_tokens c.args.purpose AnyConnection c.args.query.now (λ ts. first_cause ts known.0 ≡ None) c.in-AnyConnection.is known.2,
    )

pub returns-in-OneMode : goal.returns-in-OneMode
returns-in-OneMode c = record {
  text = λ expected answer. each_text (λ text. text.items) c.bind_made_as.result c.args.purpose c.args.query.now expected
      (one_mode_bound (λ text. text.items) c.bind_made_as.result c.args.purpose c.args.query.now expected
      c.in-OneMode.no_backslash_escape c.in-OneMode.is
      (c.bind_made_as.ensures.text expected answer));
}

pub returns-in-EitherMode : goal.returns-in-EitherMode
returns-in-EitherMode c = record {
  text = λ expected answer. each_text (λ text. text.items) c.bind_made_as-in-EitherMode.result c.args.purpose c.args.query.now expected
      (either_bound (λ text. text.items) c.bind_made_as-in-EitherMode.result c.args.purpose c.args.query.now expected
      c.in-EitherMode.is (accepted_in_each_mode c.args.purpose c.args.query.now c.requires.accepted)
      (c.bind_made_as-in-EitherMode.ensures.text expected answer));
}

pub returns-in-AnyConnection : goal.returns-in-AnyConnection
returns-in-AnyConnection c = record {
  text = λ expected answer. each_text (λ text. text.items) c.bind_made_as-in-AnyConnection.result c.args.purpose c.args.query.now expected
      (any_bound (λ text. text.items) c.bind_made_as-in-AnyConnection.result c.args.purpose c.args.query.now expected
      c.in-AnyConnection.is (accepted_in_each_mode c.args.purpose c.args.query.now c.requires.accepted)
      (c.bind_made_as-in-AnyConnection.ensures.text expected answer));
}
