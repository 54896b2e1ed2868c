use Rattle.std.proofs.Common.{subst}
use Rattle.std.specs.Prelude.{Bool, None, IfErr, IfOk}
use Rattle.mysql_named_params.specs.Tokens.{OnTokens}
use Rattle.mysql_params_core.specs.Given.{Given}
use Rattle.mysql_binding.specs.FirstCause.{first_cause}
use Rattle.mysql_steady_text.specs.GuardedAgain.{IsGuardedByPosition}
use Rattle.mysql_steady_text.specs.GuardedText.{IsGuardedText}
use Rattle.mysql_steady_text.specs.SteadyTextErrors.{IsSteadyRefusal}
use Rattle.mysql_steady_text.proofs.guarded_text.bind_text_guarded.Goals as goal

pub returns-clause-bound : goal.returns-clause-bound
returns-clause-bound c =
    subst (λ (g : Given). (mode : Bool) → OnTokens mode c.args.query.now (λ ts. IfOk c.bind_borrowed_guarded.result (λ text. IsGuardedText c.args.no_backslash_escape ts g text.items)))
    c.borrowed.ensures c.bind_borrowed_guarded.ensures.bound

pub returns-clause-refused : goal.returns-clause-refused
returns-clause-refused c =
    subst (λ (g : Given). (mode : Bool) → OnTokens mode c.args.query.now (λ ts. IfErr c.bind_borrowed_guarded.result (IsSteadyRefusal c.args.query.now None (first_cause ts g))))
    c.borrowed.ensures c.bind_borrowed_guarded.ensures.refused

pub returns-clause-by_position : goal.returns-clause-by_position
returns-clause-by_position c =
    subst (λ (g : Given). (mode : Bool) → OnTokens mode c.args.query.now (λ ts. IfOk c.bind_borrowed_guarded.result (λ text. IsGuardedByPosition mode c.args.no_backslash_escape ts g text.items)))
    c.borrowed.ensures c.bind_borrowed_guarded.ensures.by_position
