use Rattle.std.proofs.Common.{◌∙◌, refl, sym}
use Rattle.mysql_named_params.proofs.TokensExistLemmas.{tokens_exist}
use Rattle.mysql_steady_text.proofs.purpose.scope_refusal.Goals as goal

pub returns-in-OneMode : goal.returns-in-OneMode
returns-in-OneMode c mode =
    let t = tokens_exist mode c.args.query.now in
    let is = c.in-OneMode.is in
    (t.0, t.1, rw is refl)

pub returns-in-Some : goal.returns-in-Some
returns-in-Some c mode =
    let t = c.first_backslash.ensures mode in
    let is = c.in-EitherMode.is in
    let at = sym t.2 ∙ c.in-Some.is in
    (t.0, t.1, rw is (rw at refl))

pub returns-in-None : goal.returns-in-None
returns-in-None c mode =
    let t = c.first_backslash.ensures mode in
    let is = c.in-EitherMode.is in
    let at = sym t.2 ∙ c.in-None.is in
    (t.0, t.1, rw is (rw at refl))

pub returns-in-Some-first_unsteady : goal.returns-in-Some-first_unsteady
returns-in-Some-first_unsteady c mode =
    let t = tokens_exist mode c.args.query.now in
    let is = c.in-AnyConnection.is in
    let at = sym c.first_unsteady.ensures.first ∙ c.in-Some-first_unsteady.is in
    (t.0, t.1, rw is (rw at refl))

pub returns-in-None-first_unsteady : goal.returns-in-None-first_unsteady
returns-in-None-first_unsteady c mode =
    let t = tokens_exist mode c.args.query.now in
    let is = c.in-AnyConnection.is in
    let at = sym c.first_unsteady.ensures.first ∙ c.in-None-first_unsteady.is in
    (t.0, t.1, rw is (rw at refl))
