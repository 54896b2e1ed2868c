use Rattle.std.proofs.Common.{◌≡◌, ◌∙◌, true, refl, sym}
use Rattle.mysql_portable.specs.Clear.{is_clear_in_client}
use Rattle.mysql_portable.proofs.ClearInClientLemmas.{clear_in_client_is_portable, clear_in_client_is_steady}
use Rattle.mysql_portable.proofs.ClearLoweredLemmas.{clear_wide_is_portable_in_client}
use Rattle.mysql_portable.proofs.clear.is_clear_in_client.Goals as goal

pub returns-then-not-begins_client_line-clause-steady : goal.returns-then-not-begins_client_line-clause-steady
returns-then-not-begins_client_line-clause-steady c is =
    let clear : is_clear_in_client c.args.query.now ≡ true = rw (sym c.begins_client_line.ensures ∙ c.if-not-begins_client_line.true, sym c.is_clear_for.ensures ∙ is) refl in
    clear_in_client_is_steady c.args.query.now clear

pub returns-then-not-begins_client_line-clause-portable : goal.returns-then-not-begins_client_line-clause-portable
returns-then-not-begins_client_line-clause-portable c is mode =
    let clear : is_clear_in_client c.args.query.now ≡ true = rw (sym c.begins_client_line.ensures ∙ c.if-not-begins_client_line.true, sym c.is_clear_for.ensures ∙ is) refl in
    clear_in_client_is_portable mode c.args.query.now clear

pub returns-then-not-begins_client_line-clause-portable_by_wide_names : goal.returns-then-not-begins_client_line-clause-portable_by_wide_names
returns-then-not-begins_client_line-clause-portable_by_wide_names c is mode =
    let clear : is_clear_in_client c.args.query.now ≡ true = rw (sym c.begins_client_line.ensures ∙ c.if-not-begins_client_line.true, sym c.is_clear_for.ensures ∙ is) refl in
    clear_wide_is_portable_in_client mode c.args.query.now clear
