use Rattle.std.proofs.Common.{◌∙◌, refl, sym}
use Rattle.mysql_portable.proofs.ClearLemmas.{clear_query_is_steady}
use Rattle.std.specs.Prelude.{false}
use Rattle.mysql_steady_text.proofs.PurposeLemmas.{clear_in_clients, clear_on_servers}
use Rattle.mysql_steady_text.proofs.purpose.is_clear_for.Goals as goal

pub returns-in-Servers-clause-steady : goal.returns-in-Servers-clause-steady
returns-in-Servers-clause-steady c = λ clear.
    clear_query_is_steady false c.args.query.now (sym c.is_clear.ensures ∙ clear)

pub returns-in-Servers-clause-portable : goal.returns-in-Servers-clause-portable
returns-in-Servers-clause-portable c = λ clear wide mode.
    let is = c.in-Servers.is in
    let o = clear_on_servers c.args.query.now (sym c.is_clear.ensures ∙ clear) wide mode in
    (o.0, o.1, rw is o.2)

pub returns-in-Clients-clause-portable : goal.returns-in-Clients-clause-portable
returns-in-Clients-clause-portable c = λ clear wide mode.
    let is = c.in-Clients.is in
    let o = clear_in_clients c.args.query.now (sym c.is_clear_in_client.ensures.value ∙ clear) wide mode in
    (o.0, o.1, rw is o.2)
