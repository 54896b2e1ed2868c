use Rattle.std.specs.Prelude.{◌≡◌, ◌↔◌, None}
use Rattle.mysql_portable.specs.FirstUnportableInClient.{first_unportable_in_client, IsPortableInClient}
use Rattle.mysql_portable.proofs.WideWalkLemmas.{in_grammar}
use Rattle.mysql_portable.proofs.wide.first_unportable_in_client_in.Goals as goal

pub returns-else-reading-clause-first : goal.returns-else-reading-clause-first
returns-else-reading-clause-first c =
    in_grammar c.args.reading c.args.query.now (λ ts. c.first_unportable_in_client.result ≡ first_unportable_in_client ts) c.if-reading.false c.first_unportable_in_client.ensures.first

pub returns-else-reading-clause-none : goal.returns-else-reading-clause-none
returns-else-reading-clause-none c =
    in_grammar c.args.reading c.args.query.now (λ ts. (c.first_unportable_in_client.result ≡ None) ↔ IsPortableInClient ts) c.if-reading.false c.first_unportable_in_client.ensures.none
