use Rattle.std.proofs.Common.{refl}
use Rattle.std.proofs.lemmas.Bool.Decides.{Decides-eqb}
use Rattle.std.proofs.lemmas.Slice.Eq.{ends_is}
use Rattle.mysql_bind_core.specs.Requests.{mode_of}
use Rattle.mysql_bind_core.proofs.EndAlikeLemmas.{no_dashes, portable_with_end}
use Rattle.mysql_bind_core.proofs.checked.check_reading.Goals as goal

pub returns-then-is_clear_in_client-clause-portable : goal.returns-then-is_clear_in_client-clause-portable
returns-then-is_clear_in_client-clause-portable c = λ asked.
    let mode = mode_of c.args.request.literals in
    let own = c.if-is_clear_in_client.ensures.portable_by_wide_names refl mode in
    let other = no_dashes c.args.query.now c.ends_with.result (ends_is Decides-eqb _ _ _ c.ends_with.ensures.value).1 c.if-not-ends_with.true in
    (own, portable_with_end mode c.args.query.now c.requires other own)
