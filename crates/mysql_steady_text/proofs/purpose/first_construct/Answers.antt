use Rattle.std.proofs.Common.{refl}
use Rattle.mysql_named_params.proofs.ReadingLemmas.{reading_exists}
use Rattle.mysql_steady_text.proofs.purpose.first_construct.Goals as goal

pub returns-in-Any : goal.returns-in-Any
returns-in-Any c =
    let t = reading_exists c.args.reading c.args.query.now in
    let is = c.in-Any.is in
    (t.0, t.1, rw is refl)
