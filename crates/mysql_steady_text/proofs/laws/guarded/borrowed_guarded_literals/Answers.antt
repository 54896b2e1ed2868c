use Rattle.mysql_values.specs.BorrowedValue.{owned}
use Rattle.mysql_steady_text.proofs.GuardedLiteralLemmas as lemmas
use Rattle.mysql_steady_text.proofs.laws.guarded.borrowed_guarded_literals.Goals as goal

pub returns : goal.returns
returns c =
    let v = owned c.args.value in
    let mode = c.args.no_backslash_escape in
    let r = c.borrowed_fields_in_range.ensures.range in
    record { shape = lemmas.guarded_shape mode v r; apart = lemmas.guarded_kept_apart mode v r; reads_back = lemmas.guarded_reads mode v r; float = lemmas.guarded_float mode v }
