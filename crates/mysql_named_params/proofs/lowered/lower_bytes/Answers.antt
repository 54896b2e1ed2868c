use Rattle.std.proofs.Common.{◌-◌, ◌∙◌, arith, drop, length-drop}
use Rattle.std.proofs.lemmas.List.{length-take-le}
use Rattle.std.proofs.lemmas.Slice.{drop-put_mid}
use Rattle.mysql_named_params.proofs.lowered.lower_bytes.Goals as goal

pub returns-clause-rest : goal.returns-clause-rest
returns-clause-rest c =
    drop-put_mid c.args.start (c.args.end - c.args.start) c.args.text.now c.make_ascii_lowercase.new.self c.args.end (omega (arith, c.requires.0)) (omega (arith, c.requires.0, c.requires.1))
    (c.make_ascii_lowercase.auto.self ∙ length-take-le (c.args.end - c.args.start) (drop c.args.start c.args.text.now) (omega (arith, c.requires.0, c.requires.1, length-drop c.args.start c.args.text.now)))
