use Rattle.std.proofs.Common.{refl, arith}
use Rattle.std.proofs.lemmas.List.{length-take-le}
use Rattle.mysql_binding.proofs.MeasuredTextLemmas.{measured_length, front_text}
use Rattle.mysql_binding.proofs.binding.room.fill_front.Goals as goal

pub returns-then-room-len : goal.returns-then-room-len
returns-then-room-len g c = λ given o.
    (o.0, o.1, (omega (arith, c.if-room-len.true), measured_length (g.F.LiteralForm.literal c.args.form.now) o.0 given c.args.measured.now o.2 (g.met.F.LiteralForm.floats c.args.form.now), refl))

pub returns : goal.returns
returns g c = λ given o.
    front_text c.args.surveyed.now.reading (g.F.LiteralForm.literal c.args.form.now) (g.F.LiteralForm.IsKnown c.args.form.now) c.args.surveyed.now.query.now given c.args.measured.now.len
    c.fill_measured.new.room c.args.room.now (omega (arith, c.if-room-len.false)) (omega (arith, c.fill_measured.auto.room, c.if-room-len.false, length-take-le c.args.measured.now.len c.args.room.now (omega (arith, c.if-room-len.false)))) (c.fill_measured.ensures given o)
