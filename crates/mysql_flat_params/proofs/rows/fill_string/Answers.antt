use Rattle.std.proofs.Common.{arith, ◌∙◌}
use Rattle.std.proofs.lemmas.List.{length-take-le}
use Rattle.mysql_flat_params.proofs.StringRoomLemmas.{string_too_long, string_written}
use Rattle.mysql_flat_params.proofs.rows.fill_string.Goals as goal

pub returns-then-room-len : goal.returns-then-room-len
returns-then-room-len c = λ given o.
    string_too_long c.args.surveyed.now.reading c.args.surveyed.now.query.now given c.args.measured.now c.args.room.now c.length_lead-count.result.1
    c.length_lead-count.ensures.count (omega (arith, c.if-room-len.true)) o

pub returns : goal.returns
returns c = λ given o.
    string_written c.args.surveyed.now.reading c.args.surveyed.now.query.now given c.copy_from_slice.new.self c.fill_measured.new.room c.split_at_mut-front.result.1.now c.args.room.now
    c.length_lead-count.result.1 c.args.measured.now.len (c.copy_from_slice.ensures.after ∙ c.length_lead-count.ensures.spelled) c.length_lead-count.ensures.count
    (c.fill_measured.auto.room ∙ length-take-le c.args.measured.now.len c.split_at_mut-front.result.1.now (omega (arith, c.split_at_mut-front.ensures.back_len, c.if-room-len.false))) c.split_at_mut-front.ensures.back
    (omega (arith, c.if-room-len.false)) (c.fill_measured.ensures given o)
