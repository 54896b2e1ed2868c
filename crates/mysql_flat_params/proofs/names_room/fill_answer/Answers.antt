use Rattle.std.proofs.Common.{◌-◌, take, ap, ◌∙◌, arith}
use Rattle.mysql_flat_params.proofs.NamesRoomLemmas.{nameless_answer, same_length, slice_length, row_length, joined_answer, answer_is}
use Rattle.mysql_flat_params.proofs.names_room.fill_answer.Goals as goal

pub fill_lenenc_str-requires : goal.fill_lenenc_str-requires
fill_lenenc_str-requires c = record {
  exact = same_length _ _ _ _ c.requires.exact (nameless_answer _ _ _ c.requires.survey c.if-survey-eq0.true);
}

pub returns-then-survey-eq0 : goal.returns-then-survey-eq0
returns-then-survey-eq0 c =
    answer_is _ _ _ _ c.fill_lenenc_str.ensures.filled (nameless_answer _ _ _ c.requires.survey c.if-survey-eq0.true)

pub split_at_mut-marked-requires : goal.split_at_mut-marked-requires
split_at_mut-marked-requires c =
    omega (arith, slice_length _ _ _ c.requires.survey c.requires.marked _ c.marked_end-end.ensures _ c.requires.exact)

pub fill_names-requires-clause-row : goal.fill_names-requires-clause-row
fill_names-requires-clause-row c =
    row_length _ _ _ c.requires.survey c.requires.marked _ c.marked_end-end.ensures _
    (omega (arith, slice_length _ _ _ c.requires.survey c.requires.marked _ c.marked_end-end.ensures _ c.requires.exact, c.split_at_mut-marked.ensures.back_len))

pub returns : goal.returns
returns c =
    joined_answer _ _ _ c.requires.survey c.requires.marked _ c.marked_end-end.ensures _ _ _
    (c.split_at_mut-text.ensures.front ∙ ap (take (c.marked_end-end.result - c.args.survey.marked_len)) c.fill_lenenc_str-2.ensures.filled)
    c.fill_names.ensures.text c.fill_names.ensures.row
