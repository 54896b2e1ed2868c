use Rattle.std.proofs.Common.{◌++◌, length, take, arith, ap, ◌∙◌}
use Rattle.std.specs.Prelude.{codes}
use Rattle.mysql_fragments.specs.FragmentText.{qualified_text}
use Rattle.mysql_fragments.proofs.JoinedLemmas.{appended_next, joined_fits, joined_len}
use Rattle.mysql_fragments.proofs.names.append_columns.Goals as goal

pub append_separator-end-requires : goal.append_separator-end-requires
append_separator-end-requires c = record {
  room = omega (arith, c.requires.room, c.loop-i.invariant.0, c.loop-i.invariant.2, joined_fits (codes ", ") (λ names. qualified_text names.items) c.args.columns.now c.loop-i.i c.index-columns-i.result c.loop-i-test.true c.index-columns-i.is);
}

pub append_names-end-requires : goal.append_names-end-requires
append_names-end-requires c = record {
  room =
      omega (
        arith,
        c.requires.room,
        c.loop-i.invariant.0,
        c.loop-i.invariant.2,
        c.append_separator-end.ensures.next,
        c.append_separator-end.auto.text,
        ap (λ z. length (qualified_text z)) c.as_slice.ensures.value,
        joined_fits (codes ", ") (λ names. qualified_text names.items) c.args.columns.now c.loop-i.i c.index-columns-i.result c.loop-i-test.true c.index-columns-i.is,
      );
}

pub loop-i-preserved : goal.loop-i-preserved
loop-i-preserved c = (
  omega (
    arith,
    c.loop-i.invariant.0,
    c.append_separator-end.ensures.next,
    c.append_names-end.ensures.next,
    ap (λ z. length (qualified_text z)) c.as_slice.ensures.value,
    joined_len (codes ", ") (λ names. qualified_text names.items) c.args.columns.now c.loop-i.i c.index-columns-i.result c.loop-i-test.true c.index-columns-i.is,
  ),
  appended_next (codes ", ") (λ names. qualified_text names.items) c.args.columns.now c.loop-i.i c.index-columns-i.result _ _ _ _ c.loop-i-test.true c.index-columns-i.is c.loop-i.invariant.1
      c.append_separator-end.ensures.front (c.append_names-end.ensures.front ∙ ap (λ z. take c.append_separator-end.result c.append_separator-end.new.text ++ qualified_text z) c.as_slice.ensures.value),
  omega (arith, c.loop-i.invariant.2, c.append_separator-end.auto.text, c.append_names-end.auto.text),
)
