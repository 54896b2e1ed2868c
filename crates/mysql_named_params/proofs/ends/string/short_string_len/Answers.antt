use Rattle.std.proofs.Common.{sym, ◌∙◌, arith}
use Rattle.mysql_named_params.proofs.ShortStringLemmas.{past_escape, past_other, within_closed, within_open}
use Rattle.mysql_named_params.proofs.ends.string.short_string_len.Goals as goal

pub returns-then-byte-quote-clause-string : goal.returns-then-byte-quote-clause-string
returns-then-byte-quote-clause-string c = within_closed _ _ _ _ c.bytes.invariant c.bytes-test.true c.if-byte-quote.true

pub bytes-preserved : goal.bytes-preserved
bytes-preserved c =
    past_other _ _ _ _ c.bytes.invariant c.bytes-test.true c.if-byte-quote.false (sym c.is_escape.ensures ∙ c.if-is_escape.false)

pub bytes-preserved-then-is_escape : goal.bytes-preserved-then-is_escape
bytes-preserved-then-is_escape c =
    past_escape _ _ _ _ _ c.bytes.invariant c.bytes-test.true c.if-byte-quote.false (sym c.is_escape.ensures ∙ c.if-is_escape.true) c.min-at.ensures

pub returns-clause-string : goal.returns-clause-string
returns-clause-string c = within_open _ _ _ _ c.bytes.invariant (omega (arith, c.bytes-test.false))
