use Rattle.std.proofs.Common.{◌+◌, arith, sym, ◌∙◌}
use lib.Count.{count_trailing_zeros}
use Rattle.memchr.specs.Find.{is_byte}
use Rattle.mysql_sql_text.proofs.MaskLemmas.{later_mask}
use Rattle.mysql_named_params.proofs.ClosingQuoteLemmas.{next_quote, none_left, none_past}
use Rattle.mysql_named_params.proofs.ends.string.closing_quote.Goals as goal

pub is_escaped-requires : goal.is_escaped-requires
is_escaped-requires c =
    let inv = c.quotes.invariant in
    let next = next_quote _ _ _ _ _ (c.args.from + 16) _ inv.1 c.requires (omega arith) inv.3 inv.2 c.quotes-test.true in
    omega (arith, next.0, c.requires)

pub returns-then-not-is_escaped : goal.returns-then-not-is_escaped
returns-then-not-is_escaped c =
    let inv = c.quotes.invariant in
    let next = next_quote _ _ _ _ _ (c.args.from + 16) _ inv.1 c.requires (omega arith) inv.3 inv.2 c.quotes-test.true in (
      omega (arith, inv.0),
      next.0,
      record { none_before = next.1; is_quote = next.2; closes = sym c.is_escaped.ensures ∙ c.if-not-is_escaped.true },
    )

pub overflow_shr-quotes : goal.overflow_shr-quotes
overflow_shr-quotes c =
    let inv = c.quotes.invariant in
    let next = next_quote _ _ _ _ _ (c.args.from + 16) _ inv.1 c.requires (omega arith) inv.3 inv.2 c.quotes-test.true in
    omega (arith, next.0, inv.0)

pub quotes-preserved : goal.quotes-preserved
quotes-preserved c =
    let inv = c.quotes.invariant in
    let next = next_quote _ _ _ _ _ (c.args.from + 16) _ inv.1 c.requires (omega arith) inv.3 inv.2 c.quotes-test.true in
    let run = count_trailing_zeros 64 c.quotes.quotes in (
      omega (arith, inv.0),
      omega (arith, next.0),
      none_past _ _ _ _ _ next.1 (sym c.is_escaped.ensures ∙ c.if-not-is_escaped.false),
      later_mask (is_byte c.args.quote) c.args.text.now c.quotes.at _ (c.args.from + 16) c.quotes.quotes (run + 1) (omega arith) (omega (arith, next.0)) inv.3,
    )

pub returns : goal.returns
returns c =
    let inv = c.quotes.invariant in
    none_left _ _ _ _ _ (c.args.from + 16) _ inv.1 c.requires (omega arith) inv.3 inv.2 c.quotes-test.false
