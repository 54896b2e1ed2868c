use Rattle.std.proofs.Common.{sym, ◌∙◌, arith}
use Rattle.mysql_bind_core.proofs.OpenStringLemmas.{units_none, past_byte, past_escape, ends_at_quote, goes_on}
use Rattle.mysql_bind_core.proofs.checked.is_open_string.Goals as goal

pub units-init : goal.units-init
units-init c = units_none _ _ _

pub returns-then-byte-quote-clause-closed : goal.returns-then-byte-quote-clause-closed
returns-then-byte-quote-clause-closed c = λ with_quote.
    ends_at_quote _ _ _ _ _ c.requires.quote c.requires.string c.units.invariant c.units-test.true c.if-byte-quote.true

pub units-preserved : goal.units-preserved
units-preserved c =
    past_byte _ _ _ _ c.units.invariant c.units-test.true c.if-byte-quote.false (sym c.is_escape.ensures ∙ c.if-is_escape.false)

pub units-preserved-then-is_escape : goal.units-preserved-then-is_escape
units-preserved-then-is_escape c =
    past_escape _ _ _ _ c.units.invariant c.units-test.true (sym c.is_escape.ensures ∙ c.if-is_escape.true)

pub returns-clause-open : goal.returns-clause-open
returns-clause-open c = λ without_quote. goes_on _ _ _ _ c.requires.quote c.units.invariant (omega (arith, c.units-test.false))
