use mathlib.Core.Path.{sym, ◌∙◌}
use Rattle.decimals.proofs.Wholes.{reading_go, reading_bad, reading_end}
use Rattle.decimals.proofs.reading.whole_of.Goals as goal

pub returns-in_err-value : goal.returns-in_err-value
returns-in_err-value c = c.from_residual.ensures ∙ reading_bad c.loop-b.invariant c.loop-b-test.true (sym c.digit_after.ensures ∙ c.in_err-value.was)

pub loop-b-preserved : goal.loop-b-preserved
loop-b-preserved c = reading_go c.loop-b.invariant c.loop-b-test.true (sym c.digit_after.ensures ∙ c.in_ok-value.was)

pub returns : goal.returns
returns c = reading_end c.loop-b.invariant c.loop-b-test.false
