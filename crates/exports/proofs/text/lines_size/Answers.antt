use Rattle.exports.proofs.Texts.{sizing_start, sizing_go}
use Rattle.exports.proofs.text.lines_size.Goals as goal

pub loop-rate-init : goal.loop-rate-init
loop-rate-init c = sizing_start c.args.first c.args.rates.now

pub loop-rate-preserved : goal.loop-rate-preserved
loop-rate-preserved c = sizing_go c.loop-rate.invariant c.loop-rate-test.true (rw c.from.ensures at c.line_size-total.ensures)
