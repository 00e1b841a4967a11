use mathlib.Core.Path.{sym}
use native.Mathlib.Omega.{arith}
use Rattle.whole.proofs.Fits.{adds_fits, adds_next}
use Rattle.whole.proofs.Sums.{sum_zero}
use Rattle.measure.proofs.Proposals.{given}
use Rattle.measure.proofs.Losses.{fit_adds}
use Rattle.measure.proofs.loss.fit.Goals as goal

pub loop-i-init : goal.loop-i-init
loop-i-init c = sym (sum_zero _)

pub overflow_add-total : goal.overflow_add-total
overflow_add-total c = adds_fits (fit_adds (given c.args.p) c.cells-n.ensures) (omega arith) (record { is = c.loop-i.invariant }) c.fit_term-total.ensures

pub loop-i-preserved : goal.loop-i-preserved
loop-i-preserved c = (adds_next (fit_adds (given c.args.p) c.cells-n.ensures) (omega arith) (record { is = c.loop-i.invariant }) c.fit_term-total.ensures).is
