use mathlib.Core.Path.{sym}
use native.Mathlib.Omega.{arith}
use Rattle.whole.proofs.Fits.{adds_fits, adds_next}
use Rattle.whole.proofs.Sums.{sum_zero}
use Rattle.measure.proofs.Differences.{difference_adds}
use Rattle.measure.proofs.loss.difference_at.Goals as goal

pub loop-m-init : goal.loop-m-init
loop-m-init c = sym (sum_zero _)

pub overflow_add-total : goal.overflow_add-total
overflow_add-total c = adds_fits (difference_adds c.requires) (omega arith) (record { is = c.loop-m.invariant }) c.difference_term-total.ensures

pub loop-m-preserved : goal.loop-m-preserved
loop-m-preserved c = (adds_next (difference_adds c.requires) (omega arith) (record { is = c.loop-m.invariant }) c.difference_term-total.ensures).is
