use Rattle.std.proofs.Common.{refl, arith}
use Rattle.whole.specs.Sum.{sum}
use Rattle.whole.proofs.Fits.{adds_fits, adds_next}
use Rattle.house.proofs.Sizes.{squares_adds}
use Rattle.house.proofs.band.squares_at.Goals as goal

pub loop-m-init : goal.loop-m-init
unfolding sum
loop-m-init c = refl

pub overflow_add-total : goal.overflow_add-total
overflow_add-total c = adds_fits (squares_adds c.args.n c.args.z c.args.i c.args.o c.requires.1) (omega arith) (record { is = c.loop-m.invariant }) c.product_term-total.ensures

pub loop-m-preserved : goal.loop-m-preserved
loop-m-preserved c = (adds_next (squares_adds c.args.n c.args.z c.args.i c.args.o c.requires.1) (omega arith) (record { is = c.loop-m.invariant }) c.product_term-total.ensures).is
