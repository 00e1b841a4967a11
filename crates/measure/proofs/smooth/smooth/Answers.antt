use mathlib.Core.Path.{refl, sym}
use native.Mathlib.Omega.{arith}
use Rattle.whole.proofs.Fits.{adds_fits, adds_next, fits_by, gives}
use Rattle.whole.proofs.Sums.{sum_zero}
use Rattle.measure.proofs.Directions.{double_fits, double_is, smooth_differs, smooth_end, smooth_gives, smooth_next, smooth_start, smooths_by, square_fits, square_is, squares_adds, times_fits, times_is}
use Rattle.measure.proofs.smooth.smooth.Goals as goal

pub loop-i-init : goal.loop-i-init
loop-i-init c = (sym (sum_zero _), smooth_start (smooths_by (sym (gives refl c.ranges.k)) c.requires))

pub difference_within-d-requires : goal.difference_within-d-requires
difference_within-d-requires c = (smooth_differs c.requires c.row_of-row.ensures _ (omega arith), c.requires.width_some)

pub overflow_mul-y-in-loop-i : goal.overflow_mul-y-in-loop-i
overflow_mul-y-in-loop-i c = let S = smooths_by (sym (gives refl c.ranges.k)) c.requires in
    fits_by (double_is S c.row_of-row.ensures (omega arith) c.difference_within-d.ensures) (double_fits S c.row_of-row.ensures (omega arith) c.difference_within-d.ensures)

pub give_back-requires : goal.give_back-requires
give_back-requires c = let S = smooths_by (sym (gives refl c.ranges.k)) c.requires in
    smooth_gives S c.row_of-row.ensures (omega arith) c.difference_within-d.ensures c.loop-i.invariant.1
    (gives (double_is S c.row_of-row.ensures (omega arith) c.difference_within-d.ensures) (double_fits S c.row_of-row.ensures (omega arith) c.difference_within-d.ensures))

pub overflow_mul-rough : goal.overflow_mul-rough
overflow_mul-rough c = fits_by (square_is c.requires c.row_of-row.ensures (omega arith) c.difference_within-d.ensures) (square_fits c.requires c.row_of-row.ensures (omega arith) c.difference_within-d.ensures)

pub overflow_add-rough : goal.overflow_add-rough
overflow_add-rough c = adds_fits (squares_adds c.requires) (omega arith) (record { is = c.loop-i.invariant.0 }) (square_is c.requires c.row_of-row.ensures (omega arith) c.difference_within-d.ensures)

pub loop-i-preserved : goal.loop-i-preserved
loop-i-preserved c = let S = smooths_by (sym (gives refl c.ranges.k)) c.requires in (
  (adds_next (squares_adds c.requires) (omega arith) (record { is = c.loop-i.invariant.0 }) (square_is c.requires c.row_of-row.ensures (omega arith) c.difference_within-d.ensures)).is,
  smooth_next S c.row_of-row.ensures (omega arith) c.difference_within-d.ensures c.loop-i.invariant.1
      (gives (double_is S c.row_of-row.ensures (omega arith) c.difference_within-d.ensures) (double_fits S c.row_of-row.ensures (omega arith) c.difference_within-d.ensures))
      c.give_back.ensures,
)

pub overflow_mul-result : goal.overflow_mul-result
overflow_mul-result c = fits_by (times_is c.requires (gives refl c.ranges.k) (omega arith) (record { is = c.loop-i.invariant.0 })) (times_fits c.requires)

pub returns : goal.returns
returns c = (
  gives (times_is c.requires (gives refl c.ranges.k) (omega arith) (record { is = c.loop-i.invariant.0 })) (times_fits c.requires),
  rw (gives {x = c.args.k} refl c.ranges.k) at (smooth_end (smooths_by (sym (gives refl c.ranges.k)) c.requires) (omega arith) c.loop-i.invariant.1),
)
