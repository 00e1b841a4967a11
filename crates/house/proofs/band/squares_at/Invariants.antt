-- After m turns the total is the sum of the terms below m.
use Rattle.std.proofs.Common.{◌≡◌}
use Rattle.whole.specs.Sum.{sum}
use Rattle.house.specs.Band.{product_term}
use Rattle.house.proofs.band.squares_at.Given as goal

abbrev pub invariant-loop-m : goal.invariant-loop-m
invariant-loop-m l = l.total ≡ sum l.m (product_term l.n l.z l.i l.o)
