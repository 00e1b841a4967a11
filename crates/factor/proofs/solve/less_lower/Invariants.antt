-- After the turns below m, what is left to take off is the terms from m on.
use mathlib.Core.Path.{◌≡◌}
use Prim.Native.Nat.{◌-◌}
use Rattle.factor.specs.Factor.{less_by}
use Rattle.factor.specs.Solve.{lower_term}
use Rattle.factor.proofs.solve.less_lower.Given as goal

abbrev pub invariant-loop-m : goal.invariant-loop-m
invariant-loop-m l = less_by (lower_term l.lj l.j l.y) l.m (l.j - l.m) l.rest ≡ less_by (lower_term l.lj l.j l.y) l.lo (l.j - l.lo) l.x
