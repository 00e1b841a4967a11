-- After the turns below m, what is left to take off is the terms from m on.
use mathlib.Core.Path.{◌≡◌}
use Prim.Native.Nat.{◌+◌, ◌-◌}
use Rattle.factor.specs.Factor.{less_by}
use Rattle.factor.specs.Solve.{upper_term}
use Rattle.factor.proofs.Factor.less_upper.Given as goal

abbrev pub invariant-loop-m : goal.invariant-loop-m
invariant-loop-m l = less_by (upper_term l.self.reach l.self.multipliers.now l.j l.v) l.m (l.top + 1 - l.m) l.rest ≡ less_by (upper_term l.self.reach l.self.multipliers.now l.j l.v) (l.j + 1) (l.top - l.j) l.x
