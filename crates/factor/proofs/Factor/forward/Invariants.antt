-- After the turns below j, what is left is the values from j on.
use mathlib.Core.Path.{◌≡◌}
use Prim.Native.Nat.{◌-◌}
use Rattle.factor.specs.Solve.{forward_from}
use Rattle.factor.proofs.Factor.forward.Given as goal

abbrev pub invariant-loop-j : goal.invariant-loop-j
invariant-loop-j l = forward_from l.self.multipliers.now l.self.reach (l.self.cells - l.j) l.j l.y ≡ forward_from l.self.multipliers.now l.self.reach l.self.cells 0 l.initial.y
