-- After the turns below j, what is left is the divisions from j on.
use mathlib.Core.Path.{◌≡◌}
use Prim.Native.Nat.{◌-◌}
use Rattle.factor.specs.Solve.{divided_from}
use Rattle.factor.proofs.Factor.divide.Given as goal

abbrev pub invariant-loop-j : goal.invariant-loop-j
invariant-loop-j l = divided_from l.self.pivots.now (l.self.cells - l.j) l.j l.y ≡ divided_from l.self.pivots.now l.self.cells 0 l.initial.y
