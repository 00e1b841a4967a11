-- After the turns from the last cell down, what is left is the values below j.
use mathlib.Core.Path.{◌≡◌}
use Rattle.factor.specs.Solve.{backward_from}
use Rattle.factor.proofs.Factor.backward.Given as goal

abbrev pub invariant-loop-j : goal.invariant-loop-j
invariant-loop-j l = backward_from l.self.multipliers.now l.self.reach l.self.cells l.j l.v ≡ backward_from l.self.multipliers.now l.self.reach l.self.cells l.self.cells l.initial.v
