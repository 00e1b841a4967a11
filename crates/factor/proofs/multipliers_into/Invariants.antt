-- After the turns below i, what is left is the multipliers from i on.
use mathlib.Core.Path.{◌≡◌}
use Prim.Native.Nat.{◌-◌}
use lib.ListN.{length}
use Rattle.factor.specs.Factor.{row_from}
use Rattle.factor.proofs.multipliers_into.Given as goal

abbrev pub invariant-loop-i : goal.invariant-loop-i
invariant-loop-i l = (length l.made ≡ l.before.cells - l.lo) × (row_from l.before.reach l.entries l.before.pivots.now l.before.multipliers.now l.before.cells l.lo (l.before.cells - l.i) l.i l.made ≡ row_from l.before.reach l.entries l.before.pivots.now l.before.multipliers.now l.before.cells l.lo (l.before.cells - l.lo) l.lo l.initial.made)
