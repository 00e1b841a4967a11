-- After the turns below i, what is left is the values from i on.
use mathlib.Core.Path.{◌≡◌}
use Prim.Native.Nat.{◌-◌}
use Rattle.passes.specs.Hildreth.{fallen_from}
use Rattle.passes.proofs.method.fall.Given as goal

abbrev pub invariant-loop-i : goal.invariant-loop-i
invariant-loop-i l = fallen_from l.x l.h (l.n - l.i) l.i l.v ≡ fallen_from l.x l.h l.n 0 l.initial.v
