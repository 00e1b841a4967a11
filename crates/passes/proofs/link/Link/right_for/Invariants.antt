-- After the turns below m, what is left is the coefficients from m on.
use mathlib.Core.Path.{◌≡◌}
use Prim.Native.Nat.{◌-◌}
use Rattle.passes.specs.Hildreth.{placed_from}
use Rattle.passes.specs.OnWords.{link_at}
use Rattle.passes.proofs.link.Link.right_for.Given as goal

abbrev pub invariant-loop-m : goal.invariant-loop-m
invariant-loop-m l = placed_from (link_at l.self.words.now l.self.start) (l.t - l.m) l.m l.made ≡ placed_from (link_at l.self.words.now l.self.start) l.t 0 l.initial.made
