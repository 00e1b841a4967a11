-- After the turns below m, what is left to add is the terms from m on.
use mathlib.Core.Path.{◌≡◌}
use Prim.Native.Nat.{◌-◌}
use Rattle.passes.specs.Hildreth.{plus_by, term_over}
use Rattle.passes.specs.OnWords.{link_at}
use Rattle.passes.proofs.link.Link.sum_over.Given as goal

abbrev pub invariant-loop-m : goal.invariant-loop-m
invariant-loop-m l = plus_by (term_over (link_at l.self.words.now l.self.start) l.xs) l.m (l.t - l.m) l.total ≡ plus_by (term_over (link_at l.self.words.now l.self.start) l.xs) 0 l.t l.initial.total
