-- The total holds the terms passed, which are few and small.
use mathlib.Core.Path.{◌≡◌}
use Prim.Native.Nat.{◌+◌, ◌*◌}
use lib.IntN.{◌*ℤ◌}
use Rattle.whole.specs.Sum.{sum}
use Rattle.jobs.specs.Words.{word_at}
use Rattle.measure.proofs.loss.difference_at.Given as goal

abbrev pub invariant-loop-m : goal.invariant-loop-m
invariant-loop-m l = (l.total ≡ sum l.m (λ m. word_at l.row m *ℤ word_at l.values (l.i + m * l.stride)))
