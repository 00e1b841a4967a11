-- The total holds the terms passed.
use mathlib.Core.Path.{◌≡◌}
use Prim.Native.Nat.{◌*◌, ◌+◌}
use lib.IntN.{◌*ℤ◌}
use Rattle.whole.specs.Sum.{sum}
use Rattle.jobs.specs.Words.{count_at, word_at}
use Rattle.measure.proofs.links.link_sum.Given as goal

abbrev pub invariant-loop-m : goal.invariant-loop-m
invariant-loop-m l = (l.total ≡ sum l.m (λ m. word_at l.p.job.words.now (l.s + 2 + 2 * m) *ℤ word_at l.p.words.now (count_at l.p.job.words.now (l.s + 1 + 2 * m))))
