-- The squares of the differences passed are totalled, and what they give back is added; with the constant 0 there is nothing to add.
use mathlib.Core.Path.{◌≡◌}
use lib.IntN.{pos, ◌*ℤ◌}
use Rattle.whole.specs.Sum.{sum}
use Rattle.certificate.specs.Problem.{squared}
use Rattle.rows.specs.Rows.{row_of}
use Rattle.jobs.specs.Words.{word_at}
use Rattle.measure.specs.Loss.{family_with, difference_within}
use Rattle.measure.specs.Running.{Added, back_at}
use Rattle.measure.proofs.smooth.smooth.Given as goal

abbrev pub invariant-loop-i : goal.invariant-loop-i
invariant-loop-i l = ((l.rough ≡ sum l.i (λ f. squared (difference_within l.width (family_with l.z l.stride l.n) (word_at l.values) f)))
    × Added (λ c. sum l.i (λ f. back_at (row_of l.z) l.z l.stride f (pos 2 *ℤ l.k *ℤ difference_within l.width (family_with l.z l.stride l.n) (word_at l.values) f) c)) l.initial.parts l.parts)
