-- One of the last two words of the head, which is small.
use mathlib.Core.Path.{ap, ◌∙◌}
use Prim.Native.Nat.{ℕ, ◌-◌}
use native.Mathlib.Omega.{arith}
use mir.Syntax.{w64}
use mir.Val.{to_z, of_z}
use Rattle.jobs.specs.Words.{word_at}
use Rattle.jobs.proofs.Places.{head_some, head_few, cells_inside}
use Rattle.jobs.proofs.Counts.{order_counts, tolerance_read}
use Rattle.jobs.proofs.words.ReadJob.tolerance.Goals as goal

pub head_of-at-requires : goal.head_of-at-requires
head_of-at-requires c = order_counts c.args.self.allowed c.args.self.laid

pub overflow_sub-at : goal.overflow_sub-at
overflow_sub-at c = omega (arith, c.head_of-at.ensures, head_some c.args.self.words.now)

pub offset_bounds-self-at : goal.offset_bounds-self-at
offset_bounds-self-at c = omega (arith, c.head_of-at.ensures, head_few c.args.self.words.now)

pub bounds-self-at : goal.bounds-self-at
bounds-self-at c = omega (arith, c.head_of-at.ensures, cells_inside c.args.self.laid, head_some c.args.self.words.now)

pub returns : goal.returns
returns c = ap (λ (h : ℕ). to_z w64 (of_z w64 (word_at c.args.self.words.now (h - 1)))) c.head_of-at.ensures ∙ tolerance_read c.args.self.allowed c.args.self.laid
