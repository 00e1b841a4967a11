-- The words of a cell lie inside and are small.
use mathlib.Core.Path.{ap, ◌∙◌}
use Prim.Native.Nat.{ℕ, ◌+◌, ◌*◌}
use native.Mathlib.Omega.{arith}
use mir.Syntax.{w64}
use mir.Val.{to_z, of_z}
use Rattle.jobs.specs.Words.{word_at}
use Rattle.jobs.proofs.Places.{head_few, cells_inside}
use Rattle.jobs.proofs.Counts.{order_counts, cell_read}
use Rattle.jobs.proofs.words.ReadJob.cell_word.Goals as goal

pub head_of-head-requires : goal.head_of-head-requires
head_of-head-requires c = order_counts c.args.self.allowed c.args.self.laid

pub overflow_add-at : goal.overflow_add-at
overflow_add-at c = omega (arith, c.head_of-head.ensures, head_few c.args.self.words.now)

pub overflow_add-at-2 : goal.overflow_add-at-2
overflow_add-at-2 c = omega (arith, c.head_of-head.ensures, head_few c.args.self.words.now, c.args.self.allowed.cells_few)

pub offset_bounds-self-at : goal.offset_bounds-self-at
offset_bounds-self-at c = omega (arith, c.head_of-head.ensures, head_few c.args.self.words.now, c.args.self.allowed.cells_few)

pub bounds-self-at : goal.bounds-self-at
bounds-self-at c = omega (arith, c.head_of-head.ensures, cells_inside c.args.self.laid)

pub returns : goal.returns
returns c = ap (λ (h : ℕ). to_z w64 (of_z w64 (word_at c.args.self.words.now (h + c.args.m + 4 * c.args.i)))) c.head_of-head.ensures ∙ cell_read c.args.self.words.now c.args.self.allowed c.args.i c.args.m c.requires.0 c.requires.1
