-- The span starts behind the row and the slots of the societies before; that it ends within the shelf bounds every sum.
use mathlib.Core.Path.{refl, ap}
use Prim.Native.Nat.{ℕ, ◌+◌, ◌*◌}
use native.Mathlib.Omega.{arith}
use Rattle.slots.specs.Slots.{slot_words}
use Rattle.counts.specs.Counts.{societies}
use Rattle.counts.proofs.Tests.{ready_counts, count_at, count_some, span_inside}
use Rattle.counts.proofs.span_of.Goals as goal

pub slots_below-below-requires : goal.slots_below-below-requires
slots_below-below-requires c = ready_counts c.args.shelf.now c.requires.0 c.args.society c.requires.1

pub overflow_mul-start : goal.overflow_mul-start
overflow_mul-start c = omega (arith, c.slots_below-below.ensures, span_inside c.args.shelf.now c.requires.0 c.args.society c.requires.1)

pub overflow_add-start : goal.overflow_add-start
overflow_add-start c = omega (arith, c.slots_below-below.ensures, span_inside c.args.shelf.now c.requires.0 c.args.society c.requires.1)

pub overflow_mul-end : goal.overflow_mul-end
overflow_mul-end c = let shelf = c.args.shelf.now in
    omega (arith, count_at shelf c.requires.0 c.args.society c.requires.1, span_inside shelf c.requires.0 c.args.society c.requires.1)

pub overflow_add-end : goal.overflow_add-end
overflow_add-end c = let shelf = c.args.shelf.now in
    omega (arith, c.slots_below-below.ensures, count_at shelf c.requires.0 c.args.society c.requires.1, span_inside shelf c.requires.0 c.args.society c.requires.1)

pub returns : goal.returns
returns c = let shelf = c.args.shelf.now in
    let s = c.args.society in
    let below = c.slots_below-below.ensures in
    let count = count_at shelf c.requires.0 s c.requires.1 in
    let some = count_some shelf c.requires.0 s c.requires.1 in
    let inside = span_inside shelf c.requires.0 s c.requires.1 in
    record { start = ap (λ (n : ℕ). societies + slot_words * n) below; count = count; end = refl; inside = (omega arith, omega arith) }
