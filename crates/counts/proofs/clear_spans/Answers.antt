-- The counts over the front, and zeros after them as far as their spans go.
use mathlib.Core.Path.{refl, ap}
use borrow.Rule.Slice.PartMut.{put_mid}
use Prim.Native.Nat.{◌+◌, ◌*◌}
use native.Mathlib.Omega.{arith}
use Rattle.counts.specs.Counts.{societies}
use Rattle.slots.specs.Slots.{slot_words}
use Rattle.counts.proofs.Tests.{right_allotted, counts_allotted}
use Rattle.counts.proofs.Cleared.{cleared_is}
use Rattle.counts.proofs.clear_spans.Goals as goal

pub slots_below-slots-requires : goal.slots_below-slots-requires
slots_below-slots-requires c = let row = c.args.counts.now in counts_allotted row c.requires.1 (right_allotted row c.requires.2) societies (omega arith)

pub overflow_mul-e : goal.overflow_mul-e
overflow_mul-e c = omega (arith, c.slots_below-slots.ensures, (right_allotted c.args.counts.now c.requires.2).total)

pub overflow_add-e : goal.overflow_add-e
overflow_add-e c = omega (arith, c.slots_below-slots.ensures, (right_allotted c.args.counts.now c.requires.2).total)

pub slice_bounds-fill-end : goal.slice_bounds-fill-end
slice_bounds-fill-end c = omega (arith, c.slots_below-slots.ensures, (right_allotted c.args.counts.now c.requires.2).total, c.requires.0)

pub returns : goal.returns
returns c = let row = c.args.counts.now in
    let slots = c.slots_below-slots in
    let copy = c.copy_from_slice in
    let zero = c.fill in
    cleared_is row c.args.shelf.now (put_mid 0 societies c.args.shelf.now copy.new.self) zero.new.self slots.result (societies + slot_words * slots.result) c.requires.1 c.requires.0
    (right_allotted row c.requires.2).total slots.ensures refl (ap (put_mid 0 societies c.args.shelf.now) copy.ensures.after) (zero.ensures.after (λ y e. e))
