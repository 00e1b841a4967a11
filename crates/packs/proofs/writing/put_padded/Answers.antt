-- Room is tested against the length that was counted with the zeros, and then the bytes are stored, the zeros after the numbers.
use mathlib.Core.Path.{refl, ap}
use Prim.Native.Nat.{◌+◌, ◌-◌}
use lib.ListN.{length}
use lib.Seq.{length-sets}
use Rattle.packs.specs.Walking.{packed}
use native.Mathlib.Omega.{arith}
use borrow.Author.Tests.{lt-ltb, le-ltb}
use Rattle.packs.proofs.Packing.{packed_most, padded_length, padded_stores, filled}
use Rattle.packs.proofs.writing.put_padded.Goals as goal

pub overflow_add-whole : goal.overflow_add-whole
overflow_add-whole c = omega (arith, c.length_of-n.ensures, packed_most c.args.numbers.now, c.requires, c.well_formed.0.1)

pub returns-then-out-whole : goal.returns-then-out-whole
returns-then-out-whole c = rw (← padded_length c.args.numbers.now c.args.zeros c.length_of-n.ensures, lt-ltb _ _ c.if-out-whole.true) (refl, refl)

pub returns : goal.returns
returns c = let ns = c.args.numbers.now in
    rw (← padded_length ns c.args.zeros c.length_of-n.ensures, le-ltb _ _ c.if-out-whole.false)
    (refl, padded_stores ns c.args.zeros c.args.out.now c.length_of-n.ensures c.put_all.ensures (filled c.put_all.new.out c.length_of-n.result (c.length_of-n.result + c.args.zeros - c.length_of-n.result) (omega (arith, c.if-out-whole.false, ap length c.put_all.ensures, length-sets c.args.out.now 0 (packed ns))) (c.fill.ensures.after (λ y e. e))))
