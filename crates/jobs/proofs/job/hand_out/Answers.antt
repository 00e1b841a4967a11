-- Room is tested before anything is copied.
use borrow.Author.Tests.{lt-ltb, le-ltb}
use mathlib.Core.Path.{refl}
use native.Mathlib.Omega.{arith}
use lib.Seq.{length-take-le}
use Rattle.numbers.proofs.Copies.{placed_first}
use Rattle.jobs.proofs.job.hand_out.Goals as goal

pub returns-then-out-k : goal.returns-then-out-k
returns-then-out-k c = rw (lt-ltb _ _ c.if-out-k.true) (refl, refl)

pub returns : goal.returns
returns c =
    let a = c.args in
    let k = length-take-le a.k a.words.now c.requires in
    rw (le-ltb _ _ c.if-out-k.false)
    (refl, placed_first c.copy_from_slice.ensures.after a.out.now a.k (omega arith) (omega arith))
