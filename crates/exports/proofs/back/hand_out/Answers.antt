-- The count is tested before anything is copied.
use mathlib.Core.Path.{refl}
use native.Mathlib.Omega.{arith}
use borrow.Author.Tests.{le-ltb, ne_eqb}
use lib.Seq.{length-take-le}
use Rattle.numbers.proofs.Copies.{placed_first}
use Rattle.exports.proofs.back.hand_out.Goals as goal

pub returns : goal.returns
returns c =
    let a = c.args in
    let n = length-take-le a.n a.values.now c.requires in
    rw (ne_eqb _ _ c.if-n-eq0.false, le-ltb _ _ c.if-out-n.false)
    (refl, placed_first c.copy_from_slice.ensures.after a.out.now a.n (omega arith) (omega arith))
