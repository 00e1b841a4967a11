-- An even number stands for its half, an odd one for minus its half and one more.
use mir.Facts.{to_z-of_z}
use borrow.Author.Tests.{eq-eqb, ne_eqb}
use Rattle.numbers.proofs.zigzag.signed.Goals as goal

pub returns-then-raw-eq0 : goal.returns-then-raw-eq0
returns-then-raw-eq0 c = rw (to_z-of_z (record { sfits = c.plus.type_inv }), c.plus.ensures, eq-eqb _ _ c.if-raw-eq0.true)

pub returns : goal.returns
returns c = rw (to_z-of_z (record { sfits = c.minus.type_inv }), c.minus.ensures, ne_eqb _ _ c.if-raw-eq0.false)
