-- The comparison picks the larger.
use lib.Ieee.{binary64, add, sub, mul, div, of_bits}
use Rattle.passes.specs.Hildreth.{two, raised_of}
use Rattle.passes.proofs.Turns.{above_zero, not_above_zero}
use Rattle.passes.proofs.method.raised.Goals as goal

pub returns-then-t : goal.returns-then-t
unfolding raised_of of_bits
returns-then-t c = above_zero c.if-t.true

pub returns-else-t : goal.returns-else-t
unfolding raised_of of_bits
returns-else-t c = let a = c.args in
    not_above_zero (add binary64 a.y (div binary64 (mul binary64 two (sub binary64 a.s a.b)) a.c)) c.if-t.false
