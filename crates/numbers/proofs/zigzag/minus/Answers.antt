-- -1 - n fits for every n below 2^63.
use mir.Facts.{to_z_pos}
use mir.Syntax.{w64}
use Rattle.numbers.proofs.Signs.{minus_one_pos, below_is}
use Rattle.numbers.proofs.zigzag.minus.Goals as goal

pub overflow_sub-result : goal.overflow_sub-result
overflow_sub-result c = rw (to_z_pos w64 c.requires, minus_one_pos) (record { sfits = c.requires })

pub returns : goal.returns
returns c = below_is c.args.n c.requires
